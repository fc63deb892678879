-- Lists of paths, of any length: what a covered list selects, the new list selects.
use Rattle.std.specs.Prelude.{ℕ, ◌≤◌, ◌<◌, ◌≡◌, cond, List, [], ◌∷◌, ◌⊎◌, T, length}
use Rattle.common.specs.Lists.{Every}
use Rattle.xpath.specs.Document.{Document, well_formed}
use Rattle.xpath.specs.Term.{Path}
use Rattle.xpath.specs.Meaning.{selects}
use Rattle.terms.specs.Row.{Row}
use Rattle.terms.specs.Fields.{held_path}
use Rattle.terms.specs.Terms.{path_at}
use Rattle.rules.specs.Claim.{Containment}
use Rattle.calls.specs.Book.{Book}
use Rattle.calls.specs.StepCall.{step_numbered, claim_of}

-- P is true of some entry
abbrev pub Some : {A : Type 0} → (A → Type 0) → List A → Type 0
Some P [] = ⊥
Some P (x ∷ xs) = P x ⊎ Some P xs

-- the paths of a list of rows; a row that is no held path has none
unfoldable pub paths_of : List Row → List ℕ → List Path
paths_of rs [] = []
paths_of rs (n ∷ ns) = cond (held_path rs n) (path_at rs n ∷ paths_of rs ns) (paths_of rs ns)

-- step i, counted from 1, is held and says that p is contained in q
abbrev pub StepSays : Book → (i : ℕ) → (p q : Path) → Type 0
StepSays b i p q =
    (1 ≤ i) × (i ≤ length b.steps) × (claim_of b.rows (step_numbered b.steps i) ≡ Containment p q)

-- `is_replaced` by terms: step i says that the path of the row `old` is contained in that of some row of the list `new`
abbrev pub ReplacedByTerms : Book → (new : List ℕ) → (old i : ℕ) → Type 0
ReplacedByTerms b new old i =
    T (held_path b.rows old) × Some (StepSays b i (path_at b.rows old)) (paths_of b.rows new)

-- each path of ps is contained in some path of qs, by a held step
abbrev pub Covered : Book → (ps qs : List Path) → Type 0
Covered b ps qs = Every (λ p. Some (λ q. (i : ℕ) × StepSays b i p q) qs) ps

-- from every node of every document, each node that any path of ps selects is selected by some path of qs
abbrev pub NoneLost : (ps qs : List Path) → Type 0
NoneLost ps qs = (d : Document) → T (well_formed d) → (x : ℕ) → x < length d → (y : ℕ)
    → Every (λ p. T (selects d p x y) → Some (λ q. T (selects d q x y)) qs) ps
