-- What a covered list selects, the new list selects, where the book's laws hold.
use Prim.Native.Nat.{ℕ, suc, ◌-◌, ◌≤◌, ◌<◌}
use mathlib.Core.Path.{subst}
use mathlib.Core.List.{List, [], ◌∷◌}
use mathlib.Core.Logic.{inl, inr, ⊎_elim}
use native.Mathlib.Omega.{arith}
use lib.Dec.{T, eqb}
use lib.ListN.{length, get_or}
use mir.Facts.{and_yes}
use Rattle.common.specs.Bounded.{all_below}
use Rattle.common.specs.Lists.{Every}
use Rattle.common.proofs.Entries.{every_map}
use Rattle.common.proofs.Reflect.{true_iff, all_yes}
use Rattle.xpath.specs.Document.{Document, well_formed}
use Rattle.xpath.specs.Term.{Path}
use Rattle.xpath.specs.Meaning.{selects}
use Rattle.terms.specs.Row.{Row}
use Rattle.terms.specs.Fields.{held_path}
use Rattle.terms.specs.Terms.{path_at}
use Rattle.rules.specs.Claim.{TrueOn, IsTrue}
use Rattle.calls.specs.Book.{Book}
use Rattle.calls.proofs.Reached.{HeldLaws}
use Rattle.replacement.specs.Covered.{is_replaced_at, is_covered}
use Rattle.replacement.specs.NoneLost.{Some, paths_of, StepSays, ReplacedByTerms, Covered, NoneLost}
use Rattle.replacement.proofs.ByTerms.{replaced_iff}

-- what is true of each entry by its place is true of every entry
every_place : (P : ℕ → Type 0) (ns : List ℕ) → ((k : ℕ) → k < length ns → P (get_or ns k 0)) → Every P ns
every_place P [] f = tt
every_place P (n ∷ ns) f = (f 0 (omega arith), every_place P ns (λ k h. f (suc k) (omega arith)))

-- what is true of some entry, and implies more, is true of some entry
some_map : {A : Type 0} (P Q : A → Type 0) → ((x : A) → P x → Q x) → (xs : List A) → Some P xs → Some Q xs
some_map P Q f [] s = absurd s
some_map P Q f (x ∷ xs) s = ⊎_elim (λ p. inl (f x p)) (λ s. inr (some_map P Q f xs s)) s

-- what is true of rows that are all held paths is true of their paths
paths_every : (rs : List Row) (P : Path → Type 0) (ns : List ℕ)
    → Every (λ n. T (held_path rs n) × P (path_at rs n)) ns → Every P (paths_of rs ns)
unfolding paths_of
paths_every rs P [] h = tt
paths_every rs P (n ∷ ns) h = rw ((true_iff (held_path rs n)).0 h.0.0) (h.0.1, paths_every rs P ns h.1)

module _ (b : Book) (laws : HeldLaws b.rows b.steps) where
  contained : (i : ℕ) (p q : Path) → StepSays b i p q
      → (d : Document) → T (well_formed d) → (x : ℕ) → x < length d
      → (y : ℕ) → T (selects d p x y) → T (selects d q x y)
  unfolding IsTrue TrueOn
  contained i p q says d w x h y t =
      let lower : 1 ≤ i = says.0 in
      let upper : i ≤ length b.steps = says.1 in
      subst IsTrue says.2 (laws.claims (i - 1) (omega arith)) d w x h y t

  pub covered_none_lost : (ps qs : List Path) → Covered b ps qs → NoneLost ps qs
  covered_none_lost ps qs covered d w x h y =
      every_map (λ p. Some (λ q. (i : ℕ) × StepSays b i p q) qs) _
      (λ p s t. some_map _ _ (λ q (i, says). contained i p q says d w x h y t) qs s) ps covered

  pub rows_covered : (old new by : List ℕ) → T (is_covered b old new by)
      → Every (λ n. T (held_path b.rows n)) old × Covered b (paths_of b.rows old) (paths_of b.rows new)
  unfolding is_covered is_replaced_at
  rows_covered old new by t =
      let all = (and_yes (eqb (length by) (length old)) (all_below (length old) (is_replaced_at b old new by)) t).1 in
      let Said : Path → Type 0 = λ p. Some (λ q. (i : ℕ) × StepSays b i p q) (paths_of b.rows new) in
      let said : Every (λ n. T (held_path b.rows n) × Said (path_at b.rows n)) old =
      every_place (λ n. T (held_path b.rows n) × Said (path_at b.rows n)) old (λ k h.
      let (path, some-new) : ReplacedByTerms b new (get_or old k 0) (get_or by k 0) =
      (replaced_iff b laws new (get_or old k 0) (get_or by k 0)).0
      (all_yes (length old) (is_replaced_at b old new by) all k h) in
      (path, some_map _ _ (λ q says. (get_or by k 0, says)) (paths_of b.rows new) some-new)) in
      (every_map _ (λ n. T (held_path b.rows n)) (λ n s. s.0) old said, paths_every b.rows Said old said)
