-- What the answer to a claim means.
use Rattle.std.specs.Prelude.{ℕ, ◌<◌, ◌≡◌, ◌⊎◌, T, length}
use Rattle.xpath.specs.Document.{Document, well_formed}
use Rattle.xpath.specs.Term.{Path}
use Rattle.xpath.specs.Meaning.{selects}
use Rattle.selector_grammar.specs.Bytes.{Bytes}
use Rattle.selector_grammar.specs.Words.{number_of}
use Rattle.selector_grammar.specs.Grammar.{Union, Spells}
use Rattle.selector_grammar.specs.Denotes.{union_of}
use Rattle.calls.specs.Book.{Answer, answer, IsAccepted}
use Rattle.common.specs.Refusals.{not_covered}
use Rattle.calls.specs.Calls.{text}
use Rattle.replacement.specs.NoneLost.{StepSays}
use Rattle.session.specs.View.{view}
use Rattle.session.specs.Reading.{reading}
use Rattle.session.specs.Promises.{session_answer, session_with}
use Rattle.host_calls.specs.ClaimCall.{Claimed, claimed, the_claim, the_bundle, old_selector, new_selector}

-- what may be said of a claim: the bundle, the list of names, the two selectors, and the answer
abbrev pub ClaimRelation : Type 1
ClaimRelation = (bundle names old new : Bytes) → Claimed → Type 0

-- step i of the bundle, read with the bundle's own rows, says that the path of one tree is contained in that of another
abbrev pub BundleSays : (bundle names : Bytes) (i : ℕ) (u v : Union) → Type 0
BundleSays bundle names i u v =
    StepSays (view (reading bundle).session) i (union_of (number_of names) u) (union_of (number_of names) v)

-- on every document of any size, from every node, each node that p selects, q selects
abbrev pub IsContained : (p q : Path) → Type 0
IsContained p q = (d : Document) → T (well_formed d) → (x : ℕ) → x < length d
    → (y : ℕ) → T (selects d p x y) → T (selects d q x y)

pub record ClaimGuarantee (Claims : ClaimRelation) : Type 0 where
  -- the number 0 is answered of the claim itself alone, and of that nothing but 0 and 26
  pub whose : (bundle names old new : Bytes) (c : Claimed) → Claims bundle names old new c → IsAccepted c.answer
      → c.part ≡ the_claim
  pub either : (bundle names old new : Bytes) (a : Answer) → Claims bundle names old new (claimed the_claim a)
      → IsAccepted a ⊎ (a ≡ answer not_covered 1)
  -- what is answered of the bundle is the refusal that read gives it; what is answered of a selector, that of its text
  -- call, on the bundle's session for the old one and with the old one's rows for the new one
  pub of_bundle : (bundle names old new : Bytes) (a : Answer) → Claims bundle names old new (claimed the_bundle a)
      → (a ≡ (reading bundle).answer) × (¬ IsAccepted a)
  pub of_old : (bundle names old new : Bytes) (a : Answer) → Claims bundle names old new (claimed old_selector a)
      → (a ≡ session_answer (reading bundle).session (text names old)) × (¬ IsAccepted a)
  pub of_new : (bundle names old new : Bytes) (a : Answer) → Claims bundle names old new (claimed new_selector a)
      → (a ≡ session_answer (session_with (reading bundle).session (text names old)) (text names new))
      × (¬ IsAccepted a)
  -- what is answered of the claim itself is answered of an accepted bundle and of two selectors
  pub asked : (bundle names old new : Bytes) (a : Answer) → Claims bundle names old new (claimed the_claim a)
      → IsAccepted (reading bundle).answer × (u : Union) × (v : Union) × Spells old u × Spells new v
  -- yes: the step of that number says that the old selector is contained in the new one, and so it is
  pub yes : (bundle names old new : Bytes) (i : ℕ) → Claims bundle names old new (claimed the_claim (answer 0 i))
      → (u v : Union) → Spells old u → Spells new v
      → BundleSays bundle names i u v × IsContained (union_of (number_of names) u) (union_of (number_of names) v)
  -- no: no step of the bundle says so
  pub no : (bundle names old new : Bytes) (n : ℕ)
      → Claims bundle names old new (claimed the_claim (answer not_covered n))
      → (u v : Union) → Spells old u → Spells new v → (i : ℕ) → ¬ BundleSays bundle names i u v
