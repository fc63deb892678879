-- What it is for a form, and for a rule, to be sound on a document.
use Prim.Native.Nat.{ℕ, ◌<◌}
use mathlib.Core.Bool.{Bool, true, false}
use mathlib.Core.List.{List, [], ◌∷◌, map}
use mathlib.Core.Logic.{ite}
use lib.Dec.{T}
use lib.ListN.{length}
use Rattle.xpath.specs.Document.{Document}
use Rattle.xpath.proofs.Facts.{Selects, Holds}
use Rattle.common.specs.Lists.{Every}
use Rattle.rules.specs.Form.{Condition, Condition-discrete, Form}
use Rattle.rules.specs.RuleTable.{rules}
use Rattle.rules.specs.Claim.{Claim, Containment, Implication}
use Rattle.rules.specs.Instance.{Letters, axis_for, test_for, path_for, claim_for, meets}
use Rattle.rules.specs.Yields.{forms_in, forms_of}

-- what a claim says of a document, as facts
abbrev pub Means : Document → Claim → Type 0
Means d (Containment p q) = (x y : ℕ) → x < length d → y < length d → Selects d p x y → Selects d q x y
Means d (Implication f g) = (x : ℕ) → x < length d → Holds d f x → Holds d g x

-- t is one of the conditions
abbrev pub is_among : Condition → List Condition → Bool
is_among t [] = false
is_among t (u ∷ us) = ite (Condition-discrete t u) true (is_among t us)

-- the choice e meets each of the conditions
abbrev pub MeetsAll : Letters → List Condition → Type 0
MeetsAll e ts = (t : Condition) → T (is_among t ts) → T (meets e t)

-- for every choice of the letters that meets the conditions, the conclusion follows from the premises
abbrev pub FormSound : Document → Form → Type 0
FormSound d w = (e : Letters) → MeetsAll e w.conditions → Every (Means d) (map (claim_for e) w.premises)
    → Means d (claim_for e w.conclusion)

-- every form of rule n of the table is sound
unfoldable pub RuleSound : Document → ℕ → Type 0
unfolding forms_of forms_in rules meets claim_for path_for axis_for test_for Selects
RuleSound d n = Every (FormSound d) (forms_of n)

-- an equation, used from either side, under conditions or none
pub each_way_if : (ts : List Condition) {A B : Letters → Type 0} → ((e : Letters) → MeetsAll e ts → A e × B e) →
    ((e : Letters) → MeetsAll e ts → Unit {0} → A e) × (((e : Letters) → MeetsAll e ts → Unit {0} → B e) × Unit {0})
each_way_if ts h = (λ e met g. (h e met).0, (λ e met g. (h e met).1, tt))

pub each_way : {A B : Letters → Type 0} → ((e : Letters) → A e × B e) →
    ((e : Letters) → MeetsAll e [] → Unit {0} → A e) × (((e : Letters) → MeetsAll e [] → Unit {0} → B e) × Unit {0})
each_way h = each_way_if [] (λ e met. h e)
