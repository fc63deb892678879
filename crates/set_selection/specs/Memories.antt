-- What memories have, and when it is right.
use Rattle.std.specs.Prelude.{ℕ, ◌≡◌, Bool, List, get_or, take}
use mathlib.Core.Logic.{◌⊎◌}
use Rattle.xpath.specs.Document.{Document}
use Rattle.xpath.specs.Term.{Path, Qualifier}
use Rattle.xpath.specs.Meaning.{selects}
use Rattle.terms.specs.Row.{Row, row_at}
use Rattle.terms.specs.Terms.{terms, term_by, as_path, as_qualifier}
use Rattle.set_selection.specs.Sets.{Image}
use Rattle.set_selection.specs.Evaluations.{Holding}
use Rattle.set_selection.specs.declared.memory.Slot.{Slot}
use Rattle.set_selection.specs.declared.memory.Slot.TheVariants.{Single, Shared, Last}
use Rattle.set_selection.specs.declared.memory.Memory.{Memory}
use Rattle.set_selection.specs.declared.memory.Memories.{Memories}

-- row k of a memory; past the last one, that of a row that is used once
abbrev pub slot : Memory → ℕ → Slot
slot m k = get_or m.slots.items k Single

-- what was found last is as P has it
abbrev pub Right : (P : List Bool → List Bool → Type 0) → Slot → Type 0
Right P Single = Unit {0}
Right P Shared = Unit {0}
Right P (Last f) = P f.from.items f.to.items

-- from the marks m, out was found last
abbrev pub Has : Slot → (m out : List Bool) → Type 0
Has Single m out = ⊥
Has Shared m out = ⊥
Has (Last f) m out = (f.from.items ≡ m) × (f.to.items ≡ out)

-- nothing was found for any row
abbrev pub Fresh : Memory → Type 0
Fresh m = (k : ℕ) → Right (λ from to. ⊥) (slot m k)

-- each row is as it was, but that row r may have out for m
abbrev pub Noted : (old new : Memory) → (r : ℕ) → (m out : List Bool) → Type 0
Noted old new r m out = (k : ℕ) → (slot new k ≡ slot old k) ⊎ ((k ≡ r) × Has (slot new k) m out)

-- all that was found is as P has it for its row
abbrev pub Remembers : (P : ℕ → List Bool → List Bool → Type 0) → Memory → Type 0
Remembers P m = (k : ℕ) → Right (P k) (slot m k)

-- the path, and the qualifier, of row r, whose operands are among the rows before it
abbrev pub path_of : List Row → ℕ → Path
path_of rs r = as_path (term_by (terms (take r rs)) (row_at rs r))

abbrev pub qualifier_of : List Row → ℕ → Qualifier
qualifier_of rs r = as_qualifier (term_by (terms (take r rs)) (row_at rs r))

-- what was found for the rows rs on the document d is right
pub record Remembered (rs : List Row) (d : Document) (m : Memories) : Type 0 where
  pub forward : Remembers (λ r from to. Image (selects d (path_of rs r)) from to) m.forward
  pub back : Remembers (λ r from to. Image (λ x y. selects d (path_of rs r) y x) from to) m.back
  pub holding : Remembers (λ r from to. Holding d (qualifier_of rs r) to) m.holding
