-- What the code's tests of steps select.
use Rattle.std.specs.Prelude.{ℕ, ◌≡◌, Bool, true, false, ◌&&◌, eqb, Option, Some, None}
use Rattle.common.specs.represent.Numbers.{kind_number}
use Rattle.xpath.specs.Document.{Document, kind_at, name_at}
use Rattle.xpath.specs.Axis.{passes}
use Rattle.xpath.specs.declared.node_tests.StepTest.{StepTest}
use Rattle.xpath.specs.declared.node_tests.StepTest.TheVariants.{Everything, Kind, Name}

-- a node of that kind and name is one of the test's
abbrev pub fits : StepTest → (kind name : ℕ) → Bool
fits (Everything set) k n = true
fits (Kind set) k n = eqb k (kind_number set.0)
fits (Name set) k n = eqb k (kind_number set.0) && eqb n set.1

-- y is one of the nodes that are told by their kinds and names
abbrev pub picks : (has : (kind name : ℕ) → Bool) → Document → ℕ → Bool
picks has d y = has (kind_at d y) (name_at d y)

-- y is one of the nodes of the test, if it has any
abbrev pub asked : Option StepTest → Document → ℕ → Bool
asked None d y = false
asked (Some s) d y = picks (fits s) d y

-- they are those that pass test t with name c on axis a
abbrev pub Asks : (a t c : ℕ) → Option StepTest → Type 0
Asks a t c s = (d : Document) (y : ℕ) → asked s d y ≡ passes a t c d y
