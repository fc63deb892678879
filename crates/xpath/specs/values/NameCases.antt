-- A node's name: what a step selects of the node and of others, by computation.
use Rattle.std.specs.Prelude.{ℕ, ◌≡◌, refl, [], ◌∷◌, set}
use Rattle.common.specs.Bounded.{any_below, list_below}
use Rattle.xpath.specs.Document.{Document, node, kind_at, parent_at, name_at, is_child, climb_meets, is_ancestor}
use Rattle.common.specs.Axes.{self, child, descendant}
use Rattle.xpath.specs.Axis.{on_axis, passes}
use Rattle.xpath.specs.Term.{AxisStep, Composition}
use Rattle.xpath.specs.Meaning.{selects, nodes}
use Rattle.xpath.specs.OneName.{StepSameElsewhere, Renamed}
use Rattle.xpath.specs.values.MeaningCases.{sample}
use Rattle.common.specs.values.Expected.{◌is◌, AllRight}
use Rattle.xpath.specs.values.StepNotation.{◌::◌, ◌::node}

-- the sample with name 2 for row 6, which has name 1
abbrev other : Document
other = set sample 6 (node 1 2 2)

pub one_name_changed :
    AllRight
    -- row 6 is selected on one alone, by its old name and by its new one
    (nodes sample (descendant :: 1) 0 is (2 ∷ 6 ∷ 10 ∷ [])
    ∷ nodes other (descendant :: 1) 0 is (2 ∷ 10 ∷ [])
    ∷ nodes sample (descendant :: 2) 0 is (4 ∷ 7 ∷ [])
    ∷ nodes other (descendant :: 2) 0 is (4 ∷ 6 ∷ 7 ∷ [])
    -- as its own context node
    ∷ nodes sample (self :: 1) 6 is (6 ∷ [])
    ∷ nodes other (self :: 1) 6 is []
    -- after a second step, rows 7 and 9 are selected on one alone
    ∷ nodes sample (Composition (descendant :: 1) (child ::node)) 0 is (3 ∷ 4 ∷ 6 ∷ 7 ∷ 9 ∷ 10 ∷ 11 ∷ [])
    ∷ nodes other (Composition (descendant :: 1) (child ::node)) 0 is (3 ∷ 4 ∷ 6 ∷ 10 ∷ 11 ∷ [])
    ∷ [])
unfolding nodes list_below any_below selects on_axis passes kind_at parent_at name_at is_child climb_meets is_ancestor
one_name_changed = refl

-- every list of nodes, with another name for one of them
pub renamed_elsewhere : StepSameElsewhere → Renamed → (d : Document) (m name a t c x y : ℕ) → ¬ (y ≡ m)
    → selects d (AxisStep a t c) x y ≡ selects (set d m (node (kind_at d m) (parent_at d m) name)) (AxisStep a t c) x y
renamed_elsewhere law renamed d m name a t c x y n = law m d _ (renamed d m name) a t c x y n
