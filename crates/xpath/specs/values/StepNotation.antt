-- A short notation for steps of paths.
use Rattle.std.specs.Prelude.{ℕ}
use Rattle.common.specs.NodeTests.{name_test, node_test}
use Rattle.xpath.specs.Term.{Path, AxisStep}

infix 75 ◌::◌ ◌::node
-- the steps axis::name and axis::node()
abbrev pub ◌::◌ : ℕ → ℕ → Path
axis :: name = AxisStep axis name_test name

abbrev pub ◌::node : ℕ → Path
axis ::node = AxisStep axis node_test 0
