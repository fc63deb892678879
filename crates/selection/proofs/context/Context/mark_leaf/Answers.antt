-- `selection::mark_leaf` meets its contract, kind by kind.
use native.Mathlib.Omega.{arith}
use Rattle.terms.specs.represent.RowTypes.{row_of}
use Rattle.selection.specs.private.Parts.{leaf_path}
use Rattle.selection.proofs.Rows.{root_added, step_added, void_added}
use Rattle.selection.proofs.context.Context.mark_leaf.Goals as goal

pub returns-in-Some-Step : goal.returns-in-Some-Step
unfolding leaf_path
returns-in-Some-Step c =
    rw (← c.in-Some-Step.ensures, c.in-Some-Step.field-0-is)
    (step_added _ _ _ _ _ (rw c.from.ensures at c.mark_step.ensures))

pub returns-in-Some-Root : goal.returns-in-Some-Root
unfolding leaf_path
returns-in-Some-Root c =
    rw (← c.in-Some-Root.ensures, c.in-Some-Root.field-0-is) (root_added _ _ _ (omega arith) (omega arith))

pub returns : goal.returns
returns c = void_added _ _ _ (row_of c.args.row) (λ e. grind arith) (λ e. grind arith)

pub returns-2 : goal.returns-2
returns-2 c = void_added _ _ _ (row_of c.args.row) (λ e. grind arith) (λ e. grind arith)
