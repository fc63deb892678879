-- `mark_step` meets its contract.
use Rattle.std.proofs.Common.{◌≡◌, ℕ, List, ◌&&◌, length, Some}
use mathlib.Core.Bool.{and-false}
use Rattle.common.specs.represent.Numbers.{axis_number}
use Rattle.common.specs.declared.axis.Axis.{Axis}
use Rattle.xpath.specs.Document.{Document}
use Rattle.xpath.specs.Axis.{on_axis, passes}
use Rattle.xpath.specs.private.Tests.{fits, picks, Asks}
use Rattle.xpath.specs.declared.node_tests.StepTest.{StepTest}
use Rattle.xpath.specs.declared.node_tests.StepTest.TheVariants.{Everything, Kind, Name}
use Rattle.marking.specs.private.Added.{Added}
use Rattle.xpath.specs.private.Checked.{doc}
use Rattle.marking.proofs.Added.{added_cong, nothing_added}
use Rattle.marking.proofs.Steps.{no_axis}
use Rattle.marking.proofs.mark_step.Goals as goal

pub returns-in_default : goal.returns-in_default
returns-in_default c = nothing_added _ (λ y h. rw (← c.in_default.ensures (doc c.args.document) y, and-false))

pub returns-in_default-try_from : goal.returns-in_default-try_from
returns-in_default-try_from c =
    no_axis _ _ c.args.document.prepared _ _ c.requires _ c.in_default-try_from.ensures.1

-- what is marked with a test that was told apart is what the step marks
module _ (d : Document) (x a t c : ℕ) {old new : List ℕ} (b : Axis) (s : StepTest) where
  told_apart : axis_number b ≡ a → Asks a t c (Some s) →
      Added (length d) old new (λ y. on_axis (axis_number b) d x y && picks (fits s) d y) →
      Added (length d) old new (λ y. on_axis a d x y && passes a t c d y)
  told_apart f q u = added_cong _ u (λ y h. rw (f, ← q d y))

pub returns-in-Everything : goal.returns-in-Everything
returns-in-Everything c =
    told_apart _ _ _ _ _ _ (Everything c.in-Everything.test) c.in-Ok.ensures
    (rw c.in-Everything.is at c.in-Some.ensures) c.mark_where.ensures

pub returns-in-Kind : goal.returns-in-Kind
returns-in-Kind c =
    told_apart _ _ _ _ _ _ (Kind c.in-Kind.test) c.in-Ok.ensures
    (rw c.in-Kind.is at c.in-Some.ensures) c.mark_where-in-Kind.ensures

pub returns-in-Name : goal.returns-in-Name
returns-in-Name c =
    told_apart _ _ _ _ _ _ (Name c.in-Name.test) c.in-Ok.ensures
    (rw c.in-Name.is at c.in-Some.ensures) c.mark_where-in-Name.ensures
