-- `begin_root` meets its contract.
use mathlib.Core.Path.{sym, ◌∙◌}
use Rattle.selector_readings.specs.private.Build.{stands}
use Rattle.selector_readings.proofs.Worded.{root_step, root_slash, root_alone}
use Rattle.selector_readings.proofs.begin_root.Goals as goal

pub returns-then-begins_step : goal.returns-then-begins_step
returns-then-begins_step c =
    root_step c.args.s.now (stands c.args.root)
    (rw c.byte_at-b.ensures at (sym c.begins_step.ensures ∙ c.if-begins_step.true))

pub returns-then-b-eq47 : goal.returns-then-b-eq47
returns-then-b-eq47 c =
    root_slash c.args.s.now (stands c.args.root)
    (rw c.byte_at-b.ensures at (sym c.begins_step.ensures ∙ c.if-begins_step.false))
    (sym c.byte_at-b.ensures ∙ c.if-b-eq47.true)

pub returns : goal.returns
returns c =
    root_alone c.args.s.now (stands c.args.root)
    (rw c.byte_at-b.ensures at (sym c.begins_step.ensures ∙ c.if-begins_step.false))
    (λ e. c.if-b-eq47.false (c.byte_at-b.ensures ∙ e))
