-- `pass_slash` meets its contract.
use mathlib.Core.Path.{sym, ◌∙◌}
use Rattle.selector_readings.specs.private.Build.{stands}
use Rattle.selector_readings.proofs.Worded.{slash_two, slash_one}
use Rattle.selector_readings.proofs.pass_slash.Goals as goal

pub returns-then-byte_at-eq47 : goal.returns-then-byte_at-eq47
returns-then-byte_at-eq47 c =
    slash_two c.args.s.now _ _ (stands c.args.path)
    (stands c.every_below-below.result) c.skip-at.result
    (sym c.byte_at.ensures ∙ c.if-byte_at-eq47.true) c.skip-at.ensures
    c.every_below-below.ensures

pub returns : goal.returns
returns c =
    slash_one c.args.s.now _ (stands c.args.path) c.skip-at-2.result
    (λ e. c.if-byte_at-eq47.false (c.byte_at.ensures ∙ e))
    c.skip-at-2.ensures c.requires.1
