-- `Tally::add` meets its contract.
use mathlib.Core.Path.{ap, ◌∙◌}
use Rattle.tallies.specs.represent.Tally.{plus}
use Rattle.tallies.proofs.Counted.{failed_left, long_left, refused_left, file_counted}
use Rattle.tallies.proofs.Tally.add.Goals as goal

pub returns-in_default : goal.returns-in_default
returns-in_default c = rw c.in_default.is (failed_left c.args.self)

pub returns-then-bytes-gt-MAX_BYTES : goal.returns-then-bytes-gt-MAX_BYTES
returns-then-bytes-gt-MAX_BYTES c =
    let long = c.in-Some in
    rw long.is (long_left c.args.self long.bytes.now c.if-bytes-gt-MAX_BYTES.true)

pub returns-then-is_err : goal.returns-then-is_err
returns-then-is_err c =
    let refused = c.in-Some in
    rw refused.is
    (refused_left c.args.self refused.bytes.now c.if-bytes-gt-MAX_BYTES.false _ c.read-read.ensures.met _
    c.is_err.ensures.negation c.if-is_err.true)

pub returns : goal.returns
unfolding plus
returns c =
    let a = c.args in
    let counted = c.in-Some in
    let steps = c.saturating_add.ensures ∙ ap (plus a.self.total) (c.from.ensures ∙ c.steps_held.ensures) in
    rw counted.is
    (file_counted a.self counted.bytes.now c.if-bytes-gt-MAX_BYTES.false _ c.read-read.ensures.met _
    c.is_err.ensures.negation c.if-is_err.false _ _ c.plus_uses.ensures steps)
