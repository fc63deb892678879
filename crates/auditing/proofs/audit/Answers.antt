-- `audit` meets its contract.
use Rattle.std.proofs.Common.{◌∙◌}
use Rattle.auditing.proofs.Audited.{too_long, reported}
use Rattle.auditing.proofs.audit.Goals as goal

pub returns-then-bytes-gt-MAX_BYTES : goal.returns-then-bytes-gt-MAX_BYTES
returns-then-bytes-gt-MAX_BYTES c = c.unread.ensures ∙ too_long c.args.bytes.now c.if-bytes-gt-MAX_BYTES.true

pub returns : goal.returns
returns c =
    reported c.args.bytes.now c.if-bytes-gt-MAX_BYTES.false _ c.read-answer.ensures.met _ _ _ _ c.number.ensures
    c.refused_line.ensures c.steps_held.ensures c.last_step-last.ensures
