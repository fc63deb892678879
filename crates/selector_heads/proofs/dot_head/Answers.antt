-- `dot_head` meets its contract.
use mathlib.Core.Path.{sym, ◌∙◌}
use Rattle.selector_heads.proofs.Headed.{dot_two, dot_one}
use Rattle.selector_heads.proofs.dot_head.Goals as goal

pub returns-then-byte_at-eq46 : goal.returns-then-byte_at-eq46
returns-then-byte_at-eq46 c =
    rw c.plain_head.ensures
    (dot_two c.args.s.now c.args.at c.requires _
    (sym c.byte_at.ensures ∙ c.if-byte_at-eq46.true)
    c.skip.ensures)

pub returns : goal.returns
returns c =
    rw c.plain_head-2.ensures
    (dot_one c.args.s.now c.args.at c.requires _
    (λ e. c.if-byte_at-eq46.false (c.byte_at.ensures ∙ e))
    c.skip-2.ensures)
