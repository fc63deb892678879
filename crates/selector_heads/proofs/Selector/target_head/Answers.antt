-- `target_head` meets its contract.
use mathlib.Core.Path.{sym, ◌∙◌}
use Prim.Native.Nat.{◌+◌}
use borrow.Author.Tests.{tests}
use Rattle.std.proofs.Common.{rules}
use Rattle.selector_heads.proofs.Headed.{target_none, target_open, target_unclosed, target_read}
use Rattle.selector_heads.proofs.Ran.{part_is}
use Rattle.selector_heads.proofs.Selector.target_head.Goals as goal

pub returns-then-not-is_start : goal.returns-then-not-is_start
returns-then-not-is_start c =
    (target_none c.args.self.s.now c.args.self.names.list.now c.args.at c.args.axis
    c.requires.at_value (search (rules, tests)))

pub returns-then-byte_at-quote : goal.returns-then-byte_at-quote
returns-then-byte_at-quote c =
    (target_open c.args.self.s.now c.args.self.names.list.now c.args.at c.args.axis
    c.requires.at_value (search (rules, tests)) _
    c.name_end-end.ensures
    (λ e. c.if-byte_at-quote.true
    (c.byte_at-2.ensures ∙ e ∙ sym c.byte_at-quote.ensures)))

pub returns-then-byte_at-ne41 : goal.returns-then-byte_at-ne41
returns-then-byte_at-ne41 c =
    (target_unclosed c.args.self.s.now c.args.self.names.list.now c.args.at c.args.axis
    c.requires.at_value (search (rules, tests)) _
    c.name_end-end.ensures
    (sym c.byte_at-2.ensures ∙ c.if-byte_at-quote.false
    ∙ c.byte_at-quote.ensures) _ c.skip-close.ensures
    (λ e. c.if-byte_at-ne41.true (c.byte_at-3.ensures ∙ e)))

pub named_head-requires-clause-to_value : goal.named_head-requires-clause-to_value
named_head-requires-clause-to_value c =
    part_is c.args.self.s.now (c.args.at + 1) _ (search (rules, tests)) c.name_end-end.ensures

pub returns : goal.returns
returns c =
    rw c.named_head.ensures
    (target_read c.args.self.s.now c.args.self.names.list.now c.args.at c.args.axis
    c.requires.at_value (search (rules, tests)) _
    c.name_end-end.ensures
    (sym c.byte_at-2.ensures ∙ c.if-byte_at-quote.false ∙ c.byte_at-quote.ensures) _
    c.skip-close.ensures _
    (sym c.byte_at-3.ensures ∙ c.if-byte_at-ne41.false)
    c.skip-at.ensures)
