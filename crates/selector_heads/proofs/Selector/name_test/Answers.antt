-- `name_test` meets its contract.
use mathlib.Core.Path.{sym, ◌∙◌}
use Rattle.std.proofs.Common.{rules, tests}
use Rattle.selector_heads.proofs.Headed.{name_plain, name_call, name_type, type_none, type_some}
use Rattle.selector_heads.proofs.Ran.{part_is}
use Rattle.selector_heads.proofs.Selector.name_test.Goals as goal
use Rattle.selector_heads.proofs.Selector.name_test.Goals.{else-byte_at-eq40-via-else-byte_at-eq40}
use Rattle.selector_heads.proofs.Selector.name_test.Goals.{else-byte_at-eq40-via-then-byte_at-eq40+in-None-1}

pub returns : goal.returns
returns c =
    let n = c.args.name in
    let z = type_some _ _ c.in-Some.ensures in
    name_type c.args.self.s.now c.args.self.names.list.now n.start n.end n.after c.requires.name_at c.args.axis _ _
    (sym c.byte_at.ensures ∙ c.if-byte_at-eq40.true) z.0 z.1 c.type_head.ensures

pub named_head-requires-clause-to_value : goal.named_head-requires-clause-to_value
named_head-requires-clause-to_value c =
    part_is c.args.self.s.now c.args.name.start c.args.name.end c.requires.name_at.begins c.requires.name_at.names

pub returns-2 : goal.returns-2
returns-2 c =
    let n = c.args.name in
    rw c.named_head.ensures
    (elim c.else-byte_at-eq40.branch [
      | else-byte_at-eq40-via-else-byte_at-eq40 w ↦
          name_plain c.args.self.s.now c.args.self.names.list.now n.start n.end n.after c.requires.name_at c.args.axis
          (λ e. w.if-byte_at-eq40.false (c.byte_at.ensures ∙ e))
      | else-byte_at-eq40-via-then-byte_at-eq40+in-None-1 w ↦
          name_call c.args.self.s.now c.args.self.names.list.now n.start n.end n.after c.requires.name_at c.args.axis
          (sym c.byte_at.ensures ∙ w.if-byte_at-eq40.true) (type_none _ (search (rules, tests)))
    ])
