-- `walk` meets its contract.
use mathlib.Core.Path.{sym, ◌∙◌}
use native.Mathlib.Omega.{arith}
use Rattle.selector_words.proofs.Listed.{walk_hit, walk_miss, walk_byte}
use Rattle.selector_words.proofs.list.Search.walk.Goals as goal
use Rattle.selector_words.proofs.list.Search.walk.Goals.{then-self-i-eq-NEWLINE+else-is_name_line}
use Rattle.selector_words.proofs.list.Search.walk.Goals.{else-self-i-eq-NEWLINE}

pub returns-then-is_name_line : goal.returns-then-is_name_line
returns-then-is_name_line c =
    walk_hit c.args.self.names.now c.args.self.word.bytes.now c.args.from c.loop-i.i c.loop-i.ends c.loop-i.invariant
    (omega arith) c.if-self-i-eq-NEWLINE.true (sym c.is_name_line.ensures ∙ c.if-is_name_line.true) c.args.to
    c.loop-i-test.true

pub loop-i-preserved : goal.loop-i-preserved
loop-i-preserved c =
    elim c.if-self-i-eq-NEWLINE.branch [
      | then-self-i-eq-NEWLINE+else-is_name_line w ↦
          rw w.ends-is (walk_miss c.args.self.names.now c.args.self.word.bytes.now c.args.from c.loop-i.i c.loop-i.ends
          c.loop-i.invariant
          (omega arith) w.if-self-i-eq-NEWLINE.true (sym w.is_name_line.ensures ∙ w.if-is_name_line.false))
      | else-self-i-eq-NEWLINE w ↦
          rw w.ends-is (walk_byte c.args.self.names.now c.args.self.word.bytes.now c.args.from c.loop-i.i c.loop-i.ends
          c.loop-i.invariant
          (omega arith) w.if-self-i-eq-NEWLINE.false)
    ]
