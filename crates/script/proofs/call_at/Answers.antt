-- `call_at` meets its contract. The loop's invariant: the line's word is none of those before.
use mathlib.Core.Path.{sym, ◌∙◌}
use native.Mathlib.Omega.{arith}
use Rattle.script.proofs.Table.{space_inside, numbers_read, newline_inside, word_read, nothing_read}
use Rattle.script.proofs.Table.{next_word, no_word_left}
use Rattle.script.proofs.call_at.Goals as goal

pub overflow_add-at : goal.overflow_add-at
overflow_add-at c =
    let a = c.args in
    let l = c.loop-word in
    omega (
      arith,
      space_inside a.bytes.now a.at l.word-index c.loop-word-test.true l.invariant _ _ c.text-text.ensures
          (sym c.word_at.ensures ∙ c.if-word_at.true),
    )

pub returns-then-word_at : goal.returns-then-word_at
returns-then-word_at c =
    let a = c.args in
    let l = c.loop-word in
    numbers_read a.bytes.now a.at l.word-index c.loop-word-test.true l.invariant _ _ c.text-text.ensures
    (sym c.word_at.ensures ∙ c.if-word_at.true) c.behind_word.result c.behind_word.ensures

pub returns-in_err-command : goal.returns-in_err-command
returns-in_err-command c =
    let a = c.args in
    let l = c.loop-word in
    rw c.from_residual.ensures
    (nothing_read a.bytes.now a.at l.word-index c.loop-word-test.true l.invariant _ _ c.text-text.ensures
    (sym c.is_line.ensures ∙ c.if-is_line.true) c.in_err-command.ensures)

pub overflow_add-result : goal.overflow_add-result
overflow_add-result c =
    let a = c.args in
    let l = c.loop-word in
    omega (
      arith,
      newline_inside a.bytes.now a.at l.word-index c.loop-word-test.true l.invariant _ _ c.text-text.ensures
          (sym c.is_line.ensures ∙ c.if-is_line.true),
    )

pub returns-then-is_line : goal.returns-then-is_line
returns-then-is_line c =
    let a = c.args in
    let l = c.loop-word in
    word_read a.bytes.now a.at l.word-index c.loop-word-test.true l.invariant _ _ c.text-text.ensures
    (sym c.is_line.ensures ∙ c.if-is_line.true) _ c.in_ok-command.ensures

pub loop-word-preserved : goal.loop-word-preserved
loop-word-preserved c =
    let a = c.args in
    let l = c.loop-word in
    next_word a.bytes.now a.at l.word-index c.loop-word-test.true l.invariant _ _ c.text-text.ensures
    (sym c.word_at.ensures ∙ c.if-word_at.false) (sym c.is_line.ensures ∙ c.if-is_line.false)

pub returns : goal.returns
returns c =
    let a = c.args in
    let l = c.loop-word in
    no_word_left a.bytes.now a.at l.word-index c.loop-word-test.false l.invariant
