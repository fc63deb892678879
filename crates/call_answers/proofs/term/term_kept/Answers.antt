-- `term_kept` meets its contract: the rows that are kept are the first of the table.
use mathlib.Core.Path.{sym, ap}
use native.Mathlib.Omega.{arith}
use Rattle.calls.proofs.TermJudged.{term_accepted}
use Rattle.call_answers.proofs.term.term_kept.Goals as goal

pub term_answer-requires : goal.term_answer-requires
term_answer-requires c = (
  omega (arith, c.rows.ensures.1, c.args.held.now.few),
  rw c.rows.ensures.0 c.nesting_of-depth.ensures,
  rw c.rows.ensures.0 c.find-found.ensures,
)

pub put-requires : goal.put-requires
put-requires c =
    let room = (term_accepted _ _ (sym (ap (λ t. t.number) c.in_ok-number.ensures))).room in
    omega (arith, c.rows.ensures.1, room)
