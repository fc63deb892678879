-- `Session::judge_return` meets its contract: the points held are those of the view.
use Rattle.common.proofs.Errors.{err_is}
use Rattle.calls.specs.Book.{answer}
use Rattle.calls.specs.represent.Answers.{refusal_answer}
use Rattle.session.proofs.session.PointMade.{return_judged}
use Rattle.session.proofs.session.Session.judge_return.Goals as goal

pub returns-in_err-judge_return : goal.returns-in_err-judge_return
returns-in_err-judge_return c =
    let k = c.in_err-judge_return.field-0.0 in
    rw (err_is c.from_residual.result c.from_residual.ensures.1)
    (return_judged c.args.self.now c.args.name (refusal_answer k)
    (rw c.held_points.ensures at c.in_err-judge_return.ensures))

pub returns : goal.returns
returns c =
    let found = rw c.held_points.ensures at c.in_ok-judge_return.ensures in
    return_judged c.args.self.now c.args.name (answer 0 0) found.2
