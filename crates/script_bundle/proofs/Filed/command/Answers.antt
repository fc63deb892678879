-- `Filed::command` meets its contract, word by word.
use mathlib.Core.Path.{sym, ap}
use Rattle.script_bundle.specs.Filing.{line_number}
use Rattle.script_bundle.proofs.CallLaws.{call_done, done_by}
use Rattle.script_bundle.proofs.LineLaws.{other_command}
use Rattle.script_bundle.proofs.Filed.command.Goals as goal

pub returns-in-Term : goal.returns-in-Term
returns-in-Term c =
    rw (c.in-Term.is, c.without_value.ensures) (call_done c.args.self.now _ (λ n. n) _ _ c.term.ensures.met)

pub returns-in-Step : goal.returns-in-Step
returns-in-Step c =
    rw (c.in-Step.is, c.without_value-in-Step.ensures) (call_done c.args.self.now _ (λ n. n) _ _ c.step.ensures.met)

pub returns-in-Point : goal.returns-in-Point
returns-in-Point c =
    rw c.in-Point.is (done_by c.args.self.now _ _ _ c.point.ensures.met)

pub returns-in-Return : goal.returns-in-Return
returns-in-Return c =
    rw c.in-Return.is (done_by c.args.self.now _ _ _ c.return_to.ensures.met)

pub returns-in-Names : goal.returns-in-Names
returns-in-Names c = rw c.in-Names.is c.lending.ensures

pub returns-in-Text : goal.returns-in-Text
returns-in-Text c = rw c.in-Text.is c.text.ensures

pub returns-in_default : goal.returns-in_default
returns-in_default c =
    let d = c.in_default in
    sym (ap (line_number c.args.self.now.session) (other_command _ d.not-Term d.not-Step d.not-Point d.not-Return
    d.not-Names d.not-Text _ _))
