-- `judge_step` meets its contract: nothing is noted at first.
use Rattle.matching.proofs.RowWayBack.{none_noted}
use Rattle.call_answers.proofs.step.judge_step.Goals as goal

pub judge_noted-requires : goal.judge_noted-requires
judge_noted-requires c = c.no_notes-noted.ensures _

pub returns-then-step-eq-WAY_BACK_RULE : goal.returns-then-step-eq-WAY_BACK_RULE
returns-then-step-eq-WAY_BACK_RULE c = c.judge_noted.ensures.0

pub judge_noted-requires-2 : goal.judge_noted-requires-2
judge_noted-requires-2 c = none_noted _ 0

pub returns : goal.returns
returns c = c.judge_noted-2.ensures.0
