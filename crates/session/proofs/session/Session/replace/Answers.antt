-- `Session::replace` meets its contract: the rows and steps held are those of the view.
use Rattle.replacement.specs.Covered.{is_replaced, is_replaced_at}
use Rattle.replacement.specs.ReplaceCall.{first_uncovered, replace_answer}
use Rattle.session.specs.View.{view}
use Rattle.session.proofs.session.Session.replace.Goals as goal

pub returns : goal.returns
unfolding view replace_answer first_uncovered is_replaced_at is_replaced
returns c = rw (← c.held.ensures.1, ← c.held.ensures.0) c.replace_on.ensures
