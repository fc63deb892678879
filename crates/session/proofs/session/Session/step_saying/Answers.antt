-- `Session::step_saying` meets its contract: the rows and steps held are those of the view.
use Rattle.replacement.specs.Covered.{is_replaced, step_saying}
use Rattle.session.specs.View.{view}
use Rattle.session.proofs.session.Session.step_saying.Goals as goal

pub returns : goal.returns
unfolding view step_saying is_replaced
returns c = rw (← c.held.ensures.1, ← c.held.ensures.0) c.step_saying.ensures
