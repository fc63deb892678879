-- `Session::new` meets its contract: the rows that nothing is kept of are zeros.
use mathlib.Core.Path.{refl}
use Rattle.session.specs.View.{fresh_session}
use Rattle.session.proofs.session.Session.new.Goals as goal

pub returns : goal.returns
unfolding fresh_session
returns c = rw c.new.ensures.0 refl
