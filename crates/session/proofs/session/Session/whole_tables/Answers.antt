-- `Session::whole_tables` meets its contract: the view has the fields' tables.
use Rattle.session.proofs.session.Session.whole_tables.Goals as goal

pub returns : goal.returns
returns c = rw (← c.self.view_is) c.whole_tables.ensures
