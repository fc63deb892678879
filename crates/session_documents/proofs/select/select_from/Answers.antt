-- `select_from` meets its contract: the rows that it lends are those of the session.
use Rattle.session.specs.View.{view}
use Rattle.session_documents.proofs.select.select_from.Goals as goal

pub returns : goal.returns
unfolding view
returns c = rw c.held_rows.ensures at c.select_from.ensures
