-- `select_text` meets its contract: the text call, and then the select.
use Rattle.common.proofs.Errors.{err_is}
use Rattle.documents.specs.Documents.{doc}
use Rattle.session_documents.proofs.TextNodes.{text_refused, text_accepted}
use Rattle.session_documents.proofs.select.select_text.Goals as goal

pub returns-in_err-row : goal.returns-in_err-row
returns-in_err-row c =
    rw (err_is c.from_residual.result c.from_residual.ensures.1)
    (text_refused _ _ _ _ _ _ c.new-session.ensures _ c.text.ensures.met _ c.in_err-row.was)

pub returns : goal.returns
returns c =
    text_accepted _ _ _ _ _ _ c.new-session.ensures _ c.text.ensures.met _ c.in_ok-row.was _ c.select_nodes.ensures
