-- Every call takes every input: the contracts in the source ask nothing.
use Rattle.documents.proofs.rows.Rows.new.Reads as new-reads
use Rattle.documents.proofs.rows.Rows.push.Reads as push-reads
use Rattle.documents.proofs.document.Document.check.Reads as check-reads
use Rattle.documents.proofs.document.Document.node_count.Reads as count-reads
use Rattle.document_calls.proofs.Takes as rows-takes
use Rattle.session_documents.proofs.select.select_nodes.Reads as nodes-reads
use Rattle.session_documents.proofs.select.select_from.Reads as from-reads
use Rattle.session_documents.proofs.select.select_text.Reads as text-reads

pub record Takes : Type 0 where
  pub new_takes : (κs : _) (a : _) → new-reads.Pre κs a
  pub push_takes : (κs : _) (a : _) → push-reads.Pre κs a
  pub check_takes : (κs : _) (a : _) → check-reads.Pre κs a
  pub count_takes : (κs : _) (a : _) → count-reads.Pre κs a
  pub on_rows : rows-takes.Takes
  pub nodes_takes : (κs : _) (a : _) → nodes-reads.Pre κs a
  pub from_takes : (κs : _) (a : _) → from-reads.Pre κs a
  pub text_takes : (κs : _) (a : _) → text-reads.Pre κs a

pub takes : Takes
takes =
    record {
      new_takes = λ κs a. tt;
      push_takes = λ κs a. tt;
      check_takes = λ κs a. tt;
      count_takes = λ κs a. tt;
      on_rows = rows-takes.takes;
      nodes_takes = λ κs a. tt;
      from_takes = λ κs a. tt;
      text_takes = λ κs a. tt;
    }
