-- Every call takes every input: the contracts in the source ask nothing.
use Rattle.document_calls.proofs.select.select_nodes.Reads as nodes-reads
use Rattle.document_calls.proofs.select.select_from.Reads as from-reads

pub record Takes : Type 0 where
  pub nodes_takes : (κs : _) (a : _) → nodes-reads.Pre κs a
  pub from_takes : (κs : _) (a : _) → from-reads.Pre κs a

pub takes : Takes
takes = record { nodes_takes = λ κs a. tt; from_takes = λ κs a. tt }
