-- Every call takes every input: the contracts in the source ask nothing.
use Rattle.host_calls.proofs.read.spinebriar_read.Reads as read-reads
use Rattle.host_calls.proofs.read.spinebriar_read_line.Reads as read-line-reads
use Rattle.host_calls.proofs.claim.spinebriar_claim.Reads as claim-reads
use Rattle.host_calls.proofs.select.spinebriar_select.Reads as select-reads
use Rattle.host_calls.proofs.file.spinebriar_file.Reads as file-reads

pub record Takes : Type 0 where
  pub read_takes : (κs : _) (a : _) → read-reads.Pre κs a
  pub read_line_takes : (κs : _) (a : _) → read-line-reads.Pre κs a
  pub claim_takes : (κs : _) (a : _) → claim-reads.Pre κs a
  pub select_takes : (κs : _) (a : _) → select-reads.Pre κs a
  pub file_takes : (κs : _) (a : _) → file-reads.Pre κs a

pub takes : Takes
takes =
    record {
      read_takes = λ κs a. tt;
      read_line_takes = λ κs a. tt;
      claim_takes = λ κs a. tt;
      select_takes = λ κs a. tt;
      file_takes = λ κs a. tt;
    }
