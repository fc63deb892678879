-- Every call takes every input: the contracts in the source ask nothing.
use Rattle.register.proofs.Register.new.Reads as new-reads
use Rattle.register.proofs.Register.term.Reads as term-reads
use Rattle.register.proofs.Register.step.Reads as step-reads
use Rattle.register.proofs.Register.text.Reads as text-reads
use Rattle.register.proofs.Register.point.Reads as point-reads
use Rattle.register.proofs.Register.return_to.Reads as return-to-reads
use Rattle.register.proofs.Register.record.Reads as record-reads
use Rattle.register.proofs.Register.release.Reads as release-reads
use Rattle.register.proofs.Register.current.Reads as current-reads
use Rattle.register.proofs.Register.listing.Reads as listing-reads
use Rattle.register.proofs.Register.crew_listing.Reads as crew-listing-reads
use Rattle.register.proofs.Register.crew_current.Reads as crew-current-reads
use Rattle.register.proofs.Register.select.Reads as select-reads
use Rattle.register.proofs.Register.read.Reads as read-reads
use Rattle.register.proofs.Register.write.Reads as write-reads
use Rattle.register.proofs.Register.way_back.Reads as way-back-reads
use Rattle.register.proofs.Register.replace.Reads as replace-reads
use Rattle.register.proofs.Register.order.Reads as order-reads
use Rattle.register.proofs.Register.bundle_order.Reads as bundle-order-reads

pub record Takes : Type 0 where
  pub new_takes : (κs : _) (a : _) → new-reads.Pre κs a
  pub term_takes : (κs : _) (a : _) → term-reads.Pre κs a
  pub step_takes : (κs : _) (a : _) → step-reads.Pre κs a
  pub text_takes : (κs : _) (a : _) → text-reads.Pre κs a
  pub point_takes : (κs : _) (a : _) → point-reads.Pre κs a
  pub return_to_takes : (κs : _) (a : _) → return-to-reads.Pre κs a
  pub record_takes : (κs : _) (a : _) → record-reads.Pre κs a
  pub release_takes : (κs : _) (a : _) → release-reads.Pre κs a
  pub current_takes : (κs : _) (a : _) → current-reads.Pre κs a
  pub listing_takes : (κs : _) (a : _) → listing-reads.Pre κs a
  pub crew_listing_takes : (κs : _) (a : _) → crew-listing-reads.Pre κs a
  pub crew_current_takes : (κs : _) (a : _) → crew-current-reads.Pre κs a
  pub select_takes : (κs : _) (a : _) → select-reads.Pre κs a
  pub read_takes : (κs : _) (a : _) → read-reads.Pre κs a
  pub write_takes : (κs : _) (a : _) → write-reads.Pre κs a
  pub way_back_takes : (κs : _) (a : _) → way-back-reads.Pre κs a
  pub replace_takes : (κs : _) (a : _) → replace-reads.Pre κs a
  pub order_takes : (κs : _) (a : _) → order-reads.Pre κs a
  pub bundle_order_takes : (κs : _) (a : _) → bundle-order-reads.Pre κs a

pub takes : Takes
takes =
    record {
      new_takes = λ κs a. tt;
      term_takes = λ κs a. tt;
      step_takes = λ κs a. tt;
      text_takes = λ κs a. tt;
      point_takes = λ κs a. tt;
      return_to_takes = λ κs a. tt;
      record_takes = λ κs a. tt;
      release_takes = λ κs a. tt;
      current_takes = λ κs a. tt;
      listing_takes = λ κs a. tt;
      crew_listing_takes = λ κs a. tt;
      crew_current_takes = λ κs a. tt;
      select_takes = λ κs a. tt;
      read_takes = λ κs a. tt;
      write_takes = λ κs a. tt;
      way_back_takes = λ κs a. tt;
      replace_takes = λ κs a. tt;
      order_takes = λ κs a. tt;
      bundle_order_takes = λ κs a. tt;
    }
