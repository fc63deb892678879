-- Every call takes every input: the contracts in the source ask nothing.
use Rattle.session.proofs.session.Session.new.Reads as new-reads
use Rattle.session.proofs.session.Session.term.Reads as term-reads
use Rattle.session.proofs.session.Session.step.Reads as step-reads
use Rattle.session.proofs.session.Session.text.Reads as text-reads
use Rattle.session.proofs.session.Session.point.Reads as point-reads
use Rattle.session.proofs.session.Session.return_to.Reads as return-to-reads
use Rattle.session.proofs.session.Session.held_rows.Reads as held-rows-reads
use Rattle.session.proofs.session.Session.select.Reads as select-reads
use Rattle.session.proofs.session.Session.read.Reads as read-reads
use Rattle.session.proofs.session.Session.write.Reads as write-reads
use Rattle.session.proofs.session.Session.way_back.Reads as way-back-reads
use Rattle.session.proofs.session.Session.replace.Reads as replace-reads
use Rattle.session.proofs.session.Session.step_saying.Reads as step-saying-reads
use Rattle.session.proofs.session.Session.order.Reads as order-reads
use Rattle.session.proofs.session.Session.bundle_order.Reads as bundle-order-reads
use Rattle.session.proofs.session.Session.record.Reads as record-reads
use Rattle.session.proofs.session.Session.judge_return.Reads as judge-return-reads
use Rattle.session.proofs.session.Session.drops_in_use.Reads as drops-in-use-reads
use Rattle.session.proofs.session.Session.steps_held.Reads as steps-held-reads
use Rattle.session.proofs.session.Session.rule_uses.Reads as rule-uses-reads
use Rattle.session.proofs.session.Session.last_step.Reads as last-step-reads

pub record Takes : Type 0 where
  pub new_takes : (κs : _) (a : _) → new-reads.Pre κs a
  pub term_takes : (κs : _) (a : _) → term-reads.Pre κs a
  pub step_takes : (κs : _) (a : _) → step-reads.Pre κs a
  pub text_takes : (κs : _) (a : _) → text-reads.Pre κs a
  pub point_takes : (κs : _) (a : _) → point-reads.Pre κs a
  pub return_to_takes : (κs : _) (a : _) → return-to-reads.Pre κs a
  pub held_rows_takes : (κs : _) (a : _) → held-rows-reads.Pre κs a
  pub select_takes : (κs : _) (a : _) → select-reads.Pre κs a
  pub read_takes : (κs : _) (a : _) → read-reads.Pre κs a
  pub write_takes : (κs : _) (a : _) → write-reads.Pre κs a
  pub way_back_takes : (κs : _) (a : _) → way-back-reads.Pre κs a
  pub replace_takes : (κs : _) (a : _) → replace-reads.Pre κs a
  pub step_saying_takes : (κs : _) (a : _) → step-saying-reads.Pre κs a
  pub order_takes : (κs : _) (a : _) → order-reads.Pre κs a
  pub bundle_order_takes : (κs : _) (a : _) → bundle-order-reads.Pre κs a
  pub record_takes : (κs : _) (a : _) → record-reads.Pre κs a
  pub judge_return_takes : (κs : _) (a : _) → judge-return-reads.Pre κs a
  pub drops_in_use_takes : (κs : _) (a : _) → drops-in-use-reads.Pre κs a
  pub steps_held_takes : (κs : _) (a : _) → steps-held-reads.Pre κs a
  pub rule_uses_takes : (κs : _) (a : _) → rule-uses-reads.Pre κs a
  pub last_step_takes : (κs : _) (a : _) → last-step-reads.Pre κs a

pub takes : Takes
takes =
    record {
      new_takes = λ κs a. tt;
      term_takes = λ κs a. tt;
      step_takes = λ κs a. tt;
      text_takes = λ κs a. tt;
      point_takes = λ κs a. tt;
      return_to_takes = λ κs a. tt;
      held_rows_takes = λ κs a. tt;
      select_takes = λ κs a. tt;
      read_takes = λ κs a. tt;
      write_takes = λ κs a. tt;
      way_back_takes = λ κs a. tt;
      replace_takes = λ κs a. tt;
      step_saying_takes = λ κs a. tt;
      order_takes = λ κs a. tt;
      bundle_order_takes = λ κs a. tt;
      record_takes = λ κs a. tt;
      judge_return_takes = λ κs a. tt;
      drops_in_use_takes = λ κs a. tt;
      steps_held_takes = λ κs a. tt;
      rule_uses_takes = λ κs a. tt;
      last_step_takes = λ κs a. tt;
    }
