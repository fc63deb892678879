-- `Session::bundle_order` meets its contract: the rows and steps held are those of the views.
use Rattle.term_order.specs.BundleOrder.{term_steps, bundle_order}
use Rattle.term_order.specs.OrderCall.{bundle_order_answer}
use Rattle.session.specs.View.{view}
use Rattle.session.proofs.session.Session.bundle_order.Goals as goal

pub returns : goal.returns
unfolding view bundle_order_answer bundle_order term_steps
returns c =
    rw (
      ← c.held.ensures.0,
      ← c.held.ensures.1,
      ← c.held-2.ensures.0,
      ← c.held-2.ensures.1,
    )
    c.bundle_order_on.ensures
