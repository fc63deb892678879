-- `Session::drops_in_use` meets its contract: the counts of a point are those of its rows and steps.
use mathlib.Core.Path.{ap, ap₂, ◌∙◌}
use mathlib.Core.Bool.{not}
use lib.ListN.{length}
use Rattle.terms.specs.Row.{table_of}
use Rattle.calls.specs.represent.Tables.{steps_of, first_rows, first_steps}
use Rattle.records.specs.Records.{all_kept}
use Rattle.records.specs.represent.Held.{records_in}
use Rattle.session.specs.represent.Tables.{tables_in}
use Rattle.session.proofs.PointsHeld.{rows_there, steps_there}
use Rattle.session.proofs.session.Session.drops_in_use.Goals as goal

pub returns : goal.returns
returns c =
    let a = c.args in
    let s = tables_in c.self.inside in
    let told = rw (c.held_points.ensures, ← c.self.view_is) at c.point_named-point.ensures in
    let rows = c.row_count.ensures
    ∙ ap (λ xs. length (table_of xs)) c.first-kept.ensures.0
    ∙ ap (λ k. length (first_rows k s.rows)) c.from-n.ensures
    ∙ rows_there s a.name _ told in
    let steps = c.step_count.ensures
    ∙ ap (λ xs. length (steps_of xs)) c.first-kept.ensures.1
    ∙ ap (λ k. length (first_steps k s.steps)) c.from-m.ensures
    ∙ steps_there s a.name _ told in
    rw (← c.self.view_is) (ap not (c.all_kept.ensures ∙ ap₂ (λ n m. all_kept n m (records_in a.records.now)) rows steps))
