-- The session in code as specifications see it: without what is kept of its rows.
use Rattle.session.specs.declared.session.Session.TheInside.{Inside}
use Rattle.session.specs.SessionTables.{SessionTables}

abbrev pub tables_in : Inside → SessionTables
tables_in s =
    record {
      rows = s.rows.numbers;
      row_count = s.row_count;
      steps = s.steps;
      step_count = s.step_count;
      points = s.points;
      point_count = s.point_count;
    }
