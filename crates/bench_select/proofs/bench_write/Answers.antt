-- `bench_write` meets its contract: the first of the first rows and steps are these.
use Rattle.bundles.proofs.LentTables.{first_again}
use Rattle.bench_select.proofs.bench_write.Goals as goal

pub returns : goal.returns
returns c =
    let a = c.args in
    rw (← first_again a.n a.m a.rows.now a.steps.now c.first.ensures.0 c.first.ensures.1) c.write_tables.ensures
