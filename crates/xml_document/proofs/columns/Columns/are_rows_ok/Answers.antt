use Rattle.std.proofs.Common.{ℕ, ◌≡◌, ◌-◌, length, arith, subst, add-one}
use Rattle.xml_document.specs.private.Checks.{RowsOk}
use Rattle.xml_document.proofs.Passing.{rows_start, rows_next}
use Rattle.xml_document.proofs.columns.Columns.are_rows_ok.Goals as goal

pub loop-n-init : goal.loop-n-init
loop-n-init c = rows_start _ (c.is_root_ok-root.ensures c.if-not-root.false)

pub loop-n-preserved : goal.loop-n-preserved
loop-n-preserved c =
    rows_next _ _ _ (add-one _) c.loop-n.invariant (c.is_row_ok-placed.ensures c.if-not-placed.false)
    (c.is_inside-inside.ensures c.if-not-inside.false) (c.is_apart-apart.ensures c.if-not-apart.false)

pub returns : goal.returns
returns c =
    let e : c.loop-n.n ≡ length c.args.self.now.kinds.now - 1 =
    omega (arith, c.loop-n-test.false, c.loop-n.auto.n-end) in
    λ _. record {
      some = omega arith;
      all = subst (λ (k : ℕ). RowsOk c.args.self.now k) e c.loop-n.invariant;
    }
