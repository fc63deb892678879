-- `check_document` meets its contract, test by test in the order of the definition.
use Rattle.std.proofs.Common.{◌≡◌, ◌≤◌, ◌∙◌, arith}
use Rattle.xpath.specs.Document.{lent_rows, max_nodes}
use Rattle.xpath.proofs.LentNumbers.{nodes_lent, rows_counted}
use Rattle.xpath.proofs.Ends.{filled_with}
use Rattle.xpath.proofs.Rows.{no_rows, too_many, bad_below, row_refused, all_accepted}
use Rattle.xpath.proofs.document.check_document.Goals as goal

pub returns-then-n-eq0 : goal.returns-then-n-eq0
returns-then-n-eq0 c =
    let n : c.div_ceil-n.result ≡ lent_rows c.args.d.now = c.div_ceil-n.ensures ∙ rows_counted _ in
    no_rows _ (omega arith)

pub returns-then-n-gt-MAX_NODES : goal.returns-then-n-gt-MAX_NODES
returns-then-n-gt-MAX_NODES c =
    let n : c.div_ceil-n.result ≡ lent_rows c.args.d.now = c.div_ceil-n.ensures ∙ rows_counted _ in
    too_many _ (λ e. c.if-n-eq0.false (omega arith)) (omega arith)

pub first_bad_row-requires : goal.first_bad_row-requires
first_bad_row-requires c = omega (arith, nodes_lent c.args.d.now)

pub overflow_cast-result-in-Some : goal.overflow_cast-result-in-Some
overflow_cast-result-in-Some c =
    let n = bad_below _ _ _ _ c.in-Some.ensures in omega (arith, c.div_ceil-n.ensures ∙ rows_counted c.args.d.now)

pub returns-in-Some : goal.returns-in-Some
returns-in-Some c =
    let n : c.div_ceil-n.result ≡ lent_rows c.args.d.now = c.div_ceil-n.ensures ∙ rows_counted _ in
    row_refused _ (λ e. c.if-n-eq0.false (omega arith)) (omega arith) _ _ _ c.in-Some.ensures

pub returns-in-None : goal.returns-in-None
returns-in-None c =
    let n : c.div_ceil-n.result ≡ lent_rows c.args.d.now = c.div_ceil-n.ensures ∙ rows_counted _ in
    let few : c.div_ceil-n.result ≤ max_nodes = omega arith in
    all_accepted _ (λ e. c.if-n-eq0.false (omega arith)) (omega arith) _ _ c.in-None.ensures
    (rw (← n) (filled_with max_nodes c.div_ceil-n.result few))
