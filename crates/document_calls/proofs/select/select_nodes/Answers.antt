-- `select_nodes` meets its contract, test by test in the order of the definition.
use Rattle.std.proofs.Common.{◌<◌, ◌≡◌, ap, ◌∙◌, sym, length, true, arith}
use Rattle.terms.specs.Row.{table_of}
use Rattle.terms.specs.Fields.{held_path}
use Rattle.documents.specs.Documents.{doc}
use Rattle.documents.proofs.Fields.{rows_length}
use Rattle.document_calls.proofs.Selected.{node_outside, no_path_there, nodes_marked}
use Rattle.document_calls.proofs.select.select_nodes.Goals as goal

pub returns-then-n-x : goal.returns-then-n-x
returns-then-n-x c =
    node_outside (table_of c.args.rows.now) c.args.row (doc c.args.document.now) c.args.context
    (omega (arith, c.node_count-n.ensures, c.if-n-x.true))

pub returns-then-not-is_held_path : goal.returns-then-not-is_held_path
returns-then-not-is_held_path c =
    no_path_there (table_of c.args.rows.now) c.args.row (doc c.args.document.now) c.args.context
    (omega (arith, c.node_count-n.ensures, c.if-n-x.false)) (sym c.is_held_path.ensures ∙ c.if-not-is_held_path.true)

pub select_all-requires : goal.select_all-requires
select_all-requires c =
    let s = c.args.document.now.sound in
    ap length c.deref.ensures.value ∙ c.in_ok-from.ensures.size ∙ c.node_count-n.ensures
    ∙ rows_length _ _ _ s.parents_size s.names_size

pub returns : goal.returns
returns c =
    let inside : c.args.context < length (doc c.args.document.now) =
    omega (arith, c.node_count-n.ensures, c.if-n-x.false) in
    nodes_marked (table_of c.args.rows.now) c.args.row (doc c.args.document.now) c.args.context inside
    (sym c.is_held_path.ensures ∙ c.if-not-is_held_path.false) c.in_ok-from.from.items
    (rw (sym c.node_count-n.ensures) c.in_ok-from.ensures) c.in_ok-marks.marks
    (rw (c.deref.ensures.value, c.from.ensures) at c.in_ok-marks.ensures)
