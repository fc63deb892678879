-- `select_from` meets its contract, test by test in the order of the definition.
use Rattle.std.proofs.Common.{◌≡◌, ap, ◌∙◌, sym, length, true}
use Rattle.terms.specs.Row.{table_of}
use Rattle.terms.specs.Fields.{held_path}
use Rattle.documents.specs.Documents.{doc}
use Rattle.documents.proofs.Fields.{rows_length}
use Rattle.document_calls.proofs.Selected.{marks_of_another, no_path_from, nodes_marked_from}
use Rattle.document_calls.proofs.select.select_from.Goals as goal

pub returns-then-context-node_count : goal.returns-then-context-node_count
returns-then-context-node_count c =
    marks_of_another (table_of c.args.rows.now) c.args.row (doc c.args.document.now) c.args.context.now
    (λ e. c.if-context-node_count.true (e ∙ sym c.node_count.ensures))

pub returns-then-not-is_held_path : goal.returns-then-not-is_held_path
returns-then-not-is_held_path c =
    no_path_from (table_of c.args.rows.now) c.args.row (doc c.args.document.now) c.args.context.now
    (c.if-context-node_count.false ∙ c.node_count.ensures) (sym c.is_held_path.ensures ∙ c.if-not-is_held_path.true)

pub select_all-requires : goal.select_all-requires
select_all-requires c =
    let s = c.args.document.now.sound in
    c.if-context-node_count.false ∙ c.node_count.ensures ∙ rows_length _ _ _ s.parents_size s.names_size

pub returns : goal.returns
returns c =
    nodes_marked_from (table_of c.args.rows.now) c.args.row (doc c.args.document.now) c.args.context.now
    (c.if-context-node_count.false ∙ c.node_count.ensures) (sym c.is_held_path.ensures ∙ c.if-not-is_held_path.false)
    c.in_ok-marks.marks (rw c.from.ensures at c.in_ok-marks.ensures)
