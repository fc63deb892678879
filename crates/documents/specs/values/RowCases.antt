-- Rows that are a document, and rows that are refused.
use Rattle.std.specs.Prelude.{refl, List, [], ◌∷◌, length}
use Rattle.std.proofs.Math.Option.{none, some, Option-elim}
use Rattle.common.specs.Bounded.{first_below}
use Rattle.common.specs.values.Expected.{◌is◌, AllRight}
use Rattle.xpath.specs.Document.{node, root_node, row_ok, kind_and_name_ok, kind_at, parent_at, name_at, is_child}
use Rattle.xpath.specs.Document.{climb_meets, is_ancestor}
use Rattle.documents.specs.Columns.{rows_of}
use Rattle.documents.specs.Documents.{refused_row}

pub rows_refused :
    AllRight
    (refused_row [] is some 0
    -- a kind, a parent, a name of row 0
    ∷ refused_row (node 1 0 0 ∷ []) is some 0
    ∷ refused_row (node 0 1 0 ∷ []) is some 0
    ∷ refused_row (node 0 0 1 ∷ []) is some 0
    -- of two bad rows the first
    ∷ refused_row (root_node ∷ node 1 0 1 ∷ node 2 0 1 ∷ node 6 0 0 ∷ []) is some 2
    -- a parent that the row before it isn't below
    ∷ refused_row (root_node ∷ node 1 0 1 ∷ node 1 0 1 ∷ node 2 1 0 ∷ []) is some 3
    -- a parent after the row, and beyond the last one
    ∷ refused_row (root_node ∷ node 1 2 1 ∷ node 1 0 1 ∷ []) is some 1
    ∷ refused_row (root_node ∷ node 1 9 1 ∷ []) is some 1
    ∷ refused_row (root_node ∷ []) is none
    ∷ refused_row (root_node ∷ node 1 0 65535 ∷ node 5 1 2 ∷ node 2 1 0 ∷ node 4 0 3 ∷ []) is none
    ∷ [])
unfolding first_below Option-elim row_ok kind_and_name_ok kind_at parent_at name_at is_child climb_meets is_ancestor
rows_refused = refl

-- columns are rows, as many as the shortest has numbers
pub columns_rows :
    AllRight
    (rows_of (0 ∷ 1 ∷ []) (0 ∷ 0 ∷ []) (0 ∷ 7 ∷ []) is (root_node ∷ node 1 0 7 ∷ [])
    ∷ rows_of (0 ∷ 1 ∷ 2 ∷ []) (0 ∷ 0 ∷ []) (0 ∷ 7 ∷ 8 ∷ []) is (root_node ∷ node 1 0 7 ∷ [])
    ∷ rows_of [] (0 ∷ []) (0 ∷ []) is []
    ∷ [])
unfolding rows_of
columns_rows = refl
