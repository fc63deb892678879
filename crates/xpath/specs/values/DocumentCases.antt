-- Documents that calls take, and documents that they refuse with the value of the refusal.
use Rattle.std.specs.Prelude.{ℕ, zero, suc, refl, List, [], ◌∷◌, ◌++◌}
use Rattle.std.proofs.Math.Option.{none, some, Option-elim}
use Rattle.common.specs.Bounded.{first_below}
use Rattle.xpath.specs.Document.{Node, node, root_node, kind_at, parent_at, name_at, is_child, climb_meets, is_ancestor}
use Rattle.xpath.specs.Document.{kind_and_name_ok, row_ok, document_of, lent_rows, bad_row, document_refusal}
use Rattle.common.specs.values.Expected.{◌is◌, AllRight}

-- the numbers of rows that are lent
abbrev pub lent : List Node → List ℕ
lent [] = []
lent (r ∷ rs) = r.kind ∷ r.parent ∷ r.name ∷ lent rs

-- n texts under the root
abbrev pub texts : ℕ → List Node
texts zero = []
texts (suc n) = node 2 0 0 ∷ texts n

pub documents_accepted :
    AllRight
    (document_refusal (lent (root_node ∷ [])) is none
    -- elements, a text, a comment, a processing instruction under the root
    ∷ document_refusal (lent (root_node ∷ node 1 0 1 ∷ node 1 0 2 ∷ [])) is none
    ∷ document_refusal (lent (root_node ∷ node 2 0 0 ∷ [])) is none
    ∷ document_refusal (lent (root_node ∷ node 3 0 0 ∷ [])) is none
    ∷ document_refusal (lent (root_node ∷ node 4 0 0 ∷ [])) is none
    -- the same under an element, and adjacent texts
    ∷ document_refusal (lent
    (root_node ∷ node 1 0 1 ∷ node 4 1 0 ∷ node 3 1 0 ∷ node 2 1 0 ∷ node 2 1 0 ∷ node 1 1 1 ∷ [])) is none
    -- the greatest name
    ∷ document_refusal (lent (root_node ∷ node 1 0 65535 ∷ [])) is none
    -- processing instructions with a target, the least and the greatest, under the root and under an element
    ∷ document_refusal (lent (root_node ∷ node 4 0 1 ∷ [])) is none
    ∷ document_refusal (lent (root_node ∷ node 4 0 65535 ∷ [])) is none
    ∷ document_refusal (lent
    (root_node ∷ node 1 0 1 ∷ node 4 1 1 ∷ node 4 1 0 ∷ node 4 1 65535 ∷ node 2 1 0 ∷ [])) is none
    -- attributes: one, two of one element with children after them, one on an inner element, the greatest name, two
    -- of one name
    ∷ document_refusal (lent (root_node ∷ node 1 0 1 ∷ node 5 1 1 ∷ [])) is none
    ∷ document_refusal (lent (root_node ∷ node 1 0 1 ∷ node 5 1 3 ∷ node 5 1 3 ∷ [])) is none
    ∷ document_refusal (lent (root_node ∷ node 1 0 1 ∷ node 5 1 3 ∷ node 5 1 4 ∷ node 2 1 0 ∷ node 1 1 2
    ∷ node 5 5 65535 ∷ node 2 5 0 ∷ node 1 0 1 ∷ [])) is none
    -- parents several levels up
    ∷ document_refusal (lent
    (root_node ∷ node 1 0 1 ∷ node 1 1 1 ∷ node 1 2 1 ∷ node 1 3 1 ∷ node 2 1 0 ∷ node 2 0 0 ∷ [])) is none
    ∷ [])
unfolding document_refusal lent_rows bad_row first_below Option-elim document_of row_ok kind_and_name_ok kind_at
    parent_at name_at
    is_child climb_meets is_ancestor
documents_accepted = refl

pub documents_refused :
    AllRight
    (document_refusal [] is some 0
    -- an incomplete row 0, an incomplete row 1
    ∷ document_refusal (0 ∷ []) is some 0
    ∷ document_refusal (0 ∷ 0 ∷ []) is some 0
    ∷ document_refusal (0 ∷ 0 ∷ 0 ∷ 2 ∷ []) is some 1
    ∷ document_refusal (0 ∷ 0 ∷ 0 ∷ 2 ∷ 0 ∷ []) is some 1
    -- row 0 is not 0 0 0
    ∷ document_refusal (lent (node 1 0 0 ∷ [])) is some 0
    ∷ document_refusal (lent (node 1 0 1 ∷ [])) is some 0
    ∷ document_refusal (lent (node 0 1 0 ∷ [])) is some 0
    ∷ document_refusal (lent (node 0 0 1 ∷ [])) is some 0
    -- a second root
    ∷ document_refusal (lent (root_node ∷ root_node ∷ [])) is some 1
    ∷ document_refusal (lent (root_node ∷ node 1 0 1 ∷ node 0 1 0 ∷ [])) is some 2
    -- an element without a name; a text, a comment with one; a name of more than 16 bits
    ∷ document_refusal (lent (root_node ∷ node 1 0 0 ∷ [])) is some 1
    ∷ document_refusal (lent (root_node ∷ node 2 0 1 ∷ [])) is some 1
    ∷ document_refusal (lent (root_node ∷ node 3 0 1 ∷ [])) is some 1
    ∷ document_refusal (lent (root_node ∷ node 2 0 65535 ∷ [])) is some 1
    ∷ document_refusal (lent (root_node ∷ node 3 0 65535 ∷ [])) is some 1
    ∷ document_refusal (lent (root_node ∷ node 1 0 65536 ∷ [])) is some 1
    ∷ document_refusal (lent (root_node ∷ node 4 0 65536 ∷ [])) is some 1
    -- a kind above 5
    ∷ document_refusal (lent (root_node ∷ node 6 0 0 ∷ [])) is some 1
    ∷ document_refusal (lent (root_node ∷ node 6 0 1 ∷ [])) is some 1
    -- an attribute of the root, without a name, with a name of more than 16 bits
    ∷ document_refusal (lent (root_node ∷ node 5 0 0 ∷ [])) is some 1
    ∷ document_refusal (lent (root_node ∷ node 5 0 1 ∷ [])) is some 1
    ∷ document_refusal (lent (root_node ∷ node 1 0 1 ∷ node 5 1 0 ∷ [])) is some 2
    ∷ document_refusal (lent (root_node ∷ node 1 0 1 ∷ node 5 1 65536 ∷ [])) is some 2
    -- an attribute of a text, a comment, a processing instruction
    ∷ document_refusal (lent (root_node ∷ node 2 0 0 ∷ node 5 1 1 ∷ [])) is some 2
    ∷ document_refusal (lent (root_node ∷ node 1 0 1 ∷ node 2 1 0 ∷ node 5 2 1 ∷ [])) is some 3
    ∷ document_refusal (lent (root_node ∷ node 1 0 1 ∷ node 3 1 0 ∷ node 5 2 1 ∷ [])) is some 3
    ∷ document_refusal (lent (root_node ∷ node 1 0 1 ∷ node 4 1 0 ∷ node 5 2 1 ∷ [])) is some 3
    ∷ document_refusal (lent (root_node ∷ node 1 0 1 ∷ node 4 1 1 ∷ node 5 2 1 ∷ [])) is some 3
    -- an attribute after another child (a text, an element, of its owner), after a child's attribute, after a child's
    -- child; a parent that is an attribute
    ∷ document_refusal (lent (root_node ∷ node 1 0 1 ∷ node 2 1 0 ∷ node 5 1 1 ∷ [])) is some 3
    ∷ document_refusal (lent (root_node ∷ node 1 0 1 ∷ node 1 1 1 ∷ node 5 2 1 ∷ node 5 1 1 ∷ [])) is some 4
    ∷ document_refusal (lent (root_node ∷ node 1 0 1 ∷ node 1 1 1 ∷ node 1 2 1 ∷ node 5 2 1 ∷ [])) is some 4
    ∷ document_refusal (lent (root_node ∷ node 1 0 1 ∷ node 1 1 1 ∷ node 2 2 0 ∷ node 5 1 1 ∷ [])) is some 4
    ∷ document_refusal (lent (root_node ∷ node 1 0 1 ∷ node 5 1 1 ∷ node 2 2 0 ∷ [])) is some 3
    ∷ document_refusal (lent (root_node ∷ node 1 0 1 ∷ node 5 1 1 ∷ node 5 2 1 ∷ [])) is some 3
    -- a parent that is a text, a comment, a processing instruction
    ∷ document_refusal (lent (root_node ∷ node 2 0 0 ∷ node 2 1 0 ∷ [])) is some 2
    ∷ document_refusal (lent (root_node ∷ node 3 0 0 ∷ node 2 1 0 ∷ [])) is some 2
    ∷ document_refusal (lent (root_node ∷ node 4 0 0 ∷ node 2 1 0 ∷ [])) is some 2
    ∷ document_refusal (lent (root_node ∷ node 4 0 1 ∷ node 2 1 0 ∷ [])) is some 2
    -- a parent that is the row itself, a later row, no row, a row whose subtree is closed
    ∷ document_refusal (lent (root_node ∷ node 1 1 1 ∷ [])) is some 1
    ∷ document_refusal (lent (root_node ∷ node 1 2 1 ∷ node 1 0 1 ∷ [])) is some 1
    ∷ document_refusal (lent (root_node ∷ node 1 9 1 ∷ [])) is some 1
    ∷ document_refusal (lent (root_node ∷ node 1 0 1 ∷ node 1 0 1 ∷ node 2 1 0 ∷ [])) is some 3
    ∷ document_refusal (lent (root_node ∷ node 1 0 1 ∷ node 1 1 1 ∷ node 1 1 1 ∷ node 2 2 0 ∷ [])) is some 4
    -- the first of two bad rows, and of a bad and an incomplete one
    ∷ document_refusal (lent (root_node ∷ node 1 0 1 ∷ node 1 0 0 ∷ node 6 0 0 ∷ [])) is some 2
    ∷ document_refusal (lent (root_node ∷ node 6 0 0 ∷ []) ++ (2 ∷ 0 ∷ [])) is some 1
    ∷ [])
unfolding document_refusal lent_rows bad_row first_below Option-elim document_of row_ok kind_and_name_ok kind_at
    parent_at name_at
    is_child climb_meets is_ancestor
documents_refused = refl

pub most_nodes :
    AllRight
    (document_refusal (lent (root_node ∷ texts 511)) is none
    -- an incomplete last row
    ∷ document_refusal (lent (root_node ∷ texts 510) ++ (2 ∷ 0 ∷ [])) is some 511
    -- 513 rows, the last one incomplete, or all of them bad
    ∷ document_refusal (lent (root_node ∷ texts 512)) is some 512
    ∷ document_refusal (lent (root_node ∷ texts 511) ++ (2 ∷ [])) is some 512
    ∷ document_refusal (lent (texts 513)) is some 512
    ∷ [])
unfolding document_refusal lent_rows bad_row first_below Option-elim document_of row_ok kind_and_name_ok kind_at
    parent_at name_at
    is_child climb_meets is_ancestor
most_nodes = refl
