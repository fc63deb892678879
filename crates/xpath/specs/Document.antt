-- Documents: rows `kind parent name` in document order.
use Rattle.std.specs.Prelude.{ℕ, zero, suc, ◌+◌, ◌-◌, ◌*◌, ◌/◌, Bool, false, not, cond, ◌&&◌, ◌||◌, List, [], ◌∷◌}
use Rattle.std.specs.Prelude.{leb, ltb, eqb, length, get_or}
use Rattle.std.proofs.Math.Option.{Option, some}
use Rattle.common.specs.Bounded.{all_below, first_below}
use Rattle.common.specs.Limits.{max_number}
use Rattle.common.specs.NodeKinds.{root_kind, element_kind, text_kind, comment_kind, instruction_kind, attribute_kind}

-- the kind is one of common's NodeKinds
pub record Node : Type 0 where
  pub kind : ℕ
  pub parent : ℕ
  pub name : ℕ

abbrev pub Document : Type 0
Document = List Node

abbrev pub node : ℕ → ℕ → ℕ → Node
node k p n = record { kind = k; parent = p; name = n }

abbrev pub root_node : Node
root_node = node root_kind 0 0

-- the fields of row n; past the last row, those of the root
unfoldable pub kind_at : Document → ℕ → ℕ
kind_at d n = (get_or d n root_node).kind

unfoldable pub parent_at : Document → ℕ → ℕ
parent_at d n = (get_or d n root_node).parent

unfoldable pub name_at : Document → ℕ → ℕ
name_at d n = (get_or d n root_node).name

-- y is an attribute
abbrev pub is_attribute : Document → ℕ → Bool
is_attribute d y = eqb (kind_at d y) attribute_kind

-- x is the parent of y, which may be an attribute; row 0 has no parent
unfoldable pub is_child : Document → ℕ → ℕ → Bool
is_child d x y = not (eqb y 0) && eqb (parent_at d y) x

-- the climb from y to its parent, as far as the root, meets x; it takes at most `most` parents
unfoldable pub climb_meets : ℕ → Document → ℕ → ℕ → Bool
climb_meets zero d x y = false
climb_meets (suc most) d x y = is_child d x y || not (eqb y 0) && climb_meets most d x (parent_at d y)

-- x is an ancestor of y, which may be an attribute: a parent's row is the smaller one, so y parents are enough to
-- reach the root
unfoldable pub is_ancestor : Document → ℕ → ℕ → Bool
is_ancestor d x y = climb_meets y d x y

-- x and y are siblings: they have the same parent and are two, neither an attribute; row 0 has no parent
unfoldable pub are_siblings : Document → ℕ → ℕ → Bool
are_siblings d x y =
    not (eqb x 0) && is_child d (parent_at d x) y && not (eqb x y) && not (is_attribute d x) && not (is_attribute d y)

-- the name of an element or an attribute is 1 to max_number; that of an instruction, its target, 1 to max_number, or 0
-- for none recorded; any other's 0; a row after row 0 has a kind other than root's
unfoldable pub kind_and_name_ok : ℕ → ℕ → Bool
kind_and_name_ok kind name =
    (eqb kind element_kind || eqb kind attribute_kind) && leb 1 name && leb name max_number
    || eqb kind instruction_kind && leb name max_number
    || (eqb kind text_kind || eqb kind comment_kind) && eqb name 0

-- row n + 1, an attribute, stands where it must: its parent is an element, and is the row before it or has the row
-- before it for an attribute
abbrev pub attribute_placed : Document → ℕ → Bool
attribute_placed d n =
    eqb (kind_at d (parent_at d (suc n))) element_kind
    && (eqb (parent_at d (suc n)) n || is_attribute d n && eqb (parent_at d n) (parent_at d (suc n)))

-- row n is as it must be, by a test for ancestors: row 0 is `0 0 0`; the parent of a later row is the row before it
-- or an ancestor of that one, and is the root or an element, the kinds up to element; an attribute stands after its
-- parent, with only attributes of that parent between
abbrev pub row_ok_by : (ancestor : Document → ℕ → ℕ → Bool) → Document → ℕ → Bool
row_ok_by ancestor d zero = eqb (kind_at d 0) root_kind && eqb (parent_at d 0) 0 && eqb (name_at d 0) 0
row_ok_by ancestor d (suc n) =
    (eqb (parent_at d (suc n)) n || ancestor d (parent_at d (suc n)) n)
    && leb (kind_at d (parent_at d (suc n))) element_kind
    && kind_and_name_ok (kind_at d (suc n)) (name_at d (suc n))
    && (not (is_attribute d (suc n)) || attribute_placed d n)

-- the test is the climb to the root
unfoldable pub row_ok : Document → ℕ → Bool
row_ok = row_ok_by is_ancestor

-- a document of any size
unfoldable pub well_formed : Document → Bool
well_formed d = leb 1 (length d) && all_below (length d) (row_ok d)

-- Documents as calls take them: lent 16-bit numbers, three a row.
abbrev pub node_width : ℕ
node_width = 3

-- the document of the lent numbers, without an incomplete last row
unfoldable pub document_of : List ℕ → Document
document_of [] = []
document_of (k ∷ []) = []
document_of (k ∷ p ∷ []) = []
document_of (k ∷ p ∷ n ∷ xs) = node k p n ∷ document_of xs

-- how many rows are lent: an incomplete last row counts
unfoldable pub lent_rows : List ℕ → ℕ
lent_rows xs = (length xs + (node_width - 1)) / node_width

abbrev pub max_nodes : ℕ
max_nodes = 512

-- row n of the lent numbers is bad; an incomplete row is
abbrev pub bad_row_by : (ancestor : Document → ℕ → ℕ → Bool) → List ℕ → ℕ → Bool
bad_row_by ancestor xs n = ltb (length xs) (node_width * n + node_width) || not (row_ok_by ancestor (document_of xs) n)

unfoldable pub bad_row : List ℕ → ℕ → Bool
bad_row = bad_row_by is_ancestor

-- the value of refusal 8 for n rows, where it applies: no rows 0, more than `most` that number, else the first bad row
abbrev pub refused_rows : (most n : ℕ) → (bad : ℕ → Bool) → Option ℕ
refused_rows most n bad = cond (eqb n 0) (some 0) (cond (ltb most n) (some most) (first_below n bad))

-- of lent numbers
abbrev pub document_refusal_by : (ancestor : Document → ℕ → ℕ → Bool) → List ℕ → Option ℕ
document_refusal_by ancestor xs = refused_rows max_nodes (lent_rows xs) (bad_row_by ancestor xs)

unfoldable pub document_refusal : List ℕ → Option ℕ
document_refusal = document_refusal_by is_ancestor
