-- What is on each axis, and what passes each node test.
use Rattle.std.specs.Prelude.{ℕ, Bool, true, false, not, cond, ◌&&◌, ◌||◌, [], ◌∷◌, leb, ltb, eqb, get_or}
use Rattle.common.specs.NodeKinds.{element_kind, text_kind, comment_kind, instruction_kind, attribute_kind}
use Rattle.common.specs.Axes.{attribute}
use Rattle.xpath.specs.Document.{Document, kind_at, name_at, is_attribute, is_child, is_ancestor, are_siblings}

-- y is on axis a of x; an attribute is on axis 11 of its parent, and on self and the or-self axes of itself
unfoldable pub on_axis : ℕ → Document → ℕ → ℕ → Bool
on_axis a d x y =
    get_or
    (eqb x y  -- self
    ∷ (is_child d x y && not (is_attribute d y))  -- child
    ∷ is_child d y x  -- parent
    ∷ (is_ancestor d x y && not (is_attribute d y))  -- descendant
    ∷ is_ancestor d y x  -- ancestor
    ∷ (eqb x y || is_ancestor d x y && not (is_attribute d y))  -- descendant-or-self
    ∷ (eqb x y || is_ancestor d y x)  -- ancestor-or-self
    ∷ (are_siblings d x y && ltb x y)  -- following-sibling
    ∷ (are_siblings d x y && ltb y x)  -- preceding-sibling
    -- following: later rows, no descendants, no attributes
    ∷ (ltb x y && not (is_ancestor d x y) && not (is_attribute d y))
    -- preceding: earlier rows, no ancestors, no attributes
    ∷ (ltb y x && not (is_ancestor d y x) && not (is_attribute d y))
    ∷ (is_child d x y && is_attribute d y)  -- attribute
    ∷ [])
    a false

-- XPath's principal node type of axis a, by its kind, which a name or `*` selects: attributes on axis 11, elements on
-- any other
abbrev pub principal : ℕ → ℕ
principal a = cond (eqb a attribute) attribute_kind element_kind

-- y passes test t with name c on axis a
unfoldable pub passes : ℕ → ℕ → ℕ → Document → ℕ → Bool
passes a t c d y =
    get_or
    ((eqb (kind_at d y) (principal a) && eqb (name_at d y) c)  -- a name: an element, or an attribute, of that name
    ∷ eqb (kind_at d y) (principal a)  -- *: any element, or attribute
    ∷ true  -- node()
    ∷ eqb (kind_at d y) text_kind  -- text()
    ∷ eqb (kind_at d y) comment_kind  -- comment()
    ∷ eqb (kind_at d y) instruction_kind  -- processing-instruction()
    -- processing-instruction('c'): an instruction of that target; name 0 is none
    ∷ (eqb (kind_at d y) instruction_kind && leb 1 c && eqb (name_at d y) c)
    ∷ [])
    t false
