-- The rule table: a line for each rule, its number, its conclusion, its premises in order, its conditions. Signs: `¦`,
-- `∕`, `⟦ ⟧` are the `|`, `/`, `[ ]` of terms; `≐` and `⇔` are `=`, of paths and of qualifiers; `self :: node_test` is
-- `.`.
use Rattle.std.specs.Prelude.{List, [], ◌∷◌, ◌++◌}
use Rattle.rules.specs.Form.{Rule, Void, Root, ◌::◌, ◌¦◌, ◌∕◌, ◌⟦◌⟧, True, False, Not◌, ◌And◌, ◌Or◌, ◌In◌, ◌<=◌}
use Rattle.rules.specs.Form.{◌=>◌, a_below_b, N_below_M, b_from_3_to_10, N_a_name_or_star, N_not_node}
use Rattle.rules.specs.Form.{a_not_attribute}
use Rattle.rules.specs.Notation.{p, q, r, s, f, g, h, a, b, N, M, self, child, parent, descendant, ancestor}
use Rattle.rules.specs.Notation.{descendant_or_self, ancestor_or_self, following_sibling, preceding_sibling}
use Rattle.rules.specs.Notation.{following, preceding, star_test, node_test, some_of, ◌▸◌, ◌from◌, ◌if◌, ◌≐◌, ◌⇔◌}

unfoldable pub rules : List Rule
rules =
    (1 ▸ Void <= p from [])
    ∷ (2 ▸ p <= p from [] ++ f => f from [])
    ∷ (3 ▸ p <= r from p <= q ∷ q <= r ∷ [] ++ f => h from f => g ∷ g => h ∷ [])
    ∷ (4 ▸ p <= q ¦ r from p <= q ∷ [])
    ∷ (5 ▸ p <= q ¦ r from p <= r ∷ [])
    ∷ (6 ▸ p ¦ q <= r from p <= r ∷ q <= r ∷ [])
    ∷ (7 ▸ p ∕ q <= r ∕ s from p <= r ∷ q <= s ∷ [])
    ∷ (8 ▸ a :: N <= b :: M from [] if a_below_b ∷ N_below_M ∷ [])
    ∷ (9 ▸ p ⟦ f ⟧ <= r ⟦ g ⟧ from p <= r ∷ f => g ∷ [])
    ∷ (10 ▸ p ∕ a :: N <= r ∕ b :: M from a :: N <= b :: M ∷ p <= r ∕ b :: star_test ∷ [] if b_from_3_to_10 ∷ []
    ++ p ∕ a :: N <= r ∕ b :: M from a :: N <= b :: M ∷ p <= r ∕ b :: node_test ∷ [] if b_from_3_to_10 ∷ [])
    ∷ (11 ▸ p ∕ q <= r ∕ s from p ⟦ some_of q ⟧ <= r ∷ q <= s ∷ [])
    ∷ (12 ▸ (p In q) => (r In s) from r <= p ∷ q <= s ∷ [])
    ∷ (13 ▸ Not f => Not g from g => f ∷ [])
    ∷ (14 ▸ f => True from [])
    ∷ (15 ▸ False => f from [])
    ∷ (16 ▸ f And g => h from g => h ∷ [])
    ∷ (17 ▸ f And g => h from f => h ∷ [])
    ∷ (18 ▸ f => g And h from f => g ∷ f => h ∷ [])
    ∷ (19 ▸ f => g Or h from f => g ∷ [])
    ∷ (20 ▸ f => g Or h from f => h ∷ [])
    ∷ (21 ▸ f Or g => h from f => h ∷ g => h ∷ [])
    ∷ (22 ▸ (child :: node_test In Void) => (descendant :: N In Void) from [] ++ (child :: star_test In Void) => (descendant :: N In Void) from [] if N_a_name_or_star ∷ [])
    ∷ (23 ▸ (parent :: node_test In Void) => (ancestor :: N In Void) from [] ++ (parent :: star_test In Void) => (ancestor :: N In Void) from [] if N_a_name_or_star ∷ [])
    ∷ (24 ▸ p <= Void from True => (p In Void) ∷ [])
    ∷ (25 ▸ p ⟦ f And g ⟧ <= Void from f => Not g ∷ [])
    ∷ (26 ▸ p ∕ a :: N <= Root ∕ descendant :: M from [] if N_below_M ∷ N_not_node ∷ a_not_attribute ∷ [])
    ∷ (27 ▸ p ≐ p ⟦ True ⟧)
    ∷ (28 ▸ p ≐ self :: node_test ∕ p)
    ∷ (29 ▸ p ≐ p ∕ self :: node_test)
    ∷ (30 ▸ p ⟦ False ⟧ ≐ Void)
    ∷ (31 ▸ p ⟦ f ⟧ ⟦ g ⟧ ≐ p ⟦ f And g ⟧)
    ∷ (32 ▸ p ⟦ f ⟧ ¦ p ⟦ g ⟧ ≐ p ⟦ f Or g ⟧)
    ∷ (33 ▸ (p ¦ q) ∕ r ≐ p ∕ r ¦ q ∕ r)
    ∷ (34 ▸ p ∕ (q ¦ r) ≐ p ∕ q ¦ p ∕ r)
    ∷ (35 ▸ (p ¦ q) ⟦ f ⟧ ≐ p ⟦ f ⟧ ¦ q ⟦ f ⟧)
    ∷ (36 ▸ (p ∕ q) ∕ r ≐ p ∕ (q ∕ r))
    ∷ (37 ▸ (p ∕ q) ⟦ f ⟧ ≐ p ∕ (q ⟦ f ⟧))
    ∷ (38 ▸ (p ∕ q In Void) ⇔ (p ⟦ some_of q ⟧ In Void))
    ∷ (39 ▸ Not (f And g) ⇔ Not f Or Not g)
    ∷ (40 ▸ Not (f Or g) ⇔ Not f And Not g)
    ∷ (41 ▸ f And (g Or h) ⇔ (f And g) Or (f And h))
    ∷ (42 ▸ f Or (g And h) ⇔ (f Or g) And (f Or h))
    ∷ (43 ▸ Not (Not f) ⇔ f)
    ∷ (44 ▸ Not True ⇔ False)
    ∷ (45 ▸ Not False ⇔ True)
    ∷ (46 ▸ ((p ¦ q) In r) ⇔ (p In r) And (q In r))
    ∷ (47 ▸ f And Not f ⇔ False)
    ∷ (48 ▸ child :: N ⟦ f ⟧ ∕ parent :: M ≐ self :: M ⟦ some_of (child :: N ⟦ f ⟧) ⟧)
    ∷ (49 ▸ descendant :: N ⟦ f ⟧ ∕ parent :: M ≐ descendant_or_self :: M ⟦ some_of (child :: N ⟦ f ⟧) ⟧)
    ∷ (50 ▸ [])  -- it yields nothing
    ∷ (51 ▸ descendant :: N ⟦ f ⟧ ∕ child :: M <= descendant :: M ⟦ some_of (parent :: N ⟦ f ⟧) ⟧ from [])
    ∷ (52 ▸ descendant_or_self :: N ≐ descendant :: N ¦ self :: N)
    ∷ (53 ▸ ancestor_or_self :: N ≐ ancestor :: N ¦ self :: N)
    ∷ (54 ▸ (ancestor_or_self :: node_test ∕ following_sibling :: node_test) ∕ descendant_or_self :: N <= following :: N from [])
    ∷ (55 ▸ preceding :: N ≐ (ancestor_or_self :: node_test ∕ preceding_sibling :: node_test) ∕ descendant_or_self :: N)
    ∷ (56 ▸ p ∕ Root <= Root from [])
    ∷ (57 ▸ Root <= ancestor_or_self :: node_test from [])
    ∷ (58 ▸ a :: node_test ∕ self :: N ≐ a :: N if a_not_attribute ∷ [])
    ∷ []
