-- What a lower axis or test selects, a higher one selects.
use Prim.Native.Nat.{ℕ, zero, suc, ◌<◌}
use mathlib.Core.Path.{◌≡◌, refl, sym, subst, subst₂}
use mathlib.Core.Bool.{Bool, ◌&&◌, ◌||◌}
use mathlib.Core.List.{List, [], ◌∷◌}
use mathlib.Core.List.Memᴰ
use mathlib.Core.List.{Memᴰ}
use mathlib.Core.Logic.{◌≢◌, ◌↔◌, ◌⊎◌, inl, inr, ⊎_elim}
use native.Mathlib.Omega.{arith}
use lib.Dec.{T, eqb}
use lib.ListN.{length, get_or}
use mir.Facts.{and_yes, or_yes, eqb_yes, yes_eqb}
use borrow.Author.Tests.{ne_eqb}
use Rattle.xpath.specs.Document.{Document, kind_at, parent_at, name_at, well_formed}
use Rattle.common.specs.Axes.{self, descendant, ancestor, following_sibling, preceding_sibling, following, preceding}
use Rattle.common.specs.Axes.{attribute}
use Rattle.common.specs.NodeTests.{name_test, star_test, node_test, instruction_test, target_test}
use Rattle.xpath.specs.Axis.{on_axis, principal, passes}
use Rattle.common.proofs.Reflect.{T-dec, facts}
use Rattle.xpath.proofs.Tree.{Child, Ancestor, parent_is, above_parent, ancestor_cases, descendant_positive}
use Rattle.xpath.proofs.Facts.{NoAttribute, OnAxis, on_axis_iff}
use Rattle.xpath.proofs.Order.{following_sibling_follows}
use Rattle.xpath.proofs.Targets.{has_target}
use Rattle.common.specs.Lists.{all_of, any_of, Every}
use Rattle.rules.specs.Instance.{Test}
use Rattle.rules.specs.Order.{axis_pairs, is_pair, axis_below, test_below}
use Rattle.common.proofs.Entries.{every_at, all_of_yes}

-- a pair that is found in a table is an entry of it
pub pair_entry : (es : List (ℕ × ℕ)) (a b : ℕ) → T (is_pair es a b) → Memᴰ (a, b) es
unfolding is_pair
pair_entry [] a b t = absurd t
pair_entry (e ∷ es) a b t =
    ⊎_elim
    (λ u. let r = and_yes (eqb e.0 a) (eqb e.1 b) u in
    subst₂ (λ a b. Memᴰ (a, b) (e ∷ es)) (eqb_yes r.0) (eqb_yes r.1) (Memᴰ.head refl))
    (λ u. Memᴰ.tail (pair_entry es a b u))
    (or_yes (eqb e.0 a && eqb e.1 b) (is_pair es a b) t)

-- what is true of every pair of a table is true of each that is found in it
pub pair_at : (P : ℕ → ℕ → Type 0) (es : List (ℕ × ℕ)) → Every (λ (e : ℕ × ℕ). P e.0 e.1) es → (a b : ℕ) →
    T (is_pair es a b) → P a b
pair_at P es h a b t = every_at (λ (e : ℕ × ℕ). P e.0 e.1) es h (pair_entry es a b t)

-- so a test that passes at every pair passes at each
pub tested_at : (f : ℕ → ℕ → Bool) (es : List (ℕ × ℕ)) → T (all_of (λ e. f e.0 e.1) es) → (a b : ℕ) →
    T (is_pair es a b) → T (f a b)
tested_at f es t a b u = all_of_yes (λ e. f e.0 e.1) es t (pair_entry es a b u)

-- How a node y may stand to a node x: the relations that the axes are made of.

abbrev itself : ℕ
itself = 0

abbrev a_child : ℕ
a_child = 1

abbrev below_a_child : ℕ
below_a_child = 2

abbrev the_parent : ℕ
the_parent = 3

abbrev above_the_parent : ℕ
above_the_parent = 4

abbrev later_sibling : ℕ
later_sibling = 5

abbrev following_else : ℕ
following_else = 6

abbrev earlier_sibling : ℕ
earlier_sibling = 7

abbrev preceding_else : ℕ
preceding_else = 8

abbrev an_attribute : ℕ
an_attribute = 9

-- y stands so to x
unfoldable Related : Document → (x y relation : ℕ) → Type 0
Related d x y r =
    get_or
    ((x ≡ y)
    ∷ (Child d x y × NoAttribute d y)
    ∷ ((0 < y) × Ancestor d x (parent_at d y) × NoAttribute d y)
    ∷ Child d y x
    ∷ ((0 < x) × Ancestor d y (parent_at d x))
    ∷ OnAxis following_sibling d x y
    ∷ (OnAxis following d x y × ¬ (OnAxis following_sibling d x y))
    ∷ OnAxis preceding_sibling d x y
    ∷ (OnAxis preceding d x y × ¬ (OnAxis preceding_sibling d x y))
    ∷ OnAxis attribute d x y
    ∷ [])
    r ⊥

-- the relations that axis a is made of
unfoldable relations_of : ℕ → List ℕ
relations_of a =
    get_or
    ((itself ∷ [])  -- self
    ∷ (a_child ∷ [])  -- child
    ∷ (the_parent ∷ [])  -- parent
    ∷ (a_child ∷ below_a_child ∷ [])  -- descendant
    ∷ (the_parent ∷ above_the_parent ∷ [])  -- ancestor
    ∷ (itself ∷ a_child ∷ below_a_child ∷ [])  -- descendant-or-self
    ∷ (itself ∷ the_parent ∷ above_the_parent ∷ [])  -- ancestor-or-self
    ∷ (later_sibling ∷ [])  -- following-sibling
    ∷ (earlier_sibling ∷ [])  -- preceding-sibling
    ∷ (later_sibling ∷ following_else ∷ [])  -- following
    ∷ (earlier_sibling ∷ preceding_else ∷ [])  -- preceding
    ∷ (an_attribute ∷ [])  -- attribute
    ∷ [])
    a []

-- y stands to x in one of these ways
abbrev SomeRelated : Document → (x y : ℕ) → List ℕ → Type 0
SomeRelated d x y [] = ⊥
SomeRelated d x y (r ∷ rs) = Related d x y r ⊎ SomeRelated d x y rs

-- axis b has each relation of axis a, and a name or `*` selects the same kind on both
unfoldable carries : (a b : ℕ) → Bool
carries a b = eqb (principal a) (principal b) && all_of (λ r. any_of (eqb r) (relations_of b)) (relations_of a)

-- the one test over the whole axis order, which the check computes
order_carries : T (all_of (λ e. carries e.0 e.1) axis_pairs)
unfolding all_of any_of axis_pairs carries relations_of
order_carries = tt

-- an axis of one relation, in either form
alone : {A : Type 0} → A ↔ (A ⊎ ⊥)
alone = (λ o. inl o, ⊎_elim (λ o. o) (λ e. absurd e))

-- a descendant is a child, or below one
below_iff : {d : Document} {x y : ℕ} → Ancestor d x y ↔ (Child d x y ⊎ ((0 < y) × Ancestor d x (parent_at d y)))
below_iff = (
  λ a. ⊎_elim (λ e. inl (descendant_positive a, e)) (λ b. inr (descendant_positive a, b)) (ancestor_cases a),
  ⊎_elim (λ c. parent_is c.0 c.1) (λ (h, a). above_parent h a),
)

module _ (d : Document) (x y : ℕ) where
  descendant_made : OnAxis descendant d x y ↔ SomeRelated d x y (a_child ∷ below_a_child ∷ [])
  unfolding OnAxis Related
  descendant_made = (
    λ (a, n). ⊎_elim (λ c. inl (c, n)) (λ (h, b). inr (inl (h, b, n))) (below_iff.0 a),
    ⊎_elim
        (λ (c, n). (below_iff.1 (inl c), n))
        (⊎_elim (λ (h, b, n). (below_iff.1 (inr (h, b)), n)) (λ e. absurd e)),
  )

  ancestor_made : OnAxis ancestor d x y ↔ SomeRelated d x y (the_parent ∷ above_the_parent ∷ [])
  unfolding OnAxis Related
  ancestor_made = (
    λ a. ⊎_elim (λ c. inl c) (λ b. inr (inl b)) (below_iff.0 a),
    ⊎_elim (λ c. below_iff.1 (inl c)) (⊎_elim (λ b. below_iff.1 (inr b)) (λ e. absurd e)),
  )

  -- one relation, and some of several, that are among others
  one_of_more : (r : ℕ) (ss : List ℕ) → T (any_of (eqb r) ss) → Related d x y r → SomeRelated d x y ss
  unfolding any_of
  one_of_more r [] t h = absurd t
  one_of_more r (s ∷ ss) t h =
      ⊎_elim (λ u. inl (subst (Related d x y) (eqb_yes u) h)) (λ u. inr (one_of_more r ss u h))
      (or_yes (eqb r s) (any_of (eqb r) ss) t)

  some_of_more : (rs ss : List ℕ) → T (all_of (λ r. any_of (eqb r) ss) rs) → SomeRelated d x y rs
      → SomeRelated d x y ss
  unfolding all_of
  some_of_more [] ss t h = absurd h
  some_of_more (r ∷ rs) ss t h =
      let u = and_yes (any_of (eqb r) ss) (all_of (λ r. any_of (eqb r) ss) rs) t in
      ⊎_elim (λ g. one_of_more r ss u.0 g) (λ g. some_of_more rs ss u.1 g) h

module _ (d : Document) (w : T (well_formed d)) where
  on_axis_dec : (a x y : ℕ) → x < length d → y < length d → OnAxis a d x y ⊎ ¬ (OnAxis a d x y)
  on_axis_dec a x y k l =
      let e = on_axis_iff d w a x y k l in
      ⊎_elim (λ t. inl (e.0 t)) (λ n. inr (λ o. n (e.1 o))) (T-dec (on_axis a d x y))

  -- each axis is made of its relations
  made_of : (a x y : ℕ) → x < length d → y < length d → OnAxis a d x y ↔ SomeRelated d x y (relations_of a)
  unfolding OnAxis Related relations_of
  made_of zero x y k l = alone
  made_of (suc zero) x y k l = alone
  made_of (suc (suc zero)) x y k l = alone
  made_of (suc (suc (suc zero))) x y k l = descendant_made d x y
  made_of (suc (suc (suc (suc zero)))) x y k l = ancestor_made d x y
  made_of (suc (suc (suc (suc (suc zero))))) x y k l = (
    ⊎_elim (λ e. inl e) (λ o. inr ((descendant_made d x y).0 o)),
    ⊎_elim (λ e. inl e) (λ s. inr ((descendant_made d x y).1 s)),
  )
  made_of (suc (suc (suc (suc (suc (suc zero)))))) x y k l = (
    ⊎_elim (λ e. inl (sym e)) (λ o. inr ((ancestor_made d x y).0 o)),
    ⊎_elim (λ e. inl (sym e)) (λ s. inr ((ancestor_made d x y).1 s)),
  )
  made_of (suc (suc (suc (suc (suc (suc (suc zero))))))) x y k l = alone
  made_of (suc (suc (suc (suc (suc (suc (suc (suc zero)))))))) x y k l = alone
  made_of (suc (suc (suc (suc (suc (suc (suc (suc (suc zero))))))))) x y k l = (
    λ f. ⊎_elim (λ s. inl s) (λ n. inr (inl (f, n))) (on_axis_dec following_sibling x y k l),
    ⊎_elim
        (λ (s, m, n). (following_sibling_follows d w l s, n))
        (⊎_elim (λ (f, n). f) (λ e. absurd e)),
  )
  made_of (suc (suc (suc (suc (suc (suc (suc (suc (suc (suc zero)))))))))) x y k l = (
    λ f. ⊎_elim (λ s. inl s) (λ n. inr (inl (f, n))) (on_axis_dec preceding_sibling x y k l),
    ⊎_elim
        (λ (s, m, n). (following_sibling_follows d w k s, n))
        (⊎_elim (λ (f, n). f) (λ e. absurd e)),
  )
  made_of (suc (suc (suc (suc (suc (suc (suc (suc (suc (suc (suc zero))))))))))) x y k l = alone
  made_of (suc (suc (suc (suc (suc (suc (suc (suc (suc (suc (suc (suc a)))))))))))) x y k l = (λ o. o, λ s. s)

  -- the rule at each pair of the axis order: what is on the lower axis of a node is on the higher one, and a name or
  -- `*` selects the same kind on both
  pub axis_below_lem : (a b : ℕ) → T (axis_below a b) →
      (principal a ≡ principal b) × ((x y : ℕ) → x < length d → y < length d → OnAxis a d x y → OnAxis b d x y)
  unfolding axis_below carries
  axis_below_lem a b t =
      let (kind, more) =
      and_yes (eqb (principal a) (principal b)) (all_of (λ r. any_of (eqb r) (relations_of b)) (relations_of a))
      (tested_at carries axis_pairs order_carries a b t) in (
        eqb_yes kind,
        λ x y k l o. (made_of b x y k l).1
            (some_of_more d x y (relations_of a) (relations_of b) more ((made_of a x y k l).0 o)),
      )

-- on axes but 11 a name or `*` selects elements
pub element_axis : (a : ℕ) → a ≢ attribute → principal a ≡ 1
element_axis a h = rw (ne_eqb a attribute h)

-- a test asks the same on axes of one kind
pub same_test : (a b t c : ℕ) (d : Document) (y : ℕ) → principal a ≡ principal b → T (passes a t c d y)
    → T (passes b t c d y)
unfolding passes
same_test a b t c d y e s = rw e at s

-- a node that passes a lower test passes a higher one
pub test_below_lem : (a : ℕ) (n m : Test) (d : Document) (y : ℕ) → T (test_below n.test n.name m.test m.name) →
    T (passes a n.test n.name d y) → T (passes a m.test m.name d y)
unfolding test_below passes
test_below_lem a n m d y b s =
    let same : Bool = eqb n.test m.test && eqb n.name m.name in
    let named : Bool = eqb n.test name_test && eqb m.test star_test in
    let targeted : Bool = eqb n.test target_test && eqb m.test instruction_test in
    ⊎_elim
    (λ b. ⊎_elim
    (λ b. ⊎_elim
    (λ b. let r = simp facts at b in subst₂ (λ t c. T (passes a t c d y)) r.0 r.1 s)
    (λ b. let r = simp facts at b in
    rw r.1 (and_yes (eqb (kind_at d y) (principal a)) (eqb (name_at d y) n.name) (rw r.0 at s)).0)
    (or_yes same named b))
    (λ b. let r = simp facts at b in rw r.1 (yes_eqb (has_target a n.name d y (rw r.0 at s)).0))
    (or_yes (same || named) targeted b))
    (λ b. let r : m.test ≡ node_test = eqb_yes b in rw r tt)
    (or_yes (same || named || targeted) (eqb m.test node_test) b)

-- a name or `*` selects nodes of one kind only
pub element_test : (a : ℕ) (n : Test) (d : Document) (y : ℕ) → T (eqb n.test name_test || eqb n.test star_test) →
    T (passes a n.test n.name d y) → kind_at d y ≡ principal a
unfolding passes
element_test a n d y b s =
    ⊎_elim
    (λ b. let r : n.test ≡ name_test = eqb_yes b in eqb_yes
    (and_yes (eqb (kind_at d y) (principal a)) (eqb (name_at d y) n.name) (rw r at s)).0)
    (λ b. let r : n.test ≡ star_test = eqb_yes b in eqb_yes (rw r at s))
    (or_yes (eqb n.test name_test) (eqb n.test star_test) b)

pub yes_star : (a : ℕ) (d : Document) (y : ℕ) → kind_at d y ≡ principal a → T (passes a star_test 0 d y)
unfolding passes
yes_star a d y e = yes_eqb e

-- only node() selects the root, and on axes but 11 only node() selects an attribute
pub plain_kind : (t c : ℕ) (d : Document) (y : ℕ) → t ≢ node_test → T (passes self t c d y) → (0 < kind_at d y)
    × (kind_at d y < 5)
unfolding passes
plain_kind zero c d y h t = let r = simp facts at t in let e : kind_at d y ≡ 1 = r.0 in (omega arith, omega arith)
plain_kind (suc zero) c d y h t = let r : kind_at d y ≡ 1 = simp facts at t in (omega arith, omega arith)
plain_kind (suc (suc zero)) c d y h t = absurd (h refl)
plain_kind (suc (suc (suc zero))) c d y h t = let r : kind_at d y ≡ 2 = simp facts at t in (omega arith, omega arith)
plain_kind (suc (suc (suc (suc zero)))) c d y h t = let r : kind_at d y ≡ 3 = simp facts at t in
    (omega arith, omega arith)
plain_kind (suc (suc (suc (suc (suc zero))))) c d y h t = let r : kind_at d y ≡ 4 = simp facts at t in
    (omega arith, omega arith)
plain_kind (suc (suc (suc (suc (suc (suc zero)))))) c d y h t =
    let r : kind_at d y ≡ 4 = (has_target self c d y t).0 in (omega arith, omega arith)
plain_kind (suc (suc (suc (suc (suc (suc (suc n))))))) c d y h t = absurd t
