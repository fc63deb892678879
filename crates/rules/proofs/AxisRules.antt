-- The rules that name axes or tests are sound on every well-formed document.
use Prim.Native.Nat.{◌<◌}
use mathlib.Core.Path.{◌≡◌, refl, sym, ◌∙◌, subst}
use mathlib.Core.List.{[], ◌∷◌}
use mathlib.Core.Logic.{inl, inr, ⊎_elim}
use native.Mathlib.Omega.{arith}
use lib.Dec.{T}
use mir.Facts.{eqb_no}
use Rattle.xpath.specs.Document.{Document, kind_at, parent_at, well_formed}
use Rattle.common.specs.Axes.{self, child, parent, descendant, ancestor}
use Rattle.xpath.specs.Axis.{passes}
use Rattle.common.proofs.Reflect.{facts, eq_or_ne}
use Rattle.xpath.proofs.Tree.{parent_is, ancestor_trans, ancestor_cases, descendant_positive, child_toward}
use Rattle.xpath.proofs.Tree.{parent_smaller, root_above, root_kind, ancestor_is_element}
use Rattle.xpath.proofs.Facts.{Selects, OnAxis, some_iff}
use Rattle.xpath.proofs.Order.{below_of, or_self_of_ancestor, or_self_in_document, none_above, following_by_siblings}
use Rattle.xpath.proofs.Order.{preceding_by_siblings, axis_transitive}
use Rattle.rules.specs.Form.{AxisLetter, TestLetter, TestForm, ◌::◌, ◌⟦◌⟧, a_below_b, N_below_M, b_from_3_to_10}
use Rattle.rules.specs.Form.{N_a_name_or_star, N_not_node, a_not_attribute}
use Rattle.rules.specs.Notation
use Rattle.rules.specs.Instance.{axis_for, test_for, path_for, claim_for, meets}
use Rattle.rules.specs.values.RuleTen.{rule10_form}
use Rattle.rules.proofs.RuleSound.{FormSound, RuleSound, each_way_if, each_way}
use Rattle.rules.proofs.Orders.{axis_below_lem, element_axis, same_test, test_below_lem, element_test, yes_star}
use Rattle.rules.proofs.Orders.{plain_kind}

module _ (d : Document) (w : T (well_formed d)) where
  pub rule8 : RuleSound d 8
  unfolding RuleSound
  rule8 = (
    λ e met g x y k l (o, t).
        let a = e.axis AxisLetter.a in
        let b = e.axis AxisLetter.b in
        let m = e.test TestLetter.M in
        let (kind, carries) = axis_below_lem d w a b (met a_below_b tt) in (
          carries x y k l o,
          same_test a b m.test m.name d y kind (test_below_lem a (e.test TestLetter.N) m d y
              (met N_below_M tt) t),
        ),
    tt,
  )

  -- the test that ends the second premise of rule 10 is not looked at: the axis b goes on from where it led
  rule10_ending : (test : TestForm) → FormSound d (rule10_form test)
  unfolding meets claim_for path_for axis_for test_for Selects
  rule10_ending test e met (F, (G, _)) x y k l (z, m, s, t) =
      let (low, high) = simp facts at (met b_from_3_to_10 tt) in
      let (u, j, v, (o, _)) = G x z k m s in
      let (c, q) = F z y m l t in
      (u, j, v, (axis_transitive d w (e.axis AxisLetter.b) low high u z y j l o c, q))

  pub rule10 : RuleSound d 10
  unfolding RuleSound
  rule10 = (rule10_ending Notation.star_test, (rule10_ending Notation.node_test, tt))

  pub rule22 : RuleSound d 22
  unfolding RuleSound OnAxis passes
  rule22 = (
    λ e met g x k i y l ((a, v), n). let (z, h, o) = child_toward a in
        i z (or_self_in_document d w l o) ((h, none_above d w l v o), tt),
    (
      λ e met g x k i y l ((a, v), n).
          let (z, h, o) = child_toward a in
          let q : kind_at d z ≡ 1 = ⊎_elim
          (λ q. rw q (element_test descendant (e.test TestLetter.N) d y (met N_a_name_or_star tt) n))
          (λ b. ancestor_is_element d w l h.0 b) o in
          i z (or_self_in_document d w l o) ((h, none_above d w l v o), yes_star child d z q),
      tt,
    ),
  )

  pub rule23 : RuleSound d 23
  unfolding RuleSound OnAxis passes
  rule23 = (
    λ e met g x k i y l (a, n).
        let h : parent_at d x < x = parent_smaller d w x k (descendant_positive a) in
        i (parent_at d x) (omega arith) ((descendant_positive a, refl), tt),
    (
      λ e met g x k i y l (a, n).
          let p = descendant_positive a in
          let h : parent_at d x < x = parent_smaller d w x k p in
          let q : kind_at d (parent_at d x) ≡ 1 =
          ⊎_elim (λ q. rw q (element_test ancestor (e.test TestLetter.N) d y (met N_a_name_or_star tt) n))
          (λ b. ancestor_is_element d w k (descendant_positive b) (parent_is p refl)) (ancestor_cases a) in
          i (parent_at d x) (omega arith) ((p, refl), yes_star parent d (parent_at d x) q),
      tt,
    ),
  )

  pub rule26 : RuleSound d 26
  unfolding RuleSound OnAxis
  rule26 = (
    λ e met g x y k l (z, m, s, (o, t)).
        let n = e.test TestLetter.N in
        let m = e.test TestLetter.M in
        let c = element_axis (e.axis AxisLetter.a) (eqb_no (met a_not_attribute tt)) in
        let u = same_test (e.axis AxisLetter.a) self n.test n.name d y c t in
        let (h, j) = plain_kind n.test n.name d y (eqb_no (met N_not_node tt)) u in
        let q : 0 < y = ⊎_elim (λ (q : y ≡ 0). let r : kind_at d y ≡ 0 = rw q (root_kind d w (omega arith)) in
        absurd (omega arith)) (λ q. omega (arith, q)) (eq_or_ne y 0) in (
          0,
          omega arith,
          refl,
          (
            (root_above d w y l q, λ e. omega arith),
            same_test self descendant m.test m.name d y refl (test_below_lem self n m d y (met N_below_M tt) u),
          ),
        ),
    tt,
  )

  pub rule28 : RuleSound d 28
  unfolding RuleSound OnAxis passes
  rule28 = each_way (λ e. (λ x y k l a. (x, k, (refl, tt), a), λ x y k l (z, m, (q, t), b). rw q b))

  pub rule29 : RuleSound d 29
  unfolding RuleSound OnAxis passes
  rule29 = each_way (λ e. (λ x y k l a. (y, l, a, (refl, tt)), λ x y k l (z, m, b, (q, t)). rw q at b))

  pub rule48 : RuleSound d 48
  unfolding RuleSound OnAxis passes
  rule48 = each_way (λ e. (
    λ x y k l (z, i, (((a, v), t), h), (b, u)). ((sym a.1 ∙ b.1, u), λ n. n z i (((b, v), t), h)),
    λ x y k l ((q, u), h).
        let (z, i, (((a, v), t), g)) = (some_iff d w (path_for e (Notation.child :: Notation.N ⟦ Notation.f ⟧)) y l).0
        h in
        (z, i, ((((a.0, a.1 ∙ sym q), v), t), g), (a, u)),
  ))

  pub rule49 : RuleSound d 49
  unfolding RuleSound OnAxis passes
  rule49 = each_way (λ e. (
    λ x y k l (z, i, (((a, v), t), h), (b, u)).
        let m = none_above d w i v (inr (parent_is b.0 b.1)) in (
          (⊎_elim (λ q. inl (sym q ∙ b.1)) (λ q. inr (rw b.1 at q, m)) (ancestor_cases a), u),
          λ n. n z i (((b, v), t), h),
        ),
    λ x y k l ((q, u), h).
        let (z, i, (((a, v), t), g)) = (some_iff d w (path_for e (Notation.child :: Notation.N ⟦ Notation.f ⟧)) y l).0
        h in
        (z, i, (((or_self_of_ancestor (below_of q) (parent_is a.0 a.1), v), t), g), (a, u)),
  ))

  -- it has no form
  pub rule50 : RuleSound d 50
  unfolding RuleSound
  rule50 = tt

  pub rule51 : RuleSound d 51
  unfolding RuleSound OnAxis passes
  rule51 = (
    λ e met g x y k l (z, i, (((a, v), t), h), ((b, m), u)). (
      ((ancestor_trans a (parent_is b.0 b.1), m), u),
      λ n. n z i ((b, t), h),
    ),
    tt,
  )

  pub rule52 : RuleSound d 52
  unfolding RuleSound OnAxis passes
  rule52 = each_way (λ e. (
    λ x y k l (o, t). ⊎_elim (λ q. inr (q, t)) (λ a. inl (a, t)) o,
    λ x y k l. ⊎_elim (λ (a, t). (inr a, t)) (λ (q, t). (inl q, t)),
  ))

  pub rule53 : RuleSound d 53
  unfolding RuleSound OnAxis passes
  rule53 = each_way (λ e. (
    λ x y k l (o, t). ⊎_elim (λ q. inr (sym q, t)) (λ a. inl (a, t)) o,
    λ x y k l. ⊎_elim (λ (a, t). (inr a, t)) (λ (q, t). (inl (sym q), t)),
  ))

  pub rule54 : RuleSound d 54
  unfolding RuleSound passes
  rule54 = (
    λ e met g x y k l (s, j, (a, i, (o, _), (b, _)), (u, t)).
        (following_by_siblings d w x y k l (a, s, i, j, o, b, u), t),
    tt,
  )

  pub rule55 : RuleSound d 55
  unfolding RuleSound passes
  rule55 = each_way (λ e. (
    λ x y k l (f, t). let (a, s, i, j, o, b, u) = (preceding_by_siblings d w x y k l).0 f in
        (s, j, (a, i, (o, tt), (b, tt)), (u, t)),
    λ x y k l (s, j, (a, i, (o, _), (b, _)), (u, t)). ((preceding_by_siblings d w x y k l).1 (a, s, i, j, o, b, u), t),
  ))

  pub rule57 : RuleSound d 57
  unfolding RuleSound OnAxis passes
  rule57 = (
    λ e met g x y k l q. (
      ⊎_elim (λ r. inl (q ∙ sym r)) (λ r. inr (rw q (root_above d w x k (omega arith))))
          (eq_or_ne x 0),
      tt,
    ),
    tt,
  )

  pub rule58 : RuleSound d 58
  unfolding RuleSound OnAxis passes
  rule58 = each_way_if (a_not_attribute ∷ []) (λ e met.
      let a = e.axis AxisLetter.a in
      let n = e.test TestLetter.N in
      let c = element_axis a (eqb_no (met a_not_attribute tt)) in (
        λ x y k l (z, m, (o, t), (q, u)). (
          subst (λ v. OnAxis a d x v) q o,
          same_test self a n.test n.name d y
              (sym c) u,
        ),
        λ x y k l (o, u). (y, l, (o, tt), (refl, same_test a self n.test n.name d y c u)),
      ))
