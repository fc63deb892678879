-- The rules that name no axis and no test are sound on every well-formed document.
use mathlib.Core.Logic.{inl, inr, ⊎_elim}
use lib.Dec.{T}
use Rattle.xpath.specs.Document.{Document, well_formed}
use Rattle.xpath.proofs.Facts.{holds_dec}
use Rattle.rules.specs.Form.{QualifierLetter}
use Rattle.rules.proofs.RuleSound.{RuleSound, each_way}

module _ (d : Document) (w : T (well_formed d)) where
  pub rule1 : RuleSound d 1
  unfolding RuleSound
  rule1 = (λ e met g x y k l s. absurd s, tt)

  pub rule2 : RuleSound d 2
  unfolding RuleSound
  rule2 = (λ e met g x y k l s. s, (λ e met g x k h. h, tt))

  pub rule3 : RuleSound d 3
  unfolding RuleSound
  rule3 = (λ e met (F, (G, _)) x y k l s. G x y k l (F x y k l s), (λ e met (F, (G, _)) x k h. G x k (F x k h), tt))

  pub rule4 : RuleSound d 4
  unfolding RuleSound
  rule4 = (λ e met (F, _) x y k l s. inl (F x y k l s), tt)

  pub rule5 : RuleSound d 5
  unfolding RuleSound
  rule5 = (λ e met (F, _) x y k l s. inr (F x y k l s), tt)

  pub rule6 : RuleSound d 6
  unfolding RuleSound
  rule6 = (λ e met (F, (G, _)) x y k l. ⊎_elim (F x y k l) (G x y k l), tt)

  pub rule7 : RuleSound d 7
  unfolding RuleSound
  rule7 = (λ e met (F, (G, _)) x y k l (z, m, a, b). (z, m, F x z k m a, G z y m l b), tt)

  pub rule9 : RuleSound d 9
  unfolding RuleSound
  rule9 = (λ e met (F, (G, _)) x y k l (a, h). (F x y k l a, G y l h), tt)

  pub rule11 : RuleSound d 11
  unfolding RuleSound
  rule11 = (λ e met (F, (G, _)) x y k l (z, m, a, b). (z, m, F x z k m (a, λ n. n y l b), G z y m l b), tt)

  pub rule12 : RuleSound d 12
  unfolding RuleSound
  rule12 = (λ e met (F, (G, _)) x k i y l a. G x y k l (i y l (F x y k l a)), tt)

  pub rule13 : RuleSound d 13
  unfolding RuleSound
  rule13 = (λ e met (F, _) x k n h. n (F x k h), tt)

  pub rule14 : RuleSound d 14
  unfolding RuleSound
  rule14 = (λ e met g x k h. tt, tt)

  pub rule15 : RuleSound d 15
  unfolding RuleSound
  rule15 = (λ e met g x k h. absurd h, tt)

  pub rule16 : RuleSound d 16
  unfolding RuleSound
  rule16 = (λ e met (F, _) x k (a, b). F x k b, tt)

  pub rule17 : RuleSound d 17
  unfolding RuleSound
  rule17 = (λ e met (F, _) x k (a, b). F x k a, tt)

  pub rule18 : RuleSound d 18
  unfolding RuleSound
  rule18 = (λ e met (F, (G, _)) x k a. (F x k a, G x k a), tt)

  pub rule19 : RuleSound d 19
  unfolding RuleSound
  rule19 = (λ e met (F, _) x k a. inl (F x k a), tt)

  pub rule20 : RuleSound d 20
  unfolding RuleSound
  rule20 = (λ e met (F, _) x k a. inr (F x k a), tt)

  pub rule21 : RuleSound d 21
  unfolding RuleSound
  rule21 = (λ e met (F, (G, _)) x k. ⊎_elim (F x k) (G x k), tt)

  pub rule24 : RuleSound d 24
  unfolding RuleSound
  rule24 = (λ e met (F, _) x y k l a. F x k tt y l a, tt)

  pub rule25 : RuleSound d 25
  unfolding RuleSound
  rule25 = (λ e met (F, _) x y k l (a, (b, c)). F y l b c, tt)

  pub rule27 : RuleSound d 27
  unfolding RuleSound
  rule27 = each_way (λ e. (λ x y k l a. (a, tt), λ x y k l a. a.0))

  pub rule30 : RuleSound d 30
  unfolding RuleSound
  rule30 = each_way (λ e. (λ x y k l a. a.1, λ x y k l a. absurd a))

  pub rule31 : RuleSound d 31
  unfolding RuleSound
  rule31 = each_way (λ e. (λ x y k l ((a, b), c). (a, (b, c)), λ x y k l (a, (b, c)). ((a, b), c)))

  pub rule32 : RuleSound d 32
  unfolding RuleSound
  rule32 = each_way (λ e. (
    λ x y k l. ⊎_elim (λ (a, b). (a, inl b)) (λ (a, b). (a, inr b)),
    λ x y k l (a, b). ⊎_elim (λ c. inl (a, c)) (λ c. inr (a, c)) b,
  ))

  pub rule33 : RuleSound d 33
  unfolding RuleSound
  rule33 = each_way (λ e. (
    λ x y k l (z, m, a, b). ⊎_elim (λ c. inl (z, m, c, b)) (λ c. inr (z, m, c, b)) a,
    λ x y k l. ⊎_elim (λ (z, m, a, b). (z, m, inl a, b)) (λ (z, m, a, b). (z, m, inr a, b)),
  ))

  pub rule34 : RuleSound d 34
  unfolding RuleSound
  rule34 = each_way (λ e. (
    λ x y k l (z, m, a, b). ⊎_elim (λ c. inl (z, m, a, c)) (λ c. inr (z, m, a, c)) b,
    λ x y k l. ⊎_elim (λ (z, m, a, b). (z, m, a, inl b)) (λ (z, m, a, b). (z, m, a, inr b)),
  ))

  pub rule35 : RuleSound d 35
  unfolding RuleSound
  rule35 = each_way
      (λ e. (
        λ x y k l (a, h). ⊎_elim (λ c. inl (c, h)) (λ c. inr (c, h)) a,
        λ x y k l. ⊎_elim (λ (a, h). (inl a, h))
            (λ (a, h). (inr a, h)),
      ))

  pub rule36 : RuleSound d 36
  unfolding RuleSound
  rule36 = each_way
      (λ e. (
        λ x y k l (z, m, (u, n, a, b), c). (u, n, a, (z, m, b, c)),
        λ x y k l (u, n, a, (z, m, b, c)). (z, m, (u, n, a, b), c),
      ))

  pub rule37 : RuleSound d 37
  unfolding RuleSound
  rule37 = each_way
      (λ e. (λ x y k l ((z, m, a, b), h). (z, m, a, (b, h)), λ x y k l (z, m, a, (b, h)). ((z, m, a, b), h)))

  pub rule38 : RuleSound d 38
  unfolding RuleSound
  rule38 = each_way
      (λ e. (λ x k i z m (a, h). h (λ y l b. i y l (z, m, a, b)), λ x k i y l (z, m, a, b). i z m (a, λ n. n y l b)))

  pub rule39 : RuleSound d 39
  unfolding RuleSound
  rule39 = each_way
      (λ e. (
        λ x k n. ⊎_elim (λ a. inr (λ b. n (a, b))) inl (holds_dec d w (e.qualifier QualifierLetter.f) x k),
        λ x k. ⊎_elim (λ n (a, b). n a) (λ n (a, b). n b),
      ))

  pub rule40 : RuleSound d 40
  unfolding RuleSound
  rule40 = each_way (λ e. (λ x k n. (λ a. n (inl a), λ b. n (inr b)), λ x k (m, n). ⊎_elim m n))

  pub rule41 : RuleSound d 41
  unfolding RuleSound
  rule41 = each_way
      (λ e. (
        λ x k (a, b). ⊎_elim (λ c. inl (a, c)) (λ c. inr (a, c)) b,
        λ x k. ⊎_elim (λ (a, b). (a, inl b))
            (λ (a, b). (a, inr b)),
      ))

  pub rule42 : RuleSound d 42
  unfolding RuleSound
  rule42 = each_way
      (λ e. (
        λ x k. ⊎_elim (λ a. (inl a, inl a)) (λ (b, c). (inr b, inr c)),
        λ x k (a, b). ⊎_elim inl (λ c. ⊎_elim inl (λ h. inr (c, h)) b) a,
      ))

  pub rule43 : RuleSound d 43
  unfolding RuleSound
  rule43 = each_way
      (λ e. (
        λ x k n. ⊎_elim (λ a. a) (λ m. absurd (n m)) (holds_dec d w (e.qualifier QualifierLetter.f) x k),
        λ x k a n. n a,
      ))

  pub rule44 : RuleSound d 44
  unfolding RuleSound
  rule44 = each_way (λ e. (λ x k n. n tt, λ x k a. absurd a))

  pub rule45 : RuleSound d 45
  unfolding RuleSound
  rule45 = each_way (λ e. (λ x k n. tt, λ x k a b. b))

  pub rule46 : RuleSound d 46
  unfolding RuleSound
  rule46 = each_way
      (λ e. (λ x k i. (λ y l a. i y l (inl a), λ y l a. i y l (inr a)), λ x k (i, j) y l. ⊎_elim (i y l) (j y l)))

  pub rule47 : RuleSound d 47
  unfolding RuleSound
  rule47 = each_way (λ e. (λ x k (a, n). n a, λ x k a. absurd a))

  pub rule56 : RuleSound d 56
  unfolding RuleSound
  rule56 = (λ e met g x y k l (z, m, a, h). h, tt)
