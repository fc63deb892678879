-- What a rule yields from claims that are true on every well-formed document, of any length, is true there.
use Prim.Native.Nat.{ℕ}
use mathlib.Core.Path.{◌≡◌, sym, subst}
use mathlib.Core.Bool.{Bool, true, false, cond}
use mathlib.Core.List.{List, [], ◌∷◌}
use mathlib.Core.Logic.{ite, ⊎_elim}
use lib.Dec.{T, eqb}
use mir.Facts.{and_yes}
use Rattle.xpath.specs.Document.{Document, well_formed}
use Rattle.xpath.proofs.Facts.{selects_in_document, selects_iff, holds_iff}
use Rattle.common.specs.Lists.{all_of, Every}
use Rattle.rules.specs.Form.{Condition, Condition-discrete, Form, Rule}
use Rattle.rules.specs.RuleTable.{rules}
use Rattle.rules.specs.Claim.{Claim, Containment, Implication, TrueOn, IsTrue}
use Rattle.rules.specs.Instance.{Letters, meets}
use Rattle.rules.specs.Yields.{forms_in, forms_of, FormYields, Yields}
use Rattle.common.proofs.Entries.{◌&◌, every_at, every_map}
use Rattle.rules.proofs.RuleSound.{is_among, MeetsAll, Means, FormSound, RuleSound}
use Rattle.rules.proofs.Rules.{rule1, rule2, rule3, rule4, rule5, rule6, rule7, rule9, rule11, rule12, rule13}
use Rattle.rules.proofs.Rules.{rule14, rule15, rule16, rule17, rule18, rule19, rule20, rule21, rule24, rule25}
use Rattle.rules.proofs.Rules.{rule27, rule30, rule31, rule32, rule33, rule34, rule35, rule36, rule37, rule38}
use Rattle.rules.proofs.Rules.{rule39, rule40, rule41, rule42, rule43, rule44, rule45, rule46, rule47, rule56}
use Rattle.rules.proofs.WayBackSound.{way_back_sound}
use Rattle.rules.proofs.AxisRules.{rule8, rule10, rule22, rule23, rule26, rule28, rule29, rule48, rule49, rule50}
use Rattle.rules.proofs.AxisRules.{rule51, rule52, rule53, rule54, rule55, rule57, rule58}

table_sound : (d : Document) → T (well_formed d) → Every (λ r. Every (FormSound d) r.forms) rules
unfolding RuleSound
table_sound d w =
    rule1 d w
    & rule2 d w
    & rule3 d w
    & rule4 d w
    & rule5 d w
    & rule6 d w
    & rule7 d w
    & rule8 d w
    & rule9 d w
    & rule10 d w
    & rule11 d w
    & rule12 d w
    & rule13 d w
    & rule14 d w
    & rule15 d w
    & rule16 d w
    & rule17 d w
    & rule18 d w
    & rule19 d w
    & rule20 d w
    & rule21 d w
    & rule22 d w
    & rule23 d w
    & rule24 d w
    & rule25 d w
    & rule26 d w
    & rule27 d w
    & rule28 d w
    & rule29 d w
    & rule30 d w
    & rule31 d w
    & rule32 d w
    & rule33 d w
    & rule34 d w
    & rule35 d w
    & rule36 d w
    & rule37 d w
    & rule38 d w
    & rule39 d w
    & rule40 d w
    & rule41 d w
    & rule42 d w
    & rule43 d w
    & rule44 d w
    & rule45 d w
    & rule46 d w
    & rule47 d w
    & rule48 d w
    & rule49 d w
    & rule50 d w
    & rule51 d w
    & rule52 d w
    & rule53 d w
    & rule54 d w
    & rule55 d w
    & rule56 d w
    & rule57 d w
    & rule58 d w
    & tt

-- what is true of every form of a table is true of the forms of rule n
forms_at : (P : Form → Type 0) (rs : List Rule) → Every (λ r. Every P r.forms) rs → (n : ℕ) → Every P (forms_in rs n)
unfolding forms_in
forms_at P [] h n = tt
forms_at P (r ∷ rs) h n = by_number (eqb r.number n) (forms_at P rs h.1 n)
  where
    by_number : (b : Bool) → Every P (forms_in rs n) → Every P (cond b r.forms (forms_in rs n))
    by_number true later = h.0
    by_number false later = later

conditions_met : (e : Letters) (ts : List Condition) → T (all_of (meets e) ts) → MeetsAll e ts
unfolding all_of
conditions_met e [] met t m = absurd m
conditions_met e (u ∷ us) met t m =
    let r = and_yes (meets e u) (all_of (meets e) us) met in
    by_first (Condition-discrete t u) r.0 (conditions_met e us r.1 t) m
  where
    by_first : (q : Dec (t ≡ u)) → T (meets e u) → (T (is_among t us) → T (meets e t)) → T (ite q true (is_among t us))
        → T (meets e t)
    by_first (yes q) first later m = rw q first
    by_first (no n) first later m = later m

-- a claim is true on a document, by the tests and by the facts
module _ (d : Document) (w : T (well_formed d)) where
  true_means : (c : Claim) → TrueOn d c → Means d c
  unfolding TrueOn
  true_means (Containment p q) h =
      λ x y k l s. (selects_iff d w q x y k l).0 (h x k y ((selects_iff d w p x y k l).1 s))
  true_means (Implication f g) h = λ x k s. (holds_iff d w g x k).0 (h x k ((holds_iff d w f x k).1 s))

  means_true : (c : Claim) → Means d c → TrueOn d c
  unfolding TrueOn
  means_true (Containment p q) h = λ x k y t.
      let l = selects_in_document d p x y t in
      (selects_iff d w q x y k l).1 (h x y k l ((selects_iff d w p x y k l).0 t))
  means_true (Implication f g) h = λ x k t. (holds_iff d w g x k).1 (h x k ((holds_iff d w f x k).0 t))

-- a form of the table, for letters that meet its conditions
forms_sound : (n : ℕ) (c : Claim) (cs : List Claim) → FormYields n c cs → Every IsTrue cs → IsTrue c
unfolding IsTrue forms_of
forms_sound n c cs y h = λ d w.
    let form-sound = every_at (FormSound d) (forms_of n) (forms_at (FormSound d) rules (table_sound d w) n)
    y.of_rule in
    let met = conditions_met y.letters y.form.conditions y.conditions in
    let premises = every_map IsTrue (Means d) (λ c t. true_means d w c (t d w)) cs h in
    means_true d w c
    (subst (Means d) y.conclusion
    (form-sound y.letters met (subst (Every (Means d)) (sym y.premises) premises)))

-- whatever rule yields a claim from true ones, the claim is true
pub yields_sound : (n : ℕ) (c : Claim) (cs : List Claim) → Yields n c cs → Every IsTrue cs → IsTrue c
unfolding IsTrue
yields_sound n c cs y h = ⊎_elim (λ f. forms_sound n c cs f h) (λ b d w. means_true d w c (way_back_sound d b)) y
