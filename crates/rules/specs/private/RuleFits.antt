-- A test of whether a rule yields a step, and that it decides it.
use Rattle.std.specs.Prelude.{ℕ, ◌≡◌, refl, Bool, true, false, cond, ◌&&◌, ◌||◌, T, eqb}
use Rattle.std.proofs.Common.{sym, ◌∙◌, subst, subst₂, ap, ap₂, inl, inr, ⊎_elim}
use mathlib.Core.List.{List, [], ◌∷◌, map, head-eq_of_cons-eq, tail-eq_of_cons-eq}
use mathlib.Core.List.Memᴰ
use mathlib.Core.List.{Memᴰ}
use Rattle.std.proofs.Math.Logic.{ite}
use Rattle.std.proofs.Math.Option.{Option, none, some}
use Rattle.std.proofs.Math.Decide.{ℕ_discrete}
use Rattle.std.proofs.Math.Facts.{and_yes, yes_and, or_yes, eqb_yes, yes_eqb}
use Rattle.xpath.specs.Term.{Path, Path-discrete, Qualifier-discrete, Filter, some_of}
use Rattle.common.proofs.Reflect.{yes_or}
use Rattle.common.proofs.Entries.{any_of_yes, yes_any_of}
use Rattle.common.specs.Lists.{all_of, any_of}
use Rattle.rules.specs.Order.{axis_pairs, is_pair, axis_below, test_below}
use Rattle.rules.specs.Form.{Form, Rule}
use Rattle.rules.specs.RuleTable.{rules}
use Rattle.rules.specs.Claim.{Claim, Claim-discrete, Containment, Implication}
use Rattle.rules.specs.Instance.{Letters, axis_for, test_for, path_for, claim_for, meets}
use Rattle.rules.specs.WayBack.{opposites, lookup, opposite, joined, way_back}
use Rattle.rules.specs.Yields.{forms_in, forms_of, FormYields, way_back_rule, way_back_claim, WayBackYields, Yields}
use Rattle.rules.specs.private.LettersRead.{read_path, read_claim, read_claims, claim_forms, letters_in}

unfoldable pub same_claims : List Claim → List Claim → Bool
same_claims [] [] = true
same_claims [] (c ∷ cs) = false
same_claims (b ∷ bs) [] = false
same_claims (b ∷ bs) (c ∷ cs) =
    ite (Claim-discrete (Path-discrete ℕ_discrete) (Qualifier-discrete ℕ_discrete) b c) true false && same_claims bs cs

-- for the letters that are read off, the conditions are met and the conclusion and the premises are cs
unfoldable pub fits : List Claim → Form → Bool
fits cs w =
    let e = letters_in w cs in
    all_of (meets e) w.conditions && same_claims (map (claim_for e) (claim_forms w)) cs

-- the test of the table's rules: a form of rule n fits; to unfold it is to unfold all that it computes with
unfoldable pub some_form_fits : ℕ → Claim → List Claim → Bool
unfolding any_of fits same_claims read_claims read_claim read_path forms_of forms_in rules all_of meets axis_below
    is_pair
    axis_pairs test_below claim_for path_for axis_for test_for ℕ_discrete
some_form_fits n c cs = any_of (fits (c ∷ cs)) (forms_of n)

-- a form for a choice of the letters: whether its conditions are met, its conclusion and its premises
record FormInstance : Type 0 where
  met : Bool
  claims : List Claim

abbrev form_for : Letters → Form → FormInstance
form_for e w = record { met = all_of (meets e) w.conditions; claims = map (claim_for e) (claim_forms w) }

-- the same for the letters that are read off it
abbrev form_read : Letters → Form → FormInstance
form_read e w = form_for (letters_in w (map (claim_for e) (claim_forms w))) w

abbrev table_instances : (Form → FormInstance) → List Rule → List (List FormInstance)
table_instances f rs = map (λ r. map f r.forms) rs

-- the letters that are read off serve as well as any, in every form of the table
table_recovered : (e : Letters) → table_instances (form_read e) rules ≡ table_instances (form_for e) rules
unfolding rules all_of meets claim_for path_for axis_for test_for read_claims read_claim read_path
table_recovered e = refl

recovered_in : (f g : Form → FormInstance) (rs : List Rule) → table_instances f rs ≡ table_instances g rs → (n : ℕ)
    → map f (forms_in rs n) ≡ map g (forms_in rs n)
unfolding forms_in
recovered_in f g [] q n = refl
recovered_in f g (r ∷ rs) q n = by_number (eqb r.number n) (recovered_in f g rs (tail-eq_of_cons-eq q) n)
  where
    by_number : (b : Bool) → map f (forms_in rs n) ≡ map g (forms_in rs n) → map f (cond b r.forms (forms_in rs n))
        ≡ map g (cond b r.forms (forms_in rs n))
    by_number true h = head-eq_of_cons-eq q
    by_number false h = h

equal_at : (f g : Form → FormInstance) {w : Form} (ws : List Form) → map f ws ≡ map g ws → Memᴰ w ws → f w ≡ g w
equal_at f g [] q m = absurd (Memᴰ.not-nil m)
equal_at f g (v ∷ ws) q m =
    ⊎_elim (λ e. rw e (head-eq_of_cons-eq q)) (λ m. equal_at f g ws (tail-eq_of_cons-eq q) m) (Memᴰ.cases_cons m)

recovered : (n : ℕ) {w : Form} → Memᴰ w (forms_of n) → (e : Letters) → form_read e w ≡ form_for e w
unfolding forms_of
recovered n m e =
    equal_at (form_read e) (form_for e) (forms_of n)
    (recovered_in (form_read e) (form_for e) rules (table_recovered e) n) m

-- choices for which a form says the same meet its conditions alike
pub settled : (n : ℕ) {w : Form} → Memᴰ w (forms_of n) → (e e₁ : Letters) → map (claim_for e) (claim_forms w)
    ≡ map (claim_for e₁) (claim_forms w) →
    all_of (meets e) w.conditions ≡ all_of (meets e₁) w.conditions
settled n {w} m e e₁ q =
    sym (ap (λ s. s.met) (recovered n m e)) ∙ ap (λ cs. all_of (meets (letters_in w cs)) w.conditions) q
    ∙ ap (λ s. s.met) (recovered n m e₁)

same_yes : (bs cs : List Claim) → T (same_claims bs cs) → bs ≡ cs
unfolding same_claims
same_yes [] [] t = refl
same_yes [] (c ∷ cs) t = absurd t
same_yes (b ∷ bs) [] t = absurd t
same_yes (b ∷ bs) (c ∷ cs) t = heads (Claim-discrete (Path-discrete ℕ_discrete) (Qualifier-discrete ℕ_discrete) b c)
    (same_yes bs cs) t
  where
    heads : (d : Dec (b ≡ c)) → (T (same_claims bs cs) → bs ≡ cs) → T (ite d true false && same_claims bs cs)
        → b ∷ bs ≡ c ∷ cs
    heads (yes q) h t = ap₂ ◌∷◌ q (h t)
    heads (no n) h t = absurd t

yes_same : (cs : List Claim) → T (same_claims cs cs)
unfolding same_claims
yes_same [] = tt
yes_same (c ∷ cs) = heads (Claim-discrete (Path-discrete ℕ_discrete) (Qualifier-discrete ℕ_discrete) c c) (yes_same cs)
  where
    heads : (d : Dec (c ≡ c)) → T (same_claims cs cs) → T (ite d true false && same_claims cs cs)
    heads (yes q) h = h
    heads (no n) h = absurd (n refl)

form_yes : (n : ℕ) (c : Claim) (cs : List Claim) → T (some_form_fits n c cs) → FormYields n c cs
unfolding some_form_fits
form_yes n c cs t =
    let (w, m, f) = any_of_yes (fits (c ∷ cs)) (forms_of n) t in
    let e : Letters = letters_in w (c ∷ cs) in
    let r = and_yes (all_of (meets e) w.conditions) (same_claims (map (claim_for e) (claim_forms w)) (c ∷ cs)) f in
    let q = same_yes (map (claim_for e) (claim_forms w)) (c ∷ cs) r.1 in
    record {
      form = w;
      of_rule = m;
      letters = e;
      conditions = r.0;
      conclusion = head-eq_of_cons-eq q;
      premises = tail-eq_of_cons-eq q;
    }

-- what a form says for e fits it
said_fits : (w : Form) (e : Letters) → form_read e w ≡ form_for e w → T (all_of (meets e) w.conditions)
    → T (fits (map (claim_for e) (claim_forms w)) w)
unfolding fits
said_fits w e q t =
    let cs : List Claim = map (claim_for e) (claim_forms w) in
    let e₁ : Letters = letters_in w cs in
    yes_and (all_of (meets e₁) w.conditions) (same_claims (map (claim_for e₁) (claim_forms w)) cs)
    (subst T (sym (ap (λ s. s.met) q)) t)
    (subst (λ bs. T (same_claims bs cs)) (sym (ap (λ s. s.claims) q)) (yes_same cs))

yes_form : (n : ℕ) (c : Claim) (cs : List Claim) → FormYields n c cs → T (some_form_fits n c cs)
unfolding some_form_fits
yes_form n c cs y =
    yes_any_of (fits (c ∷ cs)) (forms_of n) y.of_rule
    (subst₂ (λ c cs. T (fits (c ∷ cs) y.form)) y.conclusion y.premises
    (said_fits y.form y.letters (recovered n y.of_rule y.letters) y.conditions))

-- what rule 59 says of p and its way back v is that p is contained in q, from no premise
unfoldable pub says_back : (p q : Path) → List Claim → Option Path → Bool
says_back p q cs none = false
says_back p q cs (some v) = same_claims (way_back_claim p v ∷ []) (Containment p q ∷ cs)

unfoldable pub way_back_fits : ℕ → Claim → List Claim → Bool
way_back_fits n (Containment p q) cs = eqb n way_back_rule && says_back p q cs (way_back p)
way_back_fits n (Implication f g) cs = false

said_back : (n : ℕ) (p q : Path) (cs : List Claim) (o : Option Path) → way_back p ≡ o → n ≡ way_back_rule →
    T (says_back p q cs o) →
    WayBackYields n (Containment p q) cs
unfolding says_back
said_back n p q cs none e h t = absurd t
said_back n p q cs (some v) e h t =
    let s = same_yes (way_back_claim p v ∷ []) (Containment p q ∷ cs) t in
    record {
      rule = h;
      path = p;
      back = v;
      is_way_back = e;
      conclusion = head-eq_of_cons-eq s;
      premises = tail-eq_of_cons-eq s;
    }

back_yes : (n : ℕ) (c : Claim) (cs : List Claim) → T (way_back_fits n c cs) → WayBackYields n c cs
unfolding way_back_fits
back_yes n (Implication f g) cs t = absurd t
back_yes n (Containment p q) cs t =
    let r = and_yes (eqb n way_back_rule) (says_back p q cs (way_back p)) t in
    said_back n p q cs (way_back p) refl (eqb_yes r.0) r.1

back_said : (r w : Path) (o : Option Path) → o ≡ some w → T (says_back r (Filter r (some_of w)) [] o)
unfolding says_back
back_said r w o e = rw e (yes_same (way_back_claim r w ∷ []))

yes_back : (n : ℕ) (c : Claim) (cs : List Claim) → WayBackYields n c cs → T (way_back_fits n c cs)
unfolding way_back_fits
yes_back n c cs y =
    let r : Path = y.path in
    let w : Path = y.back in
    subst₂ (λ c cs. T (way_back_fits n c cs)) y.conclusion y.premises
    (yes_and (eqb n way_back_rule) (says_back r (Filter r (some_of w)) [] (way_back r)) (yes_eqb y.rule)
    (back_said r w (way_back r) y.is_way_back))

-- the test of all rules: a form fits, or the way back; to unfold it is to unfold all that it computes with
unfoldable pub rule_fits : ℕ → Claim → List Claim → Bool
unfolding some_form_fits way_back_fits says_back way_back joined opposite lookup opposites
rule_fits n c cs = some_form_fits n c cs || way_back_fits n c cs

pub yielded_yes : (n : ℕ) (c : Claim) (cs : List Claim) → T (rule_fits n c cs) → Yields n c cs
unfolding rule_fits
yielded_yes n c cs t =
    ⊎_elim (λ u. inl (form_yes n c cs u)) (λ u. inr (back_yes n c cs u))
    (or_yes (some_form_fits n c cs) (way_back_fits n c cs) t)

pub yes_yielded : (n : ℕ) (c : Claim) (cs : List Claim) → Yields n c cs → T (rule_fits n c cs)
unfolding rule_fits
yes_yielded n c cs y =
    yes_or (some_form_fits n c cs) (way_back_fits n c cs)
    (⊎_elim (λ f. inl (yes_form n c cs f)) (λ b. inr (yes_back n c cs b)) y)

-- what a test decides, decided
abbrev pub decided : {A : Type 0} (b : Bool) → (T b → A) → (A → T b) → Dec A
decided true f g = yes (f tt)
decided false f g = no g
