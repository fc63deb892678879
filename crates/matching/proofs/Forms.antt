-- The forms of the rules, and the search among those of one.
use Prim.Native.Nat.{ℕ, zero, suc, ◌+◌, ◌-◌, ◌<◌, ◌≤◌}
use mathlib.Core.Path.{◌≡◌, refl, sym, ◌∙◌, ap, ap₂}
use mathlib.Core.Bool.{Bool, true, false, ◌&&◌, ◌||◌, cond, false≢true, or-false}
use mathlib.Core.List.{List, [], ◌∷◌, map, head-eq_of_cons-eq, tail-eq_of_cons-eq, cons-ne-nil}
use mathlib.Core.Logic.{⊎_elim}
use native.Mathlib.Omega.{arith}
use lib.Dec.{T, eqb}
use lib.ListN.{length, get_or, take, drop, length-map, get_or-eq_default}
use lib.Seq.{get_or-take, get_or-drop}
use mir.Facts.{and_yes, eqb_yes}
use borrow.Author.Tests.{ne_eqb}
use denote.Bor.{Bor}
use Rattle.std.specs.Prelude.{Option, None, Some, is_some, slice_get, MatchOption}
use Rattle.std.specs.Option.{unwrap_or, option_copied}
use Rattle.std.specs.List.{list_any, list_all}
use Rattle.common.proofs.Reflect.{le_or_lt}
use Rattle.common.specs.Lists.{all_of, any_of}
use Rattle.terms.specs.Row.{Row}
use Rattle.rules.specs.Form.{Form, Rule}
use Rattle.rules.specs.RuleTable.{rules}
use Rattle.rules.specs.Yields.{table_rules, forms_in, forms_of, first_count, premise_count, same_counts}
use Rattle.rules.specs.Yields.{same_counts_lem}
use Rattle.rules.specs.Yields.{way_back_rule}
use Rattle.rules.proofs.RuleNumbers.{no_forms}
use Rattle.matching.specs.private.Pattern.{FormPattern, form_pattern, claim_pattern}
use Rattle.matching.specs.declared.pattern.Form.{Form as CodeForm}
use Rattle.matching.specs.private.PatternTypes.{claim_of, form_of, rule_table}
use Rattle.matching.specs.private.RowWayBack.{is_with_back}
use Rattle.matching.specs.private.RowYields.{form_yields, yields_by, forms_yield, way_back_yields, row_yields}
use Rattle.matching.specs.represent.Sides.{Sides}

-- the values of f below k
values_below : {A : Type 0} → (ℕ → A) → ℕ → List A
values_below f zero = []
values_below f (suc k) = f k ∷ values_below f k

same_below : {A : Type 0} (f g : ℕ → A) (k n : ℕ) → values_below f k ≡ values_below g k → n < k → f n ≡ g n
unfolding values_below
same_below f g zero n q h = absurd (omega arith)
same_below f g (suc k) n q h =
    ⊎_elim
    (λ l. let e : n ≡ k = omega arith in rw e (head-eq_of_cons-eq q))
    (λ l. same_below f g k n (tail-eq_of_cons-eq q) l)
    (le_or_lt k n)

abbrev tabled : ℕ → List FormPattern
tabled n = get_or rule_table n []

abbrev ruled : ℕ → List FormPattern
ruled n = map form_pattern (forms_of n)

all_ruled : values_below tabled (suc table_rules) ≡ values_below ruled (suc table_rules)
unfolding values_below rules forms_of forms_in rule_table
all_ruled = refl

-- past the last rule
none_ruled : (n : ℕ) → table_rules < n → tabled n ≡ ruled n
unfolding forms_of all_of rules rule_table
none_ruled n h = rw (no_forms n rules tt h) (get_or-eq_default rule_table [] h)

-- the table has each rule's forms in its place
forms_tabled : (n : ℕ) → get_or rule_table n [] ≡ map form_pattern (forms_of n)
forms_tabled n =
    ⊎_elim (λ h. none_ruled n h) (λ h. same_below tabled ruled (suc table_rules) n all_ruled h)
    (le_or_lt (suc table_rules) n)

-- the same of the parts of the table
module _ (n : ℕ) where
  pub first_part : n ≤ 24 → get_or (take 25 rule_table) n [] ≡ map form_pattern (forms_of n)
  first_part h = get_or-take 25 rule_table n [] (omega arith) ∙ forms_tabled n

  pub second_part : 24 < n → n ≤ 41 → get_or (take 17 (drop 25 rule_table)) (n - 25) [] ≡ map form_pattern (forms_of n)
  second_part g h =
      let e : 25 + (n - 25) ≡ n = omega arith in
      get_or-take 17 (drop 25 rule_table) (n - 25) [] (omega arith) ∙ get_or-drop 25 rule_table (n - 25) []
      ∙ ap (λ n. get_or rule_table n []) e ∙ forms_tabled n

  pub third_part : 41 < n → get_or (drop 42 rule_table) (n - 42) [] ≡ map form_pattern (forms_of n)
  third_part h =
      let e : 42 + (n - 42) ≡ n = omega arith in
      get_or-drop 42 rule_table (n - 42) [] ∙ ap (λ n. get_or rule_table n []) e ∙ forms_tabled n

-- the number of premises of a rule's first form is that of each of its forms
counts_in : (rs : List Rule) (n : ℕ) → T (all_of same_counts rs)
    → T (all_of (λ w. eqb (length w.premises) (first_count (forms_in rs n))) (forms_in rs n))
unfolding all_of forms_in same_counts
counts_in [] n t = tt
counts_in (r ∷ rs) n t =
    let u = and_yes (same_counts r) (all_of same_counts rs) t in
    by (eqb r.number n) u.0 (counts_in rs n u.1)
  where
    by : (b : Bool) → T (same_counts r)
        → T (all_of (λ w. eqb (length w.premises) (first_count (forms_in rs n))) (forms_in rs n))
        → T (all_of (λ w. eqb (length w.premises) (first_count (cond b r.forms (forms_in rs n))))
        (cond b r.forms (forms_in rs n)))
    by true g h = g
    by false g h = h

premises_same : (w : CodeForm) (f : Form) → form_of w ≡ form_pattern f → length w.premises.now ≡ length f.premises
unfolding form_pattern
premises_same w f e =
    sym (length-map w.premises.now claim_of) ∙ ap (λ (v : FormPattern). length v.premises) e
    ∙ length-map f.premises claim_pattern

-- it is read of the first form, and 0 where there is none
pub count_read : (ws : List CodeForm) (fs : List Form) (o : Option (Bor CodeForm)) (k : ℕ) (P : Bor CodeForm → Type 0)
    → option_copied o ≡ slice_get ws 0 → map form_of ws ≡ map form_pattern fs → MatchOption o (k ≡ 0) P
    → ((x : Bor CodeForm) → P x → k ≡ length x.now.premises.now) → k ≡ first_count fs
unfolding first_count
count_read [] [] None k P e q m read = m
count_read [] [] (Some x) k P e q m read = absurd (false≢true (sym (ap is_some e)))
count_read [] (f ∷ fs) o k P e q m read = absurd (cons-ne-nil _ _ (sym q))
count_read (w ∷ ws) [] o k P e q m read = absurd (cons-ne-nil _ _ q)
count_read (w ∷ ws) (f ∷ fs) None k P e q m read = absurd (false≢true (ap is_some e))
count_read (w ∷ ws) (f ∷ fs) (Some x) k P e q m read =
    read x m ∙ ap (λ (v : CodeForm). length v.premises.now) (ap (λ o. unwrap_or o w) e)
    ∙ premises_same w f (head-eq_of_cons-eq q)

module _ (rs : List Row) (s : Sides) (ss : List Sides) where
  counted : (k : ℕ) (ws : List Form) → T (all_of (λ w. eqb (length w.premises) k) ws)
      → any_of (yields_by rs s ss) (map form_pattern ws) ≡ any_of (form_yields rs s (take k ss)) (map form_pattern ws)
  unfolding any_of all_of form_pattern yields_by
  counted k [] t = refl
  counted k (w ∷ ws) t =
      let u = and_yes (eqb (length w.premises) k) (all_of (λ w. eqb (length w.premises) k) ws) t in
      let e : length (map claim_pattern w.premises) ≡ k = length-map w.premises claim_pattern ∙ eqb_yes u.0 in
      ap₂ ◌||◌ (ap (λ k. form_yields rs s (take k ss) (form_pattern w)) e) (counted k ws u.1)

  -- so do a rule's forms
  pub rule_way : (n : ℕ) → any_of (yields_by rs s ss) (map form_pattern (forms_of n))
      ≡ forms_yield rs n s (take (premise_count n) ss)
  unfolding forms_yield premise_count forms_of
  rule_way n = counted (premise_count n) (forms_of n) (counts_in rules n same_counts_lem)

-- rule 59 has no form and no premise
pub way_back_way : (rs : List Row) (s : Sides) (ss : List Sides) (n : ℕ) {r : Bool} → n ≡ way_back_rule →
    r ≡ is_with_back rs s.left s.right
    → r ≡ row_yields rs n s (take (premise_count n) ss)
unfolding row_yields forms_yield way_back_yields any_of premise_count first_count forms_of forms_in rules
way_back_way rs s ss n e q = q ∙ ap (λ n. row_yields rs n s (take (premise_count n) ss)) (sym e)

-- another rule is the table's
pub other_rule_way : (rs : List Row) (s : Sides) (ss : List Sides) (n : ℕ) {r : Bool} → ¬ (n ≡ way_back_rule) →
    r ≡ forms_yield rs n s ss
    → r ≡ row_yields rs n s ss
unfolding row_yields way_back_yields
other_rule_way rs s ss n h q = q ∙ sym (rw (ne_eqb n way_back_rule h) (or-false (forms_yield rs n s ss)))

-- the code's searches are those of the definitions
module _ {A B : Type 0} (f : B → Bool) (g : A → B) where
  pub any_mapped : (xs : List A) → list_any (λ x. f (g x)) xs ≡ any_of f (map g xs)
  unfolding any_of
  any_mapped [] = refl
  any_mapped (x ∷ xs) = ap (λ b. f (g x) || b) (any_mapped xs)

  pub all_mapped : (xs : List A) → list_all (λ x. f (g x)) xs ≡ all_of f (map g xs)
  unfolding all_of
  all_mapped [] = refl
  all_mapped (x ∷ xs) = ap (λ b. f (g x) && b) (all_mapped xs)
