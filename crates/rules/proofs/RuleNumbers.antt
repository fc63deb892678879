-- A rule that yields anything is one of 1 to 59.
use Prim.Native.Nat.{ℕ, zero, suc, ◌≤◌, ◌<◌}
use mathlib.Core.Path.{◌≡◌, refl, subst}
use mathlib.Core.List.{List, [], ◌∷◌}
use mathlib.Core.List.Memᴰ
use mathlib.Core.List.{Memᴰ}
use mathlib.Core.Logic.{inl, inr, ⊎_elim}
use native.Mathlib.Omega.{arith}
use lib.Dec.{T, leb}
use borrow.Author.Tests.{ne_eqb}
use mir.Facts.{and_yes, leb_yes}
use Rattle.common.specs.Lists.{all_of}
use Rattle.common.proofs.Reflect.{le_or_lt}
use Rattle.rules.specs.Form.{Form, Rule}
use Rattle.rules.specs.RuleTable.{rules}
use Rattle.rules.specs.Claim.{Claim}
use Rattle.rules.specs.Yields.{forms_in, forms_of, table_rules, max_rule, Yields}

-- past the last rule
pub no_forms : (n : ℕ) (rs : List Rule) → T (all_of (λ r. leb r.number table_rules) rs) → table_rules < n
    → forms_in rs n ≡ []
unfolding all_of forms_in
no_forms n [] t h = refl
no_forms n (r ∷ rs) t h =
    let u = and_yes (leb r.number table_rules) (all_of (λ r. leb r.number table_rules) rs) t in
    let l : r.number ≤ table_rules = leb_yes u.0 in
    rw (ne_eqb r.number n (λ e. omega arith)) (no_forms n rs u.1 h)

none_past : (n : ℕ) → table_rules < n → forms_of n ≡ []
unfolding forms_of all_of rules
none_past n h = no_forms n rules tt h

none_of_0 : forms_of 0 ≡ []
unfolding forms_of forms_in rules
none_of_0 = refl

-- a rule that has a form
has_forms : (n : ℕ) (w : Form) → Memᴰ w (forms_of n) → (1 ≤ n) × (n ≤ table_rules)
has_forms zero w m = absurd (Memᴰ.not-nil (subst (Memᴰ w) none_of_0 m))
has_forms (suc n) w m =
    let most : suc n ≤ table_rules =
    ⊎_elim (λ h. absurd (Memᴰ.not-nil (subst (Memᴰ w) (none_past (suc n) h) m))) (λ h. omega arith)
    (le_or_lt (suc table_rules) (suc n)) in
    (omega arith, most)

pub rule_numbers : (n : ℕ) (c : Claim) (cs : List Claim) → Yields n c cs → (1 ≤ n) × (n ≤ max_rule)
rule_numbers n c cs (inl y) = let (from, to) = has_forms n y.form y.of_rule in (from, omega arith)
rule_numbers n c cs (inr y) = let e = y.rule in (omega arith, omega arith)
