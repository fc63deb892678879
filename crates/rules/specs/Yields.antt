-- When a rule yields a step, and how many premises a rule has.
use Rattle.std.specs.Prelude.{ℕ, ◌≡◌, refl, Bool, cond, ◌⊎◌, T, eqb, length}
use mathlib.Core.List.{List, [], ◌∷◌, map, Memᴰ}
use Rattle.std.proofs.Math.Option.{some}
use Rattle.common.specs.Lists.{all_of}
use Rattle.xpath.specs.Term.{Path, Filter, some_of}
use Rattle.rules.specs.Form.{Form, Rule}
use Rattle.rules.specs.RuleTable.{rules}
use Rattle.rules.specs.Claim.{Claim, Containment}
use Rattle.rules.specs.Instance.{Letters, claim_for, meets}
use Rattle.rules.specs.WayBack.{way_back}

-- the forms of rule n in a table; none, where there is no such rule
unfoldable pub forms_in : List Rule → ℕ → List Form
forms_in [] n = []
forms_in (r ∷ rs) n = cond (eqb r.number n) r.forms (forms_in rs n)

unfoldable pub forms_of : ℕ → List Form
forms_of n = forms_in rules n

-- rule n of the table yields a step that says c, from premises that say cs: in one of its forms and for some choice
-- of its letters that meets its conditions, its conclusion is c and its premises, in order, are cs
pub record FormYields (n : ℕ) (c : Claim) (cs : List Claim) : Type 0 where
  pub form : Form
  pub of_rule : Memᴰ form (forms_of n)
  pub letters : Letters
  pub conditions : T (all_of (meets letters) form.conditions)
  pub conclusion : claim_for letters form.conclusion ≡ c
  pub premises : map (claim_for letters) form.premises ≡ cs

-- rule 59, which the table doesn't have
abbrev pub way_back_rule : ℕ
way_back_rule = 59

-- what rule 59 says of r and its way back w: r <= r[some w]
abbrev pub way_back_claim : Path → Path → Claim
way_back_claim r w = Containment r (Filter r (some_of w))

-- rule 59 yields such a claim, from no premise
pub record WayBackYields (n : ℕ) (c : Claim) (cs : List Claim) : Type 0 where
  pub rule : n ≡ way_back_rule
  pub path : Path
  pub back : Path
  pub is_way_back : way_back path ≡ some back
  pub conclusion : way_back_claim path back ≡ c
  pub premises : [] ≡ cs

-- rule n yields a step that says c, from premises that say cs
abbrev pub Yields : ℕ → Claim → List Claim → Type 0
Yields n c cs = FormYields n c cs ⊎ WayBackYields n c cs

-- the rules of the table are 1 to 58
abbrev pub table_rules : ℕ
table_rules = 58

-- the rules are 1 to 59
abbrev pub max_rule : ℕ
max_rule = way_back_rule

pub rules_counted : length rules ≡ table_rules
unfolding rules
rules_counted = refl

-- how many premises the first form has
unfoldable pub first_count : List Form → ℕ
first_count [] = 0
first_count (w ∷ ws) = length w.premises

-- how many premises rule n has; rule 59 has none
unfoldable pub premise_count : ℕ → ℕ
premise_count n = first_count (forms_of n)

-- all forms of a rule have as many premises
unfoldable pub same_counts : Rule → Bool
same_counts r = all_of (λ w. eqb (length w.premises) (first_count r.forms)) r.forms

pub same_counts_lem : T (all_of same_counts rules)
unfolding all_of same_counts first_count rules
same_counts_lem = tt
