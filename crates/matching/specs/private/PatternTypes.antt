-- The code's patterns and forms as the definitions have them.
use Rattle.std.specs.Prelude.{ℕ, List, [], ◌∷◌, map}
use Rattle.std.specs.Borrow.{Bor}
use Rattle.common.specs.represent.Numbers.{row_number}
use Rattle.rules.specs.Form.{Condition, a_below_b, N_below_M, b_from_3_to_10, N_a_name_or_star, N_not_node}
use Rattle.rules.specs.Form.{a_not_attribute, Rule}
use Rattle.rules.specs.RuleTable.{rules}
use Rattle.matching.specs.declared.pattern.Letter.{Letter}
use Rattle.matching.specs.declared.pattern.Letter.TheVariants as Letters
use Rattle.matching.specs.declared.pattern.Condition.{Condition as CodeCondition}
use Rattle.matching.specs.declared.pattern.Condition.TheVariants as Conditions
use Rattle.matching.specs.declared.pattern.Pattern.{Pattern as CodePattern}
use Rattle.matching.specs.declared.pattern.Pattern.TheVariants as Patterns
use Rattle.matching.specs.declared.pattern.Claim.{Claim}
use Rattle.matching.specs.declared.pattern.Form.{Form as CodeForm}
use Rattle.matching.specs.private.Pattern.{Pattern, number, letter, row_pattern, ClaimPattern, FormPattern}
use Rattle.matching.specs.private.Pattern.{form_pattern}

-- the letters in their order
abbrev pub letter_number : Letter → ℕ
letter_number Letters.P = 0
letter_number Letters.Q = 1
letter_number Letters.R = 2
letter_number Letters.S = 3
letter_number Letters.F = 4
letter_number Letters.G = 5
letter_number Letters.H = 6
letter_number Letters.A = 7
letter_number Letters.B = 8
letter_number Letters.N = 9
letter_number Letters.NameOfN = 10
letter_number Letters.M = 11
letter_number Letters.NameOfM = 12

abbrev pub condition_of : CodeCondition → Condition
condition_of Conditions.ABelowB = a_below_b
condition_of Conditions.NBelowM = N_below_M
condition_of Conditions.BFrom3To10 = b_from_3_to_10
condition_of Conditions.NNameOrStar = N_a_name_or_star
condition_of Conditions.NNotNode = N_not_node
condition_of Conditions.ANotAttribute = a_not_attribute

unfoldable pub pattern_of : CodePattern → Pattern
pattern_of (Patterns.Number n) = number n
pattern_of (Patterns.Letter x) = letter (letter_number x)
pattern_of (Patterns.Row' p kind x y z) =
    row_pattern (row_number kind) (pattern_of x) (pattern_of y) (pattern_of z)

abbrev pub claim_of : Claim → ClaimPattern
claim_of c = record { left = pattern_of c.0; right = pattern_of c.1 }

abbrev pub form_of : CodeForm → FormPattern
form_of w =
    record {
      conclusion = claim_of w.conclusion;
      premises = map claim_of w.premises.now;
      conditions = map condition_of w.conditions.now;
    }

abbrev pub forms_in : Bor (List CodeForm) → List FormPattern
forms_in ws = map form_of ws.now

-- the forms of each rule, by its number; there is no rule 0
unfoldable pub rule_table : List (List FormPattern)
rule_table = [] ∷ map (λ (r : Rule). map form_pattern r.forms) rules
