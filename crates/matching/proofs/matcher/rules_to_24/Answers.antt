-- The constants are this part of the rule table: antt computes it.
use mathlib.Core.Path.{refl}
use Rattle.rules.specs.RuleTable.{rules}
use Rattle.matching.specs.private.Pattern.{path_letter_number, qualifier_letter_number, axis_letter_number}
use Rattle.matching.specs.private.Pattern.{test_letter_number, name_letter, axis_pattern, test_pattern, name_pattern}
use Rattle.matching.specs.private.Pattern.{path_pattern, claim_pattern, form_pattern}
use Rattle.matching.specs.private.PatternTypes.{pattern_of, rule_table}
use Rattle.matching.proofs.matcher.rules_to_24.Goals as goal

pub returns : goal.returns
unfolding pattern_of rule_table rules form_pattern claim_pattern path_pattern axis_pattern test_pattern name_pattern
    path_letter_number qualifier_letter_number axis_letter_number test_letter_number name_letter
returns c = refl
