-- Each condition is that of the definition.
use native.Mathlib.Omega.{arith}
use Rattle.std.proofs.lemmas.Grind.{common_steps}
use Rattle.rules.specs.Instance.{meets}
use Rattle.matching.specs.private.Pattern.{axis_letter_number, test_letter_number, name_letter}
use Rattle.matching.specs.private.RowYields.{numbers_in}
use Rattle.matching.proofs.matcher.Letters.meet.Goals as goal

pub returns-in-ABelowB : goal.returns-in-ABelowB
unfolding meets numbers_in axis_letter_number
returns-in-ABelowB c = rw c.in-ABelowB.is (grind (arith, common_steps))

pub returns-in-NBelowM : goal.returns-in-NBelowM
unfolding meets numbers_in test_letter_number name_letter
returns-in-NBelowM c = rw c.in-NBelowM.is (grind (arith, common_steps))

pub returns-then-b-ge-DESCENDANT : goal.returns-then-b-ge-DESCENDANT
unfolding meets numbers_in axis_letter_number
returns-then-b-ge-DESCENDANT c = rw c.in-BFrom3To10.is (grind (arith, common_steps))

pub returns-else-b-ge-DESCENDANT : goal.returns-else-b-ge-DESCENDANT
unfolding meets numbers_in axis_letter_number
returns-else-b-ge-DESCENDANT c = rw c.in-BFrom3To10.is (grind (arith, common_steps))

pub returns-then-test-eq-NAME : goal.returns-then-test-eq-NAME
unfolding meets numbers_in test_letter_number
returns-then-test-eq-NAME c = rw c.in-NNameOrStar.is (grind (arith, common_steps))

pub returns-else-test-eq-NAME : goal.returns-else-test-eq-NAME
unfolding meets numbers_in test_letter_number
returns-else-test-eq-NAME c = rw c.in-NNameOrStar.is (grind (arith, common_steps))

pub returns-in-NNotNode : goal.returns-in-NNotNode
unfolding meets numbers_in test_letter_number
returns-in-NNotNode c = rw c.in-NNotNode.is (grind (arith, common_steps))

pub returns-in-ANotAttribute : goal.returns-in-ANotAttribute
unfolding meets numbers_in axis_letter_number
returns-in-ANotAttribute c = rw c.in-ANotAttribute.is (grind (arith, common_steps))
