-- Rule 10, whose second premise ends in `*` or in node(): steps that one ending alone takes.
use Rattle.std.specs.Prelude.{Bool, not, ◌&&◌, [], ◌∷◌, T}
use Rattle.common.specs.NodeTests.{star_test, node_test}
use Rattle.common.specs.Lists.{all_of}
use Rattle.rules.specs.Form.{TestForm, test, Form, ◌::◌, ◌∕◌, ◌<=◌, b_from_3_to_10}
use Rattle.rules.specs.Notation.{p, r, a, b, N, M}
use Rattle.rules.specs.private.RuleFits.{fits, some_form_fits}
use Rattle.rules.specs.values.AcceptedSteps.{Sample, endings_in_node}

-- the form whose second premise ends in t
abbrev pub rule10_form : TestForm → Form
rule10_form t =
    record {
      conclusion = p ∕ a :: N <= r ∕ b :: M;
      premises = a :: N <= b :: M ∷ p <= r ∕ b :: t ∷ [];
      conditions = b_from_3_to_10 ∷ [];
    }

-- on each axis from 3 to 10 there is a step that only the form ending in node() takes
abbrev only_ending_in_node : Sample → Bool
only_ending_in_node x =
    fits (x.claim ∷ x.premises) (rule10_form (test node_test))
    && not (fits (x.claim ∷ x.premises) (rule10_form (test star_test)))

pub steps_only_ending_in_node : T (all_of only_ending_in_node endings_in_node)
unfolding some_form_fits
steps_only_ending_in_node = tt
