-- When a rule yields a step, judged on row numbers: no term is expanded.
use Rattle.std.specs.Prelude.{ℕ, Bool, true, false, not, cond, ◌&&◌, ◌||◌, List, [], ◌∷◌, map, ltb, eqb, length}
use Rattle.std.specs.Prelude.{get_or, set, take, replicate}
use Rattle.xpath.specs.Term.{Path, Qualifier}
use Rattle.terms.specs.Row.{Row, row_at}
use Rattle.terms.specs.Fields.{held_path, held_qualifier}
use Rattle.common.specs.Lists.{all_of, any_of}
use Rattle.matching.specs.represent.Sides.{Sides}
use Rattle.rules.specs.Instance.{Letters, meets}
use Rattle.rules.specs.Yields.{forms_of, way_back_rule}
use Rattle.matching.specs.private.RowWayBack.{is_with_back}
use Rattle.matching.specs.private.Pattern.{Pattern, number, letter, row_pattern, letter_count, first_qualifier_letter}
use Rattle.matching.specs.private.Pattern.{first_axis_letter, axis_letter_number, test_letter_number, name_letter}
use Rattle.matching.specs.private.Pattern.{ClaimPattern}
use Rattle.matching.specs.private.Pattern.{FormPattern, form_pattern}

-- whether all that was compared so far fits; which letters have a value, and that value
pub record Match : Type 0 where
  pub fits : Bool
  pub known : List Bool
  pub value : List ℕ

unfoldable pub check : Bool → Match → Match
check b m = record { fits = m.fits && b; known = m.known; value = m.value }

-- letter k has no value yet, or v; from now on it has v
unfoldable pub bind : ℕ → ℕ → Match → Match
bind k v m =
    record {
      fits = m.fits && (ltb k letter_count && (not (get_or m.known k false) || eqb (get_or m.value k 0) v));
      known = set m.known k true;
      value = set m.value k v;
    }

-- p, q, r, s stand for held paths, f, g, h for held qualifiers
unfoldable pub suits : List Row → ℕ → ℕ → Bool
suits rs k v =
    cond (ltb k first_qualifier_letter) (held_path rs v) (cond (ltb k first_axis_letter) (held_qualifier rs v) true)

-- v is the number of a held row of this kind
unfoldable pub is_row : List Row → ℕ → ℕ → Bool
is_row rs kind v = ltb v (length rs) && eqb (row_at rs v).kind kind

-- the number v against a pattern
unfoldable pub match : List Row → Pattern → ℕ → Match → Match
match rs (number n) v m = check (eqb v n) m
match rs (letter k) v m = bind k v (check (suits rs k v) m)
match rs (row_pattern kind x y z) v m =
    let r = row_at rs v in
    cond (is_row rs kind v) (match rs z r.c (match rs y r.b (match rs x r.a m))) (check false m)

unfoldable pub match_claim : List Row → ClaimPattern → Sides → Match → Match
match_claim rs w s m = match rs w.right s.right (match rs w.left s.left m)

-- one premise after the other
unfoldable pub match_claims : List Row → List ClaimPattern → List Sides → Match → Match
match_claims rs [] [] m = m
match_claims rs [] (s ∷ ss) m = check false m
match_claims rs (w ∷ ws) [] m = check false m
match_claims rs (w ∷ ws) (s ∷ ss) m = match_claims rs ws ss (match_claim rs w s m)

unfoldable pub empty_match : Match
empty_match = record { fits = true; known = replicate letter_count false; value = replicate letter_count 0 }

-- the axes and tests that the letters stand for by their values; no condition looks at a path or a qualifier
unfoldable pub numbers_in : List ℕ → Letters
numbers_in vs =
    record {
      path = λ x. Path.Void;
      qualifier = λ x. Qualifier.False;
      axis = λ x. get_or vs (axis_letter_number x) 0;
      test = λ x. record { test = get_or vs (test_letter_number x) 0; name = get_or vs (name_letter x) 0 };
    }

-- a form against the rows of a step and of its premises
unfoldable pub match_form : List Row → Sides → List Sides → FormPattern → Match
match_form rs s ss w = match_claims rs w.premises ss (match_claim rs w.conclusion s empty_match)

unfoldable pub form_yields : List Row → Sides → List Sides → FormPattern → Bool
form_yields rs s ss w = let m = match_form rs s ss w in m.fits && all_of (meets (numbers_in m.value)) w.conditions

-- the same from as many of the steps as it has premises
unfoldable pub yields_by : List Row → Sides → List Sides → FormPattern → Bool
yields_by rs s ss w = form_yields rs s (take (length w.premises) ss) w

-- a form of rule n yields a step about s, from steps about ss
unfoldable pub forms_yield : List Row → ℕ → Sides → List Sides → Bool
forms_yield rs n s ss = any_of (form_yields rs s ss) (map form_pattern (forms_of n))

-- rule 59 does
unfoldable pub way_back_yields : List Row → ℕ → Sides → List Sides → Bool
way_back_yields rs n s ss = eqb n way_back_rule && (eqb (length ss) 0 && is_with_back rs s.left s.right)

-- rule n does
unfoldable pub row_yields : List Row → ℕ → Sides → List Sides → Bool
row_yields rs n s ss = forms_yield rs n s ss || way_back_yields rs n s ss
