-- The lines of lent rows and steps: how long they are, and how many there are.
use Prim.Native.Nat.{ℕ, ◌+◌, ◌*◌, ◌≤◌, ◌<◌, min}
use mathlib.Core.Path.{◌≡◌, sym, ap, ◌∙◌}
use mathlib.Core.List.{List, [], ◌∷◌, ◌++◌, map}
use native.Mathlib.Omega.{arith}
use native.Mathlib.Numerals.{add-one}
use lib.Seq.{drop-cons}
use lib.ListN.{length, get_or, drop, drop_of_length-le, length-append, length-take, get_or-map, length-map}
use Rattle.terms.specs.Row.{Row, max_rows}
use Rattle.lines.specs.Ascii.{ascii}
use Rattle.lines.specs.Line.{newline}
use Rattle.calls.specs.Book.{Step, max_steps}
use Rattle.calls.specs.represent.Tables.{row_width, step_width, first_row_numbers, first_step_numbers}
use Rattle.bundles.specs.Bundle.{row_names, step_names, rows_text, steps_text, bundle_text}

-- what is read from lent numbers is at the place of the numbers
pub there : {A : Type 0} (of_numbers : List ℕ → A) (lent : List (List ℕ)) (xs : List A) (k : ℕ) {x : A} {ns : List ℕ}
    → x ≡ of_numbers ns → ns ≡ get_or lent k [] → map of_numbers lent ≡ xs → x ≡ get_or xs k (of_numbers [])
there of_numbers lent xs k e f g =
    e ∙ ap of_numbers f ∙ sym (get_or-map of_numbers lent k []) ∙ ap (λ ys. get_or ys k (of_numbers [])) g

pub all_there : {A : Type 0} (of_numbers : List ℕ → A) (lent : List (List ℕ)) (xs : List A) → map of_numbers lent ≡ xs
    → length lent ≡ length xs
all_there of_numbers lent xs g = sym (length-map lent of_numbers) ∙ ap length g

-- the lengths of texts that are put one behind the other, of which those from place i on are left
pub length_left : {A : Type 0} (text : A → List ℕ) (texts : List A → List ℕ)
    → ((x : A) (xs : List A) → texts (x ∷ xs) ≡ text x ++ texts xs) → (xs : List A) (i : ℕ) (d : A) → i < length xs
    → length (texts (drop i xs)) ≡ length (text (get_or xs i d)) + length (texts (drop (i + 1) xs))
length_left text texts more xs i d h =
    let e : drop i xs ≡ get_or xs i d ∷ drop (i + 1) xs = drop-cons xs i d h ∙ rw add-one in
    ap (λ ys. length (texts ys)) e ∙ ap length (more _ _)
    ∙ length-append (text (get_or xs i d)) (texts (drop (i + 1) xs))

pub nothing_left : {A : Type 0} (texts : List A → List ℕ) → texts [] ≡ [] → (xs : List A) (i : ℕ) → length xs ≤ i
    → length (texts (drop i xs)) ≡ 0
nothing_left texts none xs i h = ap (λ ys. length (texts ys)) (drop_of_length-le xs h) ∙ ap length none

-- the length of a bundle: two names lines, and the lines of rows and of steps
pub bundle_length_lem : (rs : List Row) (ps : List Step) → length (bundle_text rs ps)
    ≡ 40 + length (rows_text rs) + length (steps_text ps)
unfolding bundle_text row_names step_names ascii
bundle_length_lem rs ps =
    let both = length-append (rows_text rs) (step_names ++ newline ∷ steps_text ps) in
    omega arith

-- the first rows and steps are no more than the limits
pub few_row_numbers : (n : ℕ) (xs : List ℕ) {ys : List ℕ} → ys ≡ first_row_numbers n xs →
    length ys ≤ row_width * max_rows
few_row_numbers n xs e = omega (arith, ap length e, length-take (row_width * min n max_rows) xs)

pub few_step_numbers : (n : ℕ) (xs : List ℕ) {ys : List ℕ} → ys ≡ first_step_numbers n xs
    → length ys ≤ step_width * max_steps
few_step_numbers n xs e = omega (arith, ap length e, length-take (step_width * min n max_steps) xs)
