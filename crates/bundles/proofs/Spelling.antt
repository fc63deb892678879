-- A number has one spelling, and so have a line and a text: what is read, written again, is the same bytes.
use Prim.Native.Nat.{ℕ, zero, suc, ◌^◌, ◌<◌}
use mathlib.Core.Path.{◌≡◌, refl, sym, ap, ap₂, ◌∙◌}
use mathlib.Core.Bool.{Bool, true, false, cond, not, ◌&&◌, false≢true}
use mathlib.Core.List.{List, [], ◌∷◌, ◌++◌, map, append_assoc}
use mathlib.Core.Option
use mathlib.Core.Option.{Option, none, some, Option-elim, some-injective, none-ne-some}
use native.Mathlib.Omega.{arith}
use Rattle.std.proofs.lemmas.Bool.{and_parts}
use lib.Dec.{leb, eqb}
use lib.ListN.{length, get_or}
use borrow.Author.Tests.{eqb-true, eqb-false, leb-true, not-true}
use Rattle.std.proofs.Common.{rules}
use Rattle.std.proofs.lemmas.Fmt.{decimal-digits_value}
use Rattle.std.proofs.lemmas.Str.Parse.{IsNumeralModel, numerals_by_fold}
use Rattle.terms.specs.Row.{Row}
use Rattle.common.specs.Lists.{all_of}
use Rattle.lines.specs.Line.{newline, space, Line, line, in_first_line, lines, in_first_part, parts}
use Rattle.lines.specs.Number.{digit0, max_number, is_digit, are_digits, is_decimal, append_digits}
use Rattle.lines.specs.Number.{number_up_to, numbers_up_to, line_numbers, numbers_of}
use Rattle.lines.specs.Written.{decimal, line_text}
use Rattle.lines.proofs.Parts.{parts_some}
use Rattle.calls.specs.Book.{Step}
use Rattle.bundles.specs.Bundle.{row_of_line, step_of_line}
use Rattle.terms.specs.Row.{row_numbers, row_of_numbers}
use Rattle.calls.specs.Book.{step_numbers, step_of_numbers}
use Rattle.bundles.specs.Bundle.{row_text, step_text, rows_text, steps_text}
use Rattle.bundles.proofs.Decimals.{decimal_written}

-- the value of digits, as the library has it
own : IsNumeralModel (λ ds. are_digits ds ≡ true) (append_digits 0)
unfolding all_of is_digit append_digits
own = numerals_by_fold _ (search rules) append_digits (search rules)

-- digits, at least one, and none behind a 0 in front
decimal_form : (w : List ℕ) → is_decimal w ≡ true
    → (are_digits w ≡ true) × (0 < length w) × (get_or w 0 0 ≡ digit0 → length w ≡ 1)
unfolding is_decimal all_of
decimal_form [] e = absurd (false≢true e)
decimal_form (x ∷ []) e = (rw e, omega arith, λ z. refl)
decimal_form (x ∷ y ∷ xs) e =
    let (start, others) = and_parts (is_digit x && not (eqb x digit0)) (are_digits (y ∷ xs)) e in
    let (d, z) = and_parts (is_digit x) (not (eqb x digit0)) start in
    (rw (d, others), omega arith, λ zero. absurd (eqb-false x digit0 (not-true _ z) zero))

spelled_decimal : (w : List ℕ) → is_decimal w ≡ true → append_digits 0 w < 2 ^ 64 → decimal (append_digits 0 w) ≡ w
spelled_decimal w e h =
    let (digits, one, front) = decimal_form w e in
    decimal_written (append_digits 0 w) h ∙ decimal-digits_value own w digits one front h

spelled : (w : List ℕ) (n : ℕ) → number_up_to max_number w ≡ some n → w ≡ decimal n
spelled w n e = by_test (is_decimal w) (leb (append_digits 0 w) max_number) refl refl e
  where
    by_test : (b fit : Bool) → is_decimal w ≡ b → leb (append_digits 0 w) max_number ≡ fit
        → cond (b && fit) (some (append_digits 0 w)) none ≡ some n → w ≡ decimal n
    by_test true true d f e =
        let few = leb-true (append_digits 0 w) max_number f in
        sym (spelled_decimal w d (omega arith)) ∙ ap decimal (some-injective _ _ e)
    by_test true false d f e = absurd (none-ne-some _ e)
    by_test false fit d f e = absurd (none-ne-some _ e)

-- parts with a space between two
unfoldable joined : List (List ℕ) → List ℕ
joined [] = []
joined (w ∷ []) = w
joined (w ∷ v ∷ ws) = w ++ space ∷ joined (v ∷ ws)

in_first_part_lem : (x : ℕ) (xs : List ℕ) (ws : List (List ℕ)) → joined ws ≡ xs → joined (in_first_part x ws) ≡ x ∷ xs
unfolding in_first_part joined
in_first_part_lem x xs [] e = ap (λ ys. x ∷ ys) e
in_first_part_lem x xs (w ∷ []) e = ap (λ ys. x ∷ ys) e
in_first_part_lem x xs (w ∷ v ∷ ws) e = ap (λ ys. x ∷ ys) e

parts_joined : (xs : List ℕ) → joined (parts xs) ≡ xs
unfolding parts joined
parts_joined [] = refl
parts_joined (x ∷ xs) = by_test (eqb x space) refl (parts_joined xs)
  where
    by_test : (b : Bool) → eqb x space ≡ b → joined (parts xs) ≡ xs
        → joined (cond b ([] ∷ parts xs) (in_first_part x (parts xs))) ≡ x ∷ xs
    by_test true e later =
        let (w, ws, is) = parts_some xs in
        ap (λ vs. joined ([] ∷ vs)) is ∙ ap₂ (λ y ys. y ∷ ys) (sym (eqb-true x space e)) (ap joined (sym is) ∙ later)
    by_test false e later = in_first_part_lem x xs (parts xs) later

-- a number and `count` others, read from parts
record NumberAndOthers (count : ℕ) (w : List ℕ) (ws : List (List ℕ)) (ns : List ℕ) : Type 0 where
  pub number : ℕ
  pub others : List ℕ
  pub is_number : number_up_to max_number w ≡ some number
  pub are_others : line_numbers count ws ≡ some others
  pub all : ns ≡ number ∷ others

number_and_others : (count : ℕ) (w : List ℕ) (ws : List (List ℕ)) (ns : List ℕ)
    → line_numbers (suc count) (w ∷ ws) ≡ some ns → NumberAndOthers count w ws ns
unfolding numbers_up_to Option-elim
number_and_others count w ws ns e = by_number (number_up_to max_number w) refl e
  where
    by_others : (n : ℕ) (o : Option (List ℕ)) → number_up_to max_number w ≡ some n → line_numbers count ws ≡ o
        → Option-elim o none (λ ms. some (n ∷ ms)) ≡ some ns
        → NumberAndOthers count w ws ns
    by_others n none is o e = absurd (none-ne-some _ e)
    by_others n (some ms) is o e = record {
      number = n;
      others = ms;
      is_number = is;
      are_others = o;
      all = sym (some-injective _ _ e);
    }

    by_number : (o : Option ℕ) → number_up_to max_number w ≡ o
        → Option-elim o none (λ n. Option-elim (line_numbers count ws) none (λ ms. some (n ∷ ms))) ≡ some ns
        → NumberAndOthers count w ws ns
    by_number none is e = absurd (none-ne-some _ e)
    by_number (some n) is e = by_others n (line_numbers count ws) is refl e

-- the parts that numbers are read from are the line of the numbers
numbers_spelled : (count : ℕ) (w : List ℕ) (ws : List (List ℕ)) (ns : List ℕ)
    → line_numbers (suc count) (w ∷ ws) ≡ some ns
    → (joined (w ∷ ws) ++ newline ∷ [] ≡ line_text ns) × (length ns ≡ suc count)
unfolding joined line_text numbers_up_to
numbers_spelled zero w [] ns e =
    let r = number_and_others zero w [] ns e in
    let none_left : ns ≡ r.number ∷ [] = r.all
    ∙ ap (λ ms. r.number ∷ ms) (sym (some-injective _ _ r.are_others)) in
    (ap (λ v. v ++ newline ∷ []) (spelled w _ r.is_number) ∙ ap line_text (sym none_left), ap length none_left)
numbers_spelled zero w (v ∷ ws) ns e = absurd (none-ne-some _ (number_and_others zero w (v ∷ ws) ns e).are_others)
numbers_spelled (suc count) w [] ns e = absurd (none-ne-some _ (number_and_others (suc count) w [] ns e).are_others)
numbers_spelled (suc count) w (v ∷ ws) ns e =
    let r = number_and_others (suc count) w (v ∷ ws) ns e in
    let q = number_and_others count v ws r.others r.are_others in
    let later = numbers_spelled count v ws r.others r.are_others in
    let two : ns ≡ r.number ∷ q.number ∷ q.others = r.all ∙ ap (λ ms. r.number ∷ ms) q.all in (
      append_assoc w (space ∷ joined (v ∷ ws)) (newline ∷ [])
          ∙ ap₂ (λ u t. u ++ space ∷ t) (spelled w _ r.is_number) (later.0 ∙ ap line_text q.all)
          ∙ ap line_text (sym two),
      ap length r.all ∙ ap suc later.1,
    )

-- the bytes of a line
abbrev line_bytes : Line → List ℕ
line_bytes l = l.bytes ++ cond l.ended (newline ∷ []) []

line_spelled : (count : ℕ) (l : Line) (ns : List ℕ) → numbers_of (suc count) l ≡ some ns
    → (line_bytes l ≡ line_text ns) × (length ns ≡ suc count)
unfolding numbers_of
line_spelled count l ns e = by_end l.ended e
  where
    by_end : (b : Bool) → cond b (line_numbers (suc count) (parts l.bytes)) none ≡ some ns
        → (l.bytes ++ cond b (newline ∷ []) [] ≡ line_text ns) × (length ns ≡ suc count)
    by_end true e =
        let (w, ws, is) = parts_some l.bytes in
        let read = numbers_spelled count w ws ns (sym (ap (line_numbers (suc count)) is) ∙ e) in
        (ap (λ u. u ++ newline ∷ []) (sym (parts_joined l.bytes) ∙ ap joined is) ∙ read.0, read.1)
    by_end false e = absurd (none-ne-some _ e)

-- the row of four numbers has these numbers, and so has the step of five
four : (ns : List ℕ) → length ns ≡ 4 → row_numbers (row_of_numbers ns) ≡ ns
four [] e = absurd (omega arith)
four (k ∷ []) e = absurd (omega arith)
four (k ∷ x ∷ []) e = absurd (omega arith)
four (k ∷ x ∷ y ∷ []) e = absurd (omega arith)
four (k ∷ x ∷ y ∷ z ∷ []) e = refl
four (k ∷ x ∷ y ∷ z ∷ u ∷ ns) e = absurd (omega arith)

five : (ns : List ℕ) → length ns ≡ 5 → step_numbers (step_of_numbers ns) ≡ ns
five [] e = absurd (omega arith)
five (k ∷ []) e = absurd (omega arith)
five (k ∷ x ∷ []) e = absurd (omega arith)
five (k ∷ x ∷ y ∷ []) e = absurd (omega arith)
five (k ∷ x ∷ y ∷ z ∷ []) e = absurd (omega arith)
five (k ∷ x ∷ y ∷ z ∷ u ∷ []) e = refl
five (k ∷ x ∷ y ∷ z ∷ u ∷ v ∷ ns) e = absurd (omega arith)

-- what is made of the numbers of a line, and has these numbers, has the line for its text
made_spelled : {A : Type 0} (count : ℕ) (make : List ℕ → A) (numbers : A → List ℕ)
    → ((ns : List ℕ) → length ns ≡ suc count → numbers (make ns) ≡ ns)
    → (l : Line) (x : A) → Option.map make (numbers_of (suc count) l) ≡ some x → line_bytes l ≡ line_text (numbers x)
made_spelled {A} count make numbers back l x e = by_form (numbers_of (suc count) l) refl e
  where
    by_form : (o : Option (List ℕ)) → numbers_of (suc count) l ≡ o → Option.map make o ≡ some x
        → line_bytes l ≡ line_text (numbers x)
    by_form none is e = absurd (none-ne-some _ e)
    by_form (some ns) is e =
        let (text, size) = line_spelled count l ns is in
        text ∙ ap line_text (sym (back ns size) ∙ ap numbers (some-injective _ _ e))

-- the text of lines
unfoldable pub text_of : List Line → List ℕ
text_of [] = []
text_of (l ∷ ls) = line_bytes l ++ text_of ls

in_first_line_lem : (x : ℕ) (xs : List ℕ) (ls : List Line) → text_of ls ≡ xs → text_of (in_first_line x ls) ≡ x ∷ xs
unfolding in_first_line text_of
in_first_line_lem x xs [] e = ap (λ ys. x ∷ ys) e
in_first_line_lem x xs (l ∷ ls) e = ap (λ ys. x ∷ ys) e

pub lines_joined : (xs : List ℕ) → text_of (lines xs) ≡ xs
unfolding lines text_of
lines_joined [] = refl
lines_joined (x ∷ xs) = by_test (eqb x newline) refl (lines_joined xs)
  where
    by_test : (b : Bool) → eqb x newline ≡ b → text_of (lines xs) ≡ xs
        → text_of (cond b (line [] true ∷ lines xs) (in_first_line x (lines xs))) ≡ x ∷ xs
    by_test true e later = ap₂ (λ y ys. y ∷ ys) (sym (eqb-true x newline e)) later
    by_test false e later = in_first_line_lem x xs (lines xs) later

pub text_append : (ls ms : List Line) → text_of (ls ++ ms) ≡ text_of ls ++ text_of ms
unfolding text_of
text_append [] ms = refl
text_append (l ∷ ls) ms = ap (λ w. line_bytes l ++ w) (text_append ls ms)
    ∙ sym (append_assoc (line_bytes l) (text_of ls) (text_of ms))

-- lines that are read one by one, where each has the text of what is read
all_spelled : {A : Type 0} (read : Line → Option A) (text : A → List ℕ) (texts : List A → List ℕ) → texts [] ≡ []
    → ((x : A) (xs : List A) → texts (x ∷ xs) ≡ text x ++ texts xs) → ((l : Line) (x : A) → read l ≡ some x
    → line_bytes l ≡ text x)
    → (ls : List Line) (xs : List A) → map read ls ≡ map some xs → text_of ls ≡ texts xs
unfolding text_of
all_spelled read text texts none_told one_told one [] [] e = sym none_told
all_spelled read text texts none_told one_told one [] (x ∷ xs) e = absurd (omega (arith, ap length e))
all_spelled read text texts none_told one_told one (l ∷ ls) [] e = absurd (omega (arith, ap length e))
all_spelled read text texts none_told one_told one (l ∷ ls) (x ∷ xs) e =
    let first : read l ≡ some x = cc in
    let others : map read ls ≡ map some xs = cc in
    ap₂ (λ u w. u ++ w) (one l x first) (all_spelled read text texts none_told one_told one ls xs others)
    ∙ sym (one_told x xs)

pub rows_spelled : (ls : List Line) (rs : List Row) → map row_of_line ls ≡ map some rs → text_of ls ≡ rows_text rs
unfolding rows_text row_of_line
rows_spelled = all_spelled row_of_line row_text rows_text refl (λ r rs. refl)
    (made_spelled 3 row_of_numbers row_numbers four)

pub steps_spelled : (ls : List Line) (ps : List Step) → map step_of_line ls ≡ map some ps → text_of ls ≡ steps_text ps
unfolding steps_text step_of_line
steps_spelled = all_spelled step_of_line step_text steps_text refl (λ p ps. refl)
    (made_spelled 4 step_of_numbers step_numbers five)
