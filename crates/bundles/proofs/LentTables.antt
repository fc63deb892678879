-- The text of lent tables, number by number: its length, and what is left of it to put.
use Prim.Native.Nat.{ℕ, zero, suc, ◌+◌, ◌-◌, ◌*◌, ◌≤◌, ◌<◌}
use mathlib.Core.Path.{◌≡◌, refl, ap, ap₂, subst, ◌∙◌}
use mathlib.Core.List.{List, [], ◌∷◌, ◌++◌}
use native.Mathlib.Numerals.{add-one}
use native.Mathlib.Omega.{arith}
use lib.Seq.{sets, drop-cons}
use lib.ListN.{length, get_or, drop, length-append, drop_of_length-le}
use borrow.Author.Tests.{le-leb, lt-leb}
use Rattle.std.proofs.Common.{sum_by}
use Rattle.std.proofs.lemmas.Grind.{common_steps}
use Rattle.std.proofs.lemmas.List.{take_all}
use Rattle.terms.specs.Row.{max_rows}
use Rattle.lines.specs.Ascii.{ascii}
use Rattle.lines.specs.Line.{newline, space}
use Rattle.lines.specs.Written.{decimal}
use Rattle.calls.specs.Book.{max_steps}
use Rattle.calls.specs.represent.Tables.{row_width, step_width, first_row_numbers, first_step_numbers}
use Rattle.bundles.specs.Bundle.{row_names, step_names}
use Rattle.bundles.specs.private.TextPut.{Put}
use Rattle.bundles.specs.private.TablesPut.{byte_after, left_next, numbers_text, lines_text, numbers_length}
use Rattle.bundles.specs.private.TablesPut.{tables_text, first_tables_text, TextWritten}
use Rattle.bundles.proofs.Decimals.{digits_few}
use Rattle.bundles.proofs.Putting.{Rest, rest_further, rest_done, put_as}
use Rattle.bundles.proofs.Tables.{few_row_numbers, few_step_numbers}

-- the end of a line, and the others
pub byte_last : (left : ℕ) → left ≡ 0 → newline ≡ byte_after left
unfolding byte_after
byte_last left e = rw e

pub byte_other : (left : ℕ) → ¬ (left ≡ 0) → space ≡ byte_after left
unfolding byte_after
byte_other zero f = absurd (f refl)
byte_other (suc left) f = refl

-- how many are left behind the next number, in the next line or in this one
pub next_line : (width left : ℕ) → left ≡ 0 → width - 1 ≡ left_next width left
unfolding left_next
next_line width left e = rw e

pub same_line : (width left : ℕ) → ¬ (left ≡ 0) → left - 1 ≡ left_next width left
unfolding left_next
same_line width zero f = absurd (f refl)
same_line width (suc left) f = omega arith

-- a number of a table and the byte behind it
module _ {xs whole : List ℕ} {at : ℕ} (width left : ℕ) (ns : List ℕ) (i : ℕ) (h : i < length ns)
    {ys : List ℕ} {end : ℕ} (rest : Rest xs at whole ys end (numbers_text width left (drop i ns))) where
  lent_next : Rest xs at whole ys end (decimal (get_or ns i 0) ++ byte_after left
      ∷ numbers_text width (left_next width left) (drop (i + 1) ns))
  unfolding numbers_text
  lent_next =
      let e : drop i ns ≡ get_or ns i 0 ∷ drop (i + 1) ns = drop-cons ns i 0 h ∙ rw add-one in
      subst (λ w. Rest xs at whole ys end (numbers_text width left w)) e rest

  pub lent_room : end + length (decimal (get_or ns i 0)) + 1 ≤ length ys
  lent_room =
      omega (
        arith,
        lent_next.room,
        lent_next.size,
        length-append (decimal (get_or ns i 0)) (byte_after left
            ∷ numbers_text width (left_next width left) (drop (i + 1) ns)),
      )

  pub lent_put : {us zs : List ℕ} {n m b : ℕ} → Put ys end (decimal (get_or ns i 0)) n us
      → b ≡ byte_after left → Put us n (b ∷ []) m zs
      → Rest xs at whole zs m (numbers_text width (left_next width left) (drop (i + 1) ns))
  lent_put p e q = rest_further (rest_further lent_next p) (put_as (ap (λ x. x ∷ []) e) q)

-- all numbers of a table are put
pub lent_done : {xs whole ys : List ℕ} {at end : ℕ} (width left : ℕ) (ns : List ℕ) (i : ℕ) → length ns ≤ i
    → Rest xs at whole ys end (numbers_text width left (drop i ns)) → Put xs at whole end ys
unfolding numbers_text
lent_done {xs} {whole} {ys} {at} {end} width left ns i h rest =
    rest_done (subst (λ w. Rest xs at whole ys end (numbers_text width left w)) (drop_of_length-le ns h) rest)

-- the length of a table's lines, whatever the width
pub numbers_length_lem : (width left : ℕ) (ns : List ℕ) → length (numbers_text width left ns) ≡ numbers_length ns
unfolding numbers_text numbers_length
numbers_length_lem width left [] = refl
numbers_length_lem width left (n ∷ ns) =
    let later = numbers_length_lem width (left_next width left) ns in
    length-append (decimal n) (byte_after left ∷ numbers_text width (left_next width left) ns) ∙ omega arith

-- by induction: the length is the sum over the numbers
pub numbers_sum : (ns : List ℕ) → numbers_length ns ≡ sum_by (λ n. length (decimal n) + 1) ns
unfolding numbers_length
numbers_sum [] = refl
numbers_sum (n ∷ ns) = grind (arith, common_steps, numbers_sum ns)

-- the bound of their length
pub numbers_short : (ns : List ℕ) → ((k : ℕ) → get_or ns k 0 < 65536) → numbers_length ns ≤ 6 * length ns
unfolding numbers_length
numbers_short [] h = omega arith
numbers_short (n ∷ ns) h =
    let few : n < 65536 = h 0 in
    omega (arith, digits_few 5 n (omega arith) (omega arith) (omega arith), numbers_short ns (λ k. h (suc k)))

-- the length of the text of two tables: two names lines, and the lines of each
pub tables_length_lem : (xs ys : List ℕ) → length (tables_text xs ys)
    ≡ 40 + length (lines_text row_width xs) + length (lines_text step_width ys)
unfolding tables_text row_names step_names ascii
tables_length_lem xs ys =
    let both = length-append (lines_text row_width xs) (step_names ++ newline ∷ lines_text step_width ys) in
    omega arith

-- the first rows and steps, as many as a book may hold, of some first ones are these
pub first_again : (n m : ℕ) (xs ys : List ℕ) {us vs : List ℕ} → us ≡ first_row_numbers n xs
    → vs ≡ first_step_numbers m ys
    → first_tables_text max_rows us max_steps vs ≡ first_tables_text n xs m ys
first_again n m xs ys {us} {vs} e f =
    let rows = few_row_numbers n xs e in
    let steps = few_step_numbers m ys f in
    ap₂ tables_text (take_all (row_width * max_rows) us (omega arith) ∙ e)
    (take_all (step_width * max_steps) vs (omega arith) ∙ f)

-- no room, and room, for a text w that is the text asked for
pub written_not : {buffer w text : List ℕ} {at size : ℕ} → w ≡ text → size ≡ length w → length buffer < at + size
    → TextWritten buffer at text size buffer
written_not {buffer} {w} {text} {at} {size} e is-size none =
    let told : size ≡ length text = is-size ∙ ap length e in
    record { length_told = told; bytes = rw (lt-leb (at + length text) (length buffer) (omega (arith, told))) }

pub written_all : {buffer w text left : List ℕ} {at size next : ℕ} → w ≡ text → size ≡ length w
    → at + size ≤ length buffer
    → Put buffer at w next left → TextWritten buffer at text size left
written_all {buffer} {w} {text} {at = at} {size = size} e is-size room put =
    let told : size ≡ length text = is-size ∙ ap length e in
    record {
      length_told = told;
      bytes = rw (le-leb (at + length text) (length buffer) (omega (arith, told))) (put.bytes ∙ ap (sets buffer at) e);
    }
