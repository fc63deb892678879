-- How long the lines of accepted rows and steps are, and a bundle of them.
use Prim.Native.Nat.{ℕ, ◌+◌, ◌*◌, ◌≤◌, ◌<◌}
use mathlib.Core.Path.{◌≡◌, refl, sym, ◌∙◌}
use mathlib.Core.Bool.{Bool, true, false, false≢true}
use mathlib.Core.List.{List, [], ◌∷◌}
use native.Mathlib.Omega.{arith}
use lib.ListN.{length, length-append}
use Rattle.common.specs.Lists.{Every}
use Rattle.terms.specs.Row.{Row, row_at, max_rows}
use Rattle.terms.specs.Fields.{Field, unused, axis, test, name, path, qualifier, fields_of}
use Rattle.terms.specs.AcceptedRows.{Built}
use Rattle.terms.proofs.ByKind.{Kind, void_kind, root_kind, step_kind, union_kind, composition_kind, filter_kind}
use Rattle.terms.proofs.ByKind.{true_kind, false_kind, not_kind, and_kind, or_kind, in_kind, kind_of_lem}
use Rattle.terms.proofs.Built.{FieldLaw, built_row}
use Rattle.lines.specs.Line.{newline, space}
use Rattle.lines.specs.Number.{max_number}
use Rattle.lines.specs.Written.{digits_of, decimal, AllFit, line_text}
use Rattle.calls.specs.Book.{Step, max_steps}
use Rattle.bundles.specs.Bundle.{row_text, step_text, rows_text, steps_text}
use Rattle.terms.specs.Row.{row_numbers}
use Rattle.bundles.specs.Bundle.{bundle_text}
use Rattle.bundles.specs.private.TablesPut.{numbers_length}
use Rattle.bundles.proofs.Decimals.{digits_few}
use Rattle.bundles.proofs.Tables.{bundle_length_lem}

-- each number of a line has one byte behind it
pub line_length : (n : ℕ) (ns : List ℕ) → length (line_text (n ∷ ns)) ≡ numbers_length (n ∷ ns)
unfolding line_text numbers_length
line_length n [] = length-append (decimal n) (newline ∷ []) ∙ omega arith
line_length n (m ∷ ns) =
    let later = line_length m ns in
    length-append (decimal n) (space ∷ line_text (m ∷ ns)) ∙ omega arith

-- the most digits of what a place asks for
unfoldable field_digits : Field → ℕ
field_digits unused = 1
field_digits axis = 2
field_digits test = 1
field_digits name = 5
field_digits path = 4
field_digits qualifier = 4

field_short : (rs : List Row) (i : ℕ) (f : Field) (x t : ℕ) → FieldLaw rs i f x t → i < max_rows → x ≤ max_number
    → length (decimal x) ≤ field_digits f
unfolding field_digits
field_short rs i unused x t law few fits = digits_few 1 x (omega arith) (omega (arith, law)) (omega arith)
field_short rs i axis x t law few fits = digits_few 2 x (omega arith) (omega (arith, law)) (omega arith)
field_short rs i test x t law few fits = digits_few 1 x (omega arith) (omega (arith, law)) (omega arith)
field_short rs i name x t law few fits = digits_few 5 x (omega arith) (omega arith) (omega arith)
field_short rs i path x t law few fits = digits_few 4 x (omega arith) (omega (arith, law.0)) (omega arith)
field_short rs i qualifier x t law few fits = digits_few 4 x (omega arith) (omega (arith, law.0)) (omega arith)

-- the most digits of a row's line, kind by kind
kind_short : {k : ℕ} → Kind k
    → length (decimal k) + field_digits (fields_of k).a + field_digits (fields_of k).b + field_digits (fields_of k).c
    ≤ 11
unfolding field_digits fields_of decimal digits_of
kind_short void_kind = omega arith
kind_short root_kind = omega arith
kind_short step_kind = omega arith
kind_short union_kind = omega arith
kind_short composition_kind = omega arith
kind_short filter_kind = omega arith
kind_short true_kind = omega arith
kind_short false_kind = omega arith
kind_short not_kind = omega arith
kind_short and_kind = omega arith
kind_short or_kind = omega arith
kind_short in_kind = omega arith

-- a name stands in the last place only
unfoldable is_name : Field → Bool
is_name unused = false
is_name axis = false
is_name test = false
is_name name = true
is_name path = false
is_name qualifier = false

name_last : {k : ℕ} → Kind k → (is_name (fields_of k).a ≡ false) × (is_name (fields_of k).b ≡ false)
unfolding is_name fields_of
name_last void_kind = (refl, refl)
name_last root_kind = (refl, refl)
name_last step_kind = (refl, refl)
name_last union_kind = (refl, refl)
name_last composition_kind = (refl, refl)
name_last filter_kind = (refl, refl)
name_last true_kind = (refl, refl)
name_last false_kind = (refl, refl)
name_last not_kind = (refl, refl)
name_last and_kind = (refl, refl)
name_last or_kind = (refl, refl)
name_last in_kind = (refl, refl)

field_fits : (rs : List Row) (i : ℕ) (f : Field) (x t : ℕ) → FieldLaw rs i f x t → i < max_rows → is_name f ≡ false
    → x ≤ max_number
unfolding is_name
field_fits rs i unused x t law few e = omega (arith, law)
field_fits rs i axis x t law few e = omega (arith, law)
field_fits rs i test x t law few e = omega (arith, law)
field_fits rs i name x t law few e = absurd (false≢true (sym e))
field_fits rs i path x t law few e = omega (arith, law.0)
field_fits rs i qualifier x t law few e = omega (arith, law.0)

-- so of an accepted row's numbers only that one may have more than 16 bits
pub row_numbers_lem : {rs : List Row} → Built rs → (i : ℕ) → i < length rs → i < max_rows → (row_at rs i).c ≤ max_number
    → AllFit (row_numbers (row_at rs i))
row_numbers_lem {rs} built i h few m =
    let r = row_at rs i in
    let laws = built_row built i h in
    let (no-a, no-b) = name_last (kind_of_lem r.kind laws.kind) in
    let a = field_fits rs i (fields_of r.kind).a r.a r.b laws.a few no-a in
    let b = field_fits rs i (fields_of r.kind).b r.b r.b laws.b few no-b in
    (omega (arith, laws.kind), (a, (b, (m, tt))))

-- the longest line of a row is `10 1000 1000 0`, with its newline
pub row_short : {rs : List Row} → Built rs → (i : ℕ) → i < length rs → i < max_rows → AllFit (row_numbers (row_at rs i))
    → length (row_text (row_at rs i)) ≤ 15
unfolding numbers_length
row_short {rs} built i h few fits =
    let r = row_at rs i in
    let laws = built_row built i h in
    let a = field_short rs i (fields_of r.kind).a r.a r.b laws.a few fits.1.0 in
    let b = field_short rs i (fields_of r.kind).b r.b r.b laws.b few fits.1.1.0 in
    let c = field_short rs i (fields_of r.kind).c r.c r.b laws.c few fits.1.1.1.0 in
    let all = kind_short (kind_of_lem r.kind laws.kind) in
    omega (arith, line_length r.kind (r.a ∷ r.b ∷ r.c ∷ []), a, b, c, all)

-- that of a step is `21 1001 1001 1000 1000`
pub step_short : (p : Step) → p.rule < 100 → p.left < max_rows → p.right < max_rows → p.first ≤ max_steps
    → p.second ≤ max_steps
    → length (step_text p) ≤ 23
unfolding numbers_length
step_short p rule left right first second =
    let line = line_length p.rule (p.left ∷ p.right ∷ p.first ∷ p.second ∷ []) in
    let n = digits_few 2 p.rule (omega arith) rule (omega arith) in
    let l = digits_few 4 p.left (omega arith) (omega arith) (omega arith) in
    let r = digits_few 4 p.right (omega arith) (omega arith) (omega arith) in
    let i = digits_few 4 p.first (omega arith) (omega arith) (omega arith) in
    let j = digits_few 4 p.second (omega arith) (omega arith) (omega arith) in
    omega (arith, line, n, l, r, i, j)

rows_short : (rs : List Row) → Every (λ r. length (row_text r) ≤ 15) rs → length (rows_text rs) ≤ 15 * length rs
unfolding rows_text
rows_short [] h = omega arith
rows_short (r ∷ rs) h = omega (arith, length-append (row_text r) (rows_text rs), h.0, rows_short rs h.1)

steps_short : (ps : List Step) → Every (λ p. length (step_text p) ≤ 23) ps → length (steps_text ps) ≤ 23 * length ps
unfolding steps_text
steps_short [] h = omega arith
steps_short (p ∷ ps) h = omega (arith, length-append (step_text p) (steps_text ps), h.0, steps_short ps h.1)

-- a bundle of such lines
pub bundle_short : (rs : List Row) (ps : List Step) → Every (λ r. length (row_text r) ≤ 15) rs
    → Every (λ p. length (step_text p) ≤ 23) ps
    → length (bundle_text rs ps) ≤ 40 + 15 * length rs + 23 * length ps
bundle_short rs ps rows steps =
    omega (arith, bundle_length_lem rs ps, rows_short rs rows, steps_short ps steps)
