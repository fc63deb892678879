-- `way_back` meets its contract: the tests in their order, then the rows.
use Prim.Native.Nat.{ℕ, ◌*◌, ◌≤◌}
use mathlib.Core.Path.{◌≡◌, refl, sym, ap, ◌∙◌}
use mathlib.Core.Bool.{true}
use native.Mathlib.Omega.{arith}
use lib.ListN.{length, take}
use borrow.Author.Rules.{rules}
use Rattle.common.specs.declared.refusal.Refusal.TheVariants.{TooDeep, BadSide, NotYielded, TermsFull}
use Rattle.terms.specs.Row.{row_width, max_rows, table_of}
use Rattle.terms.specs.Fields.{held_path}
use Rattle.terms.specs.Nesting.{max_nesting}
use Rattle.terms.proofs.RowsKept.{rows_put, none_kept}
use Rattle.selector_readings.specs.private.Build.{Sized}
use Rattle.reversing.specs.private.RowsBack.{back_nesting}
use Rattle.reversing.specs.private.RowsPut.{Table, rows_of}
use Rattle.reversing.proofs.Made.{nesting_found, no_path, no_back, too_deep, too_many, is_held, made_refused, held_few}
use Rattle.reversing.proofs.Made.{made_held}
use Rattle.reversing.proofs.way_back.Goals as goal

pub returns-then-not-is_held_path : goal.returns-then-not-is_held_path
returns-then-not-is_held_path c =
    let s = c.args.held.now in
    let t : Table = (s.numbers, s.count) in
    made_refused t c.args.i (BadSide 1) t refl
    (no_path (rows_of t) c.args.i (sym c.is_held_path.ensures ∙ c.if-not-is_held_path.true))

pub back_nestings-backs-requires-clause-few : goal.back_nestings-backs-requires-clause-few
back_nestings-backs-requires-clause-few c =
    let s = c.args.held.now in
    let size : length s.numbers ≡ row_width * max_rows = search rules in
    let few = s.few in
    let count = rows_put s.numbers s.count (omega (arith, size, few)) in
    omega (arith, count, few)

pub back_nestings-backs-requires-clause-nested : goal.back_nestings-backs-requires-clause-nested
back_nestings-backs-requires-clause-nested c =
    let s = c.args.held.now in
    let size : length s.numbers ≡ row_width * max_rows = search rules in
    let few = s.few in
    let count = rows_put s.numbers s.count (omega (arith, size, few)) in
    ap (λ (n : ℕ). take n s.nestings) (sym count) ∙ s.kept.nested.entries

pub returns-then-nesting-eq0 : goal.returns-then-nesting-eq0
returns-then-nesting-eq0 c =
    let s = c.args.held.now in
    let t : Table = (s.numbers, s.count) in
    let i = c.args.i in
    let size : length s.numbers ≡ row_width * max_rows = search rules in
    let few = s.few in
    let count = rows_put s.numbers s.count (omega (arith, size, few)) in
    let held : held_path (rows_of t) i ≡ true = sym c.is_held_path.ensures ∙ c.if-not-is_held_path.false in
    let nest : c.entry-nesting.result ≡ back_nesting (rows_of t) i =
    c.entry-nesting.ensures ∙ nesting_found (rows_of t) _ s.count i c.back_nestings-backs.ensures (sym count) in
    made_refused t i NotYielded t refl (no_back (rows_of t) i held (sym nest ∙ c.if-nesting-eq0.true))

pub returns-then-nesting-gt-MAX_NESTING : goal.returns-then-nesting-gt-MAX_NESTING
returns-then-nesting-gt-MAX_NESTING c =
    let s = c.args.held.now in
    let t : Table = (s.numbers, s.count) in
    let i = c.args.i in
    let size : length s.numbers ≡ row_width * max_rows = search rules in
    let few = s.few in
    let count = rows_put s.numbers s.count (omega (arith, size, few)) in
    let held : held_path (rows_of t) i ≡ true = sym c.is_held_path.ensures ∙ c.if-not-is_held_path.false in
    let nest : c.entry-nesting.result ≡ back_nesting (rows_of t) i =
    c.entry-nesting.ensures ∙ nesting_found (rows_of t) _ s.count i c.back_nestings-backs.ensures (sym count) in
    let there : ¬ (back_nesting (rows_of t) i ≡ 0) = λ z. omega (arith, z, nest, c.if-nesting-eq0.false) in
    made_refused t i TooDeep t refl
    (too_deep (rows_of t) i held there (omega (arith, nest, c.if-nesting-gt-MAX_NESTING.true)))

pub put_back-requires : goal.put_back-requires
put_back-requires c = c.no_notes-noted.ensures _ _

pub invariant_of-held : goal.invariant_of-held
unfolding table_of
invariant_of-held c =
    let k = c.put_back.new.held.kept in
    record { few = omega arith; kept = none_kept _ _ k.nested.size k.filtered.size }

pub returns-in-Some : goal.returns-in-Some
returns-in-Some c =
    let s = c.args.held.now in
    let t : Table = (s.numbers, s.count) in
    let i = c.args.i in
    let after = c.put_back.new.held in
    let u : Table = (after.numbers, after.count) in
    let size : length s.numbers ≡ row_width * max_rows = search rules in
    let size_after : length after.numbers ≡ row_width * max_rows = c.whole_numbers.ensures in
    let few = s.few in
    let count = rows_put s.numbers s.count (omega (arith, size, few)) in
    let held : held_path (rows_of t) i ≡ true = sym c.is_held_path.ensures ∙ c.if-not-is_held_path.false in
    let nest : c.entry-nesting.result ≡ back_nesting (rows_of t) i =
    c.entry-nesting.ensures ∙ nesting_found (rows_of t) _ s.count i c.back_nestings-backs.ensures (sym count) in
    let there : ¬ (back_nesting (rows_of t) i ≡ 0) = λ z. omega (arith, z, nest, c.if-nesting-eq0.false) in
    let shallow : back_nesting (rows_of t) i ≤ max_nesting = omega (arith, nest, c.if-nesting-gt-MAX_NESTING.false) in
    let z : Sized s.numbers s.count = record { size = size; bound = few } in
    let w : Sized after.numbers after.count = record { size = size_after; bound = after.few } in
    let m = c.in-Some.ensures.met in
    made_held t i u c.in-Some.row m z w
    (is_held (rows_of t) i held there shallow (held_few t i u c.in-Some.row m z w))

pub returns-in-None : goal.returns-in-None
returns-in-None c =
    let s = c.args.held.now in
    let t : Table = (s.numbers, s.count) in
    let i = c.args.i in
    let size : length s.numbers ≡ row_width * max_rows = search rules in
    let few = s.few in
    let count = rows_put s.numbers s.count (omega (arith, size, few)) in
    let held : held_path (rows_of t) i ≡ true = sym c.is_held_path.ensures ∙ c.if-not-is_held_path.false in
    let nest : c.entry-nesting.result ≡ back_nesting (rows_of t) i =
    c.entry-nesting.ensures ∙ nesting_found (rows_of t) _ s.count i c.back_nestings-backs.ensures (sym count) in
    let there : ¬ (back_nesting (rows_of t) i ≡ 0) = λ z. omega (arith, z, nest, c.if-nesting-eq0.false) in
    let shallow : back_nesting (rows_of t) i ≤ max_nesting = omega (arith, nest, c.if-nesting-gt-MAX_NESTING.false) in
    made_refused t i TermsFull (s.numbers, 0) refl
    (too_many (rows_of t) i held there shallow c.in-None.ensures.met)
