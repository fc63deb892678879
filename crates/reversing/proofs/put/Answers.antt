-- `put` meets its contract: the row is found, or there is no room, or it is put.
use Prim.Native.Nat.{ℕ, ◌+◌, ◌*◌}
use mathlib.Core.Path.{◌≡◌, sym, subst}
use mathlib.Core.List.{List}
use native.Mathlib.Omega.{arith}
use lib.ListN.{length}
use borrow.Author.Rules.{rules}
use Rattle.std.proofs.Common.{Some}
use Rattle.terms.specs.Row.{Row, row_width, max_rows}
use Rattle.terms.specs.private.Kept.{rows_in}
use Rattle.terms.specs.represent.RowTypes.{row_of}
use Rattle.terms.proofs.RowsKept.{rows_put}
use Rattle.selector_grammar.specs.Denotes.{put}
use Rattle.reversing.specs.private.RowsPut.{PutMet}
use Rattle.reversing.proofs.RowsPut.{found_met, full_met, added_met}
use Rattle.reversing.proofs.put.Goals as goal

pub overflow_cast-result : goal.overflow_cast-result
overflow_cast-result c =
    let s = c.args.held.now in
    let size : length s.numbers ≡ row_width * max_rows = search rules in
    let few = s.few in
    let count = rows_put s.numbers s.count (omega (arith, size, few)) in
    omega (arith, c.in-Some.ensures.1, count, few)

pub returns-in-Some : goal.returns-in-Some
returns-in-Some c =
    let s = c.args.held.now in
    found_met (row_of c.args.row) (s.numbers, s.count) c.in-Some.i c.in-Some.ensures.0 c.in-Some.ensures.1

pub returns-then-n-ge-MAX_ROWS : goal.returns-then-n-ge-MAX_ROWS
returns-then-n-ge-MAX_ROWS c =
    let s = c.args.held.now in
    let size : length s.numbers ≡ row_width * max_rows = search rules in
    let few = s.few in
    let count = rows_put s.numbers s.count (omega (arith, size, few)) in
    full_met (row_of c.args.row) (s.numbers, s.count) c.in_default.ensures
    (omega (arith, count, c.if-n-ge-MAX_ROWS.true))

pub returns : goal.returns
returns c =
    let s = c.args.held.now in
    let size : length s.numbers ≡ row_width * max_rows = search rules in
    let few = s.few in
    let room = c.if-n-ge-MAX_ROWS.false in
    let count : length (rows_in s.numbers s.count) ≡ s.count = rows_put s.numbers s.count (omega (arith, size, few)) in
    subst
    (λ (k : ℕ). PutMet (λ rs. put rs (row_of c.args.row)) (s.numbers, s.count) (c.put.new.self.numbers, k) (Some s.count))
    (sym c.put.ensures.1)
    (added_met (row_of c.args.row) (s.numbers, s.count) c.in_default.ensures c.put.new.self.numbers
    (omega (arith, size, room)) count c.put.ensures.0)
