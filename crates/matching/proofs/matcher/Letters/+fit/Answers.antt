-- `fit` meets its contract, by the ways of Matching.antt.
use Rattle.terms.specs.Row.{table_of}
use Rattle.common.specs.represent.Numbers.{row_number}
use Rattle.matching.specs.private.PatternTypes.{letter_number, pattern_of}
use Rattle.matching.specs.private.RowYields.{match}
use Rattle.matching.specs.private.MatchTypes.{matched, Matches}
use mathlib.Core.Bool.{false}
use Rattle.matching.proofs.Matching.{checked, match_keeps, goes_on, stops, letter_way, other_letter_way, row_way}
use Rattle.matching.proofs.Matching.{other_row_way}
use Rattle.matching.proofs.matcher.Letters.+fit.Goals as goal
use Rattle.matching.proofs.matcher.Letters.+fit.Goals.{then-fit, else-fit}

pub returns-in-Number : goal.returns-in-Number
unfolding pattern_of match
returns-in-Number t c = rw c.in-Number.is (checked c.args.self.now _)

pub returns-then-suits_letter : goal.returns-then-suits_letter
unfolding pattern_of
returns-then-suits_letter t c =
    let a = c.args in
    rw c.in-Letter.is
    (letter_way (table_of a.rows.now) (letter_number c.in-Letter.letter) a.v a.self.now c.suits_letter.ensures
    c.if-suits_letter.true c.bind.ensures)

pub returns-else-suits_letter : goal.returns-else-suits_letter
unfolding pattern_of
returns-else-suits_letter t c =
    let a = c.args in
    rw c.in-Letter.is
    (other_letter_way (table_of a.rows.now) (letter_number c.in-Letter.letter) a.v a.self.now c.suits_letter.ensures
    c.if-suits_letter.false)

pub returns-in_default : goal.returns-in_default
unfolding pattern_of
returns-in_default t c =
    let a = c.args in
    let w = c.in-Row.row.now in
    rw (
      c.in-Row.is,
      ← other_row_way (table_of a.rows.now) (row_number w.0) a.v (pattern_of w.1) (pattern_of w.2)
          (pattern_of w.3) (matched a.self.now) c.in_default.ensures,
    )
    (checked a.self.now false)

pub returns-then-fit-2 : goal.returns-then-fit-2
unfolding pattern_of
returns-then-fit-2 t c =
    let a = c.args in
    let rs = table_of a.rows.now in
    let row = c.in-Some.held in
    let m = matched a.self.now in
    let x = pattern_of c.in-Row.row.now.1 in
    let y = pattern_of c.in-Row.row.now.2 in
    let z = pattern_of c.in-Row.row.now.3 in
    let both : Matches c.if-fit.value c.if-fit.self (match rs y row.b (match rs x row.a m)) =
    elim c.if-fit.branch [
      | then-fit w ↦
          rw (w.value-is, w.self-is)
          (goes_on (match_keeps rs y row.b) c.fit.ensures w.if-fit.true w.fit-then-fit.ensures)
      | else-fit w ↦ rw (w.value-is, w.self-is) (stops (match_keeps rs y row.b) c.fit.ensures w.if-fit.false)
    ] in
    rw (
      c.in-Row.is,
      ← row_way rs (row_number c.in-Row.row.now.0) a.v x y z m c.in-Some.ensures,
    )
    (goes_on (match_keeps rs z row.c) both c.if-fit-2.true c.fit-then-fit-2.ensures)

pub returns-else-fit-2 : goal.returns-else-fit-2
unfolding pattern_of
returns-else-fit-2 t c =
    let a = c.args in
    let rs = table_of a.rows.now in
    let row = c.in-Some.held in
    let m = matched a.self.now in
    let x = pattern_of c.in-Row.row.now.1 in
    let y = pattern_of c.in-Row.row.now.2 in
    let z = pattern_of c.in-Row.row.now.3 in
    let both : Matches c.if-fit.value c.if-fit.self (match rs y row.b (match rs x row.a m)) =
    elim c.if-fit.branch [
      | then-fit w ↦
          rw (w.value-is, w.self-is)
          (goes_on (match_keeps rs y row.b) c.fit.ensures w.if-fit.true w.fit-then-fit.ensures)
      | else-fit w ↦ rw (w.value-is, w.self-is) (stops (match_keeps rs y row.b) c.fit.ensures w.if-fit.false)
    ] in
    rw (
      c.in-Row.is,
      ← row_way rs (row_number c.in-Row.row.now.0) a.v x y z m c.in-Some.ensures,
    )
    (stops (match_keeps rs z row.c) both c.if-fit-2.false)
