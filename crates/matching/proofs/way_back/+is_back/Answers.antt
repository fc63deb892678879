-- `is_back` meets its contract: a measure, the row that is reversed, and the ways of RowWayBack.antt.
use Prim.Native.Nat.{ℕ}
use native.Mathlib.Omega.{arith}
use mathlib.Core.Path.{◌≡◌}
use mathlib.Core.Bool.{◌&&◌}
use Rattle.std.proofs.lemmas.Grind.{common_steps}
use Rattle.terms.specs.Row.{table_of}
use Rattle.matching.specs.private.RowWayBack.{Noted}
use Rattle.matching.proofs.RowWayBack as ways
use Rattle.matching.proofs.way_back.+is_back.Goals as goal
use Rattle.matching.proofs.way_back.+is_back.Goals.{After-reversal_of}
use Rattle.matching.proofs.way_back.+is_back.Goals.{then-second-i, else-second-i, then-is_back, else-is_back}

pub returns-then-is_noted : goal.returns-then-is_noted
returns-then-is_noted t c =
    let a = c.args in
    ways.is_noted (table_of a.rows.now) _ a.i a.j c.requires (c.is_noted.ensures.0 c.if-is_noted.true)

pub is_back-requires : goal.is_back-requires
is_back-requires t c = (omega (arith, c.if-second-i.true.0), c.requires)

pub is_back-found-requires : goal.is_back-found-requires
is_back-found-requires t c =
    elim c.if-second-i.branch [
      | then-second-i w ↦ (omega (arith, w.if-second-i.true.1), rw w.noted-is w.is_back.ensures.noted)
      | else-second-i w ↦ absurd (grind (arith, common_steps))
    ]

-- what is seen of rows i and j
seen_here : (t : ℕ) (c : After-reversal_of t) →
    ways.Seen (table_of c.args.rows.now) c.args.i c.args.j c.reversal_of.result
seen_here t c =
    ways.seen_of (table_of c.args.rows.now) c.args.i c.args.j _ _ _ _ _ c.from.ensures c.row_at.ensures c.from-2.ensures
    c.row_at-2.ensures c.reversal_of.ensures

pub returns-in-Never : goal.returns-in-Never
returns-in-Never t c =
    let a = c.args in
    let rs = table_of a.rows.now in
    let seen = seen_here t (goal.at.returns-in-Never t c).After-reversal_of in
    ways.never rs a.i a.j _ seen _ c.requires c.in-Never.is

pub returns-in-Always : goal.returns-in-Always
returns-in-Always t c =
    let a = c.args in
    let rs = table_of a.rows.now in
    let seen = seen_here t (goal.at.returns-in-Always t c).After-reversal_of in
    ways.always rs a.i a.j _ seen _ c.requires c.in-Always.is

pub returns-then-found : goal.returns-then-found
returns-then-found u c =
    let a = c.args in
    let rs = table_of a.rows.now in
    let s = c.in-Operands.first in
    let t = c.in-Operands.second in
    let seen = seen_here u (goal.at.returns-then-found u c).After-reversal_of in
    let noted-2 : Noted rs c.if-second-i.noted =
    elim c.if-second-i.branch [
      | then-second-i w ↦ rw w.noted-is w.is_back.ensures.noted
      | else-second-i w ↦ rw w.noted-is c.requires
    ] in
    let noted : Noted rs c.if-is_back.noted =
    elim c.if-is_back.branch [
      | then-is_back w ↦ rw w.noted-is w.is_back-found.ensures.noted
      | else-is_back w ↦ rw w.noted-is noted-2
    ] in
    let found : c.if-is_back.found
    ≡ (ways.operand_back rs a.i s.left s.right && ways.operand_back rs a.i t.left t.right) =
    grind (arith, common_steps) in
    ways.both_found rs a.i a.j _ seen _ noted s t c.in-Operands.is found c.if-found.true c.note.ensures

pub returns-else-found : goal.returns-else-found
returns-else-found u c =
    let a = c.args in
    let rs = table_of a.rows.now in
    let s = c.in-Operands.first in
    let t = c.in-Operands.second in
    let seen = seen_here u (goal.at.returns-else-found u c).After-reversal_of in
    let noted-2 : Noted rs c.if-second-i.noted =
    elim c.if-second-i.branch [
      | then-second-i w ↦ rw w.noted-is w.is_back.ensures.noted
      | else-second-i w ↦ rw w.noted-is c.requires
    ] in
    let noted : Noted rs c.if-is_back.noted =
    elim c.if-is_back.branch [
      | then-is_back w ↦ rw w.noted-is w.is_back-found.ensures.noted
      | else-is_back w ↦ rw w.noted-is noted-2
    ] in
    let found : c.if-is_back.found
    ≡ (ways.operand_back rs a.i s.left s.right && ways.operand_back rs a.i t.left t.right) =
    grind (arith, common_steps) in
    ways.operand_fails rs a.i a.j _ seen _ noted s t c.in-Operands.is found c.if-found.false
