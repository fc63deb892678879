-- By the kind of the row that is reversed.
use native.Mathlib.Omega.{arith}
use Rattle.std.proofs.lemmas.Grind.{common_steps}
use Rattle.matching.specs.private.RowWayBack.{is_back_by}
use Rattle.matching.specs.private.MatchTypes.{Reverses}
use borrow.Author.Rules.{rules}
use Rattle.terms.specs.Row.{table_of}
use Rattle.terms.specs.represent.RowTypes.{row_of}
use Rattle.matching.proofs.RowWayBack.{no_way_back, other_kind}
use Rattle.matching.proofs.way_back.reversal_of.Goals as goal

pub returns-in-Union : goal.returns-in-Union
unfolding Reverses is_back_by
returns-in-Union c back = rw (← c.in-Some.ensures, c.in-Union.is) (grind (arith, common_steps))

pub returns-in-Composition : goal.returns-in-Composition
unfolding Reverses is_back_by
returns-in-Composition c back = rw (← c.in-Some.ensures, c.in-Composition.is) (grind (arith, common_steps))

pub returns-in-Filter : goal.returns-in-Filter
unfolding Reverses is_back_by
returns-in-Filter c back = rw (← c.in-Some.ensures, c.in-Filter.is) (grind (arith, common_steps))

pub returns-in-Step : goal.returns-in-Step
unfolding Reverses is_back_by
returns-in-Step c back = rw (← c.in-Some.ensures, c.in-Step.is) (grind (arith, common_steps))

pub returns-in_default : goal.returns-in_default
unfolding Reverses
returns-in_default c back =
    let a = c.args in
    no_way_back (table_of a.rows.now) (row_of a.x) (row_of a.y) back (λ e. omega arith) (λ e. omega arith)
    (λ e. omega arith) (λ e. omega arith)

pub returns-in_default-kind : goal.returns-in_default-kind
unfolding Reverses is_back_by
returns-in_default-kind c back = rw (← c.in-Some.ensures, c.in-Union.is) (grind (arith, common_steps))

pub returns-in_default-kind-2 : goal.returns-in_default-kind-2
unfolding Reverses is_back_by
returns-in_default-kind-2 c back = rw (← c.in-Some.ensures, c.in-Composition.is) (grind (arith, common_steps))

pub returns-in_default-kind-3 : goal.returns-in_default-kind-3
unfolding Reverses is_back_by
returns-in_default-kind-3 c back = rw (← c.in-Some.ensures, c.in-Filter.is) (grind (arith, common_steps))

pub returns-in_default-kind-4 : goal.returns-in_default-kind-4
unfolding Reverses is_back_by
returns-in_default-kind-4 c back = rw (← c.in-Some.ensures, c.in-Step.is) (grind (arith, common_steps))

pub returns-in_default-kind-5 : goal.returns-in_default-kind-5
unfolding Reverses
returns-in_default-kind-5 c back =
    let a = c.args in
    other_kind (table_of a.rows.now) (row_of a.x) (row_of a.y) c.in-Some.kind c.in-Some.ensures (search rules)
    (search rules) (search rules) (search rules) back
