-- `order_fields` and `order_rows` meet their contracts: a measure, the row of the left, and the ways of Rows.antt and
-- of Compared.antt.
use Prim.Native.Nat.{ℕ, ◌<◌}
use mathlib.Core.Path.{◌≡◌, sym, ◌∙◌}
use mathlib.Core.Bool.{false, ◌&&◌}
use native.Mathlib.Omega.{arith}
use Rattle.std.proofs.lemmas.Grind.{common_steps}
use Rattle.terms.specs.Row.{table_of}
use Rattle.terms.specs.Terms.{term_at}
use Rattle.terms.specs.represent.RowTypes.{field_of, row_of, fields_in}
use Rattle.term_order.specs.TermOrder.{term_order}
use Rattle.term_order.specs.private.FieldsCompared.{is_operand}
use Rattle.term_order.proofs.Rows as ways
use Rattle.term_order.proofs.Compared as law
use Rattle.term_order.proofs.Tables.+order_fields_order_rows.Goals as goal
use Rattle.term_order.proofs.Tables.+order_fields_order_rows.Goals.{order_rows-After-fields_of-a}

pub order_fields-order_rows-requires : goal.order_fields-order_rows-requires
order_fields-order_rows-requires t c =
    let a = c.args in
    let l : a.fields.0 < a.rows.0 =
    ways.operand_before (table_of a.self.left.now) a.rows.0 a.fields.0 (field_of a.field)
    (sym c.is_operand.ensures ∙ c.if-is_operand.true) in
    (omega arith, c.requires)

pub order_fields-returns-then-is_operand-2 : goal.order_fields-returns-then-is_operand-2
order_fields-returns-then-is_operand-2 t c =
    let a = c.args in
    let left = sym c.is_operand.ensures ∙ c.if-is_operand.true in
    let right = sym c.is_operand-then-is_operand.ensures ∙ c.if-is_operand-2.true in
    record {
      answer = c.order_rows.ensures.answer
          ∙ ways.both_operands (table_of a.self.left.now) a.rows.0 a.fields.0 (table_of a.self.right.now) a.rows.1
          a.fields.1 (field_of a.field) left right;
      noted = c.order_rows.ensures.noted;
    }

pub order_fields-returns : goal.order_fields-returns
order_fields-returns t c =
    let a = c.args in
    let rs = table_of a.self.left.now in
    let ss = table_of a.self.right.now in
    let f = field_of a.field in
    let none : (is_operand rs a.rows.0 f a.fields.0 && is_operand ss a.rows.1 f a.fields.1) ≡ false =
    grind (arith, common_steps) in
    record {
      answer = law.numbers_compared _ _ c.cmp.ensures c.number.ensures c.number-2.ensures
          ∙ ways.not_both rs a.rows.0 a.fields.0 ss a.rows.1 a.fields.1 f none;
      noted = c.requires;
    }

pub order_rows-returns-then-is_noted : goal.order_rows-returns-then-is_noted
order_rows-returns-then-is_noted t c =
    let a = c.args in
    law.noted_equal (table_of a.self.left.now) (table_of a.self.right.now) _ a.rows.0 a.rows.1 c.requires
    (c.is_noted.ensures.0 c.if-is_noted.true)

pub order_rows-returns-then-is_ne : goal.order_rows-returns-then-is_ne
order_rows-returns-then-is_ne t c =
    let a = c.args in
    record {
      answer = law.kinds_differ (table_of a.self.left.now) (table_of a.self.right.now) a.rows.0 a.rows.1
          c.row_at-x.ensures c.from.ensures c.row_at-y.ensures c.from-2.ensures c.term_kind-kind.ensures
          c.term_kind-other.ensures c.cmp-kinds.ensures c.is_ne.ensures c.if-is_ne.true;
      noted = c.requires;
    }

pub order_rows-order_fields-first-requires : goal.order_rows-order_fields-first-requires
order_rows-order_fields-first-requires t c = (omega arith, c.requires)

-- two rows of one kind, by the fields of that kind
by_fields : (t : ℕ) (c : order_rows-After-fields_of-a t) → let a = c.args in
    let rs = table_of a.self.left.now in
    let ss = table_of a.self.right.now in
    let x = row_of c.row_at-x.result in
    let y = row_of c.row_at-y.result in
    let fs = fields_in c.fields_of-a.result.0 c.fields_of-a.result.1 c.fields_of-a.result.2 in
    law.Three (term_order (term_at rs a.rows.0) (term_at ss a.rows.1)) (law.fields rs ss a.rows.0 a.rows.1 fs.a x.a y.a)
    (law.fields rs ss a.rows.0 a.rows.1 fs.b x.b y.b) (law.fields rs ss a.rows.0 a.rows.1 fs.c x.c y.c)
by_fields t c =
    let a = c.args in
    law.by_fields (table_of a.self.left.now) (table_of a.self.right.now) a.rows.0 a.rows.1 c.row_at-x.ensures
    c.from.ensures c.row_at-y.ensures c.from-2.ensures c.term_kind-kind.ensures c.term_kind-other.ensures
    c.cmp-kinds.ensures c.is_ne.ensures c.if-is_ne.false c.fields_of-a.ensures

pub order_rows-returns-then-is_ne-2 : goal.order_rows-returns-then-is_ne-2
order_rows-returns-then-is_ne-2 t c =
    let a = c.args in
    let whole = by_fields t (goal.at.order_rows-returns-then-is_ne-2 t c).After-fields_of-a in
    record {
      answer = law.first_decides whole c.order_fields-first.result c.order_fields-first.ensures.answer
          (sym c.is_ne-2.ensures ∙ c.if-is_ne-2.true);
      noted = c.order_fields-first.ensures.noted;
    }

pub order_rows-order_fields-second-requires : goal.order_rows-order_fields-second-requires
order_rows-order_fields-second-requires t c = (omega arith, c.order_fields-first.ensures.noted)

pub order_rows-returns-then-is_ne-3 : goal.order_rows-returns-then-is_ne-3
order_rows-returns-then-is_ne-3 t c =
    let a = c.args in
    let whole = by_fields t (goal.at.order_rows-returns-then-is_ne-3 t c).After-fields_of-a in
    record {
      answer = law.second_decides whole c.order_fields-first.result c.order_fields-first.ensures.answer
          (sym c.is_ne-2.ensures ∙ c.if-is_ne-2.false) c.order_fields-second.result
          c.order_fields-second.ensures.answer (sym c.is_ne-3.ensures ∙ c.if-is_ne-3.true);
      noted = c.order_fields-second.ensures.noted;
    }

pub order_rows-order_fields-third-requires : goal.order_rows-order_fields-third-requires
order_rows-order_fields-third-requires t c = (omega arith, c.order_fields-second.ensures.noted)

pub order_rows-returns-then-is_eq : goal.order_rows-returns-then-is_eq
order_rows-returns-then-is_eq t c =
    let a = c.args in
    let whole = by_fields t (goal.at.order_rows-returns-then-is_eq t c).After-fields_of-a in
    let third =
    law.third_decides whole c.order_fields-first.result c.order_fields-first.ensures.answer
    (sym c.is_ne-2.ensures ∙ c.if-is_ne-2.false) c.order_fields-second.result c.order_fields-second.ensures.answer
    (sym c.is_ne-3.ensures ∙ c.if-is_ne-3.false) c.order_fields-third.result c.order_fields-third.ensures.answer in
    record {
      answer = third;
      noted = law.pair_noted (table_of a.self.left.now) (table_of a.self.right.now) a.rows.0 a.rows.1
          c.order_fields-third.result third (sym c.is_eq.ensures ∙ c.if-is_eq.true) _ _
          c.order_fields-third.ensures.noted c.note.ensures;
    }

pub order_rows-returns-else-is_eq : goal.order_rows-returns-else-is_eq
order_rows-returns-else-is_eq t c =
    let a = c.args in
    let whole = by_fields t (goal.at.order_rows-returns-else-is_eq t c).After-fields_of-a in
    record {
      answer =
          law.third_decides whole c.order_fields-first.result c.order_fields-first.ensures.answer
          (sym c.is_ne-2.ensures ∙ c.if-is_ne-2.false) c.order_fields-second.result c.order_fields-second.ensures.answer
          (sym c.is_ne-3.ensures ∙ c.if-is_ne-3.false) c.order_fields-third.result c.order_fields-third.ensures.answer;
      noted = c.order_fields-third.ensures.noted;
    }
