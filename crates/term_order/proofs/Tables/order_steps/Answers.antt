-- `order_steps` meets its contract: three comparisons, one after the other.
use mathlib.Core.Path.{refl, sym, ◌∙◌}
use Rattle.terms.specs.Row.{table_of}
use Rattle.calls.specs.represent.Answers.{step_of}
use Rattle.term_order.proofs.Compared.{numbers_compared, first_decides, second_decides, third_decides}
use Rattle.term_order.proofs.Steps.{by_rows}
use Rattle.term_order.proofs.Tables.order_steps.Goals as goal

pub returns-then-is_ne : goal.returns-then-is_ne
returns-then-is_ne c =
    let a = c.args in
    let rule = numbers_compared a.p.rule a.q.rule c.cmp-rules.ensures refl refl in
    let whole = by_rows (table_of a.self.left.now) (table_of a.self.right.now) (step_of a.p) (step_of a.q) in
    record {
      answer = first_decides whole c.cmp-rules.result rule (sym c.is_ne.ensures ∙ c.if-is_ne.true);
      noted = c.requires;
    }

pub returns-then-is_ne-2 : goal.returns-then-is_ne-2
returns-then-is_ne-2 c =
    let a = c.args in
    let rule = numbers_compared a.p.rule a.q.rule c.cmp-rules.ensures refl refl in
    let whole = by_rows (table_of a.self.left.now) (table_of a.self.right.now) (step_of a.p) (step_of a.q) in
    record {
      answer = second_decides whole c.cmp-rules.result rule (sym c.is_ne.ensures ∙ c.if-is_ne.false)
          c.order_rows-lefts.result c.order_rows-lefts.ensures.answer (sym c.is_ne-2.ensures ∙ c.if-is_ne-2.true);
      noted = c.order_rows-lefts.ensures.noted;
    }

pub order_rows-requires : goal.order_rows-requires
order_rows-requires c = c.order_rows-lefts.ensures.noted

pub returns : goal.returns
returns c =
    let a = c.args in
    let rule = numbers_compared a.p.rule a.q.rule c.cmp-rules.ensures refl refl in
    let whole = by_rows (table_of a.self.left.now) (table_of a.self.right.now) (step_of a.p) (step_of a.q) in
    record {
      answer = third_decides whole c.cmp-rules.result rule (sym c.is_ne.ensures ∙ c.if-is_ne.false)
          c.order_rows-lefts.result c.order_rows-lefts.ensures.answer (sym c.is_ne-2.ensures ∙ c.if-is_ne-2.false)
          c.order_rows.result c.order_rows.ensures.answer;
      noted = c.order_rows.ensures.noted;
    }
