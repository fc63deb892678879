-- `is_void` meets its contract.
use Rattle.std.proofs.Common.{ℕ, ◌≡◌, ◌<◌, refl, sym, ap, ◌∙◌, arith}
use mathlib.Core.Logic.{⊎_elim}
use Rattle.common.proofs.Reflect.{le_or_lt}
use Rattle.common.specs.represent.Numbers.{row_number}
use Rattle.terms.specs.Row.{Row, table_of}
use Rattle.terms.specs.Terms.{terms, as_path, term_by}
use Rattle.set_selection.proofs.Evaluating.{path_held, path_not_held, void_row_is}
use Rattle.set_selection.proofs.evaluation.is_void.Goals as goal

pub returns-in-Some-Void : goal.returns-in-Some-Void
returns-in-Some-Void c top e =
    let k = sym c.in-Some-Void.ensures ∙ ap row_number c.in-Some-Void.field-0-is in
    ⊎_elim (λ h. path_not_held _ top c.args.r h)
    (λ h. path_held _ top c.args.r h ∙ void_row_is _ _ (rw (← c.row_at.ensures) k))
    (le_or_lt top c.args.r)
