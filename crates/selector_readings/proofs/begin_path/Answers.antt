-- `begin_path` meets its contract.
use mathlib.Core.Path.{sym, ◌∙◌}
use Rattle.selector_readings.specs.private.Build.{stands}
use Rattle.selector_readings.proofs.Worded.{begin_bare, begin_root, begin_any}
use Rattle.selector_readings.proofs.begin_path.Goals as goal

pub returns-then-byte_at-ne47 : goal.returns-then-byte_at-ne47
returns-then-byte_at-ne47 c =
    begin_bare c.args.s.now _ (stands c.args.from) _ c.skip-at.ensures
    (λ e. c.if-byte_at-ne47.true (c.byte_at.ensures ∙ e))

pub returns-then-byte_at-ne47-2 : goal.returns-then-byte_at-ne47-2
returns-then-byte_at-ne47-2 c =
    begin_root c.args.s.now _ (stands c.args.from) _ c.skip-at.ensures _
    (stands c.put_leaf-root.result) c.skip-end.result _
    (sym c.byte_at.ensures ∙ c.if-byte_at-ne47.false)
    (λ e. c.if-byte_at-ne47-2.true
    (c.byte_at-2.ensures ∙ e))
    (rw c.into.ensures at c.put_leaf-root.ensures)
    c.skip-end.ensures
    (c.begin_root.ensures)

pub returns : goal.returns
returns c =
    begin_any c.args.s.now _ (stands c.args.from) _ c.skip-at.ensures _ _
    (stands c.put_leaf-root.result) (stands c.every_below-below.result) _
    (sym c.byte_at.ensures ∙ c.if-byte_at-ne47.false)
    (sym c.byte_at-2.ensures ∙ c.if-byte_at-ne47-2.false)
    (rw c.into.ensures at c.put_leaf-root.ensures)
    c.every_below-below.ensures c.skip-place.ensures
