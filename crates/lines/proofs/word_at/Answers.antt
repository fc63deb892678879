-- `word_at` meets its contract.
use mathlib.Core.Path.{sym, ◌∙◌}
use native.Mathlib.Omega.{arith}
use Rattle.lines.proofs.Start.{same_start, starts_byte, same_byte}
use Rattle.lines.proofs.word_at.Goals as goal

pub returns-then-starts_with : goal.returns-then-starts_with
returns-then-starts_with c =
    let word = c.args.word.now in
    let text = c.rest-rest.result.now in
    let start = sym (same_start word text) ∙ sym c.starts_with.ensures.value ∙ c.if-starts_with.true in
    rw (← c.rest-rest.ensures, starts_byte c.args.end word text, start)
    (c.eq.ensures ∙ same_byte c.get.result _ _ (c.get.ensures.lookup.4 (omega arith) _))

pub returns-else-starts_with : goal.returns-else-starts_with
returns-else-starts_with c =
    let word = c.args.word.now in
    let text = c.rest-rest.result.now in
    let start = sym (same_start word text) ∙ sym c.starts_with.ensures.value ∙ c.if-starts_with.false in
    rw (← c.rest-rest.ensures, starts_byte c.args.end word text, start) c.if-starts_with.false
