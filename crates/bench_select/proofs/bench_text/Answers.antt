-- `bench_text` meets its contract: no row of the table is held.
use mathlib.Core.Path.{◌≡◌, ap, ◌∙◌}
use Rattle.std.specs.Prelude.{Result, Ok, Err, is_ok, MatchResult}
use Rattle.common.specs.declared.refusal.Refusal.{Refusal}
use Rattle.terms.specs.Row.{table_of}
use Rattle.selector_reader.specs.declared.TextHeld.{TextHeld}
use Rattle.selector_reader.specs.Promises.{text_number}
use Rattle.calls.specs.represent.Answers.{NumberOrRefusal, answer_of}
use Rattle.calls.proofs.Accepted.{ok_accepted}
use Rattle.calls.proofs.TextLaws.{answers_as_defined}
use Rattle.bench_select.proofs.bench_text.Goals as goal

-- the number of a reading's answer, whatever is kept of an accepted one
number_kept : (P : TextHeld → Type 0) (r : Result TextHeld Refusal) (u : NumberOrRefusal) → is_ok u ≡ is_ok r
    → MatchResult r P (λ e. u ≡ Err e) → (answer_of u).number ≡ text_number r
number_kept P (Ok h) u ok m = ok_accepted (λ n. n) u ok
number_kept P (Err e) u ok m = ap (λ (q : NumberOrRefusal). (answer_of q).number) m

pub returns : goal.returns
unfolding table_of
returns c =
    let read = c.read_text-read in
    c.number.ensures
    ∙ number_kept _ read.result c.map.result c.map.ensures.variant c.map.ensures.cases
    ∙ ap (λ q. q.number) ((answers_as_defined _ _ _ _ _ _).0 read.ensures.read.answers)
