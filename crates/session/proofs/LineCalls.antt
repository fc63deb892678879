-- What the code does at a line of a bundle is what the reading does.
use Rattle.calls.specs.represent.Answers.{NumberOrRefusal, answer_of}
use Prim.Native.Nat.{ℕ, ◌+◌, ◌*◌, ◌≤◌, ◌<◌, min}
use mathlib.Core.Path.{◌≡◌, refl, sym, ap, ◌∙◌}
use mathlib.Core.Bool.{Bool, true, false}
use mathlib.Core.List.{List, [], ◌∷◌, ◌++◌}
use mathlib.Core.Option.{none}
use Rattle.std.specs.Prelude.{Ok, Err, MatchResult, is_ok}
use Rattle.common.specs.declared.refusal.Refusal.{Refusal}
use Rattle.calls.specs.declared.answer.LineRefusal.{LineRefusal}
use native.Mathlib.Omega.{arith}
use lib.ListN.{length, drop}
use lib.Seq.{sets}
use Rattle.terms.specs.Row.{row_of_numbers, max_rows}
use Rattle.lines.specs.Ascii.{ascii}
use Rattle.lines.specs.Line.{newline, lines, first_is}
use Rattle.lines.specs.private.NumbersRead.{first_numbers, LineMet, starts_with}
use Rattle.lines.proofs.Cutting.{Free, lacks, lacks_free, no_lines, some_line}
use Rattle.lines.proofs.Start.{line_passed, starts_with_line}
use Rattle.session.specs.declared.session.Session.{Session}
use Rattle.calls.specs.Book.{max_steps, book, answer}
use Rattle.calls.specs.represent.Tables.{row_width, step_width, first_rows, first_steps}
use Rattle.session.specs.View.{view, fresh_session}
use Rattle.calls.specs.Book.{step_numbers, step_of_numbers}
use Rattle.calls.specs.Promises.{row_step_answer}
use Rattle.call_answers.specs.private.Placed.{TermPlaced}
use Rattle.bundles.specs.Bundle.{row_names, step_names}
use Rattle.common.specs.Refusals.{wrong_form}
use Rattle.session.specs.Reading.{refused_at, steps_read, rows_read}
use Rattle.session.specs.private.Parts.{holding, refused_by}
use Rattle.calls.proofs.Tables.{steps_held_lem}
use Rattle.session.proofs.LinesRead.{names_read, row_wrong, row_held, row_refused, step_wrong, step_held}
use Rattle.session.proofs.LinesRead.{step_refused}
use Rattle.calls.proofs.StepJudged.{step_accepted}
use Rattle.session.proofs.session.StepMade.{step_made_held, step_made_refused}
use Rattle.session.proofs.session.TermMade.{term_made_held, term_made_refused}

pub row_names_free : Free newline row_names
unfolding row_names ascii lacks
row_names_free = lacks_free newline row_names refl

pub step_names_free : Free newline step_names
unfolding step_names ascii lacks
step_names_free = lacks_free newline step_names refl

-- what a `?` behind `map_err` gives up for: a call's refusal, at its line
pub refused_by_map_err : (t : NumberOrRefusal) (line : ℕ) (e : LineRefusal) (P : ℕ → Type 0) (Q : Refusal → Type 0)
    → MatchResult t P Q → is_ok t ≡ false → ((k : Refusal) → Q k → e ≡ record { refusal = k; line = line })
    → refused_by e ≡ refused_at (answer_of t).number line
refused_by_map_err (Ok x) line e P Q h f told = cc f
refused_by_map_err (Err k) line e P Q h f told = ap refused_by (told k h)

-- the names lines, as the code finds them
pub is_row_names : (xs : List ℕ) (b : Bool) → b ≡ starts_with (row_names ++ newline ∷ []) xs
    → b ≡ first_is row_names (lines xs)
is_row_names xs b e = e ∙ starts_with_line row_names row_names_free xs

pub is_step_names : (xs : List ℕ) (b : Bool) → b ≡ starts_with (step_names ++ newline ∷ []) xs
    → b ≡ first_is step_names (lines xs)
is_step_names xs b e = e ∙ starts_with_line step_names step_names_free xs

-- term lines, where the first n rows of xs are held
module _ (bytes xs : List ℕ) (n line at : ℕ) where
  abbrev here : Session
  here = holding xs n fresh_session.steps 0

  pub names_there : first_is step_names (lines (drop at bytes)) ≡ true
      → (rows_read row_step_answer here line (lines (drop at bytes)) ≡ steps_read row_step_answer here (line + 1)
      (lines (drop (at + 29) bytes))) × (at + 29 ≤ length bytes)
  unfolding step_names ascii
  names_there e =
      let passed = line_passed step_names bytes at step_names_free e in
      (names_read here line _ e ∙ ap (steps_read row_step_answer here (line + 1)) (sym passed.rest), passed.inside)

  pub row_end : length bytes ≤ at → rows_read row_step_answer here line (lines (drop at bytes))
      ≡ refused_at wrong_form line
  unfolding rows_read
  row_end h = rw (no_lines bytes at h)

  pub row_wrong_there : first_is step_names (lines (drop at bytes)) ≡ false
      → none ≡ first_numbers row_width (lines (drop at bytes))
      → rows_read row_step_answer here line (lines (drop at bytes)) ≡ refused_at wrong_form line
  row_wrong_there other e = row_wrong here line _ other e

  module _ (other : first_is step_names (lines (drop at bytes)) ≡ false) (four : List ℕ) (next : ℕ)
      (m : LineMet row_width bytes at four next) where
    module _ (few : n ≤ max_rows) (ys : List ℕ) (t : NumberOrRefusal)
        (placed : TermPlaced xs n (row_of_numbers four) ys t)
      where
        count : n ≡ min n max_rows
        count = omega arith

        pub row_refused_there : ¬ ((answer_of t).number ≡ 0) → rows_read row_step_answer here line
            (lines (drop at bytes)) ≡ refused_at (answer_of t).number line
        row_refused_there f =
            row_refused here line _ other four m.numbers _ _
            (term_made_refused here (row_of_numbers four) n count ys t placed f) f

        module _ (e : (answer_of t).number ≡ 0) where
          pub row_held_there : rows_read row_step_answer here line (lines (drop at bytes)) ≡ rows_read row_step_answer
              (holding ys (n + 1) fresh_session.steps 0) (line + 1) (lines (drop next bytes))
          row_held_there =
              row_held here line _ other four m.numbers _ _
              (term_made_held here (row_of_numbers four) n count ys t placed e) e
              ∙ ap (rows_read row_step_answer (holding ys (n + 1) fresh_session.steps 0) (line + 1))
              (sym m.rest)

-- step lines, where the first n rows of xs and the first k steps of ys are held
module _ (bytes xs : List ℕ) (n : ℕ) (ys : List ℕ) (k line at : ℕ) where
  abbrev now_held : Session
  now_held = holding xs n ys k

  pub step_end : length bytes ≤ at → k ≤ max_steps → length ys ≡ step_width * max_steps
      → steps_read row_step_answer now_held line (lines (drop at bytes)) ≡ record {
        answer = answer 0 k;
        session = now_held;
      }
  unfolding steps_read view
  step_end h few size =
      let held = steps_held_lem ys (min k max_steps) (omega arith) size in
      let same : min k max_steps ≡ k = omega arith in
      rw (no_lines bytes at h) (ap (λ j. record { answer = answer 0 j; session = now_held }) (held ∙ same))

  pub step_wrong_there : at < length bytes → none ≡ first_numbers step_width (lines (drop at bytes))
      → steps_read row_step_answer now_held line (lines (drop at bytes)) ≡ refused_at wrong_form line
  step_wrong_there inside e = step_wrong now_held line _ (some_line bytes at inside) e

  module _ (five : List ℕ) (next : ℕ) (m : LineMet step_width bytes at five next) where
    module _ (few : k ≤ max_steps) (t : NumberOrRefusal)
        (judged : answer_of t ≡ row_step_answer (book (first_rows n xs) (first_steps k ys))
        (step_of_numbers five))
      where
        steps_counted_lem : k ≡ min k max_steps
        steps_counted_lem = omega arith

        pub step_refused_there : ¬ ((answer_of t).number ≡ 0) → steps_read row_step_answer now_held line
            (lines (drop at bytes)) ≡ refused_at (answer_of t).number line
        step_refused_there f =
            step_refused now_held line _ five m.numbers _ _
            (step_made_refused now_held (step_of_numbers five) t judged f) f

        module _ (e : (answer_of t).number ≡ 0) where
          pub step_held_there : (zs : List ℕ) → zs ≡ sets ys (step_width * k) (step_numbers (step_of_numbers five))
              → steps_read row_step_answer now_held line (lines (drop at bytes)) ≡ steps_read row_step_answer
              (holding xs n zs (k + 1)) (line + 1) (lines (drop next bytes))
          step_held_there zs written =
              step_held now_held line _ five m.numbers _ _
              (step_made_held now_held (step_of_numbers five) t judged e k steps_counted_lem zs written) e
              ∙ ap (steps_read row_step_answer (holding xs n zs (k + 1)) (line + 1)) (sym m.rest)

          pub step_room : length ys ≡ step_width * max_steps → k < max_steps
          unfolding row_step_answer
          step_room size =
              let room = (step_accepted _ _ _ (sym (ap (λ a. a.number) judged) ∙ e)).room in
              omega (arith, room, steps_held_lem ys (min k max_steps) (omega arith) size)
