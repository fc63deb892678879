-- What the functions that write a bundle's text promise.
use Rattle.std.specs.Prelude.{ℕ, ◌+◌, ◌≡◌, List, [], ◌∷◌, ◌++◌, length}
use Rattle.std.proofs.lemmas.List.Edits.{sets}
use Rattle.lines.specs.Line.{newline}
use Rattle.terms.specs.Row.{table_of}
use Rattle.terms.specs.represent.RowTypes.{row_of}
use Rattle.calls.specs.represent.Answers.{step_of}
use Rattle.calls.specs.represent.Tables.{steps_of}
use Rattle.calls.specs.declared.held.Held.{Held}
use Rattle.bundles.specs.Bundle.{row_text, step_text, bundle_text}
use Rattle.bundles.specs.declared.writer.Line.{Line}
use Rattle.bundles.specs.declared.writer.Line.TheVariants.{Names, Term, Step}

-- the text is put at `at` into the bytes xs, which become ys; `next` is the position after it
pub record Put (xs : List ℕ) (at : ℕ) (text : List ℕ) (next : ℕ) (ys : List ℕ) : Type 0 where
  pub position : next ≡ at + length text
  pub bytes : ys ≡ sets xs at text

-- the text of a line
unfoldable pub text_of_line : Line → List ℕ
text_of_line (Names names) = names.now ++ newline ∷ []
text_of_line (Term row) = row_text (row_of row)
text_of_line (Step step) = step_text (step_of step)

-- the bundle of lent rows and steps
abbrev pub held_text : Held → List ℕ
held_text held = bundle_text (table_of held.rows.now) (steps_of held.steps.now)
