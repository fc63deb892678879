-- The command of a line whose numbers are read.
use Prim.Native.Nat.{ℕ, ◌+◌, ◌*◌, ◌≤◌}
use mathlib.Core.Path.{◌≡◌, refl, sym, ap, subst, ◌∙◌}
use mathlib.Core.List.{List, [], ◌∷◌, ◌++◌, map}
use mathlib.Core.Option.{Option, none, some, Option-elim}
use lib.ListN.{length, get_or, take, drop}
use lib.Seq.{sets, length-sets}
use native.Mathlib.Omega.{arith}
use borrow.Author.Tests.{le-leb}
use Rattle.std.specs.Prelude.{Option as Optional, Some, None}
use Rattle.std.specs.List.{range_with_len}
use Rattle.std.proofs.lemmas.List.{take-append-le, take_all}
use Rattle.std.proofs.lemmas.List.Edits.{sets-eq}
use Rattle.std.proofs.lemmas.List.FromFn.{fill_by_all}
use Rattle.calls.specs.represent.Tables.{step_width}
use Rattle.lines.specs.Line.{lines}
use Rattle.lines.specs.private.NumbersRead.{first_parts}
use Rattle.lines.proofs.Parts.{first_mapped, PartsMet}
use Rattle.script.specs.declared.words.Word.{Word}
use Rattle.script.specs.Words.{Shape}
use Rattle.script.specs.Words.{Listed}
use Rattle.script.specs.Words.{shape_of}
use Rattle.script.specs.declared.Command.{Command as Given}
use Rattle.script.specs.declared.CallLine.{CallLine}
use Rattle.script.specs.Command.{Command, command, all_numbers, at_most, numbers_in, named, word_command}
use Rattle.script.specs.private.CommandRead.{written_command, CallMet, CallRead}

-- what is read at `at` is what is read further on
pub read_behind : (read other : List (List ℕ) → Option Command) (xs : List ℕ) (at behind : ℕ) → at ≤ behind
    → first_parts read (lines (drop at xs)) ≡ first_parts other (lines (drop behind xs))
    → drop 1 (lines (drop at xs)) ≡ drop 1 (lines (drop behind xs)) → (r : Optional CallLine)
    → CallRead other xs behind r → CallRead read xs at r
read_behind read other xs at behind h same next None m = m ∙ sym same
read_behind read other xs at behind h same next (Some r) m =
    record {
      line = m.line ∙ sym same;
      rest = m.rest ∙ sym next;
      further = omega (arith, m.further);
      inside = m.inside;
    }

-- its numbers are what its word asks for
module _ (word : Word) (shape : Shape) (s : shape_of word ≡ shape) (xs : List ℕ) (at : ℕ) where
  first_named : (o : Option (List ℕ)) → first_parts (numbers_in shape) (lines (drop at xs)) ≡ o
      → first_parts (word_command word) (lines (drop at xs)) ≡ named word o
  unfolding named Option-elim
  first_named o e =
      subst (λ t. first_parts (λ ws. named word (numbers_in t ws)) (lines (drop at xs)) ≡ named word o) (sym s)
      (first_mapped (named word) refl (λ ws. named word (numbers_in shape ws)) (numbers_in shape) (λ ws. refl)
      (lines (drop at xs)) ∙ ap (named word) e)

  pub no_numbers_call : none ≡ first_parts (numbers_in shape) (lines (drop at xs))
      → none ≡ first_parts (word_command word) (lines (drop at xs))
  unfolding named Option-elim
  no_numbers_call e = sym (first_named none (sym e))

  pub numbers_call : (ns : List ℕ) (next : ℕ) → PartsMet (numbers_in shape) xs at ns next → (k : Given)
      → written_command k ≡ command word ns
      → CallMet (word_command word) xs at (record { command = k; next = next })
  unfolding named Option-elim
  numbers_call ns next m k e =
      record {
        line = ap some e ∙ sym (first_named (some ns) (sym m.numbers));
        rest = m.rest;
        further = m.right.0;
        inside = m.right.1;
      }

-- up to five numbers, put over five zeros, are the first of those at the five places
pub put_first : (count : ℕ) (ns zeros all : List ℕ) → length ns ≡ count → count ≤ step_width
    → length zeros ≡ step_width → all ≡ sets zeros (count * 0) ns
    → take count (get_or all 0 0 ∷ get_or all 1 0 ∷ get_or all 2 0 ∷ get_or all 3 0 ∷ get_or all 4 0 ∷ []) ≡ ns
put_first count ns zeros all size few five is =
    let start : count * 0 ≡ 0 = omega arith in
    let front : all ≡ ns ++ drop (0 + length ns) zeros =
    is ∙ ap (λ i. sets zeros i ns) start ∙ sets-eq ns zeros 0 (omega (arith, size, five)) in
    let places : all ≡ map (λ i. get_or all i 0) (range_with_len 0 5) =
    fill_by_all (λ i. get_or all i 0) all 5 0 (ap length is ∙ length-sets zeros (count * 0) ns ∙ five)
    (λ k h. refl) in
    sym (ap (take count) places) ∙ ap (take count) front
    ∙ take-append-le count ns (drop (0 + length ns) zeros) (omega (arith, size))
    ∙ take_all count ns (omega (arith, size))

-- a list's numbers are all of its line, where they are not too many
module _ (word : Word) (most : ℕ) (s : shape_of word ≡ Listed most) (xs : List ℕ) (at : ℕ) where
  at_most_lem : first_parts (numbers_in (Listed most)) (lines (drop at xs))
      ≡ at_most most (first_parts all_numbers (lines (drop at xs)))
  unfolding at_most Option-elim
  at_most_lem =
      first_mapped (at_most most) refl (λ ws. at_most most (all_numbers ws)) all_numbers (λ ws. refl)
      (lines (drop at xs))

  pub no_list : at_most most (first_parts all_numbers (lines (drop at xs))) ≡ none
      → none ≡ first_parts (word_command word) (lines (drop at xs))
  no_list e = no_numbers_call word (Listed most) s xs at (sym (at_most_lem ∙ e))

  pub list_call : (ns : List ℕ) (next : ℕ) → PartsMet all_numbers xs at ns next → length ns ≤ most → (k : Given)
      → written_command k ≡ command word ns
      → CallMet (word_command word) xs at (record { command = k; next = next })
  unfolding at_most Option-elim
  list_call ns next m h k e =
      numbers_call word (Listed most) s xs at ns next
      (record {
        numbers = sym (at_most_lem ∙ ap (at_most most) (sym m.numbers) ∙ rw (le-leb (length ns) most h));
        rest = m.rest;
        right = m.right;
      }) k e
