-- The words of the table are tried one after the other.
use Prim.Native.Nat.{ℕ, ◌+◌, ◌≤◌, ◌<◌}
use mathlib.Core.Path.{◌≡◌, refl, sym, ap, subst, ◌∙◌}
use mathlib.Core.Bool.{Bool, true, false}
use mathlib.Core.List.{List, [], ◌∷◌, ◌++◌}
use mathlib.Core.Option.{none, Option-elim}
use native.Mathlib.Omega.{arith}
use native.Mathlib.Numerals.{add-one}
use lib.ListN.{length, get_or, drop, length-append, drop_of_length-le}
use lib.Seq.{drop-cons}
use Rattle.std.specs.Prelude.{Option as Optional, Some, None}
use Rattle.lines.specs.Line.{newline, space, lines}
use Rattle.lines.specs.private.NumbersRead.{first_parts, starts_with}
use Rattle.lines.proofs.Start.{starts}
use Rattle.lines.proofs.Parts.{first_none}
use Rattle.script.specs.declared.words.Word.{Word}
use Rattle.script.specs.declared.words.TheConstants.{WORDS}
use Rattle.script.specs.declared.Command.{Command as Given}
use Rattle.script.specs.declared.CallLine.{CallLine}
use Rattle.script.specs.Command.{word_command, word_for, command_by, command_of}
use Rattle.script.specs.Words.{words}
use Rattle.script.specs.private.CommandRead.{AloneRead, CallMet, CallRead}
use Rattle.script.specs.private.Entries.{text_of, entry_of, no_entry}
use Rattle.script.proofs.WordsTable.{Sound, word_sound, word_at, word_count}
use Rattle.script.proofs.Calls.{read_behind}
use Rattle.script.proofs.WordLists.{word_and_numbers, word_alone, word_without_numbers, another_word}

-- the words before the first i are tried
abbrev pub Tried : (xs : List ℕ) (at i : ℕ) → Type 0
Tried xs at i = first_parts command_of (lines (drop at xs)) ≡ first_parts (command_by (drop i words)) (lines
    (drop at xs))

-- word i is tried, after those before it
module _ (xs : List ℕ) (at i : ℕ) (h : i < length WORDS) (so_far : Tried xs at i) (d : Word) (text : List ℕ)
    (is : text ≡ text_of (get_or WORDS i d))
  where
    abbrev word : Word
    word = get_or WORDS i d

    abbrev w : List ℕ
    w = text_of word

    abbrev later : List (List ℕ × Word)
    later = drop (i + 1) words

    inside : i < length words
    inside = omega (arith, word_count)

    here : first_parts command_of (lines (drop at xs))
        ≡ first_parts (command_by (entry_of word ∷ later)) (lines (drop at xs))
    here =
        so_far
        ∙ ap (λ es. first_parts (command_by es) (lines (drop at xs)))
        (drop-cons words i no_entry inside ∙ ap (λ n. get_or words i no_entry ∷ drop n words) (sym (add-one i))
        ∙ ap (λ e. e ∷ later) (word_at i h d))

    sound : Sound (entry_of word)
    sound = subst Sound (word_at i h d) (word_sound i inside)

    by_word : (r : Optional CallLine) → CallRead (command_by (entry_of word ∷ later)) xs at r →
        CallRead command_of xs at r
    by_word r m = read_behind command_of (command_by (entry_of word ∷ later)) xs at at (omega arith) here refl r m

    -- the word and one more byte are there
    there : (e : ℕ) (t : Bool) → starts_with (text ++ e ∷ []) (drop at xs) ≡ t
        → starts_with (w ++ e ∷ []) (drop at xs) ≡ t
    there e t told = subst (λ u. starts_with (u ++ e ∷ []) (drop at xs) ≡ t) is told

    passed : (e : ℕ) → starts_with (text ++ e ∷ []) (drop at xs) ≡ true → at + (length text + 1) ≤ length xs
    passed e told =
        let size = length-append w (e ∷ []) in
        let start = starts (w ++ e ∷ []) xs at (there e true told) in
        omega (arith, start.inside (omega (arith, size)), size, ap length is)

    -- the line starts with the word and a space
    module _ (told : starts_with (text ++ space ∷ []) (drop at xs) ≡ true) where
      pub space_inside : at + (length text + 1) ≤ length xs
      space_inside = passed space told

      pub numbers_read : (r : Optional CallLine) → CallRead (word_command word) xs (at + (length text + 1)) r
          → CallRead command_of xs at r
      numbers_read r m =
          by_word r (word_and_numbers w word later sound.no_newline sound.no_space xs at (there space true told) r
          (subst (λ u. CallRead (word_command word) xs (at + (length u + 1)) r) is m))

    -- the line is the word
    module _ (alone : starts_with (text ++ newline ∷ []) (drop at xs) ≡ true) where
      pub newline_inside : at + (length text + 1) ≤ length xs
      newline_inside = passed newline alone

      pub word_read : (k : Given) → AloneRead word (Some k)
          → CallMet command_of xs at (record { command = k; next = at + (length text + 1) })
      word_read k t =
          subst (λ u. CallMet command_of xs at (record { command = k; next = at + (length u + 1) })) (sym is)
          (by_word (Some _) (word_alone w word later sound.no_newline sound.no_space xs at (there newline true alone)
          k t))

      pub nothing_read : AloneRead word None → none ≡ first_parts command_of (lines (drop at xs))
      nothing_read t =
          word_without_numbers w word later sound.no_newline sound.no_space xs at (there newline true alone) t
          ∙ sym here

    pub next_word : starts_with (text ++ space ∷ []) (drop at xs) ≡ false
        → starts_with (text ++ newline ∷ []) (drop at xs) ≡ false → Tried xs at (i + 1)
    next_word f g =
        here ∙ another_word w word later sound.no_newline sound.no_space xs at (there space false f)
        (there newline false g)

-- after the last word
pub no_word_left : (xs : List ℕ) (at i : ℕ) → length WORDS ≤ i → Tried xs at i
    → none ≡ first_parts command_of (lines (drop at xs))
unfolding command_by word_for Option-elim
no_word_left xs at i h so_far =
    sym (so_far
    ∙ ap (λ es. first_parts (command_by es) (lines (drop at xs)))
    (drop_of_length-le words {i = i} (omega (arith, word_count)))
    ∙ first_none (command_by []) (λ w ws. refl) (lines (drop at xs)))
