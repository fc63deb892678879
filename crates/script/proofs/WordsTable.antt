-- The code's words are the specification's, entry by entry.
use Prim.Native.Nat.{ℕ, zero, suc, ◌<◌}
use mathlib.Core.Path.{◌≡◌, refl, sym, ap, ◌∙◌}
use mathlib.Core.Bool.{Bool, true, ◌&&◌}
use mathlib.Core.List.{List, [], ◌∷◌, map}
use native.Mathlib.Omega.{arith}
use lib.ListN.{length, get_or, length-map, get_or-map}
use Rattle.std.proofs.lemmas.Bool.{and_parts}
use Rattle.std.proofs.lemmas.List.{get_or_default}
use Rattle.lines.specs.Ascii.{ascii}
use Rattle.lines.specs.Line.{newline, space}
use Rattle.lines.proofs.Cutting.{Free, lacks, lacks_free}
use Rattle.script.specs.declared.words.Word.{Word}
use Rattle.script.specs.declared.words.TheConstants.{WORDS, MAX_NUMBERS}
use Rattle.script.specs.Words.{max_numbers, words}
use Rattle.script.specs.private.Entries.{text_of, entry_of, no_entry}

-- what the code asks of an entry
pub record Sound (e : List ℕ × Word) : Type 0 where
  pub no_newline : Free newline e.0
  pub no_space : Free space e.0

sound : List ℕ × Word → Bool
sound e = lacks newline e.0 && lacks space e.0

all_sound : List (List ℕ × Word) → Bool
all_sound [] = true
all_sound (e ∷ es) = sound e && all_sound es

is_sound : (e : List ℕ × Word) → sound e ≡ true → Sound e
unfolding sound
is_sound e t =
    let (n, s) = and_parts _ _ t in
    record { no_newline = lacks_free newline e.0 n; no_space = lacks_free space e.0 s }

sound_at : (es : List (List ℕ × Word)) → all_sound es ≡ true → (i : ℕ) → i < length es → Sound (get_or es i no_entry)
unfolding all_sound
sound_at [] t i h = absurd (omega arith)
sound_at (e ∷ es) t zero h = is_sound e (and_parts (sound e) (all_sound es) t).0
sound_at (e ∷ es) t (suc i) h = sound_at es (and_parts (sound e) (all_sound es) t).1 i (omega arith)

-- by one computation, for all of them
pub word_sound : (i : ℕ) → i < length words → Sound (get_or words i no_entry)
unfolding words ascii all_sound sound lacks
word_sound = sound_at words refl

-- the code's words are those of the specification, with their bytes
words_same : map entry_of WORDS ≡ words
unfolding ascii words text_of
words_same = refl

pub word_count : length WORDS ≡ length words
word_count = sym (length-map WORDS entry_of) ∙ ap length words_same

pub word_at : (i : ℕ) → i < length WORDS → (d : Word) → get_or words i no_entry ≡ entry_of (get_or WORDS i d)
word_at i h d =
    get_or_default words i no_entry (entry_of d) (omega (arith, word_count))
    ∙ ap (λ es. get_or es i (entry_of d)) (sym words_same) ∙ get_or-map entry_of WORDS i d

-- a line lists as many numbers in the code as in the specification; edits are refused by it
pub most_numbers : MAX_NUMBERS ≡ max_numbers
most_numbers = refl
