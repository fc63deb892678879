-- The numbers of a list are read one after the other.
use Prim.Native.Nat.{ℕ}
use mathlib.Core.Path.{◌≡◌, sym, ap}
use mathlib.Core.List.{List}
use mathlib.Core.Option.{none, Option-elim}
use lib.ListN.{length, drop}
use Rattle.lines.specs.Line.{newline, space, lines}
use Rattle.lines.specs.Number.{max_number}
use Rattle.lines.specs.private.NumbersRead.{number_cut, first_parts}
use Rattle.script.specs.declared.words.Word.{Word}
use Rattle.script.specs.Words.{Listed}
use Rattle.script.specs.Words.{shape_of}
use Rattle.script.specs.Command.{at_most, word_command}
use Rattle.script.proofs.Numbers.{SoFar, none_of_all, numbers_full}
use Rattle.script.proofs.Calls.{no_list}

-- the numbers ns are read, and the line goes on at `from`; but it is no list
module _ (word : Word) (most : ℕ) (s : shape_of word ≡ Listed most) (xs : List ℕ) (at from : ℕ) (ns : List ℕ)
    (so_far : SoFar xs at from ns)
  where
    pub no_number_there : none ≡ number_cut max_number space (drop from xs)
        → none ≡ number_cut max_number newline (drop from xs)
        → none ≡ first_parts (word_command word) (lines (drop at xs))
    unfolding at_most Option-elim
    no_number_there e f =
        no_list word most s xs at (ap (at_most most) (sym (none_of_all xs at from ns so_far e f)))

    pub no_room : length ns ≡ most → none ≡ first_parts (word_command word) (lines (drop at xs))
    no_room f = no_list word most s xs at (numbers_full xs at from ns so_far most f)
