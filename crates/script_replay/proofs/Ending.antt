-- What a line that is read tells of the line that ends the run.
use Prim.Native.Nat.{ℕ, ◌+◌}
use mathlib.Core.Path.{◌≡◌, refl, sym, ap, ◌∙◌}
use mathlib.Core.Bool.{Bool, true, false, cond}
use mathlib.Core.List.{List, [], ◌∷◌}
use Rattle.std.specs.Prelude.{Option as Optional, Some, None, MatchOption}
use Rattle.std.specs.Bool.{then_some}
use Rattle.lines.specs.Line.{Line, lines}
use Rattle.lines.specs.private.NumbersRead.{first_parts}
use Rattle.script.specs.declared.CallLine.{CallLine}
use Rattle.script.specs.Command.{command_of}
use Rattle.script.specs.private.CommandRead.{written_command, CallMet, CallRead}
use Rattle.script_replay.specs.declared.Style.{Style}
use Rattle.script_replay.specs.Transcript.{word_taken, is_taken, ending_line}

pub no_line_left : (style : Style) (n : ℕ) (ls : List Line) → ls ≡ [] → ending_line style n ls ≡ 0
unfolding ending_line
no_line_left style n ls e = rw e refl

-- line n, the first of the lines ls, is all that the piece has
module _ (style : Style) (n : ℕ) (ls later : List Line) (piece : List ℕ) (l : Line) (alone : lines piece ≡ l ∷ [])
    (there : ls ≡ l ∷ later)
  where
    first : ending_line style n ls
        ≡ cond (is_taken style (first_parts command_of (lines piece))) (ending_line style (n + 1) later) n
    unfolding ending_line first_parts
    first =
        ap (ending_line style n) there
        ∙ ap (λ ms. cond (is_taken style (first_parts command_of ms)) (ending_line style (n + 1) later) n) (sym alone)

    -- what is read of it is passed on where the style takes it
    module _ (o q : Optional CallLine) (read : CallRead command_of piece 0 o) (W : CallLine → Bool → Type 0)
        (passed_on : MatchOption o (q ≡ None) (λ r. (b : Bool) × W r b × (q ≡ then_some b r)))
        (told : (r : CallLine) (b : Bool) → W r b → b ≡ word_taken style (written_command r.command).word)
      where
        by_read : (r : CallLine) (b : Bool) → W r b → CallMet command_of piece 0 r
            → ending_line style n ls ≡ cond b (ending_line style (n + 1) later) n
        by_read r b w m =
            first ∙ ap (λ o. cond (is_taken style o) (ending_line style (n + 1) later) n) (sym m.line)
            ∙ ap (λ b. cond b (ending_line style (n + 1) later) n) (sym (told r b w))

        pub line_ends : q ≡ None → ending_line style n ls ≡ n
        line_ends = by_option o read passed_on
          where
            by_taken : (r : CallLine) (b : Bool) → W r b → CallMet command_of piece 0 r → q ≡ then_some b r
                → q ≡ None → ending_line style n ls ≡ n
            by_taken r true w m e gone = cc
            by_taken r false w m e gone = by_read r false w m

            by_option : (p : Optional CallLine) → CallRead command_of piece 0 p
                → MatchOption p (q ≡ None) (λ r. (b : Bool) × W r b × (q ≡ then_some b r)) → q ≡ None
                → ending_line style n ls ≡ n
            by_option None m h gone =
                first ∙ ap (λ o. cond (is_taken style o) (ending_line style (n + 1) later) n) (sym m)
            by_option (Some r) m h gone = by_taken r h.0 h.1 m h.2 gone

        pub line_passed : (x : CallLine) → q ≡ Some x → ending_line style n ls ≡ ending_line style (n + 1) later
        line_passed x = by_option o read passed_on
          where
            by_taken : (r : CallLine) (b : Bool) → W r b → CallMet command_of piece 0 r → q ≡ then_some b r
                → q ≡ Some x → ending_line style n ls ≡ ending_line style (n + 1) later
            by_taken r true w m e is = by_read r true w m
            by_taken r false w m e is = cc

            by_option : (p : Optional CallLine) → CallRead command_of piece 0 p
                → MatchOption p (q ≡ None) (λ r. (b : Bool) × W r b × (q ≡ then_some b r)) → q ≡ Some x
                → ending_line style n ls ≡ ending_line style (n + 1) later
            by_option None m h is = cc
            by_option (Some r) m h is = by_taken r h.0 h.1 m h.2 is
