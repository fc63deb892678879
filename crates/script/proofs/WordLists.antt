-- The first part of a line says which call it is.
use Prim.Native.Nat.{ℕ, ◌+◌}
use mathlib.Core.Path.{◌≡◌, refl, sym, ap, ◌∙◌}
use mathlib.Core.Bool.{Bool, true, false, false≢true}
use mathlib.Core.List.{List, [], ◌∷◌, ◌++◌, append_assoc}
use mathlib.Core.Logic.{◌⊎◌, inl, inr}
use mathlib.Core.Option.{none, Option-elim}
use native.Mathlib.Omega.{arith}
use lib.ListN.{length, drop, length-append}
use borrow.Author.Tests.{eq-eqb}
use Rattle.std.specs.Prelude.{Option as Optional, Some, None}
use Rattle.lines.specs.Line.{newline, space, Line, lines, same_bytes}
use Rattle.lines.specs.Number.{numbers_up_to}
use Rattle.lines.specs.private.NumbersRead.{first_parts, starts_with}
use Rattle.lines.proofs.Cutting.{Free, lines_at, no_whole_line}
use Rattle.lines.proofs.Start.{starts}
use Rattle.lines.proofs.SameBytes.{same_bytes_lem, same_itself}
use Rattle.lines.proofs.Parts.{FirstPart, no_line, only_part, part_before, first_part, before_newline, before_space}
use Rattle.lines.proofs.Parts.{next_behind, first_none, first_mapped}
use Rattle.script.specs.declared.words.Word.{Word}
use Rattle.script.specs.declared.words.Word.TheVariants.{Term, Step, Select, Document, Fresh, Old, New, Replace}
use Rattle.script.specs.declared.words.Word.TheVariants.{Write, Point, Return, Other, Order, BundleOrder, Names, Text}
use Rattle.script.specs.declared.words.Word.TheVariants.{Record, Current, Release, Records, Released, CrewCurrent}
use Rattle.script.specs.declared.words.Word.TheVariants.{WayBack}
use Rattle.script.specs.Words.{shape_of}
use Rattle.script.specs.declared.Command.{Command as Given}
use Rattle.script.specs.declared.CallLine.{CallLine}
use Rattle.script.specs.Command.{named, word_command, word_for, command_by}
use Rattle.script.specs.private.CommandRead.{AloneRead, CallMet, CallRead}
use Rattle.script.proofs.Calls.{read_behind}

-- any other word wants numbers
pub other_alone : (w : Word) → ¬ (w ≡ Document) → ¬ (w ≡ Fresh) → ¬ (w ≡ Old) → ¬ (w ≡ New) → ¬ (w ≡ Replace)
    → ¬ (w ≡ Other) → ¬ (w ≡ BundleOrder) → ¬ (w ≡ Names) → ¬ (w ≡ Text) → ¬ (w ≡ Records) → ¬ (w ≡ Released)
    → word_command w [] ≡ none
unfolding shape_of named numbers_up_to Option-elim
other_alone Term _ _ _ _ _ _ _ _ _ _ _ = refl
other_alone Step _ _ _ _ _ _ _ _ _ _ _ = refl
other_alone Select _ _ _ _ _ _ _ _ _ _ _ = refl
other_alone Document f _ _ _ _ _ _ _ _ _ _ = absurd (f refl)
other_alone Fresh _ f _ _ _ _ _ _ _ _ _ = absurd (f refl)
other_alone Old _ _ f _ _ _ _ _ _ _ _ = absurd (f refl)
other_alone New _ _ _ f _ _ _ _ _ _ _ = absurd (f refl)
other_alone Replace _ _ _ _ f _ _ _ _ _ _ = absurd (f refl)
other_alone Write _ _ _ _ _ _ _ _ _ _ _ = refl
other_alone Point _ _ _ _ _ _ _ _ _ _ _ = refl
other_alone Return _ _ _ _ _ _ _ _ _ _ _ = refl
other_alone Other _ _ _ _ _ f _ _ _ _ _ = absurd (f refl)
other_alone Order _ _ _ _ _ _ _ _ _ _ _ = refl
other_alone BundleOrder _ _ _ _ _ _ f _ _ _ _ = absurd (f refl)
other_alone Names _ _ _ _ _ _ _ f _ _ _ = absurd (f refl)
other_alone Text _ _ _ _ _ _ _ _ f _ _ = absurd (f refl)
other_alone Record _ _ _ _ _ _ _ _ _ _ _ = refl
other_alone Current _ _ _ _ _ _ _ _ _ _ _ = refl
other_alone Release _ _ _ _ _ _ _ _ _ _ _ = refl
other_alone Records _ _ _ _ _ _ _ _ _ f _ = absurd (f refl)
other_alone Released _ _ _ _ _ _ _ _ _ _ f = absurd (f refl)
other_alone CrewCurrent _ _ _ _ _ _ _ _ _ _ _ = refl
other_alone WayBack _ _ _ _ _ _ _ _ _ _ _ = refl

-- a word without numbers has none behind a space either
pub no_numbers_behind : (w : Word)
    → (w ≡ Fresh) ⊎ ((w ≡ Other) ⊎ ((w ≡ BundleOrder) ⊎ ((w ≡ Records) ⊎ (w ≡ Released)))) → (ls : List Line)
    → none ≡ first_parts (word_command w) ls
unfolding shape_of named numbers_up_to Option-elim
no_numbers_behind w (inl e) ls = rw e (sym (first_none (word_command Fresh) (λ v ws. refl) ls))
no_numbers_behind w (inr (inl e)) ls = rw e (sym (first_none (word_command Other) (λ v ws. refl) ls))
no_numbers_behind w (inr (inr (inl e))) ls = rw e (sym (first_none (word_command BundleOrder) (λ v ws. refl) ls))
no_numbers_behind w (inr (inr (inr (inl e)))) ls = rw e (sym (first_none (word_command Records) (λ v ws. refl) ls))
no_numbers_behind w (inr (inr (inr (inr e)))) ls = rw e (sym (first_none (word_command Released) (λ v ws. refl) ls))

starts_itself : (ys zs : List ℕ) → starts_with ys (ys ++ zs) ≡ true
unfolding starts_with
starts_itself [] zs = refl
starts_itself (y ∷ ys) zs = rw (eq-eqb y y refl, starts_itself ys zs)

-- the first entry of a table, whose bytes have no space or newline in them
module _ (w : List ℕ) (word : Word) (es : List (List ℕ × Word)) (f : Free newline w) (g : Free space w) (xs : List ℕ)
    (at : ℕ)
  where
    abbrev table : List (List ℕ × Word)
    table = (w, word) ∷ es

    by_word : (ws : List (List ℕ)) → command_by table (w ∷ ws) ≡ word_command word ws
    unfolding command_by word_for Option-elim
    by_word ws = rw (same_itself w)

    -- the line starts with it and a space
    pub word_and_numbers : starts_with (w ++ space ∷ []) (drop at xs) ≡ true → (r : Optional CallLine)
        → CallRead (word_command word) xs (at + (length w + 1)) r → CallRead (command_by table) xs at r
    word_and_numbers e r m =
        let size = length-append w (space ∷ []) in
        let start = starts (w ++ space ∷ []) xs at e in
        let behind = drop (at + (length w + 1)) xs in
        let text : drop at xs ≡ w ++ space ∷ behind =
        start.text ∙ ap (λ n. (w ++ space ∷ []) ++ drop (at + n) xs) size ∙ append_assoc w (space ∷ []) behind in
        let same : first_parts (command_by table) (lines (drop at xs))
        ≡ first_parts (word_command word) (lines behind) =
        ap (λ t. first_parts (command_by table) (lines t)) text ∙ before_space (command_by table) w behind f g
        ∙ first_mapped (λ o. o) refl (λ ws. command_by table (w ∷ ws)) (word_command word) by_word (lines behind) in
        let next : drop 1 (lines (drop at xs)) ≡ drop 1 (lines behind) =
        ap (λ t. drop 1 (lines t)) text ∙ next_behind w behind f in
        read_behind (command_by table) (word_command word) xs at (at + (length w + 1)) (omega arith) same next r m

    -- the line is it
    module _ (e : starts_with (w ++ newline ∷ []) (drop at xs) ≡ true) where
      behind : List ℕ
      behind = drop (at + (length w + 1)) xs

      text : drop at xs ≡ w ++ newline ∷ behind
      unfolding behind
      text =
          (starts (w ++ newline ∷ []) xs at e).text
          ∙ ap (λ n. (w ++ newline ∷ []) ++ drop (at + n) xs) (length-append w (newline ∷ []))
          ∙ append_assoc w (newline ∷ []) behind

      told : first_parts (command_by table) (lines (drop at xs)) ≡ word_command word []
      told =
          ap (λ t. first_parts (command_by table) (lines t)) text ∙ before_newline (command_by table) w behind f g
          ∙ by_word []

      pub word_alone : (k : Given) → AloneRead word (Some k)
          → CallMet (command_by table) xs at (record { command = k; next = at + (length w + 1) })
      unfolding behind
      word_alone k t =
          let size = length-append w (newline ∷ []) in
          let start = starts (w ++ newline ∷ []) xs at e in
          record {
            line = sym (told ∙ t);
            rest = sym (ap (λ t. drop 1 (lines t)) text ∙ ap (λ ls. drop 1 ls) (lines_at w behind f));
            further = omega arith;
            inside = omega (arith, start.inside (omega (arith, size)), size);
          }

      pub word_without_numbers : AloneRead word None → none ≡ first_parts (command_by table) (lines (drop at xs))
      word_without_numbers t = sym (told ∙ t)

    -- the line starts with another word
    pub another_word : starts_with (w ++ space ∷ []) (drop at xs) ≡ false
        → starts_with (w ++ newline ∷ []) (drop at xs) ≡ false
        → first_parts (command_by table) (lines (drop at xs)) ≡ first_parts (command_by es) (lines (drop at xs))
    unfolding command_by word_for
    another_word no_space no_newline = by_part (first_part (drop at xs))
      where
        other : (v r : List ℕ) (e : ℕ) → drop at xs ≡ v ++ e ∷ r → starts_with (w ++ e ∷ []) (drop at xs) ≡ false
            → (ws : List (List ℕ)) → command_by table (v ∷ ws) ≡ command_by es (v ∷ ws)
        other v r e t n ws = by_test (same_bytes v w) refl
          where
            by_test : (b : Bool) → same_bytes v w ≡ b → command_by table (v ∷ ws) ≡ command_by es (v ∷ ws)
            by_test false s = rw s
            by_test true s =
                let i = same_bytes_lem v w s in
                let text : drop at xs ≡ (w ++ e ∷ []) ++ r =
                t ∙ ap (λ u. u ++ e ∷ r) i ∙ sym (append_assoc w (e ∷ []) r) in
                absurd (false≢true (sym n ∙ ap (starts_with (w ++ e ∷ [])) text ∙ starts_itself (w ++ e ∷ []) r))

        by_part : FirstPart (drop at xs)
            → first_parts (command_by table) (lines (drop at xs)) ≡ first_parts (command_by es) (lines (drop at xs))
        by_part (no_line h) =
            no_whole_line (command_by table) (drop at xs) h ∙ sym (no_whole_line (command_by es) (drop at xs) h)
        by_part (only_part v r t h k) =
            rw t (before_newline (command_by table) v r h k ∙ other v r newline t no_newline []
            ∙ sym (before_newline (command_by es) v r h k))
        by_part (part_before v r t h k) =
            rw t (before_space (command_by table) v r h k
            ∙ first_mapped (λ o. o) refl (λ ws. command_by table (v ∷ ws)) (λ ws. command_by es (v ∷ ws))
            (other v r space t no_space) (lines r)
            ∙ sym (before_space (command_by es) v r h k))
