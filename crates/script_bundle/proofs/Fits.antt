-- The numbers of a script's calls have 16 bits.
use Prim.Native.Nat.{ℕ, zero, suc, ◌≤◌}
use mathlib.Core.Path.{◌≡◌, refl, subst}
use mathlib.Core.Bool.{Bool, true, false, cond, ◌&&◌}
use mathlib.Core.List.{List, [], ◌∷◌, ◌++◌}
use mathlib.Core.Option.{Option, none, some, Option-elim, some-injective, none-ne-some}
use native.Mathlib.Omega.{arith}
use lib.Dec.{leb}
use lib.ListN.{get_or, length}
use borrow.Author.Tests.{leb-true}
use Rattle.common.specs.Limits.{max_bytes}
use Rattle.common.specs.Lists.{Every}
use Rattle.lines.specs.Line.{Line, parts}
use Rattle.lines.specs.Number.{max_number, is_decimal, append_digits, number_up_to, numbers_up_to, line_numbers}
use Rattle.selector_grammar.specs.Bytes.{Bytes}
use Rattle.calls.specs.Calls.{Call}
use Rattle.session.specs.ReadGuarantee.{CallFits}
use Rattle.script.specs.declared.words.Word.{Word}
use Rattle.script.specs.declared.words.Word.TheVariants.{Term, Step, Select, Document, Fresh, Old, New, Replace}
use Rattle.script.specs.declared.words.Word.TheVariants.{Write, Point, Return, Other, Order, BundleOrder, Names, Text}
use Rattle.script.specs.declared.words.Word.TheVariants.{Record, Current, Release, Records, Released, CrewCurrent}
use Rattle.script.specs.declared.words.Word.TheVariants.{WayBack}
use Rattle.script.specs.Command.{numbers_in, named, word_for, word_command, command_by}
use Rattle.script.specs.Words.{words, shape_of}
use Rattle.script.specs.Rest.{rest_of, names_of}
use Rattle.script_bundle.specs.Filing.{lends, lending, action_of, action_calls, line_action, line_names, calls_from}

number_fits : (most : ℕ) (w : List ℕ) (n : ℕ) → number_up_to most w ≡ some n → n ≤ most
number_fits most w n e = by_test (is_decimal w) (leb (append_digits 0 w) most) refl e
  where
    by_test : (a b : Bool) → leb (append_digits 0 w) most ≡ b
        → cond (a && b) (some (append_digits 0 w)) none ≡ some n → n ≤ most
    by_test false b q z = absurd (none-ne-some n z)
    by_test true false q z = absurd (none-ne-some n z)
    by_test true true q z =
        subst (λ k. k ≤ most) (some-injective _ _ z) (leb-true (append_digits 0 w) most q)

-- the numbers of a line, and 0 past them
numbers_fit : (count : ℕ) (ws : List (List ℕ)) (ns : List ℕ) → line_numbers count ws ≡ some ns → (k : ℕ)
    → get_or ns k 0 ≤ max_number
unfolding numbers_up_to Option-elim
numbers_fit zero [] ns e k = subst (λ ms. get_or ms k 0 ≤ max_number) (some-injective _ _ e) (none_fits k)
  where
    none_fits : (k : ℕ) → get_or {A = ℕ} [] k 0 ≤ max_number
    none_fits zero = omega arith
    none_fits (suc k) = omega arith
numbers_fit zero (w ∷ ws) ns e k = absurd (none-ne-some ns e)
numbers_fit (suc count) [] ns e k = absurd (none-ne-some ns e)
numbers_fit (suc count) (w ∷ ws) ns e k =
    by_parts (number_up_to max_number w) (number_fits max_number w) (line_numbers count ws) (numbers_fit count ws) e k
  where
    by_parts : (o : Option ℕ) → ((n : ℕ) → o ≡ some n → n ≤ max_number)
        → (p : Option (List ℕ)) → ((ms : List ℕ) → p ≡ some ms → (k : ℕ) → get_or ms k 0 ≤ max_number)
        → Option-elim o none (λ n. Option-elim p none (λ ms. some (n ∷ ms))) ≡ some ns
        → (k : ℕ) → get_or ns k 0 ≤ max_number
    by_parts none f p g z k = absurd (none-ne-some ns z)
    by_parts (some n) f none g z k = absurd (none-ne-some ns z)
    by_parts (some n) f (some ms) g z zero =
        subst (λ xs. get_or xs 0 0 ≤ max_number) (some-injective _ _ z) (f n refl)
    by_parts (some n) f (some ms) g z (suc k) =
        subst (λ xs. get_or xs (suc k) 0 ≤ max_number) (some-injective _ _ z) (g ms refl k)

lent_fits : (names : Bytes) → Every CallFits (action_calls (lending names))
unfolding lending
lent_fits names = by_test (leb (length names) max_bytes)
  where
    by_test : (b : Bool) → Every CallFits (action_calls (cond b (some (lends names)) none))
    by_test true = tt
    by_test false = tt

action_fits : (w : Word) (ws : List (List ℕ)) (ns : List ℕ) → numbers_in (shape_of w) ws ≡ some ns
    → (names rest : Bytes) → Every CallFits (action_calls (action_of w ns names rest))
unfolding shape_of
action_fits Term ws ns e names rest =
    let f = numbers_fit 4 ws ns e in ((f 0, (f 1, (f 2, (f 3, tt)))), tt)
action_fits Step ws ns e names rest =
    let f = numbers_fit 5 ws ns e in ((f 0, (f 1, (f 2, (f 3, (f 4, tt))))), tt)
action_fits Select ws ns e names rest = tt
action_fits Document ws ns e names rest = tt
action_fits Fresh ws ns e names rest = tt
action_fits Old ws ns e names rest = tt
action_fits New ws ns e names rest = tt
action_fits Replace ws ns e names rest = tt
action_fits Write ws ns e names rest = tt
action_fits Point ws ns e names rest = (tt, tt)
action_fits Return ws ns e names rest = (tt, tt)
action_fits Other ws ns e names rest = tt
action_fits Order ws ns e names rest = tt
action_fits BundleOrder ws ns e names rest = tt
action_fits Names ws ns e names rest = lent_fits (names_of rest)
action_fits Text ws ns e names rest = (tt, tt)
action_fits Record ws ns e names rest = tt
action_fits Current ws ns e names rest = tt
action_fits Release ws ns e names rest = tt
action_fits Records ws ns e names rest = tt
action_fits Released ws ns e names rest = tt
action_fits CrewCurrent ws ns e names rest = tt
action_fits WayBack ws ns e names rest = tt

module _ (names rest : Bytes) where
  named_fits : (w : Word) (ws : List (List ℕ)) (o : Option (List ℕ)) → numbers_in (shape_of w) ws ≡ o
      → Every CallFits (action_calls (Option-elim (named w o) none (λ c. action_of c.word c.numbers names rest)))
  unfolding named Option-elim
  named_fits w ws none e = tt
  named_fits w ws (some ns) e = action_fits w ws ns e names rest

  parts_fit : (ws : List (List ℕ))
      → Every CallFits (action_calls (Option-elim (command_by words ws) none
      (λ c. action_of c.word c.numbers names rest)))
  unfolding command_by Option-elim
  parts_fit [] = tt
  parts_fit (w ∷ ws) = by_word (word_for words w)
    where
      by_word : (o : Option Word)
          → Every CallFits (action_calls (Option-elim (Option-elim o none (λ word. word_command word ws)) none
          (λ c. action_of c.word c.numbers names rest)))
      by_word none = tt
      by_word (some word) = named_fits word ws (numbers_in (shape_of word) ws) refl

line_fits : (names : Bytes) (l : Line) → Every CallFits (action_calls (line_action names l))
unfolding line_action Option-elim
line_fits names l = by_end l.ended
  where
    by_end : (b : Bool) → Every CallFits (action_calls (Option-elim (cond b (command_by words (parts l.bytes)) none)
        none (λ c. action_of c.word c.numbers names (rest_of l.bytes))))
    by_end true = parts_fit names (rest_of l.bytes) (parts l.bytes)
    by_end false = tt

both_fit : (cs ds : List Call) → Every CallFits cs → Every CallFits ds → Every CallFits (cs ++ ds)
both_fit [] ds f g = g
both_fit (c ∷ cs) ds f g = (f.0, both_fit cs ds f.1 g)

pub calls_fit : (names : Bytes) (ls : List Line) → Every CallFits (calls_from names ls)
unfolding calls_from
calls_fit names [] = tt
calls_fit names (l ∷ ls) =
    both_fit (action_calls (line_action names l)) _ (line_fits names l)
    (calls_fit (line_names names (line_action names l)) ls)
