-- All numbers of a line, one after the other.
use Prim.Native.Nat.{ℕ}
use mathlib.Core.Path.{◌≡◌, refl, sym, ◌∙◌}
use mathlib.Core.List.{List, [], ◌∷◌, ◌++◌}
use mathlib.Core.Logic.{inl}
use mathlib.Core.Option.{Option, none, some, Option-elim}
use native.Mathlib.Omega.{arith}
use lib.ListN.{length, drop, length-append}
use borrow.Author.Tests.{lt-leb}
use Rattle.lines.specs.Line.{newline, space, lines}
use Rattle.lines.specs.Number.{max_number, number_up_to, numbers_up_to}
use Rattle.lines.specs.private.NumbersRead.{number_cut, NumberMet, first_parts}
use Rattle.lines.proofs.Parts.{prepended, appended, Reads, first_none, first_mapped, PartsMet, GoesOn, starts_there}
use Rattle.lines.proofs.Parts.{number_more, last_number, no_number_more}
use Rattle.script.specs.Command.{all_numbers, at_most}

reads_all : Reads max_number all_numbers all_numbers
unfolding numbers_up_to
reads_all w ws = refl

-- the line at `at` has the numbers ns, and goes on at `from`
abbrev pub SoFar : (xs : List ℕ) (at from : ℕ) (ns : List ℕ) → Type 0
SoFar xs at from ns = GoesOn all_numbers all_numbers xs at from ns

pub no_number_yet : (xs : List ℕ) (at : ℕ) → SoFar xs at at []
no_number_yet xs at = starts_there all_numbers xs at

module _ (xs : List ℕ) (at from : ℕ) (ns : List ℕ) (so_far : SoFar xs at from ns) where
  pub one_more_number : (v next : ℕ) → NumberMet max_number space xs from v next → SoFar xs at next (ns ++ v ∷ [])
  one_more_number v next m =
      number_more all_numbers all_numbers xs at from ns so_far max_number all_numbers reads_all v next m

  pub last_of_all : (v next : ℕ) → NumberMet max_number newline xs from v next
      → PartsMet all_numbers xs at (ns ++ v ∷ []) next
  unfolding numbers_up_to
  last_of_all v next m =
      last_number all_numbers all_numbers xs at from ns so_far max_number all_numbers reads_all refl v next m

  pub none_of_all : none ≡ number_cut max_number space (drop from xs)
      → none ≡ number_cut max_number newline (drop from xs)
      → none ≡ first_parts all_numbers (lines (drop at xs))
  none_of_all e f =
      no_number_more all_numbers all_numbers xs at from ns so_far max_number all_numbers reads_all (inl (sym f))
      (inl (sym e))

  -- the line goes on, and there is always one more part
  pub numbers_full : (most : ℕ) → length ns ≡ most → at_most most (first_parts all_numbers (lines (drop at xs))) ≡ none
  unfolding at_most numbers_up_to Option-elim
  numbers_full most e =
      rw so_far.numbers
      (sym (first_mapped cut_off refl (λ ws. cut_off (all_numbers ws)) all_numbers (λ ws. refl) (lines (drop from xs)))
      ∙ first_none (λ ws. cut_off (all_numbers ws)) (λ w ws. by_numbers (number_up_to max_number w) (all_numbers ws))
      (lines (drop from xs)))
    where
      cut_off : Option (List ℕ) → Option (List ℕ)
      cut_off o = at_most most (appended ns o)

      by_numbers : (o : Option ℕ) (p : Option (List ℕ)) → cut_off (Option-elim o none (λ v. prepended v p)) ≡ none
      by_numbers none p = refl
      by_numbers (some v) none = refl
      by_numbers (some v) (some ms) =
          rw (lt-leb (length (ns ++ v ∷ ms)) most (omega (arith, length-append ns (v ∷ ms), e)))
