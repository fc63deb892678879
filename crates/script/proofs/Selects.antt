-- The four numbers of a select, one after the other.
use Prim.Native.Nat.{ℕ}
use mathlib.Core.Path.{◌≡◌, refl, ap}
use mathlib.Core.List.{List, [], ◌∷◌}
use mathlib.Core.Option.{Option, none}
use native.Mathlib.Omega.{arith}
use lib.ListN.{length, drop}
use Rattle.lines.specs.Line.{newline, space, lines}
use Rattle.lines.specs.Number.{max_number, numbers_up_to}
use Rattle.lines.specs.private.NumbersRead.{number_cut, NumberMet, first_parts}
use Rattle.lines.proofs.Parts.{PartsMet, GoesOn, starts_there}
use Rattle.lines.proofs.LineRead.{number_within, last_within, no_number_within, no_last_within}
use Rattle.script.specs.Command.{max_limit, max_marks, select_bounds}

some_bound : (b : ℕ) (bs : List ℕ) → ¬ (b ∷ bs ≡ [])
some_bound b bs e = let z : length (b ∷ bs) ≡ 0 = ap length e in omega arith

abbrev all : List (List ℕ) → Option (List ℕ)
all = numbers_up_to select_bounds

module _ (xs : List ℕ) (at : ℕ) where
  pub no_row : none ≡ number_cut max_number space (drop at xs) → none ≡ first_parts all (lines (drop at xs))
  no_row e = no_number_within all max_number _ xs at at [] (starts_there all xs at) (some_bound _ _) e

  module _ (row from-row : ℕ) (m : NumberMet max_number space xs at row from-row) where
    row_read : GoesOn all (numbers_up_to (max_number ∷ max_limit ∷ max_marks ∷ [])) xs at from-row (row ∷ [])
    row_read = number_within all max_number _ xs at at [] (starts_there all xs at) row from-row m

    pub no_context : none ≡ number_cut max_number space (drop from-row xs) → none ≡ first_parts all (lines (drop at xs))
    no_context e = no_number_within all max_number _ xs at from-row (row ∷ []) row_read (some_bound _ _) e

    module _ (context from-context : ℕ) (n : NumberMet max_number space xs from-row context from-context) where
      context_read : GoesOn all (numbers_up_to (max_limit ∷ max_marks ∷ [])) xs at from-context (row ∷ context ∷ [])
      context_read = number_within all max_number _ xs at from-row (row ∷ []) row_read context from-context n

      pub no_limit : none ≡ number_cut max_limit space (drop from-context xs)
          → none ≡ first_parts all (lines (drop at xs))
      no_limit e =
          no_number_within all max_limit _ xs at from-context (row ∷ context ∷ []) context_read (some_bound _ _) e

      module _ (limit from-limit : ℕ) (o : NumberMet max_limit space xs from-context limit from-limit) where
        limit_read : GoesOn all (numbers_up_to (max_marks ∷ [])) xs at from-limit (row ∷ context ∷ limit ∷ [])
        limit_read =
            number_within all max_limit _ xs at from-context (row ∷ context ∷ []) context_read limit from-limit o

        pub no_marks : none ≡ number_cut max_marks newline (drop from-limit xs)
            → none ≡ first_parts all (lines (drop at xs))
        no_marks e = no_last_within all max_marks [] xs at from-limit (row ∷ context ∷ limit ∷ []) limit_read refl e

        pub all_four : (marks next : ℕ) → NumberMet max_marks newline xs from-limit marks next
            → PartsMet all xs at (row ∷ context ∷ limit ∷ marks ∷ []) next
        all_four marks next p =
            last_within all max_marks [] xs at from-limit (row ∷ context ∷ limit ∷ []) limit_read refl marks next p
