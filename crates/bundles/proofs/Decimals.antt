-- The text of a number is what the library writes of it; how many digits it has.
use Prim.Native.Nat.{ℕ, zero, suc, ◌+◌, ◌*◌, ◌^◌, ◌/◌, ◌≤◌, ◌<◌}
use mathlib.Core.Path.{◌≡◌}
use native.Mathlib.Omega.{arith}
use lib.ListN.{length, length-append}
use Rattle.std.specs.Fmt as fmt
use Rattle.std.proofs.lemmas.Fmt.{decimal_from_appends, decimal_step, decimal_nonempty}
use Rattle.std.proofs.lemmas.Fmt.{length-decimal-le, length-decimal-le_succ}
use Rattle.lines.specs.Written.{digits_of, decimal}
use Rattle.std.proofs.Common.{rules}

pub decimal_written : (n : ℕ) → n < 2 ^ 64 → decimal n ≡ fmt.decimal n
unfolding decimal digits_of
decimal_written n h =
    decimal_from_appends digits_of (search rules) (suc n) n h (omega (arith, length-decimal-le_succ n h))

pub digits_few : (k n : ℕ) → 0 < k → n < 10 ^ k → n < 2 ^ 64 → length (decimal n) ≤ k
digits_few k n some few h = rw (decimal_written n h) (length-decimal-le k n some few h)

-- from 10 on the number without its last digit has one digit less
more_length : (n : ℕ) → 10 ≤ n → n < 2 ^ 64 → length (decimal n) ≡ length (decimal (n / 10)) + 1
more_length n large h =
    rw (decimal_written n h, decimal_written (n / 10) (omega arith), decimal_step n large h)
    (length-append (fmt.decimal (n / 10)) _)

-- by induction on the power of ten below it
pub digits_by_power : (k n : ℕ) → 10 ^ k ≤ n → n < 10 * 10 ^ k → n < 2 ^ 64 → length (decimal n) ≡ k + 1
digits_by_power zero n low high h =
    let few = digits_few 1 n (omega arith) (omega arith) h in
    let some : 0 < length (decimal n) = rw (decimal_written n h) (decimal_nonempty n h) in
    omega arith
digits_by_power (suc k) n low high h =
    omega (arith, more_length n (omega arith) h, digits_by_power k (n / 10) (omega arith) (omega arith) (omega arith))
