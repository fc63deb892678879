-- What the functions that pass over bytes promise.
use Rattle.std.specs.Prelude.{ℕ, ◌<◌, ◌≤◌, ◌≡◌, Bool, true, false, ◌||◌, ◌++◌, eqb, length, get_or, drop}
use Rattle.common.specs.Lists.{all_of}
use Rattle.selector_grammar.specs.Bytes.{Bytes, is_start}
use Rattle.selector_grammar.specs.Bytes.{star_byte, dot_byte, at_byte}

-- the byte at a place, 0 past the end
abbrev pub byte_at : Bytes → ℕ → ℕ
byte_at s i = get_or s i 0

-- bytes that all pass p stand from `at` up to `to`; the next doesn't pass, or there is none
pub record PassedOver (p : ℕ → Bool) (s : Bytes) (at to : ℕ) : Type 0 where
  pub bytes : Bytes
  pub all : all_of p bytes ≡ true
  pub split : drop at s ≡ bytes ++ drop to s
  pub from : at ≤ to
  pub fits : to ≤ length s
  pub stops : to < length s → p (byte_at s to) ≡ false

-- the same, and the end of the text doesn't pass
pub record Passed (p : ℕ → Bool) (s : Bytes) (at to : ℕ) : Type 0 where
  pub bytes : Bytes
  pub all : all_of p bytes ≡ true
  pub split : drop at s ≡ bytes ++ drop to s
  pub from : at ≤ to
  pub fits : to ≤ length s
  pub stops : p (byte_at s to) ≡ false

-- the byte begins a step: a name, `*`, `@`, `.`
unfoldable pub begins_step : ℕ → Bool
begins_step b = is_start b || (eqb b star_byte || (eqb b at_byte || eqb b dot_byte))
