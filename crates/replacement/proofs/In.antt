-- The search for a number in a list.
use Prim.Native.Nat.{ℕ}
use mathlib.Core.Path.{◌≡◌, refl, ap}
use mathlib.Core.Bool.{◌||◌}
use mathlib.Core.List.{List, [], ◌∷◌}
use lib.Dec.{eqb}
use Rattle.std.specs.List.{list_any}
use Rattle.common.specs.Lists.{any_of}
use Rattle.replacement.specs.Covered.{is_in}

pub is_in_lem : (ns : List ℕ) (n : ℕ) → list_any (λ m. eqb m n) ns ≡ is_in ns n
unfolding is_in any_of
is_in_lem [] n = refl
is_in_lem (m ∷ ns) n = ap (λ b. eqb m n || b) (is_in_lem ns n)
