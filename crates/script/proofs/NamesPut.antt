-- Names that are written.
use Prim.Native.Nat.{ℕ, ◌+◌, ◌<◌}
use mathlib.Core.Path.{◌≡◌, sym, ap₂, ◌∙◌}
use mathlib.Core.List.{List, [], ◌∷◌, ◌++◌, map}
use native.Mathlib.Omega.{arith}
use native.Mathlib.Numerals.{add-one}
use lib.ListN.{length, get_or, take, set, length-map, get_or-map}
use lib.Seq.{take-suc, take-suc-set}
use Rattle.script.specs.Rest.{newline_for_space, names_of}

-- one byte more is written
pub name_put : (xs ys : List ℕ) (i v : ℕ) → i < length xs → i < length ys → v ≡ newline_for_space (get_or xs i 0)
    → take i ys ≡ take i (names_of xs) → take (i + 1) (set ys i v) ≡ take (i + 1) (names_of xs)
unfolding names_of
name_put xs ys i v h l e same =
    let names = map newline_for_space xs in
    let inside : i < length names = omega (arith, length-map xs newline_for_space) in
    rw (add-one i)
    (take-suc-set ys i v l ∙ ap₂ (λ zs w. zs ++ w ∷ []) same (e ∙ sym (get_or-map newline_for_space xs i 0))
    ∙ sym (take-suc names i 0 inside))
