-- A list of two, of which an array of two is one, by its elements.
use mathlib.Core.Path.{◌≡◌, refl}
use mathlib.Core.List.{List, [], ◌∷◌, map}
use native.Mathlib.Omega.{arith}
use lib.ListN.{length, get_or}

pub map_two : {A B : Type 0} (f : A → B) (d : A) (xs : List A) → length xs ≡ 2
    → map f xs ≡ f (get_or xs 0 d) ∷ f (get_or xs 1 d) ∷ []
map_two f d [] h = absurd (omega arith)
map_two f d (x ∷ []) h = absurd (omega arith)
map_two f d (x ∷ y ∷ []) h = refl
map_two f d (x ∷ y ∷ z ∷ xs) h = absurd (omega arith)
