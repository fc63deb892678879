-- The bytes of an ASCII text.
use Rattle.std.specs.Prelude.{ℕ, ◌≡◌, refl, List, [], ◌∷◌}
use Prim.Native.Char.{code}
use Prim.Native.String.{String, [] as no_text, ◌∷◌ as ◌then◌}

unfoldable pub ascii : String → List ℕ
ascii no_text = []
ascii (c then s) = code c ∷ ascii s

-- digits, a space and a newline
by_code : ascii "07 9\n" ≡ 48 ∷ 55 ∷ 32 ∷ 57 ∷ 10 ∷ []
unfolding ascii
by_code = refl
