-- Records on lent numbers.
use Prim.Native.Nat.{ℕ, ◌+◌, ◌≤◌}
use mathlib.Core.Path.{◌≡◌, sym, ◌∙◌}
use mathlib.Core.List.{List, append_assoc}
use native.Mathlib.Omega.{arith}
use lib.ListN.{length, take, drop}
use lib.Seq.{sets, sets-eq}
use Rattle.std.proofs.lemmas.List.{drop-drop}
use borrow.Rule.Slice.PartMut.{put_mid}

-- a copy of the numbers vs to the place m and those after it
pub copied : (m k : ℕ) (xs vs ys : List ℕ) → ys ≡ vs → k ≡ length vs → m + k ≤ length xs
    → put_mid m k xs ys ≡ sets xs m vs
copied m k xs vs ys same size fits =
    rw (same, drop-drop k m xs, size)
    (sym (append_assoc (take m xs) vs (drop (m + length vs) xs)) ∙ sym (sets-eq vs xs m (omega arith)))
