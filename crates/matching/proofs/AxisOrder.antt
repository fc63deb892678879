-- Searches through a table of pairs, and through one that holds the same pairs.
use Prim.Native.Nat.{ℕ}
use mathlib.Core.Path.{◌≡◌, refl, ap}
use mathlib.Core.Bool.{Bool, true, ◌&&◌, ◌||◌}
use mathlib.Core.List.{List, [], ◌∷◌}
use lib.Dec.{eqb}
use mir.Facts.{and_yes}
use Rattle.std.specs.List.{list_any}
use Rattle.common.specs.Lists.{all_of}
use Rattle.common.proofs.Reflect.{tests_equal, true_iff}
use Rattle.rules.specs.Order.{is_pair}
use Rattle.rules.proofs.Orders.{tested_at}
use Rattle.matching.specs.private.MatchTypes.{same_pairs}

-- a and b are one of the pairs
pub pair_found : (a b : ℕ) (ps : List (ℕ × ℕ)) → list_any (λ p. eqb p.0 a && eqb p.1 b) ps ≡ is_pair ps a b
unfolding is_pair
pair_found a b [] = refl
pair_found a b (p ∷ ps) = ap (λ r. eqb p.0 a && eqb p.1 b || r) (pair_found a b ps)

-- where each pair of the one table is found in the other, a search in the one finds what a search in the other does
pub found_alike : (ps qs : List (ℕ × ℕ)) → same_pairs ps qs ≡ true → (a b : ℕ) → is_pair ps a b ≡ is_pair qs a b
unfolding same_pairs
found_alike ps qs e a b =
    let f : Bool = all_of (λ p. is_pair qs p.0 p.1) ps in
    let g : Bool = all_of (λ q. is_pair ps q.0 q.1) qs in
    let r = and_yes f g ((true_iff (f && g)).1 e) in
    tests_equal (is_pair ps a b) (is_pair qs a b) (tested_at (is_pair qs) ps r.0 a b, tested_at (is_pair ps) qs r.1 a b)
