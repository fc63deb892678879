-- A buffer that reads fill in place, from its start.
use Rattle.std.proofs.Common.{ℕ, ◌≡◌, ◌+◌, ◌≤◌, List, ◌++◌, length, take, drop, sym, ap, ◌∙◌, subst}
use Rattle.std.proofs.Common.{Option, None, Some, IfSome, drop_at, length-take-le}
use Rattle.std.proofs.lemmas.List.{take_at, take-append-le}
use lib.Seq.{take-add}
use borrow.Rule.Slice.PartMut.{put_mid, take_put}
use Rattle.std.specs.Io.KnownBytes.{Consumes, Keeps}
use Rattle.std.proofs.KnownBytes.{Consumes-trans, Consumes-kept}

module _ (a b c : Option (List ℕ)) (at k : ℕ) (xs ys : List ℕ) (within : at ≤ length xs)
    (before : Consumes a b (take at xs))
  where
    -- a read put n bytes behind those that stood there
    pub filled_more : (n : ℕ) → n ≤ length ys → Consumes b c (take n ys)
        → Consumes a c (take (at + n) (put_mid at k xs ys))
    filled_more n fits read = subst (Consumes a c) (sym joined) (Consumes-trans a b c _ _ before read)
      where
        joined : take (at + n) (put_mid at k xs ys) ≡ take at xs ++ take n ys
        joined =
            take-add at n (put_mid at k xs ys)
            ∙ ap (λ l. l ++ take n (drop at (put_mid at k xs ys))) (take_put at k xs ys within)
            ∙ ap (λ l. take at xs ++ take n l) (drop_at (take at xs) _ at (length-take-le at xs within))
            ∙ ap (λ l. take at xs ++ l) (take-append-le n ys _ fits)

    -- a read put none
    pub filled_kept : Keeps b c → Consumes a c (take at (put_mid at k xs ys))
    filled_kept kept = subst (Consumes a c) (sym (take_put at k xs ys within)) (Consumes-kept a b c _ before kept)

-- the buffer is full
pub full : (a b : Option (List ℕ)) (n most : ℕ) (xs : List ℕ) → n ≤ length xs → n ≡ most → Consumes a b (take n xs)
    → IfSome a (λ ys. take n xs ≡ take most ys)
full None b n most xs within is moved = tt
full (Some x) None n most xs within is moved = absurd moved
full (Some x) (Some y) n most xs within is moved =
    sym (ap (take most) moved ∙ take_at (take n xs) y most (length-take-le n xs within ∙ is))
