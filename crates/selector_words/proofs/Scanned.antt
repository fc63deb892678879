-- Bytes passed over.
use Prim.Native.Nat.{ℕ, zero, suc, ◌+◌, ◌-◌, ◌<◌, ◌≤◌}
use mathlib.Core.Path.{◌≡◌, refl, ap, ◌∙◌}
use mathlib.Core.Bool.{Bool, true, false, not}
use mathlib.Core.List.{[], ◌∷◌, ◌++◌, append_assoc}
use native.Mathlib.Omega.{arith}
use native.Mathlib.Decide.{dec_lt}
use native.Mathlib.Numerals.{add-one}
use Rattle.std.proofs.lemmas.Bool.{false≢true}
use borrow.Author.Tests.{not-true, not-false}
use Rattle.std.specs.Prelude.{unwrap_or}
use Rattle.std.specs.List.{position, position_or_len}
use Rattle.std.proofs.lemmas.List.Sums.{fails_before_first, passes_at_first, prefix_len-le-length}
use lib.ListN.{length, get_or, drop, length-drop, get_or-eq_default}
use lib.Seq.{drop-cons, get_or-drop}
use Rattle.common.specs.Lists.{all_of}
use Rattle.lines.proofs.First.{first_or_length}
use Rattle.selector_grammar.specs.Bytes.{Bytes}
use Rattle.selector_grammar.proofs.Back.{snoc}
use Rattle.selector_words.specs.private.Scan.{byte_at, PassedOver, Passed}

pub past : (s : Bytes) (at : ℕ) → length s ≤ at → byte_at s at ≡ 0
past s at h = get_or-eq_default s 0 h

-- a byte that passes a test is there
pub there : (p : ℕ → Bool) (s : Bytes) (at : ℕ) → p 0 ≡ false → p (byte_at s at) ≡ true → at < length s
there p s at h e = go (dec_lt at (length s))
  where
    go : Dec (at < length s) → at < length s
    go (yes i) = i
    go (no i) = absurd (false≢true (rw (past s at (omega (arith, i)), h) at e))

pub head_drop : (s : Bytes) (at : ℕ) → get_or (drop at s) 0 0 ≡ byte_at s at
head_drop s at = get_or-drop at s 0 0 ∙ ap (byte_at s) (omega arith)

module _ (p : ℕ → Bool) (s : Bytes) (at : ℕ) where
  -- the bytes up to a place, each of which passes the test
  record So-far (i : ℕ) : Type 0 where
    bytes : Bytes
    all : all_of p bytes ≡ true
    split : drop at s ≡ bytes ++ drop i s

  so_far : (n : ℕ) → at + n ≤ length s → ((k : ℕ) → k < n → p (byte_at s (at + k)) ≡ true) → So-far (at + n)
  unfolding all_of
  so_far zero h a = let e : at + zero ≡ at = omega arith in
      rw e (record { bytes = []; all = refl; split = refl })
  so_far (suc n) h a =
      let e : at + suc n ≡ at + n + 1 = omega arith in
      let g = so_far n (omega (arith, h)) (λ k i. a k (omega (arith, i))) in
      let i : at + n < length s = omega (arith, h) in
      rw e (record {
        bytes = g.bytes ++ (byte_at s (at + n) ∷ []);
        all = snoc p g.bytes (byte_at s (at + n)) g.all (a n (omega arith));
        split = g.split ∙ (rw (add-one, append_assoc, drop-cons s (at + n) 0) refl);
      })

  -- the bytes up to a place, each of which passes, and the next doesn't
  pub passed_up_to : (to : ℕ) → at ≤ to → to ≤ length s
      → ((k : ℕ) → at ≤ k → k < to → p (byte_at s k) ≡ true)
      → (to < length s → p (byte_at s to) ≡ false) → PassedOver p s at to
  passed_up_to to f l a e =
      let n : at + (to - at) ≡ to = omega (arith, f) in
      let g = rw n at (so_far (to - at) (omega (arith, f, l))
      (λ k i. a (at + k) (omega arith) (omega (arith, i, f)))) in
      record {
        bytes = g.bytes;
        all = g.all;
        split = g.split;
        from = f;
        fits = l;
        stops = e;
      }

  -- the first byte that fails the test, or the end
  pub passed_over : (to : ℕ) → at ≤ length s
      → to ≡ at + unwrap_or (position (λ b. not (p b)) (drop at s)) (length (drop at s)) → PassedOver p s at to
  passed_over to f e = rw (e, first_or_length q xs) (passed_up_to (at + n) (omega arith) (omega (arith, few, size, f))
      (λ k h l. go k h l)
      (λ l. not-true _ (rw (← get_or-drop at s n 0) (passes_at_first q xs 0 (omega (arith, size, l))))))
    where
      xs : Bytes
      xs = drop at s

      q : ℕ → Bool
      q b = not (p b)

      n : ℕ
      n = position_or_len q xs

      few : n ≤ length xs
      few = prefix_len-le-length (λ b. not (q b)) xs

      size : length xs ≡ length s - at
      size = length-drop at s

      go : (k : ℕ) → at ≤ k → k < at + n → p (byte_at s k) ≡ true
      go k h l =
          let z : at + (k - at) ≡ k = omega (arith, h) in
          rw z at (rw (get_or-drop at s (k - at) 0) at
          (not-false _ (fails_before_first q xs (k - at) 0 (omega (arith, h, l)))))

  -- a test that the end of the text fails
  pub passed : (to : ℕ) → p 0 ≡ false → PassedOver p s at to → Passed p s at to
  passed to z g =
      record {
        bytes = g.bytes;
        all = g.all;
        split = g.split;
        from = g.from;
        fits = g.fits;
        stops = go
            (dec_lt to (length s));
      }
    where
      go : Dec (to < length s) → p (byte_at s to) ≡ false
      go (yes i) = g.stops i
      go (no i) = rw (past s to (omega (arith, i))) z
