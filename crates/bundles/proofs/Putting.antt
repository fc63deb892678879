-- Texts put one behind the other.
use Prim.Native.Nat.{ℕ, suc, ◌+◌, ◌≤◌, ◌<◌}
use mathlib.Core.Path.{◌≡◌, refl, sym, ap, subst, ◌∙◌}
use mathlib.Core.Bool.{cond}
use mathlib.Core.List.{List, [], ◌∷◌, ◌++◌, append_assoc}
use mathlib.Core.Logic.{◌⊎◌, inl, inr}
use native.Mathlib.Numerals.{add-one}
use native.Mathlib.Omega.{arith}
use lib.Dec.{ltb}
use lib.ListN.{length, get_or, set, take, drop, length-append, drop_of_length-le}
use Rattle.std.proofs.Common.{take-append-drop}
use lib.Seq.{sets, length-sets, drop-cons, drop-drop}
use borrow.Rule.Slice.PartMut.{put_mid}
use borrow.Author.Tests.{lt-ltb, le-ltb}
use Rattle.std.proofs.lemmas.List.Edits.{sets-eq}
use Rattle.common.proofs.Reflect.{le_or_lt}
use Rattle.lines.specs.Line.{newline, space}
use Rattle.lines.specs.Written.{decimal, line_text}
use Rattle.bundles.specs.private.TextPut.{Put}

sets_append : (us vs xs : List ℕ) (at : ℕ) → sets xs at (us ++ vs) ≡ sets (sets xs at us) (at + length us) vs
sets_append [] vs xs at = let e : at ≡ at + 0 = omega arith in ap (λ k. sets xs k vs) e
sets_append (u ∷ us) vs xs at =
    let e : suc at + length us ≡ at + suc (length us) = omega arith in
    sets_append us vs (set xs at u) (suc at) ∙ ap (λ k. sets (sets (set xs at u) (suc at) us) k vs) e

put_none : (xs : List ℕ) (at : ℕ) → Put xs at [] at xs
put_none xs at = record { position = omega arith; bytes = refl }

pub put_both : {xs ys zs : List ℕ} {at n m : ℕ} {us vs : List ℕ} → Put xs at us n ys → Put ys n vs m zs
    → Put xs at (us ++ vs) m zs
put_both {xs} {at = at} {us = us} {vs = vs} p q =
    record {
      position = omega (arith, p.position, q.position, length-append us vs);
      bytes = q.bytes ∙ rw (p.bytes, p.position) (sym (sets_append us vs xs at));
    }

pub put_as : {xs ys us vs : List ℕ} {at n : ℕ} → us ≡ vs → Put xs at us n ys → Put xs at vs n ys
put_as {xs} {ys} {at = at} {n = n} e p = subst (λ w. Put xs at w n ys) e p

-- a text put over a part of the bytes
pub put_part : (xs us : List ℕ) (at k : ℕ) → at + length us ≤ length xs → length us ≡ k
    → Put xs at us (at + length us) (put_mid at k xs us)
put_part xs us at k h e = record {
  position = refl;
  bytes = sym (rw (sets-eq us xs at h, drop-drop, ← e)
      (append_assoc (take at xs) us (drop (at + length us) xs)));
}

-- a text put so that it ends at `end`, by what stands before and behind it
pub put_before : (xs us : List ℕ) (at end start : ℕ) (ys : List ℕ) {vs : List ℕ} → vs ≡ us → end ≡ at + length us
    → at + length us ≤ length xs → start + length vs ≡ end → take start ys ≡ take start xs
    → drop start ys ≡ vs ++ drop end xs → Put xs at us end ys
put_before xs us at end start ys {vs} text e h s front rest =
    let there : start ≡ at = omega (arith, ap length text) in
    record {
      position = e;
      bytes = sym (take-append-drop start ys)
          ∙ rw (front, rest, text, there, e) (sym (append_assoc (take at xs) us _) ∙ sym (sets-eq us xs at h));
    }

pub put_keeps : {xs ys us : List ℕ} {at n : ℕ} → Put xs at us n ys → length ys ≡ length xs
put_keeps {xs} {us = us} {at = at} p = ap length p.bytes ∙ length-sets xs at us

-- a text put at byte 0
pub put_at_start : {xs ys us : List ℕ} {n : ℕ} → length us ≤ length xs → Put xs 0 us n ys
    → ys ≡ us ++ drop (length us) xs
put_at_start {xs} {us = us} h p =
    let start : 0 + length us ≡ length us = omega arith in
    p.bytes ∙ sets-eq us xs 0 (omega arith) ∙ rw start

-- what is left to put: `rest` behind what is put already, which makes `whole`, and has room
pub record Rest (xs : List ℕ) (at : ℕ) (whole ys : List ℕ) (end : ℕ) (rest : List ℕ) : Type 0 where
  pub size : length ys ≡ length xs
  pub room : end + length rest ≤ length xs
  pub then : (r : ℕ) (zs : List ℕ) → Put ys end rest r zs → Put xs at whole r zs

module _ {xs whole : List ℕ} {at : ℕ} where
  pub all_rest : at + length whole ≤ length xs → Rest xs at whole xs at whole
  all_rest h = record { size = refl; room = h; then = λ r zs p. p }

  -- the first of it is put
  pub rest_further : {ys zs us vs : List ℕ} {end n : ℕ} → Rest xs at whole ys end (us ++ vs) → Put ys end us n zs
      → Rest xs at whole zs n vs
  rest_further {us = us} {vs = vs} rest p =
      record {
        size = put_keeps p ∙ rest.size;
        room = omega (arith, rest.room, p.position, length-append us vs);
        then = λ r ws q. rest.then r ws (put_both p q);
      }

  pub rest_done : {ys : List ℕ} {end : ℕ} → Rest xs at whole ys end [] → Put xs at whole end ys
  rest_done {ys} {end} rest = rest.then end ys (put_none ys end)

  -- texts of a list, one behind the other, of which those from place i on are left
  module _ {A : Type 0} (text : A → List ℕ) (texts : List A → List ℕ) (none : texts [] ≡ [])
      (more : (r : A) (rs : List A) → texts (r ∷ rs) ≡ text r ++ texts rs) (rs : List A) (i : ℕ)
      {ys : List ℕ} {end : ℕ} (rest : Rest xs at whole ys end (texts (drop i rs))) where
    module _ (d : A) (h : i < length rs) where
      next : Rest xs at whole ys end (text (get_or rs i d) ++ texts (drop (i + 1) rs))
      next =
          let e : drop i rs ≡ get_or rs i d ∷ drop (i + 1) rs = drop-cons rs i d h ∙ rw add-one in
          subst (λ w. Rest xs at whole ys end w) (ap texts e ∙ more _ _) rest

      pub text_room : end + length (text (get_or rs i d)) ≤ length ys
      text_room = omega (arith, next.room, next.size, length-append (text (get_or rs i d)) (texts (drop (i + 1) rs)))

      pub text_put : {zs : List ℕ} {n : ℕ} → Put ys end (text (get_or rs i d)) n zs
          → Rest xs at whole zs n (texts (drop (i + 1) rs))
      text_put p = rest_further next p

    pub texts_done : length rs ≤ i → Put xs at whole end ys
    texts_done h = rest_done (subst (λ w. Rest xs at whole ys end w) (ap texts (drop_of_length-le rs h) ∙ none) rest)

-- what is left of a line, whose numbers ns are left
unfoldable pub rest_of_line : List ℕ → List ℕ
rest_of_line [] = []
rest_of_line (n ∷ ns) = line_text (n ∷ ns)

pub whole_line : (ns : List ℕ) → 0 < length ns → rest_of_line ns ≡ line_text ns
unfolding rest_of_line
whole_line [] h = absurd (omega arith)
whole_line (n ∷ ns) h = refl

-- the byte behind a number, where ns are left
behind : List ℕ → ℕ
behind [] = newline
behind (n ∷ ns) = space

one_number : (n : ℕ) (ns : List ℕ) → rest_of_line (n ∷ ns) ≡ decimal n ++ behind ns ∷ rest_of_line ns
unfolding rest_of_line line_text behind
one_number n [] = refl
one_number n (m ∷ ns) = refl

behind_at : (ns : List ℕ) (i : ℕ) → i < length ns
    → cond (ltb (i + 1) (length ns)) space newline ≡ behind (drop (i + 1) ns)
unfolding behind
behind_at ns i h = by_place (le_or_lt (length ns) (i + 1))
  where
    by_place : (length ns ≤ i + 1) ⊎ (i + 1 < length ns)
        → cond (ltb (i + 1) (length ns)) space newline ≡ behind (drop (i + 1) ns)
    by_place (inl l) = rw (le-ltb (i + 1) (length ns) l, drop_of_length-le ns l)
    by_place (inr l) = rw (lt-ltb (i + 1) (length ns) l, drop-cons ns (i + 1) 0 l)

-- a number of a line and the byte behind it
module _ {xs whole : List ℕ} {at : ℕ} (ns : List ℕ) (i : ℕ) (h : i < length ns) {ys : List ℕ} {end : ℕ}
    (rest : Rest xs at whole ys end (rest_of_line (drop i ns))) where
  number_next : Rest xs at whole ys end (decimal (get_or ns i 0) ++ behind (drop (i + 1) ns)
      ∷ rest_of_line (drop (i + 1) ns))
  number_next =
      let e : drop i ns ≡ get_or ns i 0 ∷ drop (i + 1) ns = drop-cons ns i 0 h ∙ rw add-one in
      subst (λ w. Rest xs at whole ys end w) (ap rest_of_line e ∙ one_number _ _) rest

  pub number_room : end + length (decimal (get_or ns i 0)) + 1 ≤ length ys
  number_room =
      omega (
        arith,
        number_next.room,
        number_next.size,
        length-append (decimal (get_or ns i 0)) (behind (drop (i + 1) ns) ∷ rest_of_line (drop (i + 1) ns)),
      )

  pub number_put : {us zs : List ℕ} {n m b : ℕ} → Put ys end (decimal (get_or ns i 0)) n us
      → b ≡ cond (ltb (i + 1) (length ns)) space newline → Put us n (b ∷ []) m zs
      → Rest xs at whole zs m (rest_of_line (drop (i + 1) ns))
  number_put p e q =
      rest_further (rest_further number_next p) (put_as (ap (λ x. x ∷ []) (e ∙ behind_at ns i h)) q)

-- all numbers of a line are put
pub numbers_done : {xs whole ys : List ℕ} {at end : ℕ} (ns : List ℕ) (i : ℕ) → length ns ≤ i
    → Rest xs at whole ys end (rest_of_line (drop i ns)) → Put xs at whole end ys
unfolding rest_of_line
numbers_done {xs} {whole} {ys} {at} {end} ns i h rest =
    rest_done (subst (λ w. Rest xs at whole ys end (rest_of_line w)) (drop_of_length-le ns h) rest)
