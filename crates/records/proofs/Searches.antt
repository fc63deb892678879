-- What the searches among the records find.
use Prim.Native.Nat.{ℕ, max}
use mathlib.Core.Path.{◌≡◌, refl, sym, ap, ◌∙◌}
use mathlib.Core.Bool.{Bool, true, false, cond, ◌&&◌}
use mathlib.Core.List.{List, [], ◌∷◌, map}
use native.Mathlib.Omega.{arith}
use lib.Dec.{leb, ltb, eqb}
use denote.Bor.{Bor}
use lib.ListN.{length, length-map}
use Rattle.std.specs.Prelude.{Option, None, Some}
use Rattle.std.specs.Option.{unwrap_or, option_map, MatchOption}
use Rattle.std.specs.List.{fold, reduce, filter, find, list_all}
use Rattle.std.proofs.lemmas.Grind.{common_steps}
use Rattle.common.specs.Lists.{all_of}
use Rattle.records.specs.declared.Record.{Record}
use Rattle.records.specs.Records.{current, row_of, all_kept}

-- a table of structs has as many entries as its numbers say
pub length_mapped : (X Y : Type 0) (f : X → Y) (l : List X) (n : ℕ) → length (map f l) ≡ n → length l ≡ n
length_mapped X Y f l n e = sym (length-map l f) ∙ e

fold_max : (xs : List ℕ) (a b : ℕ) → fold max (max a b) xs ≡ max a (fold max b xs)
fold_max [] a b = refl
fold_max (x ∷ xs) a b =
    let e : max (max a b) x ≡ max a (max b x) = omega arith in
    ap (λ m. fold max m xs) e ∙ fold_max xs a (max b x)

highest_of : (xs : List ℕ) → unwrap_or (reduce max xs) 0 ≡ fold max 0 xs
highest_of [] = refl
highest_of (x ∷ xs) = let e : x ≡ max 0 x = omega arith in ap (λ m. fold max m xs) e

higher : (b : Bool) (e m : ℕ) → cond b (max e m) m ≡ cond (b && ltb m e) e m
higher b e m = grind (arith, common_steps)

-- the highest edition of those of the series
module _ (s : ℕ) where
  abbrev pub of_series : Record → Bool
  of_series r = eqb r.series s

  abbrev editions : List Record → List ℕ
  editions rs = map (λ (r : Record). r.edition) (filter of_series rs)

  one_more : (b : Bool) (r : Record) (fs : List Record)
      → fold max 0 (map (λ (r : Record). r.edition) (cond b (r ∷ fs) fs))
      ≡ cond b (max r.edition (fold max 0 (map (λ (r : Record). r.edition) fs)))
      (fold max 0 (map (λ (r : Record). r.edition) fs))
  one_more true r fs =
      let es = map (λ (r : Record). r.edition) fs in
      let e : max 0 r.edition ≡ max r.edition 0 = omega arith in
      ap (λ m. fold max m es) e ∙ fold_max es r.edition 0
  one_more false r fs = refl

  highest_is : (rs : List Record) → fold max 0 (editions rs) ≡ current rs s
  unfolding current
  highest_is [] = refl
  highest_is (r ∷ rs) =
      one_more (of_series r) r (filter of_series rs)
      ∙ ap (λ m. cond (of_series r) (max r.edition m) m) (highest_is rs)
      ∙ higher (of_series r) r.edition (current rs s)

  pub current_is : (rs : List Record) → unwrap_or (reduce max (editions rs)) 0 ≡ current rs s
  current_is rs = highest_of (editions rs) ∙ highest_is rs

-- the row of the first record that is that edition
pub row_found : (s e : ℕ) (rs : List Record)
    → unwrap_or (option_map (λ (r : Record). r.row) (find (λ r. eqb r.series s && eqb r.edition e) rs)) 0 ≡ row_of rs
    s e
unfolding row_of
row_found s e [] = refl
row_found s e (r ∷ rs) =
    by (eqb r.series s && eqb r.edition e) (find (λ r. eqb r.series s && eqb r.edition e) rs) (row_found s e rs)
  where
    by : (b : Bool) (o : Option Record) {n : ℕ} → unwrap_or (option_map (λ (r : Record). r.row) o) 0 ≡ n
        → unwrap_or (option_map (λ (r : Record). r.row) (cond b (Some r) o)) 0 ≡ cond b r.row n
    by true o q = refl
    by false o q = q

-- the row that is read of what was found, or 0
row_read : (o : Option (Bor Record)) (n : ℕ) (P : Bor Record → Type 0) → MatchOption o (n ≡ 0) P
    → ((x : Bor Record) → P x → n ≡ x.now.row)
    → n ≡ unwrap_or (option_map (λ (r : Record). r.row) (option_map (λ (x : Bor Record). x.now) o)) 0
row_read None n P e read = e
row_read (Some x) n P q read = read x q

pub row_is : (s e : ℕ) (rs : List Record) (o : Option (Bor Record)) (n : ℕ) (P : Bor Record → Type 0)
    → option_map (λ (x : Bor Record). x.now) o ≡ find (λ r. eqb r.series s && eqb r.edition e) rs
    → MatchOption o (n ≡ 0) P → ((x : Bor Record) → P x → n ≡ x.now.row) → n ≡ row_of rs s e
row_is s e rs o n P found q read =
    row_read o n P q read ∙ ap (λ o. unwrap_or (option_map (λ (r : Record). r.row) o) 0) found ∙ row_found s e rs

-- every record passes
pub kept_is : (n m : ℕ) (rs : List Record) → list_all (λ r. ltb r.row n && leb r.step m) rs ≡ all_kept n m rs
unfolding all_kept all_of
kept_is n m [] = refl
kept_is n m (r ∷ rs) = ap (λ b. (ltb r.row n && leb r.step m) && b) (kept_is n m rs)
