-- When a pattern matches: its letters stand for numbers, by a relation that gives each letter at most one.
use Prim.Native.Nat.{ℕ, ◌<◌}
use mathlib.Core.Path.{◌≡◌, sym, ◌∙◌}
use mathlib.Core.Bool.{Bool, true, false, not, cond}
use mathlib.Core.List.{List, [], ◌∷◌}
use mathlib.Core.Logic.{◌↔◌, ◌⊎◌, inl, inr, ⊎_elim}
use native.Mathlib.Omega.{arith}
use lib.Dec.{T, T_not, not_T, eqb}
use lib.ListN.{length, get_or, set, length-set}
use lib.Seq.{get_or-set_same, get_or-set_other}
use mir.Facts.{and_yes, yes_and, yes_eqb, eqb_yes}
use Rattle.common.proofs.Reflect.{facts, eq_or_ne, T-dec}
use Rattle.terms.specs.Row.{Row, row_at}
use Rattle.matching.specs.private.Pattern.{Pattern, number, letter, row_pattern, letter_count, ClaimPattern}
use Rattle.matching.specs.private.RowYields.{Match, check, bind, suits, is_row, match, match_claim, match_claims}
use Rattle.matching.specs.represent.Sides.{Sides}

-- v is an instance of the pattern, where R says for which numbers a letter stands
abbrev pub IsInstance : List Row → (ℕ → ℕ → Type 0) → Pattern → ℕ → Type 0
IsInstance rs R (number n) v = v ≡ n
IsInstance rs R (letter k) v = T (suits rs k v) × R k v
IsInstance rs R (row_pattern kind x y z) v =
    T (is_row rs kind v) × (IsInstance rs R x (row_at rs v).a
    × (IsInstance rs R y (row_at rs v).b × IsInstance rs R z (row_at rs v).c))

abbrev pub IsClaim : List Row → (ℕ → ℕ → Type 0) → ClaimPattern → Sides → Type 0
IsClaim rs R w s = IsInstance rs R w.left s.left × IsInstance rs R w.right s.right

abbrev pub AreClaims : List Row → (ℕ → ℕ → Type 0) → List ClaimPattern → List Sides → Type 0
AreClaims rs R [] [] = Unit {0}
AreClaims rs R [] (s ∷ ss) = ⊥
AreClaims rs R (w ∷ ws) [] = ⊥
AreClaims rs R (w ∷ ws) (s ∷ ss) = IsClaim rs R w s × AreClaims rs R ws ss

-- an instance by R is one by S, if R is within S where a letter can stand for a number
module _ (rs : List Row) (R S : ℕ → ℕ → Type 0) (f : (k v : ℕ) → T (suits rs k v) → R k v → S k v) where
  instance_map : (x : Pattern) (v : ℕ) → IsInstance rs R x v → IsInstance rs S x v
  instance_map (number n) v i = i
  instance_map (letter k) v i = (i.0, f k v i.0 i.1)
  instance_map (row_pattern kind x y z) v i =
      let r : Row = row_at rs v in (
        i.0,
        (
          instance_map x r.a i.1.0,
          (instance_map y r.b i.1.1.0, instance_map z r.c i.1.1.1),
        ),
      )

  pub claims_map : (ws : List ClaimPattern) (ss : List Sides) → AreClaims rs R ws ss → AreClaims rs S ws ss
  claims_map [] [] i = tt
  claims_map [] (s ∷ ss) i = i
  claims_map (w ∷ ws) [] i = i
  claims_map (w ∷ ws) (s ∷ ss) i = (
    (instance_map w.left s.left i.0.0, instance_map w.right s.right i.0.1),
    claims_map ws ss i.1,
  )

-- there is a place for each letter
pub record Sized (m : Match) : Type 0 where
  pub known : length m.known ≡ letter_count
  pub value : length m.value ≡ letter_count

module _ (rs : List Row) where
  match_sized : (x : Pattern) (v : ℕ) {m : Match} → Sized m → Sized (match rs x v m)
  unfolding match check bind
  match_sized (number n) v h = record { known = h.known; value = h.value }
  match_sized (letter k) v {m} h =
      record { known = length-set m.known k true ∙ h.known; value = length-set m.value k v ∙ h.value }
  match_sized (row_pattern kind x y z) v {m} h =
      by (is_row rs kind v)
      (match_sized z (row_at rs v).c (match_sized y (row_at rs v).b (match_sized x (row_at rs v).a h)))
    where
      by : (b : Bool) {m₁ : Match} → Sized m₁ → Sized (cond b m₁ (check false m))
      by true g = g
      by false g = record { known = h.known; value = h.value }

  pub claims_sized : (ws : List ClaimPattern) (ss : List Sides) (m : Match) → Sized m → Sized (match_claims rs ws ss m)
  unfolding match_claims match_claim check
  claims_sized [] [] m h = h
  claims_sized [] (s ∷ ss) m h = record { known = h.known; value = h.value }
  claims_sized (w ∷ ws) [] m h = record { known = h.known; value = h.value }
  claims_sized (w ∷ ws) (s ∷ ss) m h =
      claims_sized ws ss (match_claim rs w s m) (match_sized w.right s.right (match_sized w.left s.left h))

-- the letters that have a value have one that R says
abbrev pub ValuesAre : (ℕ → ℕ → Type 0) → List Bool → List ℕ → Type 0
ValuesAre R ks vs = (k : ℕ) → T (get_or ks k false) → R k (get_or vs k 0)

-- all fits so far, and so do the values
pub record Agrees (R : ℕ → ℕ → Type 0) (m : Match) : Type 0 where
  pub fits : T m.fits
  pub sized : Sized m
  pub values : ValuesAre R m.known m.value

-- one part of a fact after the other
then_iff : {A B C D E : Type 0} → A ↔ (B × C) → B ↔ (D × E) → A ↔ (D × (E × C))
then_iff f e =
    (λ a. let u = f.0 a in let w = e.0 u.0 in (w.0, (w.1, u.1)), λ u. f.1 (e.1 (u.0, u.1.0), u.1.1))

-- where b is false, the second match is no agreement
cond_iff : (R : ℕ → ℕ → Type 0) (b : Bool) (m₁ m₂ : Match) {A B : Type 0} → Agrees R m₁ ↔ (A × B) → ¬ Agrees R m₂
    → Agrees R (cond b m₁ m₂) ↔ (A × (T b × B))
cond_iff R true m₁ m₂ e n = (λ g. let u = e.0 g in (u.0, (tt, u.1)), λ u. e.1 (u.0, u.1.1))
cond_iff R false m₁ m₂ e n = (λ g. absurd (n g), λ u. absurd u.1.0)

module _ (R : ℕ → ℕ → Type 0) (small : (k v : ℕ) → R k v → k < letter_count) (one : (k v w : ℕ) → R k v → R k w
    → v ≡ w) where
  check_iff : (b : Bool) (m : Match) → Agrees R (check b m) ↔ (Agrees R m × T b)
  unfolding check
  check_iff b m = (
    λ g. let u = and_yes m.fits b g.fits in (
      record {
        fits = u.0;
        sized = record { known = g.sized.known; value = g.sized.value };
        values = g.values;
      },
      u.1,
    ),
    λ u. record {
      fits = yes_and m.fits b u.0.fits u.1;
      sized = record { known = u.0.sized.known; value = u.0.sized.value };
      values = u.0.values;
    },
  )

  module _ (k v : ℕ) (m : Match) (h : k < letter_count) (z : Sized m) where
    value_at : get_or (set m.value k v) k 0 ≡ v
    value_at = get_or-set_same m.value k v 0 (omega arith)

    known_at : get_or (set m.known k true) k false ≡ true
    known_at = get_or-set_same m.known k true false (omega arith)

    -- the values before letter k got v
    before : ValuesAre R (set m.known k true) (set m.value k v)
        → T (not (get_or m.known k false)) ⊎ T (eqb (get_or m.value k 0) v) → ValuesAre R m.known m.value
    before g o j t = ⊎_elim same other (eq_or_ne j k)
      where
        same : j ≡ k → R j (get_or m.value j 0)
        same e =
            let u = rw e at t in
            rw e
            (⊎_elim
            (λ n. absurd (T_not (get_or m.known k false) n u))
            (λ s. let w : get_or m.value k 0 ≡ v = eqb_yes s in rw w (rw value_at at (g k (rw known_at tt))))
            o)

        other : ¬ (j ≡ k) → R j (get_or m.value j 0)
        other n = rw (get_or-set_other m.value k j v 0 n) at (g j (rw (get_or-set_other m.known k j true false n) t))

    -- and after it
    after : ValuesAre R m.known m.value → R k v → ValuesAre R (set m.known k true) (set m.value k v)
    after g r j t = ⊎_elim same other (eq_or_ne j k)
      where
        same : j ≡ k → R j (get_or (set m.value k v) j 0)
        same e = rw (e, value_at) r

        other : ¬ (j ≡ k) → R j (get_or (set m.value k v) j 0)
        other n = rw (get_or-set_other m.value k j v 0 n) (g j (rw (get_or-set_other m.known k j true false n) at t))

    -- a letter that has a value has this one
    same_value : ValuesAre R m.known m.value → R k v
        → T (not (get_or m.known k false)) ⊎ T (eqb (get_or m.value k 0) v)
    same_value g r =
        ⊎_elim (λ t. inr (yes_eqb (one k (get_or m.value k 0) v (g k t) r)))
        (λ n. inl (not_T (get_or m.known k false) n)) (T-dec (get_or m.known k false))

  bind_iff : (k v : ℕ) (m : Match) → Agrees R (bind k v m) ↔ (Agrees R m × R k v)
  unfolding bind
  bind_iff k v m = (
    λ g.
        let u = simp facts at g.fits in
        let h : k < letter_count = u.1.0 in
        let z : Sized m = record {
          known = sym (length-set m.known k true) ∙ g.sized.known;
          value = sym (length-set m.value k v) ∙ g.sized.value;
        } in (
          record {
            fits = u.0;
            sized = z;
            values = before k v m h z g.values u.1.1;
          },
          rw (value_at k v m h z) at (g.values k (rw (known_at k v m h z) tt)),
        ),
    λ u.
        let g = u.0 in
        let h : k < letter_count = small k v u.1 in
        record {
          fits = simp facts (g.fits, (h, same_value k v m h g.sized g.values u.1));
          sized =
              record {
                known = length-set m.known k true ∙ g.sized.known;
                value = length-set m.value k v ∙ g.sized.value;
              };
          values = after k v m h g.sized g.values u.1;
        },
  )

  module _ (rs : List Row) where
    -- a match agrees after a pattern just where it did before and the number is an instance of the pattern
    match_iff : (x : Pattern) (v : ℕ) (m : Match) → Agrees R (match rs x v m) ↔ (Agrees R m × IsInstance rs R x v)
    unfolding match
    match_iff (number n) v m =
        let e = check_iff (eqb v n) m in
        (λ g. let u = e.0 g in (u.0, eqb_yes u.1), λ u. e.1 (u.0, yes_eqb u.1))
    match_iff (letter k) v m = then_iff (bind_iff k v (check (suits rs k v) m)) (check_iff (suits rs k v) m)
    match_iff (row_pattern kind x y z) v m =
        let r : Row = row_at rs v in
        let m₁ : Match = match rs x r.a m in
        let m₂ : Match = match rs y r.b m₁ in
        cond_iff R (is_row rs kind v) (match rs z r.c m₂) (check false m)
        (then_iff (then_iff (match_iff z r.c m₂) (match_iff y r.b m₁)) (match_iff x r.a m))
        (λ a. ((check_iff false m).0 a).1)

    match_claim_iff : (w : ClaimPattern) (s : Sides) (m : Match) → Agrees R (match_claim rs w s m) ↔
        (Agrees R m × IsClaim rs R w s)
    unfolding match_claim
    match_claim_iff w s m =
        then_iff (match_iff w.right s.right (match rs w.left s.left m)) (match_iff w.left s.left m)

    pub match_claims_iff : (ws : List ClaimPattern) (ss : List Sides) (m : Match) → Agrees R (match_claims rs ws ss m) ↔
        (Agrees R m × AreClaims rs R ws ss)
    unfolding match_claims
    match_claims_iff [] [] m = (λ g. (g, tt), λ u. u.0)
    match_claims_iff [] (s ∷ ss) m = (λ g. absurd ((check_iff false m).0 g).1, λ u. absurd u.1)
    match_claims_iff (w ∷ ws) [] m = (λ g. absurd ((check_iff false m).0 g).1, λ u. absurd u.1)
    match_claims_iff (w ∷ ws) (s ∷ ss) m =
        then_iff (match_claims_iff ws ss (match_claim rs w s m)) (match_claim_iff w s m)
