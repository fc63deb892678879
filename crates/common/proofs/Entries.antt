-- Facts and tests of the entries of a list.
use Prim.Native.Nat.{ℕ, zero, suc, ◌<◌}
use mathlib.Core.Path.{refl}
use mathlib.Core.Bool.{Bool}
use mathlib.Core.List.{List, [], ◌∷◌, ◌++◌}
use mathlib.Core.List.Memᴰ
use mathlib.Core.List.{Memᴰ}
use mathlib.Core.Logic.{inl, inr, ⊎_elim}
use native.Mathlib.Omega.{arith}
use lib.Dec.{T}
use lib.ListN.{length, get_or, take}
use mir.Facts.{and_yes, or_yes}
use Rattle.common.specs.Lists.{all_of, any_of, Every}
use Rattle.common.proofs.Reflect.{yes_or}

infixr 5 ◌&◌
-- a fact about the first entry, and one about the others
pub ◌&◌ : {A B : Type 0} → A → B → A × B
◌&◌ x y = (x, y)

pub every_at : {A : Type 0} (P : A → Type 0) {x : A} (xs : List A) → Every P xs → Memᴰ x xs → P x
every_at P [] h m = absurd (Memᴰ.not-nil m)
every_at P (y ∷ ys) h m = ⊎_elim (λ e. rw e h.0) (λ m. every_at P ys h.1 m) (Memᴰ.cases_cons m)

pub every_map : {A : Type 0} (P Q : A → Type 0) → ((x : A) → P x → Q x) → (xs : List A) → Every P xs → Every Q xs
every_map P Q f [] h = tt
every_map P Q f (x ∷ xs) h = (f x h.0, every_map P Q f xs h.1)

-- of one entry more, of the first ones, of the later ones, and of entry i
pub every_more : {A : Type 0} (P : A → Type 0) (xs : List A) (x : A) → Every P xs → P x → Every P (xs ++ (x ∷ []))
every_more P [] x h p = (p, tt)
every_more P (y ∷ ys) x h p = (h.0, every_more P ys x h.1 p)

pub every_first : {A : Type 0} (P : A → Type 0) (n : ℕ) (xs : List A) → Every P xs → Every P (take n xs)
every_first P zero xs h = tt
every_first P (suc n) [] h = tt
every_first P (suc n) (x ∷ xs) h = (h.0, every_first P n xs h.1)

pub every_later : {A : Type 0} (P : A → Type 0) (xs ys : List A) → Every P (xs ++ ys) → Every P ys
every_later P [] ys h = h
every_later P (x ∷ xs) ys h = every_later P xs ys h.1

pub every_there : {A : Type 0} (P : A → Type 0) (d : A) (xs : List A) (i : ℕ) → Every P xs → i < length xs
    → P (get_or xs i d)
every_there P d [] i h l = absurd (omega arith)
every_there P d (x ∷ xs) zero h l = h.0
every_there P d (x ∷ xs) (suc i) h l = every_there P d xs i h.1 (omega arith)

-- where a test of some entry passes, an entry passes it, and the way back
pub any_of_yes : {A : Type 0} (f : A → Bool) (xs : List A) → T (any_of f xs) → (x : A) × Memᴰ x xs × T (f x)
unfolding any_of
any_of_yes f [] t = absurd t
any_of_yes f (x ∷ xs) t =
    ⊎_elim
    (λ s. (x, Memᴰ.head refl, s))
    (λ s. let (y, m, u) = any_of_yes f xs s in (y, Memᴰ.tail m, u))
    (or_yes (f x) (any_of f xs) t)

pub yes_any_of : {A : Type 0} (f : A → Bool) {x : A} (xs : List A) → Memᴰ x xs → T (f x) → T (any_of f xs)
unfolding any_of
yes_any_of f [] m t = absurd (Memᴰ.not-nil m)
yes_any_of f (y ∷ ys) m t =
    yes_or (f y) (any_of f ys) (⊎_elim (λ e. inl (rw e at t)) (λ m. inr (yes_any_of f ys m t)) (Memᴰ.cases_cons m))

-- where a test of every entry passes, each passes it
pub all_of_yes : {A : Type 0} (f : A → Bool) {x : A} (xs : List A) → T (all_of f xs) → Memᴰ x xs → T (f x)
unfolding all_of
all_of_yes f [] t m = absurd (Memᴰ.not-nil m)
all_of_yes f (y ∷ ys) t m =
    let r = and_yes (f y) (all_of f ys) t in
    ⊎_elim (λ e. rw e r.0) (λ m. all_of_yes f ys r.1 m) (Memᴰ.cases_cons m)
