-- Calls made one after the other, on something that moves as a book does.
use mathlib.Core.Path.{◌≡◌, refl, sym, ap, ap₂, subst, ◌∙◌}
use mathlib.Core.Bool.{Bool, true, false, cond}
use mathlib.Core.List.{List, [], ◌∷◌}
use borrow.Author.Tests.{eqb-true}
use Rattle.calls.specs.Book.{Answer, accepted}
use Rattle.calls.specs.Runs.{Machine, next, Made, Seen, seen, Run, done, then, shown, final, Reached, first}
use Rattle.calls.specs.Runs.{after}
use Rattle.calls.proofs.Accepted.{if_accepted, by_accepted}

-- calls that keep one promise keep another
module _ {S C B : Type 0} {view : S → B} {Called Kept : S → C → Answer → S → Type 0}
    (one : (s : S) (c : C) (a : Answer) (t : S) → Called s c a t → Kept s c a t) where
  pub run_map : {s u : S} {cs : List C} {os : List (Seen B)} → Run view Called s cs os u → Run view Kept s cs os u
  run_map done = done
  run_map (then m run) = then (one _ _ _ _ m) (run_map run)

-- every list of calls can be made where every call can
module _ {S C B : Type 0} (view : S → B) (Called : S → C → Answer → S → Type 0)
    (one : (s : S) (c : C) → (a : Answer) × (t : S) × Called s c a t) where
  pub run_exists : (s : S) (cs : List C) → (os : List (Seen B)) × (u : S) × Run view Called s cs os u
  run_exists s [] = ([], s, done)
  run_exists s (c ∷ cs) =
      let (a, t, m) = one s c in
      let (os, u, run) = run_exists t cs in
      (seen a (view t) ∷ os, u, then m run)

module _ {S C : Type 0} (m : Machine S C) where
  -- every call can be made; an accepted one leaves what it makes
  pub made : (s : S) (c : C) → Made m s c (m.answer s c) (next m s c)
  made s c = record { answer = refl; left = refl }

  pub accepted_made : (s : S) (c : C) → (m.answer s c).number ≡ 0 → Made m s c (m.answer s c) (m.with s c)
  accepted_made s c e = record { answer = refl; left = if_accepted (m.answer s c) _ refl (m.with s c) s e }

  -- what holds first, and stays true with each accepted call, holds of all that calls lead to
  pub reached_law : (P : S → Type 0) {b d : S} → P b → ((s : S) (c : C) → P s → (m.answer s c).number ≡ 0
      → P (m.with s c)) → Reached m b d → P d
  reached_law P p one first = p
  reached_law P p one (after {d} c h) =
      let q = reached_law P p one h in
      by_accepted P (m.answer d c) (m.with d c) d (one d c q) q

-- m moves as the book does, seen by `view`: each call's answer is the book's, and an accepted call makes of both the
-- same
pub record Simulates {S C B : Type 0} (view : S → B) (m : Machine S C) (book : Machine B C) (b : B)
    (Kept : S → Type 0) : Type 0 where
  pub answers : (s : S) (c : C) → Kept s → Reached book b (view s) → m.answer s c ≡ book.answer (view s) c
  pub moves : (s : S) (c : C) → Kept s → (m.answer s c).number ≡ 0 → (view (m.with s c) ≡ book.with (view s) c)
      × Kept (m.with s c)

-- a call that follows the book: its answer, what is held after it, and what stays true
pub record Follows {S C B : Type 0} (view : S → B) (book : Machine B C) (b : B) (Kept : S → Type 0) (s : S) (c : C)
    (a : Answer) (t : S) : Type 0 where
  pub answer : a ≡ book.answer (view s) c
  pub held : view t ≡ next book (view s) c
  pub kept : Kept t
  pub reached : Reached book b (view t)

module _ {S C B : Type 0} {view : S → B} {m : Machine S C} {book : Machine B C} {b : B} {Kept : S → Type 0}
    (sim : Simulates view m book b Kept) where
  -- a refused call moves neither
  call_moves : (s : S) (c : C) → Kept s → (view (next m s c) ≡ cond (accepted (m.answer s c)) (book.with (view s) c)
      (view s)) × Kept (next m s c)
  call_moves s c k = by_test (accepted (m.answer s c)) refl
    where
      by_test : (t : Bool) → accepted (m.answer s c) ≡ t
          → (view (cond t (m.with s c) s) ≡ cond t (book.with (view s) c) (view s)) × Kept (cond t (m.with s c) s)
      by_test true e = sim.moves s c k (eqb-true _ 0 e)
      by_test false e = (refl, k)

  pub call_follows : {s t : S} {c : C} {a : Answer} → Kept s → Reached book b (view s) → Made m s c a t
      → Follows view book b Kept s c a t
  call_follows {s} {t} {c} k h w =
      let same = sim.answers s c k h in
      let (moved, kept) = call_moves s c k in
      let held : view t ≡ next book (view s) c = ap view w.left ∙ moved
      ∙ ap (λ o. cond (accepted o) (book.with (view s) c) (view s)) same in
      record {
        answer = w.answer ∙ same;
        held = held;
        kept = subst Kept (sym w.left) kept;
        reached = subst (Reached book b) (sym held) (after c h);
      }

  -- all that is seen of a list of calls is what the book shows, and what they leave holds what the last book does
  pub run_follows : {s u : S} {cs : List C} {os : List (Seen B)} → Kept s → Reached book b (view s)
      → Run view (Made m) s cs os u
      → (os ≡ shown book (view s) cs) × (view u ≡ final book (view s) cs) × Kept u × Reached book b (view u)
  unfolding shown final
  run_follows k h done = (refl, refl, k, h)
  run_follows {s} k h (then {t = t} {c = c} {cs = cs} {a = a} w run) =
      let f = call_follows k h w in
      let (later, last, kept, reached) = run_follows f.kept f.reached run in
      let here : seen a (view t) ≡ seen (book.answer (view s) c) (next book (view s) c) = λ i. seen (f.answer i)
      (f.held i) in (
        ap₂ (λ o os. o ∷ os) here (later ∙ ap (λ d. shown book d cs) f.held),
        last ∙ ap (λ d. final book d cs) f.held,
        kept,
        reached,
      )
