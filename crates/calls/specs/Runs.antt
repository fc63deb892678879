-- Calls made one after the other, on whatever answers calls and is moved by them.
use Rattle.std.specs.Prelude.{◌≡◌, cond, List, [], ◌∷◌}
use Rattle.calls.specs.Book.{Answer, accepted}

-- what answers calls and is moved by them: the answer of a call, and what an accepted call makes of it
pub record Machine (S C : Type 0) : Type 0 where
  pub answer : S → C → Answer
  pub with : S → C → S

-- what a call leaves: a refused one leaves all as it was
abbrev pub next : {S C : Type 0} → Machine S C → S → C → S
next m s c = cond (accepted (m.answer s c)) (m.with s c) s

-- the call c on s answers a and leaves t
pub record Made {S C : Type 0} (m : Machine S C) (s : S) (c : C) (a : Answer) (t : S) : Type 0 where
  pub answer : a ≡ m.answer s c
  pub left : t ≡ next m s c

-- what is seen of a call: its answer, and what is held after it
pub record Seen (B : Type 0) : Type 0 where
  pub answer : Answer
  pub held : B

abbrev pub seen : {B : Type 0} → Answer → B → Seen B
seen a b = record { answer = a; held = b }

-- calls made in order from s, each on what the call before left, with what is seen of each, and what the last one left:
-- `Called s c a t` says that the call c on s answers a and leaves t, and `view t` is what t holds
pub data Run {S C B : Type 0} (view : S → B) (Called : S → C → Answer → S → Type 0) : S → List C → List (Seen B) → S
    → Type 0 where
  done : {s : S} → Run view Called s [] [] s
  then : {s t u : S} {c : C} {cs : List C} {a : Answer} {os : List (Seen B)} → Called s c a t
      → Run view Called t cs os u
      → Run view Called s (c ∷ cs) (seen a (view t) ∷ os) u

-- what is seen of calls made in order on b
unfoldable pub shown : {B C : Type 0} → Machine B C → B → List C → List (Seen B)
shown m b [] = []
shown m b (c ∷ cs) = seen (m.answer b c) (next m b c) ∷ shown m (next m b c) cs

-- what they leave
unfoldable pub final : {B C : Type 0} → Machine B C → B → List C → B
final m b [] = b
final m b (c ∷ cs) = final m (next m b c) cs

-- what lists of calls on b lead to
pub data Reached {B C : Type 0} (m : Machine B C) (b : B) : B → Type 0 where
  first : Reached m b b
  after : {d : B} (c : C) → Reached m b d → Reached m b (next m d c)
