-- A machine above another: it passes calls on, refuses some of those that would be accepted, and has calls and holdings
-- of its own.
use Rattle.std.specs.Prelude.{Bool, cond, ◌&&◌}
use Rattle.calls.specs.Book.{Answer, accepted}
use Rattle.calls.specs.Runs.{Machine}

-- what is held below, and beside it
pub record Both (S E : Type 0) : Type 0 where
  pub below : S
  pub beside : E

abbrev pub both : {S E : Type 0} → S → E → Both S E
both s e = record { below = s; beside = e }

-- a call that is passed on, or one of its own
pub data Above (C D : Type 0) : Type 0 where
  passed : C → Above C D
  own : D → Above C D

pub record Layer (S E C D : Type 0) : Type 0 where
  -- a call that would be accepted below is refused, and with which answer
  pub bars : S → E → C → Bool
  pub barred : Answer
  -- its own calls leave what is held below
  pub answer : S → E → D → Answer
  pub with : S → E → D → E

module _ {S E C D : Type 0} (m : Machine S C) (l : Layer S E C D) where
  abbrev pub above_answer : Both S E → Above C D → Answer
  above_answer s (passed c) = cond (accepted (m.answer s.below c) && l.bars s.below s.beside c) l.barred
      (m.answer s.below c)
  above_answer s (own d) = l.answer s.below s.beside d

  abbrev pub above_with : Both S E → Above C D → Both S E
  above_with s (passed c) = both (m.with s.below c) s.beside
  above_with s (own d) = both s.below (l.with s.below s.beside d)

  abbrev pub above : Machine (Both S E) (Above C D)
  above = record { answer = above_answer; with = above_with }

-- the same machine on values of another type
abbrev pub along : {R S C : Type 0} → (apart : R → S) (together : S → R) → Machine S C → Machine R C
along apart together m = record { answer = λ r c. m.answer (apart r) c; with = λ r c. together (m.with (apart r) c) }
