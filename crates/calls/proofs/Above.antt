-- Where the machine below moves as a book does, so does a machine above it.
use mathlib.Core.Path.{◌≡◌, refl, sym, ap, subst, ◌∙◌}
use mathlib.Core.Bool.{Bool, true, false, cond, ◌&&◌}
use borrow.Author.Tests.{eqb-true}
use Rattle.calls.specs.Book.{Answer, accepted}
use Rattle.calls.specs.Runs.{Machine, Reached, first, after}
use Rattle.calls.specs.Above.{Both, both, Above, passed, own, Layer, above, along}
use Rattle.calls.proofs.Accepted.{if_accepted}
use Rattle.calls.proofs.Runs.{Simulates, reached_law}

-- an accepted call that was passed on was accepted below
pub passed_accepted : (t barred : Answer) (b : Bool) → ¬ (barred.number ≡ 0)
    → (cond (accepted t && b) barred t).number ≡ 0 → t.number ≡ 0
passed_accepted t barred b f e = by_tests (accepted t) b refl e
  where
    by_tests : (a b : Bool) → accepted t ≡ a → (cond (a && b) barred t).number ≡ 0 → t.number ≡ 0
    by_tests true true is e = absurd (f e)
    by_tests true false is e = e
    by_tests false b is e = e

-- what is barred matters only where the call is accepted below
same_bars : (t barred : Answer) (a b : Bool) → (t.number ≡ 0 → a ≡ b)
    → cond (accepted t && a) barred t ≡ cond (accepted t && b) barred t
same_bars t barred a b f = by_test (accepted t) refl
  where
    by_test : (c : Bool) → accepted t ≡ c → cond (c && a) barred t ≡ cond (c && b) barred t
    by_test true e = ap (λ d. cond d barred t) (f (eqb-true t.number 0 e))
    by_test false e = refl

-- what a list of calls above leads to holds below what a list of calls below leads to
module _ {B F C D : Type 0} (book : Machine B C) (l : Layer B F C D) (refuses : ¬ (l.barred.number ≡ 0)) where
  pub call_below : (s : Both B F) (c : Above C D) {b : B} → Reached book b s.below
      → ((above book l).answer s c).number ≡ 0 → Reached book b ((above book l).with s c).below
  call_below s (passed c) {b} h e =
      let told = passed_accepted (book.answer s.below c) l.barred (l.bars s.below s.beside c) refuses e in
      subst (Reached book b) (sym (if_accepted (book.answer s.below c) _ refl (book.with s.below c) s.below
      told)) (after c h)
  call_below s (own d) h e = h

  pub reached_below : {b : B} {f : F} {d : Both B F} → Reached (above book l) (both b f) d → Reached book b d.below
  reached_below {b} h = reached_law (above book l) (λ s. Reached book b s.below) first
      (λ s c r e. call_below s c r e) h

-- the session's layer agrees with the book's
pub record Agrees {S B E F C D : Type 0} (view : S → B) (beside : E → F) (book : Machine B C) (b : B)
    (Kept : S → Type 0) (Sound : E → Type 0)
    (l : Layer S E C D) (k : Layer B F C D)
    : Type 0 where
  pub refuses : ¬ (k.barred.number ≡ 0)
  pub barred : l.barred ≡ k.barred
  pub bars : (s : S) (e : E) (c : C) → Kept s → Sound e → (book.answer (view s) c).number ≡ 0
      → l.bars s e c ≡ k.bars (view s) (beside e) c
  pub answers : (s : S) (e : E) (d : D) → Kept s → Sound e → Reached book b (view s)
      → l.answer s e d ≡ k.answer (view s) (beside e) d
  pub moves : (s : S) (e : E) (d : D) → Kept s → Sound e → (l.answer s e d).number ≡ 0
      → (beside (l.with s e d) ≡ k.with (view s) (beside e) d) × Sound (l.with s e d)

module _ {S B E F C D : Type 0} {view : S → B} {beside : E → F} {m : Machine S C} {book : Machine B C} {b : B}
    {Kept : S → Type 0} {Sound : E → Type 0} {l : Layer S E C D} {k : Layer B F C D}
    (sim : Simulates view m book b Kept) (agrees : Agrees view beside book b Kept Sound l k) (f : F)
  where
    abbrev view_both : Both S E → Both B F
    view_both s = both (view s.below) (beside s.beside)

    abbrev KeptBoth : Both S E → Type 0
    KeptBoth s = Kept s.below × Sound s.beside

    answers_above : (s : Both S E) (c : Above C D) → KeptBoth s → Reached (above book k) (both b f) (view_both s)
        → (above m l).answer s c ≡ (above book k).answer (view_both s) c
    answers_above s (passed c) w h =
        let same = sim.answers s.below c w.0 (reached_below book k agrees.refuses h) in
        (λ i. cond (accepted (same i) && l.bars s.below s.beside c) (agrees.barred i) (same i))
        ∙ same_bars (book.answer (view s.below) c) k.barred _ _ (agrees.bars s.below s.beside c w.0
        w.1)
    answers_above s (own d) w h = agrees.answers s.below s.beside d w.0 w.1
        (reached_below book k agrees.refuses h)

    moves_above : (s : Both S E) (c : Above C D) → KeptBoth s → ((above m l).answer s c).number ≡ 0
        → (view_both ((above m l).with s c) ≡ (above book k).with (view_both s) c) × KeptBoth ((above m l).with s c)
    moves_above s (passed c) w e =
        let refuses : ¬ (l.barred.number ≡ 0) = λ z. agrees.refuses (sym (ap (λ a. a.number) agrees.barred)
        ∙ z) in
        let told = passed_accepted (m.answer s.below c) l.barred (l.bars s.below s.beside c) refuses e in
        let (moved, kept) = sim.moves s.below c w.0 told in
        (λ i. both (moved i) (beside s.beside), (kept, w.1))
    moves_above s (own d) w e =
        let (moved, sound) = agrees.moves s.below s.beside d w.0 w.1 e in
        (λ i. both (view s.below) (moved i), (w.0, sound))

    pub above_simulates : Simulates view_both (above m l) (above book k) (both b f) KeptBoth
    above_simulates = record { answers = answers_above; moves = moves_above }

-- a machine on values of another type that is taken apart and put together
module _ {R S C B : Type 0} {view : S → B} {m : Machine S C} {book : Machine B C} {b : B} {Kept : S → Type 0}
    (apart : R → S) (together : S → R)
    (same : (s : S) → apart (together s) ≡ s)
  where
    pub along_simulates : Simulates view m book b Kept → Simulates (λ r. view (apart r)) (along apart together m) book b
        (λ r. Kept (apart r))
    along_simulates sim =
        record {
          answers = λ r c k h. sim.answers (apart r) c k h;
          moves = λ r c k e.
              let (moved, kept) = sim.moves (apart r) c k e in
              (ap view (same _) ∙ moved, subst Kept (sym (same _)) kept);
        }
