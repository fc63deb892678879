-- The steps of an accepted bundle are held by rules of the table, and are no more than a session has room for.
use Prim.Native.Nat.{ℕ, zero, suc, ◌+◌, ◌≤◌}
use mathlib.Core.Path.{◌≡◌, refl, sym, ap, subst, ◌∙◌}
use mathlib.Core.Bool.{Bool, true, false, cond, not, ◌&&◌}
use mathlib.Core.List.{List, [], ◌∷◌}
use native.Mathlib.Omega.{arith}
use lib.Dec.{leb}
use lib.ListN.{length, get_or}
use borrow.Author.Tests.{eqb-true}
use Rattle.std.proofs.lemmas.Bool.{and_parts}
use Rattle.common.specs.Lists.{Every}
use Rattle.common.proofs.Entries.{every_more, every_first}
use Rattle.rules.specs.Yields.{max_rule}
use Rattle.calls.specs.Book as books
use Rattle.calls.specs.Book.{Step, max_steps, Book, empty_book, accepted, no_point}
use Rattle.calls.specs.PointCall.{point_names, place_of}
use Rattle.calls.specs.StepCall.{is_yielded, step_answer}
use Rattle.calls.specs.Runs.{next, final}
use Rattle.calls.specs.Calls.{Call, term, step, text, point, return, book_answer, book_with, plain_book}
use Rattle.calls.proofs.Accepted.{by_accepted}
use Rattle.calls.proofs.StepJudged.{step_accepted}
use Rattle.calls.proofs.Tables.{few_steps}
use Rattle.session.specs.declared.session.Session.{Session}
use Rattle.session.specs.View.{view, fresh_session}
use Rattle.session.specs.Reading.{reading}
use Rattle.session.specs.ReadCall.{read_answer_of}
use Rattle.session.proofs.Source.{Read, read_tied, reads_exist, read_guarantee}
use Rattle.common.specs.Limits.{max_bytes}
use Rattle.tallies.specs.Count.{File, is_accepted, counted_steps}

-- the step is held by a rule of the table
abbrev pub RuleHeld : Step → Type 0
RuleHeld p = (1 ≤ p.rule) × (p.rule ≤ max_rule)

every_at : {A : Type 0} (P : A → Type 0) (d : A) (xs : List A) (i : ℕ) → Every P xs → P d → P (get_or xs i d)
every_at P d [] i h g = g
every_at P d (x ∷ xs) zero h g = h.0
every_at P d (x ∷ xs) (suc i) h g = every_at P d xs i h.1 g

-- a step that no refusal applies to isn't refused with 4
accepted_rule : (b : Book) (p : Step) → (step_answer b p).number ≡ 0 → RuleHeld p
unfolding step_answer
accepted_rule b p e = (step_accepted (is_yielded b p) b p e).rule

-- an accepted call keeps it, so calls do
abbrev RulesHeld : Book → Type 0
RulesHeld b = Every RuleHeld b.steps × Every (λ q. Every RuleHeld q.steps) b.points

rules_with : (b : Book) (c : Call) → RulesHeld b → (book_answer b c).number ≡ 0 → RulesHeld (book_with b c)
rules_with b (term r) held e = held
rules_with b (step p) held e = (every_more RuleHeld b.steps p held.0 (accepted_rule b p e), held.1)
rules_with b (text names t) held e = held
rules_with b (point n) held e = (
  held.0,
  every_more (λ q. Every RuleHeld q.steps) b.points (books.point n b.rows b.steps) held.1
      held.0,
)
rules_with b (return n) held e = (
  every_at (λ q. Every RuleHeld q.steps) no_point b.points (place_of (point_names b.points) n) held.1 tt,
  every_first (λ q. Every RuleHeld q.steps) (place_of (point_names b.points) n + 1) b.points held.1,
)

rules_after : (b : Book) (cs : List Call) → RulesHeld b → RulesHeld (final plain_book b cs)
unfolding final
rules_after b [] held = held
rules_after b (c ∷ cs) held =
    rules_after (next plain_book b c) cs
    (by_accepted RulesHeld (book_answer b c) (book_with b c) b (rules_with b c held) held)

-- by what is guaranteed of read, an accepted reading leaves what calls lead to
rules_read : (bytes : List ℕ) → accepted (reading bytes).answer ≡ true → RulesHeld (view (reading bytes).session)
rules_read bytes taken =
    let (t, on_fresh) = reads_exist fresh_session bytes in
    let read : Read bytes t = (fresh_session, on_fresh) in
    let met = read_tied bytes t read in
    let number : (read_answer_of t.answer).number ≡ 0 =
    ap (λ a. a.number) met.answer ∙ eqb-true (reading bytes).answer.number 0 taken in
    let bundle = read_guarantee.accepted bytes t read number in
    subst RulesHeld (sym bundle.follows.held ∙ ap view met.session) (rules_after empty_book _ (tt, tt))

-- what holds of an accepted bundle's steps, and of none, holds of those that count
by_bundle : (P : List Step → Type 0) (f : File) → (is_accepted f ≡ true → P (view (reading f.bytes).session).steps)
    → P [] → P (counted_steps f)
unfolding counted_steps
by_bundle P f held none = by_test (is_accepted f) refl
  where
    by_test : (b : Bool) → is_accepted f ≡ b → P (cond b (view (reading f.bytes).session).steps [])
    by_test true e = held e
    by_test false e = none

pub rules_held : (f : File) → Every RuleHeld (counted_steps f)
unfolding is_accepted
rules_held f =
    let short = not f.failed && leb (length f.bytes) max_bytes in
    by_bundle (Every RuleHeld) f
    (λ e. (rules_read f.bytes (and_parts short (accepted (reading f.bytes).answer) e).1).0)
    tt

few_viewed : (s : Session) → length (view s).steps ≤ max_steps
unfolding view
few_viewed s = few_steps s.step_count s.steps _ refl

pub few_counted : (f : File) → length (counted_steps f) ≤ max_steps
few_counted f = by_bundle (λ ps. length ps ≤ max_steps) f (λ e. few_viewed (reading f.bytes).session) (omega arith)
