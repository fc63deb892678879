-- What a replace call means on a session that calls lead to.
use Rattle.calls.specs.represent.Answers.{DoneOrRefusal, done_answer_of}
use Prim.Native.Nat.{ℕ}
use mathlib.Core.Path.{◌≡◌, sym, ap, subst, ◌∙◌}
use mathlib.Core.List.{List}
use Rattle.calls.specs.Book.{Book}
use Rattle.calls.specs.Calls.{book_after}
use Rattle.replacement.specs.ReplaceCall.{replace_answer}
use Rattle.replacement.specs.NoneLost.{paths_of}
use Rattle.session.specs.declared.session.Session.{Session}
use Rattle.session.specs.View.{view, fresh_session}
use Rattle.session.specs.Promises.{CallRelation, Met}
use Rattle.session.specs.ReplaceGuarantee.{ReplaceRelation, ReplaceMet, SetsReplaced, ReplaceGuarantee}
use Rattle.calls.proofs.Reached.{HeldLaws, reachable_laws}
use Rattle.replacement.proofs.Judged.{accepts_iff}
use Rattle.replacement.proofs.ByTerms.{replaced_iff}
use Rattle.replacement.proofs.NoneLost.{covered_none_lost, rows_covered}
use Rattle.session.proofs.Simulation.{calls_follow}
use Rattle.session.proofs.FollowsBook.{CallsKept, made_from_fresh}

-- replace calls on sessions, or on what has a session, that meet the session's promise
abbrev pub ReplacesKept : {S : Type 0} → (S → Session) → ReplaceRelation S → Type 0
ReplacesKept {S} session Replaced = (s : S) (old new by : List ℕ) (t : DoneOrRefusal)
    → Replaced s old new by t → ReplaceMet (session s) old new by t

module _ {S : Type 0} (session : S → Session) (Replaced : ReplaceRelation S)
    (replace_tied : ReplacesKept session Replaced) where
  pub sets_replaced : (s : S) (b : Book) → view (session s) ≡ b → HeldLaws b.rows b.steps → SetsReplaced Replaced s b
  sets_replaced s b same laws =
      let told : (old new by : List ℕ) (t : DoneOrRefusal) → Replaced s old new by t
      → done_answer_of t ≡ replace_answer b old new by =
      λ old new by t m. replace_tied s old new by t m ∙ ap (λ b. replace_answer b old new by) same in
      let number : (old new by : List ℕ) (t : DoneOrRefusal) → Replaced s old new by t
      → (done_answer_of t).number ≡ (replace_answer b old new by).number =
      λ old new by t m. ap (λ a. a.number) (told old new by t m) in
      record {
        none_lost = covered_none_lost b laws;
        by_terms = replaced_iff b laws;
        rows_covered = rows_covered b laws;
        answers = told;
        accepts = λ old new by t m. (
          λ e. (accepts_iff b old new by).0 (sym (number old new by t m) ∙ e),
          λ r. number old new by t m ∙ (accepts_iff b old new by).1 r,
        );
        accepted = λ old new by t m e.
            let covered = rows_covered b laws old new by
            ((accepts_iff b old new by).0 (sym (number old new by t m) ∙ e)).1 in
            (covered.0, covered_none_lost b laws (paths_of b.rows old) (paths_of b.rows new) covered.1);
      }

-- so for every `new`, every calls and every replace on sessions that meet their promises
pub replace_guarantee_by : (Replaced : ReplaceRelation Session) → ReplacesKept (λ s. s) Replaced
    → (New : Session → Type 0) (Called : CallRelation)
    → ((s : Session) → New s → s ≡ fresh_session) → CallsKept Called Met → ReplaceGuarantee Replaced New Called
replace_guarantee_by Replaced replace_tied New Called new_tied call_tied s₀ s cs os new run =
    let f = calls_follow (made_from_fresh new_tied call_tied new run) in
    sets_replaced (λ s. s) Replaced replace_tied s (book_after cs) f.held
    (subst (λ b. HeldLaws b.rows b.steps) f.held (reachable_laws f.kept.reachable).held)
