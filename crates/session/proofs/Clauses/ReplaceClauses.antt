-- Each clause of what is guaranteed of replace, written out once more: without one of them this fails.
use Rattle.calls.specs.represent.Answers.{DoneOrRefusal, done_answer_of}
use Prim.Native.Nat.{ℕ, ◌≤◌, ◌<◌}
use mathlib.Core.Path.{◌≡◌}
use mathlib.Core.Bool.{false}
use mathlib.Core.List.{List}
use mathlib.Core.Logic.{◌↔◌}
use lib.Dec.{T}
use lib.ListN.{length}
use Rattle.common.specs.Lists.{Every}
use Rattle.xpath.specs.Document.{Document, well_formed}
use Rattle.xpath.specs.Term.{Path}
use Rattle.xpath.specs.Meaning.{selects}
use Rattle.terms.specs.Fields.{held_path}
use Rattle.terms.specs.Terms.{path_at}
use Rattle.rules.specs.Claim.{Containment}
use Rattle.calls.specs.Book.{Book, empty_book}
use Rattle.calls.specs.StepCall.{step_numbered, claim_of}
use Rattle.calls.specs.Runs.{Run, final}
use Rattle.calls.specs.Calls.{Call, CallSeen, plain_book}
use Rattle.replacement.specs.Covered.{is_replaced, is_covered}
use Rattle.replacement.specs.ReplaceCall.{are_bad_lists, replace_answer}
use Rattle.replacement.specs.NoneLost.{Some, paths_of}
use Rattle.session.specs.declared.session.Session.{Session}
use Rattle.session.specs.View.{view}
use Rattle.session.specs.ReplaceGuarantee.{SetsReplaced}
use Rattle.session.proofs.Source.{New, Called, Replaced, replace_guarantee}

module _ (s₀ s : Session) (cs : List Call) (os : List CallSeen) (is-new : New s₀) (run : Run view Called s₀ cs os s)
  where
    abbrev held : Book
    held = final plain_book empty_book cs

    abbrev met : SetsReplaced Replaced s held
    met = replace_guarantee s₀ s cs os is-new run

    -- the step numbered i, counted from 1, is held and says that p is contained in q
    abbrev Says : (i : ℕ) → (p q : Path) → Type 0
    Says i p q = (1 ≤ i) × (i ≤ length held.steps)
        × (claim_of held.rows (step_numbered held.steps i) ≡ Containment p q)

    -- the paths of a list of rows
    abbrev paths : List ℕ → List Path
    paths ns = paths_of held.rows ns

    -- lists of any length
    pub none_lost : (ps qs : List Path) → Every (λ p. Some (λ q. (i : ℕ) × Says i p q) qs) ps
        → (d : Document) → T (well_formed d) → (x : ℕ) → x < length d
        → (y : ℕ) → Every (λ p. T (selects d p x y) → Some (λ q. T (selects d q x y)) qs) ps
    none_lost = met.none_lost

    pub step_says : (new : List ℕ) (old i : ℕ) → T (is_replaced held new old i)
        ↔ (T (held_path held.rows old) × Some (λ q. Says i (path_at held.rows old) q) (paths new))
    step_says = met.by_terms

    pub paths_covered : (old new by : List ℕ) → T (is_covered held old new by)
        → Every (λ n. T (held_path held.rows n)) old
        × Every (λ p. Some (λ q. (i : ℕ) × Says i p q) (paths new)) (paths old)
    paths_covered = met.rows_covered

    -- a replace call
    module _ (old new by : List ℕ) (t : DoneOrRefusal) (replaced : Replaced s old new by t) where
      pub answered : done_answer_of t ≡ replace_answer held old new by
      answered = met.answers old new by t replaced

      pub accepts : ((done_answer_of t).number ≡ 0) ↔
          ((are_bad_lists old new by ≡ false) × T (is_covered held old new by))
      accepts = met.accepts old new by t replaced

      pub none_lost_by_it : (done_answer_of t).number ≡ 0
          → Every (λ n. T (held_path held.rows n)) old
          × ((d : Document) → T (well_formed d) → (x : ℕ) → x < length d
          → (y : ℕ) → Every (λ p. T (selects d p x y) → Some (λ q. T (selects d q x y)) (paths new)) (paths old))
      none_lost_by_it = met.accepted old new by t replaced
