-- The call replace on a session, and what its acceptance means on every session that calls lead to.
use Rattle.calls.specs.represent.Answers.{DoneOrRefusal, done_answer_of}
use Rattle.std.specs.Prelude.{ℕ, ◌≡◌, false, List, ◌↔◌, T}
use Rattle.common.specs.Lists.{Every}
use Rattle.xpath.specs.Term.{Path}
use Rattle.terms.specs.Fields.{held_path}
use Rattle.calls.specs.Book.{Book, IsAccepted}
use Rattle.calls.specs.Runs.{Run}
use Rattle.calls.specs.Calls.{Call, CallSeen, book_after}
use Rattle.replacement.specs.Covered.{is_replaced, is_covered}
use Rattle.replacement.specs.ReplaceCall.{are_bad_lists, replace_answer}
use Rattle.replacement.specs.NoneLost.{paths_of, ReplacedByTerms, Covered, NoneLost}
use Rattle.session.specs.declared.session.Session.{Session}
use Rattle.session.specs.View.{view}
use Rattle.session.specs.Promises.{CallRelation}

-- what may be said of a replace call: the session or register, the old rows, the new rows, the steps, and the answer
abbrev pub ReplaceRelation : Type 0 → Type 1
ReplaceRelation S = S → (old new by : List ℕ) → DoneOrRefusal → Type 0

-- `Session::replace` on s; the session stays the caller's
abbrev pub ReplaceMet : ReplaceRelation Session
ReplaceMet s old new by t = done_answer_of t ≡ replace_answer (view s) old new by

module _ {S : Type 0} (Replaced : ReplaceRelation S) where
  -- what is asked of the session, or the register, s that calls left; b is the plain book fed the same calls
  pub record SetsReplaced (s : S) (b : Book) : Type 0 where
    -- lists of paths of any length: each node that a path of a covered list selects is selected by some new one
    pub none_lost : (ps qs : List Path) → Covered b ps qs → NoneLost ps qs
    -- what the call asks of an old row and its step by their numbers is what the step says of the terms
    pub by_terms : (new : List ℕ) (old i : ℕ) → T (is_replaced b new old i) ↔ ReplacedByTerms b new old i
    -- lists of rows of any length: those of a covered list are held paths, and their paths are covered by the new ones
    pub rows_covered : (old new by : List ℕ) → T (is_covered b old new by)
        → Every (λ n. T (held_path b.rows n)) old × Covered b (paths_of b.rows old) (paths_of b.rows new)
    -- the call answers the first refusal that applies, and accepts just when neither does
    pub answers : (old new by : List ℕ) (t : DoneOrRefusal) → Replaced s old new by t
        → done_answer_of t ≡ replace_answer b old new by
    pub accepts : (old new by : List ℕ) (t : DoneOrRefusal) → Replaced s old new by t
        → IsAccepted (done_answer_of t) ↔ ((are_bad_lists old new by ≡ false) × T (is_covered b old new by))
    -- where it accepts, each node that any old path selects is selected by some new one
    pub accepted : (old new by : List ℕ) (t : DoneOrRefusal) → Replaced s old new by t
        → IsAccepted (done_answer_of t)
        → Every (λ n. T (held_path b.rows n)) old × NoneLost (paths_of b.rows old) (paths_of b.rows new)

-- the guarantee: every list of calls, run from what `Session::new` gives, refused ones included
abbrev pub ReplaceGuarantee : ReplaceRelation Session → (New : Session → Type 0) (Called : CallRelation) → Type 0
ReplaceGuarantee Replaced New Called = (s₀ s : Session) (cs : List Call) (os : List CallSeen)
    → New s₀ → Run view Called s₀ cs os s → SetsReplaced Replaced s (book_after cs)
