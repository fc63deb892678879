-- Each clause of what is promised of points, written out once more: without one of them this fails.
use Rattle.calls.specs.represent.Answers.{NumberOrRefusal, answer_of}
use Prim.Native.Nat.{ℕ}
use mathlib.Core.Path.{◌≡◌, ◌∙◌}
use mathlib.Core.List.{List, ◌∷◌}
use lib.ListN.{length, take}
use Rattle.common.specs.Lists.{Every}
use Rattle.calls.specs.Book.{Book, Answer, answer}
use Rattle.calls.specs.PointCall.{point_names}
use Rattle.calls.specs.Runs.{next, final, Run}
use Rattle.calls.specs.Calls.{Call, point, return, CallSeen, book_answer, book_after, plain_book}
use Rattle.calls.specs.PointLaws.{KeepsPoints}
use Rattle.calls.proofs.Returns.{return_restores}
use Rattle.session.specs.declared.session.Session.{Session}
use Rattle.session.specs.represent.Results.{ReadResult}
use Rattle.session.specs.View.{view, fresh_session}
use Rattle.session.specs.SessionLaws.{session_of, without_points, SetsNoPoint}
use Rattle.session.specs.ReadCall.{read_answer_of}
use Rattle.session.specs.ReadGuarantee.{CallFits}
use Rattle.session.proofs.Source.{New, Called, Read, Write, new_exists, read_guarantee}
use Rattle.session.proofs.Source.{whole_session, no_point_left, session_restored}

-- the book: the return is accepted, and leaves what setting the point left
pub book_restored : (b : Book) (n : ℕ) (cs : List Call) → (book_answer b (point n)).number ≡ 0
    → Every (KeepsPoints (point_names b.points)) cs
    → (book_answer (final plain_book b (point n ∷ cs)) (return n) ≡ answer 0 0)
    × (next plain_book (final plain_book b (point n ∷ cs)) (return n) ≡ next plain_book b (point n))
book_restored = return_restores

module _ (s₀ s : Session) (cs : List Call) (os : List CallSeen) (is-new : New s₀) (run : Run view Called s₀ cs os s)
  where
    pub whole_left : s ≡ session_of (book_after cs)
    whole_left = whole_session s₀ s cs os is-new run

    pub none_left : Every SetsNoPoint cs → without_points s ≡ s
    none_left = no_point_left s₀ s cs os is-new run

    -- a point is set, calls keep the earlier ones, and one returns to it
    module _ (t u v : Session) (ds : List Call) (ps : List CallSeen) (n : ℕ) (a b : Answer)
        (set : Called s (point n) a t) (taken : a.number ≡ 0) (later : Run view Called t ds ps u)
        (keep : Every (KeepsPoints (point_names (view s).points)) ds) (back : Called u (return n) b v)
      where
        abbrev restored : (b ≡ answer 0 0) × (v ≡ t) × (without_points v ≡ without_points s)
        restored = session_restored s₀ s t u v cs ds os ps n a b is-new run set taken later keep back

        pub returns : b ≡ answer 0 0
        returns = restored.0

        pub as_set : v ≡ t
        as_set = restored.1

        pub as_before : without_points v ≡ without_points s
        as_before = restored.2

-- what is written of a session that calls lead to without setting a point, term and step calls for instance, reads back
-- as that very session
pub same_session : (cs : List Call) (os : List CallSeen) (s : Session) → Run view Called fresh_session cs os s
    → Every CallFits cs → Every SetsNoPoint cs
    → (buffer left : List ℕ) (w : NumberOrRefusal) → Write s buffer w left → (answer_of w).number ≡ 0
    → (t : ReadResult) → Read (take (answer_of w).value left) t
    → (read_answer_of t.answer ≡ answer 0 (length (view s).steps)) × (t.session ≡ s)
same_session cs os s run fits none_set buffer left w m e t r =
    let back = read_guarantee.written_reads_back cs os s run fits buffer left w m e t r in
    (back.0, back.1 ∙ none_left fresh_session s cs os new_exists run none_set)
