-- The call way-back on a session, and what it does on every session that calls lead to.
use Rattle.std.specs.Prelude.{ℕ, ◌≡◌, List, ◌++◌, map, ◌↔◌, T}
use Rattle.std.proofs.Math.Option.{none}
use Rattle.common.specs.Lists.{Every}
use Rattle.common.specs.Refusals.{not_yielded}
use Rattle.xpath.specs.Term.{Path}
use Rattle.terms.specs.Row.{Row}
use Rattle.terms.specs.Fields.{held_path}
use Rattle.terms.specs.Terms.{of_path, term_at, path_at}
use Rattle.selector_grammar.specs.Answer.{Reply}
use Rattle.rules.specs.WayBack.{way_back}
use Rattle.reversing.specs.WayBackCall.{way_back_reply, HasWayBack}
use Rattle.reversing.specs.private.RowsBack.{row_reply}
use Rattle.calls.specs.Book.{Book, Answer, answer, IsAccepted}
use Rattle.calls.specs.Runs.{Machine, Made, Seen, Run}
use Rattle.calls.specs.Calls.{Call, term, CallSeen, book_after}
use Rattle.session.specs.declared.session.Session.{Session}
use Rattle.session.specs.View.{view, with_rows}
use Rattle.session.specs.Promises.{CallRelation}

-- what may be said of a way-back call: the session or register, the row, the answer, and what it leaves
abbrev pub WayBackRelation : Type 0 → Type 1
WayBackRelation S = S → (row : ℕ) → Answer → S → Type 0

-- the answer of a reply
abbrev pub replied : Reply → Answer
replied r = answer r.number r.value

-- what a way-back call answers and leaves on any session, judged by row numbers
abbrev pub way_back_calls : Machine Session ℕ
way_back_calls =
    record {
      answer = λ s row. replied (row_reply (view s).rows row);
      with = λ s row. with_rows s (row_reply (view s).rows row).rows;
    }

-- `Session::way_back` on s
abbrev pub WayBackMet : WayBackRelation Session
WayBackMet = Made way_back_calls

-- calls on sessions, or on what has a session: the book held, what is seen of a call, and the call term of a row
module _ {S C H : Type 0} (book : S → Book) (view : S → H) (term : Row → C)
    (Called : S → C → Answer → S → Type 0) where
  -- the calls term of these rows lead from s to t, and each is accepted
  pub record TermCalls (s : S) (new : List Row) (t : S) : Type 0 where
    pub seen : List (Seen H)
    pub run : Run view Called s (map term new) seen t
    pub accepted : Every (λ (o : Seen H). IsAccepted o.answer) seen

  -- an accepted call: the path's way back, its row, and the new rows that it needs, which term calls would hold
  pub record WayBackHeld (b : Book) (row : ℕ) (a : Answer) (s t : S) : Type 0 where
    pub path : Path
    pub has : HasWayBack b.rows row path
    pub is_term : term_at (book t).rows a.value ≡ of_path path
    pub new : List Row
    pub rows : (book t).rows ≡ b.rows ++ new
    -- these are the rows that the path needs, operands first, left first
    pub needed : (book t).rows ≡ (way_back_reply b.rows row).rows
    pub calls : TermCalls s new t

  -- what is asked of the session, or the register, s that calls left; b is the plain book fed the same calls
  pub record WaysBack (Reversed : WayBackRelation S) (s : S) (b : Book) : Type 0 where
    -- the call answers the first refusal that applies, else 0 with the row of the way back of the row's path
    pub answers : (row : ℕ) (a : Answer) (t : S) → Reversed s row a t → a ≡ replied (way_back_reply b.rows row)
    -- a refused call leaves all as it was
    pub refused : (row : ℕ) (a : Answer) (t : S) → Reversed s row a t → ¬ (IsAccepted a) → t ≡ s
    -- an accepted one leaves what the calls term of the new rows leave, and its row is the way back
    pub held : (row : ℕ) (a : Answer) (t : S) → Reversed s row a t → IsAccepted a → WayBackHeld b row a s t
    -- it is accepted just where the path has a way back that can be held, and refused with 7 just where it has none
    pub accepts : (row : ℕ) (a : Answer) (t : S) → Reversed s row a t
        → IsAccepted a ↔ ((w : Path) × HasWayBack b.rows row w)
    pub has_none : (row : ℕ) (a : Answer) (t : S) → Reversed s row a t
        → (a.number ≡ not_yielded) ↔ (T (held_path b.rows row) × (way_back (path_at b.rows row) ≡ none))

-- of a session
abbrev pub SessionWaysBack : WayBackRelation Session → CallRelation → Session → Book → Type 0
SessionWaysBack Reversed Called s b = WaysBack view view term Called Reversed s b

-- the guarantee: every list of calls, run from what `Session::new` gives, refused ones included
abbrev pub WayBackGuarantee : WayBackRelation Session → CallRelation → (New : Session → Type 0) → Type 0
WayBackGuarantee Reversed Called New = (s₀ s : Session) (cs : List Call) (os : List CallSeen)
    → New s₀ → Run view Called s₀ cs os s → SessionWaysBack Reversed Called s (book_after cs)
