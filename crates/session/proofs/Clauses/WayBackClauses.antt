-- Each clause of what is guaranteed of way-back, written out once more: without one of them this fails.
use Prim.Native.Nat.{ℕ, ◌≤◌}
use mathlib.Core.Path.{◌≡◌}
use mathlib.Core.List.{List, ◌++◌, map}
use mathlib.Core.Logic.{◌↔◌}
use mathlib.Core.Option.{none, some}
use lib.Dec.{T}
use lib.ListN.{length}
use Rattle.common.specs.Lists.{Every}
use Rattle.xpath.specs.Term.{Path}
use Rattle.terms.specs.Row.{Row}
use Rattle.terms.specs.Fields.{held_path}
use Rattle.terms.specs.Terms.{of_path, term_at, path_at}
use Rattle.selector_grammar.specs.Denotes.{put_path, nest_path}
use Rattle.rules.specs.WayBack.{way_back}
use Rattle.reversing.specs.WayBackCall.{way_back_reply, HasWayBack}
use Rattle.calls.specs.Book.{Book, empty_book, Answer, answer}
use Rattle.calls.specs.Runs.{Run, final}
use Rattle.calls.specs.Calls.{Call, term, CallSeen, plain_book}
use Rattle.session.specs.declared.session.Session.{Session}
use Rattle.session.specs.View.{view}
use Rattle.session.specs.WayBackGuarantee.{WayBackHeld, SessionWaysBack}
use Rattle.session.proofs.Source.{New, Called, Reversed, way_back_guarantee}

module _ (s₀ s : Session) (cs : List Call) (os : List CallSeen) (is-new : New s₀) (run : Run view Called s₀ cs os s)
  where
    abbrev held : Book
    held = final plain_book empty_book cs

    abbrev met : SessionWaysBack Reversed Called s held
    met = way_back_guarantee s₀ s cs os is-new run

    -- w is the way back of a held path that can be held
    abbrev Has : ℕ → Path → Type 0
    Has row w = T (held_path held.rows row) × (way_back (path_at held.rows row) ≡ some w) × (nest_path w ≤ 32)
        × (length (put_path w held.rows).rows ≤ 1024)

    has : (row : ℕ) (w : Path) → HasWayBack held.rows row w → Has row w
    has row w h = (h.path, h.is_back, h.nesting, h.space)

    -- a way-back call
    module _ (row : ℕ) (a : Answer) (t : Session) (reversed : Reversed s row a t) where
      pub answered : a ≡ answer (way_back_reply held.rows row).number (way_back_reply held.rows row).value
      answered = met.answers row a t reversed

      pub left_as_it_was : ¬ (a.number ≡ 0) → t ≡ s
      left_as_it_was = met.refused row a t reversed

      pub accepted_has : a.number ≡ 0 → (w : Path) × Has row w
      accepted_has z = let (w, h) = (met.accepts row a t reversed).0 z in (w, has row w h)

      pub has_accepted : (w : Path) → Has row w → a.number ≡ 0
      has_accepted w h =
          (met.accepts row a t reversed).1
          (w, record { path = h.0; is_back = h.1; nesting = h.2; space = h.3 })

      pub has_none : (a.number ≡ 7) ↔ (T (held_path held.rows row) × (way_back (path_at held.rows row) ≡ none))
      has_none = met.has_none row a t reversed

      module _ (accepted : a.number ≡ 0) where
        abbrev made : WayBackHeld view view term Called held row a s t
        made = met.held row a t reversed accepted

        pub is_way_back : (w : Path) × Has row w × (term_at (view t).rows a.value ≡ of_path w)
        is_way_back = (made.path, has row made.path made.has, made.is_term)

        -- the rows that the path needs are held, and no others beside those before
        pub rows_needed : (view t).rows ≡ (way_back_reply held.rows row).rows
        rows_needed = made.needed

        -- what term calls of the new rows leave, each of them accepted
        pub as_term_calls : (new : List Row) × (os : List CallSeen) × ((view t).rows ≡ held.rows ++ new)
            × Run view Called s (map term new) os t × Every (λ (o : CallSeen). o.answer.number ≡ 0) os
        as_term_calls = (made.new, made.calls.seen, made.rows, made.calls.run, made.calls.accepted)
