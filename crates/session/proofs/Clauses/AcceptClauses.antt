-- Each clause of what is accepted, written out once more: without one of them this fails.
use Rattle.calls.specs.represent.Answers.{NumberOrRefusal, answer_of}
use Prim.Native.Nat.{ℕ, ◌*◌, ◌≤◌, ◌<◌}
use mathlib.Core.Path.{◌≡◌}
use mathlib.Core.List.{List, map}
use lib.Dec.{T, leb}
use lib.ListN.{length}
use Rattle.xpath.specs.Document.{document_of, well_formed}
use Rattle.xpath.specs.Visits.{visits}
use Rattle.terms.specs.Row.{Row, row_at}
use Rattle.terms.specs.Fields.{Field, fields_of, field_ok, held_path}
use Rattle.terms.specs.Nesting.{nesting}
use Rattle.terms.specs.Terms.{path_at}
use Rattle.rules.specs.Yields.{Yields, premise_count}
use Rattle.calls.specs.Book.{Step, Book, Answer, empty_book}
use Rattle.calls.specs.StepCall.{same_sort, premise_ok, claim_of, premises_of}
use Rattle.calls.specs.Runs.{Run, final}
use Rattle.calls.specs.Calls.{Call, CallSeen, plain_book}
use Rattle.session.specs.declared.session.Session.{Session}
use Rattle.session.specs.View.{view}
use Rattle.session.specs.AcceptGuarantee.{AcceptsExactly}
use Rattle.session.proofs.Source.{New, Called, Selected, accept_guarantee}

module _ (s₀ s : Session) (cs : List Call) (os : List CallSeen) (is-new : New s₀) (run : Run view Called s₀ cs os s)
  where
    abbrev held : Book
    held = final plain_book empty_book cs

    abbrev met : AcceptsExactly Selected Called s held
    met = accept_guarantee s₀ s cs os is-new run

    -- a term call
    module _ (r : Row) (a : Answer) (t : Session) (called : Called s (Call.term r) a t) where
      abbrev ok : Field → ℕ → Type 0
      ok f x = T (field_ok held.rows f x r.b)

      pub row_accepted : (a.number ≡ 0) → (r.kind ≤ 11)
          × (ok (fields_of r.kind).a r.a × ok (fields_of r.kind).b r.b × ok (fields_of r.kind).c r.c)
          × (nesting held.rows r ≤ 32) × ((i : ℕ) → i < length held.rows → ¬ (row_at held.rows i ≡ r))
          × (length held.rows < 1024)
      row_accepted e =
          let f = (met.rows r a t called).0 e in
          let w = f.well_formed in (w.kind, (w.a, w.b, w.c), w.nesting, f.new, f.space)

      pub accepted_row : r.kind ≤ 11 → ok (fields_of r.kind).a r.a → ok (fields_of r.kind).b r.b
          → ok (fields_of r.kind).c r.c → nesting held.rows r ≤ 32
          → ((i : ℕ) → i < length held.rows → ¬ (row_at held.rows i ≡ r)) → length held.rows < 1024 → a.number ≡ 0
      accepted_row k x y z n new space =
          (met.rows r a t called).1 (record {
            well_formed = record { kind = k; a = x; b = y; c = z; nesting = n };
            new = new;
            space = space;
          })

    -- a step call
    module _ (p : Step) (a : Answer) (t : Session) (called : Called s (Call.step p) a t) where
      abbrev yielded : Type 0
      yielded = Yields p.rule (claim_of held.rows p) (map (claim_of held.rows) (premises_of held.steps p))

      -- the premise at place n, from 1, which is i
      abbrev premise : (n i : ℕ) → Type 0
      premise n i = T (premise_ok (leb n (premise_count p.rule)) (length held.steps) i)

      pub step_accepted : (a.number ≡ 0) → (p.left < length held.rows) × (p.right < length held.rows)
          × T (same_sort held.rows p.left p.right) × premise 1 p.first × premise 2 p.second × yielded
          × (length held.steps < 2048)
      step_accepted e =
          let f = (met.steps p a t called).0 e in
          (f.left, f.right, f.one_sort, f.first, f.second, f.yielded, f.space)

      pub accepted_step : p.left < length held.rows → p.right < length held.rows
          → T (same_sort held.rows p.left p.right) → premise 1 p.first → premise 2 p.second → yielded
          → length held.steps < 2048 → a.number ≡ 0
      accepted_step l r sort i j y space =
          (met.steps p a t called).1 (record {
            left = l;
            right = r;
            one_sort = sort;
            first = i;
            second = j;
            yielded = y;
            space = space;
          })

    -- a select call
    module _ (row : ℕ) (xs : List ℕ) (x limit : ℕ) (buffer left : List ℕ) (t : NumberOrRefusal)
        (selected : Selected s row xs x limit buffer t left)
      where
        pub select_accepted : ((answer_of t).number ≡ 0) → (length xs ≡ 3 * length (document_of xs))
            × (length (document_of xs) ≤ 512) × T (well_formed (document_of xs)) × (x < length (document_of xs))
            × T (held_path held.rows row) × (length (document_of xs) ≤ length buffer)
            × (visits (document_of xs) (path_at held.rows row) x ≤ limit)
        select_accepted e =
            let f = (met.selects row xs x limit buffer left t selected).0 e in
            (f.whole, f.few, f.well_formed, f.context, f.path, f.marks, f.within)

        pub accepted_select : length xs ≡ 3 * length (document_of xs) → length (document_of xs) ≤ 512
            → T (well_formed (document_of xs)) → x < length (document_of xs) → T (held_path held.rows row)
            → length (document_of xs) ≤ length buffer → visits (document_of xs) (path_at held.rows row) x ≤ limit
            → (answer_of t).number ≡ 0
        accepted_select whole few w k path room within =
            (met.selects row xs x limit buffer left t selected).1 (record {
              whole = whole;
              few = few;
              well_formed = w;
              context = k;
              path = path;
              marks = room;
              within = within;
            })
