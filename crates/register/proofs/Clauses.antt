-- Each clause of what is guaranteed of record, replace, way-back and the orders on registers, written out once more:
-- without one of them this fails.
use Prim.Native.Nat.{ℕ, ◌+◌, ◌≤◌, ◌<◌}
use mathlib.Core.Path.{◌≡◌}
use mathlib.Core.List.{List, ◌++◌, map}
use mathlib.Core.Logic.{◌↔◌}
use mathlib.Core.Option.{none}
use lib.Dec.{T}
use lib.ListN.{length}
use Rattle.terms.specs.Fields.{held_path}
use Rattle.terms.specs.Row.{Row}
use Rattle.terms.specs.Terms.{of_path, term_at, path_at}
use Rattle.xpath.specs.Term.{Path}
use Rattle.common.specs.Lists.{Every}
use Rattle.rules.specs.WayBack.{way_back}
use Rattle.reversing.specs.WayBackCall.{way_back_reply, HasWayBack}
use Rattle.rules.specs.Claim.{Containment}
use Rattle.calls.specs.Book.{Book, Answer, answer}
use Rattle.calls.specs.StepCall.{step_numbered, claim_of}
use Rattle.calls.specs.Runs.{Run, final}
use Rattle.calls.specs.Calls.{term}
use Rattle.calls.specs.Above.{passed, own}
use Rattle.records.specs.declared.Record.{Record}
use Rattle.records.specs.Records.{current, row_of, is_fit_step}
use Rattle.records.specs.Releases.{OfficeCall, OfficeSeen, plain_office, empty_office}
use Rattle.session.specs.View.{view}
use Rattle.session.specs.ReplaceGuarantee.{SetsReplaced}
use Rattle.session.specs.OrderGuarantee.{ArchivesOrdered}
use Rattle.register.specs.declared.Register.{Register}
use Rattle.register.specs.Promises.{holdings}
use Rattle.register.specs.RecordGuarantee.{RecordsJudged, RegisterWaysBack}
use Rattle.register.proofs.Source.{New, Called, Replaced, Ordered, BundleOrdered, record_guarantee, replace_guarantee}
use Rattle.register.proofs.Source.{Reversed, way_back_guarantee, order_guarantee}

module _ (r₀ r : Register) (cs : List OfficeCall) (os : List OfficeSeen) (is-new : New r₀)
    (run : Run holdings Called r₀ cs os r) where
  -- the plain book, and the records
  abbrev book : Book
  book = (final plain_office empty_office cs).below.below

  abbrev records : List Record
  records = (final plain_office empty_office cs).below.beside

  abbrev judged : RecordsJudged Called r book records
  judged = record_guarantee r₀ r cs os is-new run

  -- step i, counted from 1, is held and says that the path of row m is contained in that of row n
  abbrev Says : (i m n : ℕ) → Type 0
  Says i m n = (1 ≤ i) × (i ≤ length book.steps)
      × (claim_of book.rows (step_numbered book.steps i) ≡ Containment (path_at book.rows m) (path_at book.rows n))

  pub step_says : (previous : ℕ) (g : Record) → ¬ (g.edition ≡ 1) → T (held_path book.rows previous)
      → T (held_path book.rows g.row) → T (is_fit_step book.steps previous g) ↔ Says g.step previous g.row
  step_says = judged.by_terms

  module _ (g : Record) (a : Answer) (t : Register) (called : Called r (passed (own g)) a t) where
    abbrev previous : ℕ
    previous = row_of records g.series (current records g.series)

    pub record_accepted : a.number ≡ 0 → (g.edition ≡ current records g.series + 1) × T (held_path book.rows g.row)
        × (g.edition ≡ 1 → g.step ≡ 0) × (¬ (g.edition ≡ 1) → Says g.step previous g.row) × (length records < 256)
    record_accepted e = let f = (judged.accepts g a t called).0 e in (f.next, f.path, f.first, f.later, f.space)

    pub accepted_record : g.edition ≡ current records g.series + 1 → T (held_path book.rows g.row)
        → (g.edition ≡ 1 → g.step ≡ 0) → (¬ (g.edition ≡ 1) → Says g.step previous g.row) → length records < 256
        → a.number ≡ 0
    accepted_record next path first later space =
        (judged.accepts g a t called).1
        (record { next = next; path = path; first = first; later = later; space = space })

  pub replaced : SetsReplaced Replaced r book
  replaced = replace_guarantee r₀ r cs os is-new run

  ways_back : RegisterWaysBack Called Reversed r book
  ways_back = way_back_guarantee r₀ r cs os is-new run

  -- a way-back call
  module _ (row : ℕ) (a : Answer) (t : Register) (reversed : Reversed r row a t) where
    pub back_answered : a ≡ answer (way_back_reply book.rows row).number (way_back_reply book.rows row).value
    back_answered = ways_back.answers row a t reversed

    pub back_left : ¬ (a.number ≡ 0) → t ≡ r
    back_left = ways_back.refused row a t reversed

    pub back_accepts : (a.number ≡ 0) ↔ ((w : Path) × HasWayBack book.rows row w)
    back_accepts = ways_back.accepts row a t reversed

    pub has_none : (a.number ≡ 7) ↔ (T (held_path book.rows row) × (way_back (path_at book.rows row) ≡ none))
    has_none = ways_back.has_none row a t reversed

    -- the rows that the path needs are held, and no others beside those before
    pub back_needed : a.number ≡ 0 → (view t.session).rows ≡ (way_back_reply book.rows row).rows
    back_needed z = (ways_back.held row a t reversed z).needed

    -- what term calls of the new rows leave, each of them accepted
    pub back_as_term_calls : a.number ≡ 0 → (w : Path) × HasWayBack book.rows row w
        × (term_at (view t.session).rows a.value ≡ of_path w)
        × ((new : List Row) × (us : List OfficeSeen) × ((view t.session).rows ≡ book.rows ++ new)
        × Run holdings Called r (map (λ (row : Row). passed (passed (term row))) new) us t
        × Every (λ (o : OfficeSeen). o.answer.number ≡ 0) us)
    back_as_term_calls z =
        let h = ways_back.held row a t reversed z in
        (h.path, h.has, h.is_term, (h.new, h.calls.seen, h.rows, h.calls.run, h.calls.accepted))

  -- another register
  pub ordered : (q₀ q : Register) (ds : List OfficeCall) (us : List OfficeSeen) → New q₀
      → Run holdings Called q₀ ds us q
      → ArchivesOrdered Ordered BundleOrdered q r (final plain_office empty_office ds).below.below book
  ordered q₀ q ds us new run-q = order_guarantee q₀ r₀ q r ds cs us os new is-new run-q run
