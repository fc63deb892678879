-- What the call record accepts on every register that calls lead to, its step judged as terms; and replace, way-back
-- and the orders there.
use Rattle.std.specs.Prelude.{ℕ, ◌+◌, ◌<◌, ◌≡◌, List, ◌↔◌, T, length}
use Rattle.terms.specs.Row.{Row}
use Rattle.terms.specs.Fields.{held_path}
use Rattle.terms.specs.Terms.{path_at}
use Rattle.calls.specs.Book.{Book, Answer, IsAccepted}
use Rattle.calls.specs.Runs.{Run}
use Rattle.calls.specs.Calls.{term}
use Rattle.calls.specs.Above.{passed, own}
use Rattle.replacement.specs.NoneLost.{StepSays}
use Rattle.records.specs.declared.Record.{Record}
use Rattle.records.specs.Records.{max_records, current, row_of, is_fit_step}
use Rattle.records.specs.Releases.{OfficeCall, OfficeSeen, office_after}
use Rattle.session.specs.ReplaceGuarantee.{ReplaceRelation, SetsReplaced}
use Rattle.session.specs.View.{view}
use Rattle.session.specs.WayBackGuarantee.{WayBackRelation, WaysBack}
use Rattle.session.specs.OrderGuarantee.{OrderRelation, BundleOrderRelation, ArchivesOrdered}
use Rattle.register.specs.declared.Register.{Register}
use Rattle.register.specs.Promises.{RegisterRelation, holdings}

-- the record g is the next edition of its series, its row is a held path, the first edition has step 0, the step of a
-- later one is held and says, as terms, that the previous edition's path is contained in its own, and there is space
pub record AcceptableRecord (b : Book) (rs : List Record) (g : Record) : Type 0 where
  pub next : g.edition ≡ current rs g.series + 1
  pub path : T (held_path b.rows g.row)
  pub first : g.edition ≡ 1 → g.step ≡ 0
  pub later : ¬ (g.edition ≡ 1)
      → StepSays b g.step (path_at b.rows (row_of rs g.series (current rs g.series))) (path_at b.rows g.row)
  pub space : length rs < max_records

-- what is asked of the register r that calls left; b and rs are the plain book and the records after the same calls
pub record RecordsJudged (Called : RegisterRelation) (r : Register) (b : Book) (rs : List Record) : Type 0 where
  -- what the call asks of a later edition's step by row numbers is what the step says of the terms
  pub by_terms : (previous : ℕ) (g : Record) → ¬ (g.edition ≡ 1)
      → T (held_path b.rows previous) → T (held_path b.rows g.row)
      → T (is_fit_step b.steps previous g) ↔ StepSays b g.step (path_at b.rows previous) (path_at b.rows g.row)
  -- the call accepts just what fits
  pub accepts : (g : Record) (a : Answer) (t : Register) → Called r (passed (own g)) a t
      → IsAccepted a ↔ AcceptableRecord b rs g

-- what is asked of way-back on the register r that calls left
abbrev pub RegisterWaysBack : RegisterRelation → WayBackRelation Register → Register → Book → Type 0
RegisterWaysBack Called Reversed r b =
    WaysBack (λ (r : Register). view r.session) holdings (λ (row : Row). passed (passed (term row))) Called Reversed r b

-- the guarantees: every list of calls, run from what `Register::new` gives, refused ones included
module _ (New : Register → Type 0) (Called : RegisterRelation) where
  abbrev pub RecordGuarantee : Type 0
  RecordGuarantee = (r₀ r : Register) (cs : List OfficeCall) (os : List OfficeSeen)
      → New r₀ → Run holdings Called r₀ cs os r
      → RecordsJudged Called r (office_after cs).below.below (office_after cs).below.beside

  -- what is asked of replace and of the orders is what is asked of a session's
  abbrev pub RegisterReplaceGuarantee : ReplaceRelation Register → Type 0
  RegisterReplaceGuarantee Replaced = (r₀ r : Register) (cs : List OfficeCall) (os : List OfficeSeen)
      → New r₀ → Run holdings Called r₀ cs os r → SetsReplaced Replaced r (office_after cs).below.below

  -- and of way-back; what it leaves, term calls of the register leave
  abbrev pub RegisterWayBackGuarantee : WayBackRelation Register → Type 0
  RegisterWayBackGuarantee Reversed = (r₀ r : Register) (cs : List OfficeCall) (os : List OfficeSeen)
      → New r₀ → Run holdings Called r₀ cs os r
      → RegisterWaysBack Called Reversed r (office_after cs).below.below

  abbrev pub RegisterOrderGuarantee : OrderRelation Register → BundleOrderRelation Register → Type 0
  RegisterOrderGuarantee Ordered BundleOrdered = (q₀ r₀ q r : Register) (cs ds : List OfficeCall) (os us : List OfficeSeen)
      → New q₀ → New r₀ → Run holdings Called q₀ cs os q → Run holdings Called r₀ ds us r
      → ArchivesOrdered Ordered BundleOrdered q r (office_after cs).below.below (office_after ds).below.below
