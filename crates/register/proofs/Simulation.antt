-- A register moves as the plain register does, since its session moves as the plain book does.
use Prim.Native.Nat.{ℕ, ◌+◌, ◌<◌, min}
use mathlib.Core.Path.{◌≡◌, refl, sym, ap, subst, ◌∙◌}
use mathlib.Core.List.{List, [], ◌∷◌, ◌++◌}
use native.Mathlib.Omega.{arith}
use native.Mathlib.Numerals.{add-one}
use lib.ListN.{length, length-set, length-replicate}
use lib.Seq.{take-suc-set, length-take-le}
use Rattle.terms.specs.Row.{Row}
use Rattle.records.specs.declared.Record.{Record}
use Rattle.records.specs.declared.Records.{Records}
use Rattle.records.specs.declared.Releases.{Releases}
use Rattle.register.specs.declared.Register.{Register}
use Rattle.calls.specs.Book.{Step, empty_book}
use Rattle.calls.specs.Runs.{Run, shown, final, Reached, first}
use Rattle.calls.specs.Calls.{plain_book}
use Rattle.calls.specs.Above.{Both, both}
use Rattle.calls.proofs.Runs.{Simulates, run_map, run_follows}
use Rattle.calls.proofs.Above.{Agrees, above_simulates, along_simulates, reached_below}
use Rattle.calls.proofs.Reached.{BookLaws, reachable_laws}
use Rattle.records.specs.Records.{empty_record, max_records, current, record_answer}
use Rattle.records.specs.represent.Held.{size_of, records_in, no_records, with_record}
use Rattle.records.specs.Register.{plain_records, plain_register, empty_register, EditionsContained}
use Rattle.records.specs.Releases.{none_released, released, crew_current, plain_releases, plain_office, empty_office}
use Rattle.records.specs.Releases.{OfficeCall, OfficeSeen, office_after, IsReleased, StillReleased}
use Rattle.records.specs.represent.Listed.{no_releases}
use Rattle.records.proofs.Crew.{crew_contained, releases_stay}
use Rattle.records.proofs.Judged.{record_accepted}
use Rattle.records.proofs.Editions.{editions_contained}
use Rattle.session.specs.declared.session.Session.{Session}
use Rattle.session.specs.View.{view}
use Rattle.session.specs.Promises.{SelectRelation, SelectMet}
use Rattle.session.proofs.Views.{fresh_view}
use Rattle.session.proofs.Simulation as sessions
use Rattle.session.proofs.Simulation.{Whole, session_as_book, fresh_kept}
use Rattle.session.proofs.FollowsBook.{SelectsKept, upheld}
use Rattle.register.specs.Promises.{fresh_register, records, releases, apart, together, register}
use Rattle.register.specs.Promises.{RegisterRelation, RegisterMet, holdings, released_in}
use Rattle.register.specs.FollowsRegister.{FollowsRegister, RegisterGuarantee, ReleasesKept}

abbrev Sized : Records → Type 0
Sized e = length e.held ≡ max_records

-- an accepted record stands after those held
record_filed : (rows : List Row) (ps : List Step) (e : Records) (r : Record) → Sized e
    → (record_answer rows ps (records_in e) r).number ≡ 0
    → (records_in (with_record e r) ≡ records_in e ++ (r ∷ [])) × Sized (with_record e r)
record_filed rows ps e r size told =
    let k = size_of e in
    let count = length-take-le k e.held (omega arith) in
    let room = (record_accepted rows ps (records_in e) r told).room in
    let few : min (k + 1) max_records ≡ k + 1 = omega arith in
    (rw (few, add-one k) (take-suc-set e.held k r (omega arith)), length-set e.held k r ∙ size)

records_agree : Agrees view records_in plain_book empty_book Whole Sized records plain_records
records_agree =
    record {
      refuses = λ z. omega arith;
      barred = refl;
      bars = λ s e c whole size told. refl;
      answers = λ s e r whole size h. refl;
      moves = λ s e r whole size told. record_filed (view s).rows (view s).steps e r size told;
    }

releases_agree :
    Agrees (λ (s : Both Session Records). both (view s.below) (records_in s.beside)) (λ (e : Releases). e.flags)
    plain_register empty_register (λ (s : Both Session Records). Whole s.below × Sized s.beside)
    (λ (e : Releases). Unit {0}) releases plain_releases
releases_agree =
    record {
      refuses = λ z. omega arith;
      barred = refl;
      bars = λ s e c kept sound told. refl;
      answers = λ s e p kept sound h. refl;
      moves = λ s e p kept sound told. (refl, tt);
    }

-- what stays true of a register
abbrev Kept : Register → Type 0
Kept r = (Whole r.session × Sized r.records) × Unit {0}

register_as_plain : Simulates holdings register plain_office empty_office Kept
register_as_plain =
    along_simulates apart together (λ s. refl)
    (above_simulates (above_simulates session_as_book records_agree []) releases_agree none_released)

fresh_holdings : holdings fresh_register ≡ empty_office
unfolding no_records no_releases
fresh_holdings = λ i. both (both (fresh_view i) []) none_released

fresh_sized : Sized no_records
unfolding no_records
fresh_sized = length-replicate {A = Record} max_records empty_record

-- every list of calls from a fresh register
module _ (cs : List OfficeCall) (os : List OfficeSeen) (r : Register) (run : Run holdings RegisterMet fresh_register cs
    os r)
  where
    start : Reached plain_office empty_office (holdings fresh_register)
    start = subst (Reached plain_office empty_office) (sym fresh_holdings) first

    followed : (os ≡ shown plain_office (holdings fresh_register) cs)
        × (holdings r ≡ final plain_office (holdings fresh_register) cs) × Kept r
        × Reached plain_office empty_office (holdings r)
    followed = run_follows register_as_plain ((fresh_kept.whole, fresh_sized), tt) start run

    same : holdings r ≡ office_after cs
    same = followed.1 ∙ ap (λ b. final plain_office b cs) fresh_holdings

    register_reached : Reached plain_register empty_register (holdings r).below
    register_reached = reached_below plain_register plain_releases (λ z. omega arith) followed.3

    book_reached : Reached plain_book empty_book (holdings r).below.below
    book_reached = reached_below plain_book plain_records (λ z. omega arith) register_reached

    laws : BookLaws (holdings r).below.below
    laws = reachable_laws book_reached

    kept_session : sessions.Kept r.session
    kept_session = record { whole = followed.2.0.0; reachable = book_reached }

    editions : EditionsContained (holdings r).below.below.rows (holdings r).below.beside
    editions = editions_contained register_reached

    -- what is released stays so after further calls
    still_released : (t : Register) (ds : List OfficeCall) (us : List OfficeSeen) → Run holdings RegisterMet r ds us t
        → (i : ℕ) → i < length (holdings r).below.beside → IsReleased (holdings r).beside i
        → StillReleased (holdings r) (holdings t) i
    still_released t ds us later i h is =
        let (shows, holds, kept, reached) = run_follows register_as_plain followed.2 followed.3 later in
        subst (λ d. StillReleased (holdings r) d i) (sym holds) (releases_stay (holdings r) ds i h is)

-- what such a register holds, and the laws of it
pub record RegisterLaws (cs : List OfficeCall) (r : Register) : Type 0 where
  pub held : holdings r ≡ office_after cs
  pub laws : BookLaws (office_after cs).below.below
  pub session : sessions.Kept r.session
  pub editions : EditionsContained (office_after cs).below.below.rows (office_after cs).below.beside

pub register_laws : (cs : List OfficeCall) (os : List OfficeSeen) (r : Register)
    → Run holdings RegisterMet fresh_register cs os r → RegisterLaws cs r
register_laws cs os r run =
    let is = same cs os r run in
    record {
      held = is;
      laws = subst (λ b. BookLaws b.below.below) is (laws cs os r run);
      session = kept_session cs os r run;
      editions = subst (λ b. EditionsContained b.below.below.rows b.below.beside) is (editions cs os r run);
    }

module _ (Selected : SelectRelation) (select_tied : SelectsKept Selected SelectMet)
    (Current CrewCurrent : Register → (series e : ℕ) → Type 0)
    (current_tied : (r : Register) (series e : ℕ) → Current r series e
    → e ≡ current (records_in r.records) series)
    (crew-tied : (r : Register) (series e : ℕ) → CrewCurrent r series e → e ≡ crew_current (released_in r) series) where
  calls_follow_register : (cs : List OfficeCall) (os : List OfficeSeen) (r : Register)
      → Run holdings RegisterMet fresh_register cs os r
      → FollowsRegister Selected Current CrewCurrent cs os r
  calls_follow_register cs os r run =
      let w = register_laws cs os r run in
      let is = w.held in
      record {
        seen = (followed cs os r run).0 ∙ ap (λ b. shown plain_office b cs) fresh_holdings;
        held = is;
        upheld = upheld Selected select_tied r.session _ (ap (λ b. b.below.below) is) w.laws;
        contained = w.editions;
        crew_contained = crew_contained _ _ _ w.editions;
        currents = λ series e m. current_tied r series e m ∙ ap (λ b. current b.below.beside series) is;
        crew_currents = λ series e m.
            crew-tied r series e m ∙ ap (λ b. crew_current (released b.below.beside b.beside) series) is;
      }

  -- so for every `new` and all calls that meet their promises
  pub register_guarantee_by : (New : Register → Type 0) (Called : RegisterRelation)
      → ((r : Register) → New r → r ≡ fresh_register)
      → ((r : Register) (c : OfficeCall) (a : _) (t : Register) → Called r c a t → RegisterMet r c a t)
      → RegisterGuarantee Selected Current CrewCurrent New Called
  register_guarantee_by New Called new_tied call_tied r₀ r cs os new run =
      calls_follow_register cs os r (subst (λ z. Run holdings RegisterMet z cs os r) (new_tied r₀ new) (run_map call_tied run))

pub kept_by : (New : Register → Type 0) (Called : RegisterRelation)
    → ((r : Register) → New r → r ≡ fresh_register)
    → ((r : Register) (c : OfficeCall) (a : _) (t : Register) → Called r c a t → RegisterMet r c a t)
    → ReleasesKept New Called
kept_by New Called new_tied call_tied r₀ r t cs ds os us new run later i h is =
    still_released cs os r (subst (λ z. Run holdings RegisterMet z cs os r) (new_tied r₀ new) (run_map call_tied run))
    t ds us (run_map call_tied later) i h is
