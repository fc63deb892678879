-- What the register's contracts in the source say of each call, and the guarantees from them.
use Prim.Native.Nat.{ℕ, ◌+◌}
use mathlib.Core.Path.{◌≡◌, refl, sym, ap, subst, ◌∙◌}
use mathlib.Core.Bool.{Bool, false, not, cond, ◌&&◌, and-false}
use mathlib.Core.List.{List, []}
use lib.Dec.{leb, eqb}
use lib.ListN.{length}
use Rattle.terms.specs.Row.{Row}
use Rattle.terms.specs.represent.RowTypes as code
use Rattle.terms.specs.Fields.{held_path}
use Rattle.session.specs.declared.session.Session.{Session}
use Rattle.records.specs.declared.Record.{Record}
use Rattle.std.specs.Prelude.{Result, Ok, Err, OnErr}
use Rattle.common.specs.declared.refusal.Refusal.{Refusal}
use Rattle.calls.specs.declared.answer.LineRefusal.{LineRefusal}
use Rattle.records.specs.declared.Records.{Records}
use Rattle.common.specs.declared.refusal.Refusal.TheVariants as Refused
use Rattle.register.specs.declared.Register.{Register}
use Rattle.register.specs.represent.Results.{ReadResult, read_result}
use Rattle.calls.specs.Book.{Step, Answer, answer, accepted}
use Rattle.common.specs.Refusals.{full_or_in_use, no_record}
use Rattle.common.proofs.Lent.{lent, lent_to_write}
use Rattle.calls.specs.PointCall.{point_names, return_answer}
use Rattle.calls.specs.Promises.{row_yielded, row_step_answer}
use Rattle.calls.specs.Runs.{next, Run}
use Rattle.calls.specs.Calls.{term, step, text, point, return}
use Rattle.calls.specs.Above.{passed, own}
use Rattle.calls.specs.represent.Answers.{NumberOrRefusal, DoneOrRefusal, OrderOrRefusal, step_of, answer_of}
use Rattle.calls.specs.represent.Answers.{done_answer_of}
use Rattle.calls.specs.represent.Answers.{answer_with, refusal_answer}
use Rattle.calls.proofs.Runs.{made, run_exists}
use Rattle.calls.proofs.Cases.{HasCase, either_case, term_case, step_case, text_case, point_case, return_case}
use Rattle.records.specs.Records.{max_records, current, row_of, is_fit_step, record_answer}
use Rattle.records.specs.represent.Held.{records_in, no_records}
use Rattle.records.specs.Register.{drops_in_use}
use Rattle.records.specs.Releases.{release_answer, crew_listing, crew_current, OfficeCall, OfficeSeen}
use Rattle.records.specs.represent.Listed.{listed, no_releases}
use Rattle.session.specs.View.{view, fresh_session}
use Rattle.session.specs.represent.Results as session-read
use Rattle.session.specs.ReadCall.{ReadMet}
use Rattle.session.proofs.Refused.{refused_kept}
use Rattle.session.proofs.ReadCalls.{refused_fresh}
use Rattle.session.specs.Promises.{SelectMet}
use Rattle.session.specs.ReplaceGuarantee.{ReplaceMet}
use Rattle.session.specs.OrderGuarantee.{OrderMet, BundleOrderMet}
use Rattle.session.specs.WayBackGuarantee.{way_back_calls, WayBackMet}
use Rattle.session.specs.WriteCall.{WriteMet}
use Rattle.session.proofs.FollowsBook.{SelectsKept}
use Rattle.session.proofs.Source as below
use Rattle.session.proofs.Source.{given_row, given_step}
use Rattle.register.specs.Promises.{fresh_register, register, RegisterMet, holdings, released_in}
use Rattle.register.specs.Promises.{RegisterWayBackMet, RegisterReadMet}
use Rattle.register.specs.FollowsRegister.{RegisterGuarantee, ReleasesKept, ReleasedAgain, CrewIsolated}
use Rattle.register.proofs.Calls.{not_barred, not_barred_twice, again_made}
use Rattle.register.specs.RecordGuarantee.{RecordGuarantee, RegisterReplaceGuarantee, RegisterWayBackGuarantee}
use Rattle.register.specs.RecordGuarantee.{RegisterOrderGuarantee}
use Rattle.register.proofs.Simulation.{register_guarantee_by, kept_by}
use Rattle.register.proofs.Judged.{replace_guarantee_by, way_back_guarantee_by, order_guarantee_by, record_guarantee_by}
use Rattle.register.proofs.Register.new.Reads as new-reads
use Rattle.register.proofs.Register.term.Reads as term-reads
use Rattle.register.proofs.Register.step.Reads as step-reads
use Rattle.register.proofs.Register.text.Reads as text-reads
use Rattle.register.proofs.Register.point.Reads as point-reads
use Rattle.register.proofs.Register.return_to.Reads as return-reads
use Rattle.register.proofs.Register.record.Reads as record-reads
use Rattle.register.proofs.Register.release.Reads as release-reads
use Rattle.register.proofs.Register.current.Reads as current-reads
use Rattle.register.proofs.Register.listing.Reads as listing-reads
use Rattle.register.proofs.Register.crew_listing.Reads as crew-listing-reads
use Rattle.register.proofs.Register.crew_current.Reads as crew-current-reads
use Rattle.register.proofs.Register.select.Reads as select-reads
use Rattle.register.proofs.Register.way_back.Reads as way-back-reads
use Rattle.register.proofs.Register.replace.Reads as replace-reads
use Rattle.register.proofs.Register.order.Reads as order-reads
use Rattle.register.proofs.Register.bundle_order.Reads as bundle-order-reads
use Rattle.register.proofs.Register.write.Reads as write-reads
use Rattle.register.proofs.Register.read.Reads as read-reads

-- `Register::new` gives the register r
pub data New : Register → Type 0 where
  new_called : (κs : _) (a : _) (r : _) (x : _) → new-reads.Post κs a r x → New r

-- `Register::term`, `step`, `text`, `point`, `return_to`, `record` or `release` on a register, with the arguments of a
-- call, has an answer and leaves a register
pub data Called : Register → OfficeCall → Answer → Register → Type 0 where
  term_called : (κs : _) (a : _) (r : _) (x : _) → term-reads.Post κs a r x
      → Called a.0.now (passed (passed (term (code.row_of a.1.0)))) (answer_of r) x.0.now
  step_called : (κs : _) (a : _) (r : _) (x : _) → step-reads.Post κs a r x
      → Called a.0.now (passed (passed (step (step_of a.1.0)))) (answer_of r) x.0.now
  text_called : (κs : _) (a : _) (r : _) (x : _) → text-reads.Post κs a r x
      → Called a.0.now (passed (passed (text a.1.0.now a.1.1.0.now))) (answer_of r) x.0.now
  point_called : (κs : _) (a : _) (r : _) (x : _) → point-reads.Post κs a r x
      → Called a.0.now (passed (passed (point a.1.0))) (done_answer_of r) x.0.now
  return_called : (κs : _) (a : _) (r : _) (x : _) → return-reads.Post κs a r x
      → Called a.0.now (passed (passed (return a.1.0))) (done_answer_of r) x.0.now
  record_called : (κs : _) (a : _) (r : _) (x : _) → record-reads.Post κs a r x
      → Called a.0.now (passed (own a.1.0)) (done_answer_of r) x.0.now
  release_called : (κs : _) (a : _) (r : _) (x : _) → release-reads.Post κs a r x
      → Called a.0.now (own a.1.0) (done_answer_of r) x.0.now

-- `Register::current` on the register for a series answers the edition r
pub data Current : Register → (series e : ℕ) → Type 0 where
  current_called : (κs : _) (a : _) (r : _) (x : _) → current-reads.Post κs a r x → Current a.0.now a.1.0 r

-- `Register::listing`, `Register::crew_listing` and `Register::crew_current` on the register answer r
pub data Listing : Register → Records → Type 0 where
  listing_called : (κs : _) (a : _) (r : _) (x : _) → listing-reads.Post κs a r x → Listing a.0.now r

pub data CrewListing : Register → Records → Type 0 where
  crew_listing_called : (κs : _) (a : _) (r : _) (x : _) → crew-listing-reads.Post κs a r x → CrewListing a.0.now r

pub data CrewCurrent : Register → (series e : ℕ) → Type 0 where
  crew_current_called : (κs : _) (a : _) (r : _) (x : _) → crew-current-reads.Post κs a r x
      → CrewCurrent a.0.now a.1.0 r

-- `Register::select` on a register of that session, with a row, lent numbers, a node, a limit and a buffer, has the
-- answer r and leaves bytes
pub data Selected : Session → (row : ℕ) → List ℕ → (x limit : ℕ) → List ℕ → NumberOrRefusal → List ℕ → Type 0 where
  select_called : (κs : _) (a : _) (r : _) (x : _) → select-reads.Post κs a r x
      → Selected a.0.now.session a.1.0 a.1.1.0.now a.1.1.1.0 a.1.1.1.1.0
      a.1.1.1.1.1.0.now r x.1.1.1.1.1.0.now

-- `Register::way_back` on a register with a row has an answer and leaves a register
pub data Reversed : Register → (row : ℕ) → Answer → Register → Type 0 where
  way_back_called : (κs : _) (a : _) (r : _) (x : _) → way-back-reads.Post κs a r x
      → Reversed a.0.now a.1.0 (answer_of r) x.0.now

-- `Register::replace` on a register with old rows, new rows and steps has the answer r
pub data Replaced : Register → (old new by : List ℕ) → DoneOrRefusal → Type 0 where
  replace_called : (κs : _) (a : _) (r : _) (x : _) → replace-reads.Post κs a r x
      → Replaced a.0.now a.1.0.now a.1.1.0.now a.1.1.1.0.now r

-- `Register::order` on a register with a row, another register and a row of it has the answer r
pub data Ordered : Register → (i : ℕ) → Register → (j : ℕ) → OrderOrRefusal → Type 0 where
  order_called : (κs : _) (a : _) (r : _) (x : _) → order-reads.Post κs a r x
      → Ordered a.0.now a.1.0 a.1.1.0.now a.1.1.1.0 r

-- `Register::bundle_order` on two registers has the answer r
pub data BundleOrdered : Register → Register → OrderOrRefusal → Type 0 where
  bundle_order_called : (κs : _) (a : _) (r : _) (x : _) → bundle-order-reads.Post κs a r x
      → BundleOrdered a.0.now a.1.0.now r

-- `Register::write` on a register with a buffer has the answer r and leaves bytes
pub data Write : Register → List ℕ → NumberOrRefusal → List ℕ → Type 0 where
  write_called : (κs : _) (a : _) (r : _) (x : _) → write-reads.Post κs a r x
      → Write a.0.now a.1.0.now r x.1.0.now

-- `Register::read` on a register with bytes has the result
pub data ReadOn : Register → List ℕ → ReadResult → Type 0 where
  read_called : (κs : _) (a : _) (r : _) (x : _) → read-reads.Post κs a r x
      → ReadOn a.0.now a.1.0.now (read_result r x.0.now)

-- the same, whichever register it is called on
abbrev pub Read : List ℕ → ReadResult → Type 0
Read bytes t = (q : Register) × ReadOn q bytes t

-- the contracts promise what the specifications say, word for word
pub new_tied : (r : Register) → New r → r ≡ fresh_register
new_tied r (new_called κs a s x m) = m

pub call_tied : (r : Register) (c : OfficeCall) (a : Answer) (t : Register) → Called r c a t → RegisterMet r c a t
call_tied r c a t (term_called κs args s x m) = m.0
call_tied r c a t (step_called κs args s x m) = m.0
call_tied r c a t (text_called κs args s x m) = m.0
call_tied r c a t (point_called κs args s x m) = m.0
call_tied r c a t (return_called κs args s x m) = m.0
call_tied r c a t (record_called κs args s x m) = m.0
call_tied r c a t (release_called κs args s x m) = m.0

pub current_tied : (r : Register) (series e : ℕ) → Current r series e → e ≡ current (records_in r.records) series
current_tied r series e (current_called κs a s x m) = m

pub listing_tied : (r : Register) (l : Records) → Listing r l → l ≡ listed (records_in r.records)
listing_tied r l (listing_called κs a s x m) = m

pub crew_listing_tied : (r : Register) (l : Records) → CrewListing r l → l ≡ listed (crew_listing (released_in r))
crew_listing_tied r l (crew_listing_called κs a s x m) = m

pub crew_current_tied : (r : Register) (series e : ℕ) → CrewCurrent r series e → e ≡ crew_current (released_in r) series
crew_current_tied r series e (crew_current_called κs a s x m) = m

pub select_tied : SelectsKept Selected SelectMet
select_tied s row xs x limit buffer t left (select_called κs a r y m) = m

pub reversed_tied : (r : Register) (row : ℕ) (a : Answer) (t : Register) → Reversed r row a t
    → RegisterWayBackMet r row a t
reversed_tied r row a t (way_back_called κs args s x m) = m.0

pub replace_tied : (r : Register) (old new by : List ℕ) (t : DoneOrRefusal) → Replaced r old new by t
    → ReplaceMet r.session old new by t
replace_tied r old new by t (replace_called κs a s x m) = m

pub order_tied : (q : Register) (i : ℕ) (r : Register) (j : ℕ) (t : OrderOrRefusal) → Ordered q i r j t
    → OrderMet q.session i r.session j t
order_tied q i r j t (order_called κs a s x m) = m

pub bundle_order_tied : (q r : Register) (t : OrderOrRefusal) → BundleOrdered q r t
    → BundleOrderMet q.session r.session t
bundle_order_tied q r t (bundle_order_called κs a s x m) = m

pub write_tied : (r : Register) (buffer : List ℕ) (w : NumberOrRefusal) (left : List ℕ) → Write r buffer w left
    → WriteMet r.session buffer w left
write_tied r buffer w left (write_called κs a s x m) = m

pub read_tied : (bytes : List ℕ) (t : ReadResult) → Read bytes t → RegisterReadMet bytes t
read_tied bytes t (q, read_called κs a r x m) = m.0

record_case : (rows : List Row) (ps : List Step) (rs : List Record) (r : Record)
    → HasCase done_answer_of (record_answer rows ps rs r)
unfolding record_answer
record_case rows ps rs r =
    let highest = current rs r.series in
    let fit = is_fit_step ps (row_of rs r.series highest) r in
    either_case done_answer_of (not (eqb r.edition (highest + 1))) _ _ (Err (Refused.NotNext (highest + 1)), refl)
    (either_case done_answer_of (not (held_path rows r.row)) _ _ (Err (Refused.BadRecord 1), refl)
    (either_case done_answer_of (not fit) _ _ (Err (Refused.BadRecord 2), refl)
    (either_case done_answer_of (leb max_records (length rs)) _ _ (Err Refused.FullOrInUse, refl)
    (Ok tt, refl))))

barred_case : (names : List ℕ) (n : ℕ) (used : Bool)
    → HasCase done_answer_of (cond (accepted (return_answer names n) && used) (answer full_or_in_use 0)
    (return_answer names n))
barred_case names n used =
    either_case done_answer_of (accepted (return_answer names n) && used) _ _ (Err Refused.FullOrInUse, refl)
    (return_case names n)

release_case : (rs : List Record) (place : ℕ) → HasCase done_answer_of (release_answer rs place)
unfolding release_answer
release_case rs place =
    either_case done_answer_of (leb 1 place && leb place (length rs)) _ _ (Ok tt, refl)
    (Err (Refused.NoRecord place), refl)

-- what a call with the case o of an answer promises, where it meets what the specifications say
module _ {r : Register} {c : OfficeCall} {a : Answer} {t : Register} {A : Type 0} (f : A → ℕ) (o : Result A Refusal)
    (e : answer_with f refusal_answer o ≡ register.answer r c) (m : RegisterMet r c a t)
  where
    with_case : RegisterMet r c (answer_with f refusal_answer o) t
    with_case = record { answer = e; left = m.left }

    kept_case : OnErr o (t ≡ r)
    kept_case = refused_kept register r c t f o with_case

-- and no more: a call that meets what they say can be made
met_called : (r : Register) (c : OfficeCall) (a : Answer) (t : Register) → RegisterMet r c a t → Called r c a t
unfolding row_step_answer
met_called r (passed (passed (term p))) a t m =
    let (o, e) = term_case (view r.session).rows p in
    let told = e ∙ not_barred_twice _ in
    subst (λ a. Called r (passed (passed (term p))) a t) (told ∙ sym m.answer)
    (term_called ([], tt) (lent_to_write r, (given_row p, tt)) o (lent_to_write t, (given_row p, tt))
    (with_case (λ n. n) o told m, kept_case (λ n. n) o told m))
met_called r (passed (passed (step p))) a t m =
    let (o, e) = step_case (row_yielded (view r.session) p) (view r.session) p in
    let told = e ∙ not_barred_twice _ in
    subst (λ a. Called r (passed (passed (step p))) a t) (told ∙ sym m.answer)
    (step_called ([], tt) (lent_to_write r, (given_step p, tt)) o (lent_to_write t, (given_step p, tt))
    (with_case (λ n. n) o told m, kept_case (λ n. n) o told m))
met_called r (passed (passed (text names t))) a u m =
    let (o, e) = text_case (view r.session).rows names t in
    let told = e ∙ not_barred_twice _ in
    subst (λ a. Called r (passed (passed (text names t))) a u) (told ∙ sym m.answer)
    (text_called ([], ([], ([], tt))) (lent_to_write r, (lent names, (lent t, tt))) o
    (lent_to_write u, (lent names, (lent t, tt))) (with_case (λ n. n) o told m, kept_case (λ n. n) o told m))
met_called r (passed (passed (point n))) a t m =
    let (o, e) = point_case (point_names (view r.session).points) n in
    let told = e ∙ not_barred_twice _ in
    subst (λ a. Called r (passed (passed (point n))) a t) (told ∙ sym m.answer)
    (point_called ([], tt) (lent_to_write r, (n, tt)) o (lent_to_write t, (n, tt))
    (with_case (λ u. 0) o told m, kept_case (λ u. 0) o told m))
met_called r (passed (passed (return n))) a t m =
    let used = drops_in_use (view r.session) (records_in r.records) (return n) in
    let (o, e) = barred_case (point_names (view r.session).points) n used in
    let told = e ∙ not_barred _ (answer no_record 0) in
    subst (λ a. Called r (passed (passed (return n))) a t) (told ∙ sym m.answer)
    (return_called ([], tt) (lent_to_write r, (n, tt)) o (lent_to_write t, (n, tt))
    (with_case (λ u. 0) o told m, kept_case (λ u. 0) o told m))
met_called r (passed (own g)) a t m =
    let (o, e) = record_case (view r.session).rows (view r.session).steps (records_in r.records) g in
    let told = e ∙ not_barred _ (answer no_record 0) in
    subst (λ a. Called r (passed (own g)) a t) (told ∙ sym m.answer)
    (record_called ([], tt) (lent_to_write r, (g, tt)) o (lent_to_write t, (g, tt))
    (with_case (λ u. 0) o told m, kept_case (λ u. 0) o told m))
met_called r (own p) a t m =
    let (o, e) = release_case (records_in r.records) p in
    subst (λ a. Called r (own p) a t) (e ∙ sym m.answer)
    (release_called ([], tt) (lent_to_write r, (p, tt)) o (lent_to_write t, (p, tt))
    (with_case (λ u. 0) o e m, kept_case (λ u. 0) o e m))

pub register_guarantee : RegisterGuarantee Selected Current CrewCurrent New Called
register_guarantee =
    register_guarantee_by Selected select_tied Current CrewCurrent current_tied crew_current_tied New Called new_tied call_tied

pub releases_kept : ReleasesKept New Called
releases_kept = kept_by New Called new_tied call_tied

pub released_again : ReleasedAgain Called
released_again r t a i h is c = again_made r i a t h is (call_tied r (own (i + 1)) a t c)

-- both contracts are equations on the released records alone
pub crew_isolated : CrewIsolated CrewListing CrewCurrent
crew_isolated =
    record {
      same_listing = λ q r same l m x y.
          crew_listing_tied q l x ∙ ap (λ rs. listed (crew_listing rs)) same ∙ sym (crew_listing_tied r m y);
      same_currents = λ q r same series d e x y.
          crew_current_tied q series d x ∙ ap (λ rs. crew_current rs series) same
          ∙ sym (crew_current_tied r series e y);
    }

-- a refused reading leaves a fresh register
fresh_read : (bytes : List ℕ) (t : session-read.ReadResult) → ReadMet bytes t
    → OnErr t.answer (record { session = t.session; records = no_records; releases = no_releases } ≡ fresh_register)
fresh_read bytes t m = by_case t.answer (refused_fresh bytes t m)
  where
    by_case : (o : Result ℕ LineRefusal) → OnErr o (t.session ≡ fresh_session)
        → OnErr o (record { session = t.session; records = no_records; releases = no_releases } ≡ fresh_register)
    by_case (Ok n) is = tt
    by_case (Err e) is = ap (λ s. record { session = s; records = no_records; releases = no_releases }) is

-- a fresh register can be made, and from it every list of calls: the guarantee is about something
pub new_exists : New fresh_register
new_exists = new_called _ _ fresh_register _ refl

pub calls_exist : (r : Register) (cs : List OfficeCall)
    → (os : List OfficeSeen) × (t : Register) × Run holdings Called r cs os t
calls_exist =
    run_exists holdings Called (λ r c. (
      register.answer r c,
      next register r c,
      met_called r c _ _
          (made register r c),
    ))

-- and so can every current, every listing, every select, every way-back, every replace, every order, every bundle
-- order, every write and every read
pub currents_exist : (r : Register) (series : ℕ) → (e : ℕ) × Current r series e
currents_exist r series =
    let e = current (records_in r.records) series in
    (e, current_called ([], tt) (lent r, (series, tt)) e (lent r, (series, tt)) refl)

pub listings_exist : (r : Register) → (l : Records) × Listing r l
listings_exist r = let l = listed (records_in r.records) in (l, listing_called ([], tt) (lent r, tt) l (lent r, tt) refl)

pub crew_listings_exist : (r : Register) → (l : Records) × CrewListing r l
crew_listings_exist r =
    let l = listed (crew_listing (released_in r)) in (l, crew_listing_called ([], tt) (lent r, tt) l (lent r, tt) refl)

pub crew_currents_exist : (r : Register) (series : ℕ) → (e : ℕ) × CrewCurrent r series e
crew_currents_exist r series =
    let e = crew_current (released_in r) series in
    (e, crew_current_called ([], tt) (lent r, (series, tt)) e (lent r, (series, tt)) refl)

pub selects_exist : (s : Session) (row : ℕ) (xs : List ℕ) (x limit : ℕ) (buffer : List ℕ)
    → (t : NumberOrRefusal) × (left : List ℕ) × Selected s row xs x limit buffer t left
selects_exist s row xs x limit buffer =
    let r : Register = record { session = s; records = no_records; releases = no_releases } in
    let (t, left, m) = below.selects_exist s row xs x limit buffer in (
      t,
      left,
      select_called ([], ([], ([], tt))) (lent r, (row, (lent xs, (x, (limit, (lent_to_write buffer, tt)))))) t
          (lent r, (row, (lent xs, (x, (limit, (lent_to_write left, tt))))))
          (below.select_tied s row xs x limit buffer t left m),
    )

pub ways_back_exist : (r : Register) (row : ℕ) → (a : Answer) × (t : Register) × Reversed r row a t
ways_back_exist r row =
    let (o, e) = below.way_back_case (view r.session).rows row in
    let t : Register =
    record { session = next way_back_calls r.session row; records = r.records; releases = r.releases } in
    let made : WayBackMet r.session row (answer_of o) t.session = record { answer = e; left = refl } in
    let met : RegisterWayBackMet r row (answer_of o) t = record { made = made; records = refl; releases = refl } in (
      answer_of o,
      t,
      way_back_called ([], tt) (lent_to_write r, (row, tt)) o (lent_to_write t, (row, tt))
          (met, kept_register t.session o (refused_kept way_back_calls r.session row t.session (λ n. n) o made)),
    )
  where
    kept_register : (s : Session) (o : NumberOrRefusal) → OnErr o (s ≡ r.session)
        → OnErr o (record { session = s; records = r.records; releases = r.releases } ≡ r)
    kept_register s (Ok n) is = tt
    kept_register s (Err e) is = ap (λ s. record { session = s; records = r.records; releases = r.releases }) is

pub replaces_exist : (r : Register) (old new by : List ℕ) → (t : DoneOrRefusal) × Replaced r old new by t
replaces_exist r old new by =
    let (t, m) = below.replaces_exist r.session old new by in (
      t,
      replace_called ([], ([], ([], ([], tt)))) (lent r, (lent old, (lent new, (lent by, tt)))) t
          (lent r, (lent old, (lent new, (lent by, tt)))) (below.replace_tied r.session old new by t m),
    )

pub orders_exist : (q : Register) (i : ℕ) (r : Register) (j : ℕ) → (t : OrderOrRefusal) × Ordered q i r j t
orders_exist q i r j =
    let (t, m) = below.orders_exist q.session i r.session j in (
      t,
      order_called ([], ([], tt)) (lent q, (i, (lent r, (j, tt)))) t (lent q, (i, (lent r, (j, tt))))
          (below.order_tied q.session i r.session j t m),
    )

pub bundle_orders_exist : (q r : Register) → (t : OrderOrRefusal) × BundleOrdered q r t
bundle_orders_exist q r =
    let (t, m) = below.bundle_orders_exist q.session r.session in
    (t, bundle_order_called ([], ([], tt)) (lent q, (lent r, tt)) t (lent q, (lent r, tt)) (below.bundle_order_tied q.session r.session t m))

pub writes_exist : (r : Register) (buffer : List ℕ) → (w : NumberOrRefusal) × (left : List ℕ) × Write r buffer w left
writes_exist r buffer =
    let (w, left, m) = below.writes_exist r.session buffer in (
      w,
      left,
      write_called ([], ([], tt)) (lent r, (lent_to_write buffer, tt)) w (lent r, (lent_to_write left, tt))
          (below.write_tied r.session buffer w left m),
    )

pub reads_exist : (q : Register) (bytes : List ℕ) → (t : ReadResult) × ReadOn q bytes t
reads_exist q bytes =
    let (read, m) = below.reads_exist q.session bytes in
    let met = below.read_tied bytes read (q.session, m) in
    let r : Register = record { session = read.session; records = no_records; releases = no_releases } in (
      read_result read.answer r,
      read_called ([], ([], tt)) (lent_to_write q, (lent bytes, tt)) read.answer
          (lent_to_write r, (lent bytes, tt))
          (record { read = met; records = refl; releases = refl }, fresh_read bytes read met),
    )

-- replace, the orders and record after every list of calls
pub replace_guarantee : RegisterReplaceGuarantee New Called Replaced
replace_guarantee = replace_guarantee_by New new_tied Called call_tied Replaced replace_tied

pub way_back_guarantee : RegisterWayBackGuarantee New Called Reversed
way_back_guarantee = way_back_guarantee_by New new_tied Called call_tied met_called Reversed reversed_tied

pub order_guarantee : RegisterOrderGuarantee New Called Ordered BundleOrdered
order_guarantee = order_guarantee_by New new_tied Called call_tied Ordered order_tied BundleOrdered bundle_order_tied

pub record_guarantee : RecordGuarantee New Called
record_guarantee =
    record_guarantee_by New new_tied Called call_tied
    (λ r g a t m. (call_tied r (passed (own g)) a t m).answer ∙ sym (not_barred _ (answer no_record 0)))
