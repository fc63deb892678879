-- What the contracts in the source say of each call, as the toolchain reads them off it, and the guarantees from them.
use Rattle.calls.specs.represent.Answers.{NumberOrRefusal, DoneOrRefusal, OrderOrRefusal, step_of, answer_of}
use Rattle.calls.specs.represent.Answers.{done_answer_of}
use Rattle.calls.specs.represent.Answers.{answer_with, refusal_answer}
use Prim.Native.Nat.{ℕ}
use mathlib.Core.Path.{◌≡◌, refl, sym, subst, ◌∙◌}
use mathlib.Core.List.{List, []}
use mathlib.Core.Bool.{Bool, true, false, cond, not}
use lib.Dec.{leb, ltb, eqb}
use lib.ListN.{length}
use Rattle.terms.specs.Row.{Row, max_rows}
use Rattle.terms.specs.Fields.{held_path}
use Rattle.terms.specs.Nesting.{max_nesting}
use Rattle.selector_grammar.specs.Answer.{Reply}
use Rattle.reversing.specs.private.RowsBack.{back_nesting, back_put, row_reply}
use Rattle.terms.specs.declared.Row.{Row as CodeRow}
use Rattle.terms.specs.represent.RowTypes.{row_of}
use Rattle.session.specs.declared.session.Session.{Session}
use Rattle.session.specs.represent.Results.{ReadResult, read_result}
use Rattle.calls.specs.declared.step.Step.{Step as CodeStep}
use Rattle.calls.specs.Book.{Step, Answer}
use Rattle.calls.specs.Calls.{Call, term, step, text, point, return, CallSeen}
use Rattle.calls.specs.PointCall.{point_names}
use Rattle.calls.specs.SelectCall.{select_buffer}
use Rattle.calls.specs.Runs.{next, Run}
use Rattle.calls.specs.Promises.{row_yielded, row_step_answer}
use Rattle.session.specs.View.{view, fresh_session}
use Rattle.session.specs.Promises.{session_answer, session, Met, SelectMet}
use Rattle.session.specs.FollowsBook.{BookGuarantee}
use Rattle.session.specs.SessionLaws.{WholeSession, NoPointLeft, SessionRestored}
use Rattle.std.specs.Prelude.{Result, Ok, Err, OnErr}
use Rattle.common.specs.declared.refusal.Refusal.{Refusal}
use Rattle.common.specs.declared.refusal.Refusal.TheVariants.{TooDeep, BadSide, NotYielded, TermsFull, ShortBuffer}
use Rattle.common.proofs.Lent.{lent, lent_to_write}
use Rattle.session.specs.Reading.{reading}
use Rattle.session.specs.ReadCall.{ReadMet}
use Rattle.session.specs.WriteCall.{session_text, write_answer, write_buffer, WriteMet}
use Rattle.session.specs.ReadGuarantee.{ReadGuarantee}
use Rattle.session.specs.ReplaceGuarantee.{ReplaceGuarantee}
use Rattle.session.specs.WayBackGuarantee.{replied, way_back_calls, WayBackMet, WayBackGuarantee}
use Rattle.session.specs.OrderGuarantee.{OrderGuarantee}
use Rattle.session.specs.AcceptGuarantee.{AcceptGuarantee}
use Rattle.replacement.proofs.Judged.{replace_case}
use Rattle.term_order.proofs.Judged.{order_case, bundle_order_case}
use Rattle.calls.proofs.Runs.{made, run_exists}
use Rattle.calls.proofs.Cases.{HasCase, either_case, term_case, step_case, text_case, point_case, return_case}
use Rattle.calls.proofs.Cases.{select_case}
use Rattle.session.proofs.FollowsBook.{CallsKept, SelectsKept, book_guarantee_by}
use Rattle.session.proofs.Restored.{whole_by, no_point_left_by, restored_by}
use Rattle.session.proofs.Refused.{refused_kept}
use Rattle.session.proofs.ReadMade.{read_met}
use Rattle.session.proofs.ReadCalls.{refused_fresh}
use Rattle.session.proofs.ReadCases.{reading_case}
use Rattle.session.proofs.Bundles.{read_guarantee_by}
use Rattle.session.proofs.AcceptsExactly.{accept_guarantee_by}
use Rattle.session.proofs.SetsReplaced.{ReplacesKept, replace_guarantee_by}
use Rattle.session.proofs.WaysBack.{WaysBackKept, way_back_guarantee_by}
use Rattle.session.proofs.ArchivesOrdered.{OrdersKept, BundleOrdersKept, order_guarantee_by}
use Rattle.session.proofs.session.Session.new.Reads as new-reads
use Rattle.session.proofs.session.Session.term.Reads as term-reads
use Rattle.session.proofs.session.Session.step.Reads as step-reads
use Rattle.session.proofs.session.Session.text.Reads as text-reads
use Rattle.session.proofs.session.Session.point.Reads as point-reads
use Rattle.session.proofs.session.Session.return_to.Reads as return-reads
use Rattle.session.proofs.session.Session.select.Reads as select-reads
use Rattle.session.proofs.session.Session.read.Reads as read-reads
use Rattle.session.proofs.session.Session.replace.Reads as replace-reads
use Rattle.session.proofs.session.Session.order.Reads as order-reads
use Rattle.session.proofs.session.Session.bundle_order.Reads as bundle-order-reads
use Rattle.session.proofs.session.Session.write.Reads as write-reads
use Rattle.session.proofs.session.Session.way_back.Reads as way-back-reads

-- `Session::new` gives the session r
pub data New : Session → Type 0 where
  new_called : (κs : _) (a : _) (r : _) (x : _) → new-reads.Post κs a r x → New r

-- `Session::term`, `step`, `text`, `point` or `return_to` on a session, with the arguments of a call, has an answer and
-- leaves a session
pub data Called : Session → Call → Answer → Session → Type 0 where
  term_called : (κs : _) (a : _) (r : _) (x : _) → term-reads.Post κs a r x
      → Called a.0.now (term (row_of a.1.0)) (answer_of r) x.0.now
  step_called : (κs : _) (a : _) (r : _) (x : _) → step-reads.Post κs a r x
      → Called a.0.now (step (step_of a.1.0)) (answer_of r) x.0.now
  text_called : (κs : _) (a : _) (r : _) (x : _) → text-reads.Post κs a r x
      → Called a.0.now (text a.1.0.now a.1.1.0.now) (answer_of r) x.0.now
  point_called : (κs : _) (a : _) (r : _) (x : _) → point-reads.Post κs a r x
      → Called a.0.now (point a.1.0) (done_answer_of r) x.0.now
  return_called : (κs : _) (a : _) (r : _) (x : _) → return-reads.Post κs a r x
      → Called a.0.now (return a.1.0) (done_answer_of r) x.0.now

-- `Session::select` on a session with a row, lent numbers, a node, a limit and a buffer has the answer r and leaves
-- bytes
pub data Selected : Session → (row : ℕ) → List ℕ → (x limit : ℕ) → List ℕ → NumberOrRefusal → List ℕ → Type 0 where
  select_called : (κs : _) (a : _) (r : _) (x : _) → select-reads.Post κs a r x
      → Selected a.0.now a.1.0 a.1.1.0.now a.1.1.1.0 a.1.1.1.1.0
      a.1.1.1.1.1.0.now r x.1.1.1.1.1.0.now

-- `Session::read` on a session with bytes has the result
pub data ReadOn : Session → List ℕ → ReadResult → Type 0 where
  read_called : (κs : _) (a : _) (r : _) (x : _) → read-reads.Post κs a r x
      → ReadOn a.0.now a.1.0.now (read_result r x.0.now)

-- the same, whichever session it is called on
abbrev pub Read : List ℕ → ReadResult → Type 0
Read bytes t = (s : Session) × ReadOn s bytes t

-- `Session::way_back` on a session with a row has an answer and leaves a session
pub data Reversed : Session → (row : ℕ) → Answer → Session → Type 0 where
  way_back_called : (κs : _) (a : _) (r : _) (x : _) → way-back-reads.Post κs a r x
      → Reversed a.0.now a.1.0 (answer_of r) x.0.now

-- `Session::replace` on a session with old rows, new rows and steps has the answer r
pub data Replaced : Session → (old new by : List ℕ) → DoneOrRefusal → Type 0 where
  replace_called : (κs : _) (a : _) (r : _) (x : _) → replace-reads.Post κs a r x
      → Replaced a.0.now a.1.0.now a.1.1.0.now a.1.1.1.0.now r

-- `Session::order` on a session with a row, another session and a row of it has the answer r
pub data Ordered : Session → (i : ℕ) → Session → (j : ℕ) → OrderOrRefusal → Type 0 where
  order_called : (κs : _) (a : _) (r : _) (x : _) → order-reads.Post κs a r x
      → Ordered a.0.now a.1.0 a.1.1.0.now a.1.1.1.0 r

-- `Session::bundle_order` on two sessions has the answer r
pub data BundleOrdered : Session → Session → OrderOrRefusal → Type 0 where
  bundle_order_called : (κs : _) (a : _) (r : _) (x : _) → bundle-order-reads.Post κs a r x
      → BundleOrdered a.0.now a.1.0.now r

-- `Session::write` on a session with a buffer has the answer r and leaves bytes
pub data Write : Session → List ℕ → NumberOrRefusal → List ℕ → Type 0 where
  write_called : (κs : _) (a : _) (r : _) (x : _) → write-reads.Post κs a r x
      → Write a.0.now a.1.0.now r x.1.0.now

-- the contracts promise what the specifications say, word for word
pub new_tied : (s : Session) → New s → s ≡ fresh_session
new_tied s (new_called κs a r x m) = m

pub call_tied : CallsKept Called Met
call_tied s c a t (term_called κs args r x m) = m.0
call_tied s c a t (step_called κs args r x m) = m.0
call_tied s c a t (text_called κs args r x m) = m.0
call_tied s c a t (point_called κs args r x m) = m.0
call_tied s c a t (return_called κs args r x m) = m.0

pub select_tied : SelectsKept Selected SelectMet
select_tied s row xs x limit buffer t left (select_called κs a r y m) = m

pub read_tied : (bytes : List ℕ) (t : ReadResult) → Read bytes t → ReadMet bytes t
read_tied bytes t (s, read_called κs a r x m) = m.0

pub reversed_tied : WaysBackKept Reversed WayBackMet
reversed_tied s row a t (way_back_called κs args r x m) = m.0

pub replace_tied : ReplacesKept (λ s. s) Replaced
replace_tied s old new by t (replace_called κs a r x m) = m

pub order_tied : OrdersKept (λ s. s) Ordered
order_tied s i t j o (order_called κs a r x m) = m

pub bundle_order_tied : BundleOrdersKept (λ s. s) BundleOrdered
bundle_order_tied s t o (bundle_order_called κs a r x m) = m

pub write_tied : (s : Session) (buffer : List ℕ) (w : NumberOrRefusal) (left : List ℕ) → Write s buffer w left
    → WriteMet s buffer w left
write_tied s buffer w left (write_called κs a r x m) = m

-- a row and a step as the code has them
abbrev pub given_row : Row → CodeRow
given_row r = record { kind = r.kind; a = r.a; b = r.b; c = r.c }

abbrev pub given_step : Step → CodeStep
given_step p = record { rule = p.rule; left = p.left; right = p.right; first = p.first; second = p.second }

-- what a call with the case o of an answer promises, where it meets what the specifications say
module _ {s : Session} {c : Call} {a : Answer} {t : Session} {A : Type 0} (f : A → ℕ) (o : Result A Refusal)
    (e : answer_with f refusal_answer o ≡ session_answer s c) (m : Met s c a t)
  where
    with_case : Met s c (answer_with f refusal_answer o) t
    with_case = record { answer = e; left = m.left }

    kept_case : OnErr o (t ≡ s)
    kept_case = refused_kept session s c t f o with_case

-- and no more: a call that meets what they say can be made
met_called : CallsKept Met Called
unfolding row_step_answer
met_called s (term r) a t m =
    let (o, e) = term_case (view s).rows r in
    subst (λ a. Called s (term r) a t) (e ∙ sym m.answer)
    (term_called ([], tt) (lent_to_write s, (given_row r, tt)) o (lent_to_write t, (given_row r, tt))
    (with_case (λ n. n) o e m, kept_case (λ n. n) o e m))
met_called s (step p) a t m =
    let (o, e) = step_case (row_yielded (view s) p) (view s) p in
    subst (λ a. Called s (step p) a t) (e ∙ sym m.answer)
    (step_called ([], tt) (lent_to_write s, (given_step p, tt)) o (lent_to_write t, (given_step p, tt))
    (with_case (λ n. n) o e m, kept_case (λ n. n) o e m))
met_called s (text names t) a u m =
    let (o, e) = text_case (view s).rows names t in
    subst (λ a. Called s (text names t) a u) (e ∙ sym m.answer)
    (text_called ([], ([], ([], tt))) (lent_to_write s, (lent names, (lent t, tt))) o
    (lent_to_write u, (lent names, (lent t, tt)))
    (with_case (λ n. n) o e m, kept_case (λ n. n) o e m))
met_called s (point n) a t m =
    let (o, e) = point_case (point_names (view s).points) n in
    subst (λ a. Called s (point n) a t) (e ∙ sym m.answer)
    (point_called ([], tt) (lent_to_write s, (n, tt)) o (lent_to_write t, (n, tt))
    (with_case (λ u. 0) o e m, kept_case (λ u. 0) o e m))
met_called s (return n) a t m =
    let (o, e) = return_case (point_names (view s).points) n in
    subst (λ a. Called s (return n) a t) (e ∙ sym m.answer)
    (return_called ([], tt) (lent_to_write s, (n, tt)) o (lent_to_write t, (n, tt))
    (with_case (λ u. 0) o e m, kept_case (λ u. 0) o e m))

pub book_guarantee : BookGuarantee Selected New Called
book_guarantee = book_guarantee_by Selected select_tied New Called new_tied call_tied

pub whole_session : WholeSession New Called
whole_session = whole_by New Called new_tied call_tied

pub no_point_left : NoPointLeft New Called
no_point_left = no_point_left_by New Called new_tied call_tied

pub session_restored : SessionRestored New Called
session_restored = restored_by New Called new_tied call_tied

-- a fresh session can be made, and from it every list of calls: the guarantee is about something
pub new_exists : New fresh_session
new_exists = new_called _ _ fresh_session _ refl

pub calls_exist : (s : Session) (cs : List Call) → (os : List CallSeen) × (t : Session) × Run view Called s cs os t
calls_exist =
    run_exists view Called (λ s c. (session_answer s c, next session s c, met_called s c _ _ (made session s c)))

-- and so can every select, every read, every way-back, every replace, every order, every bundle order and every write
pub selects_exist : (s : Session) (row : ℕ) (xs : List ℕ) (x limit : ℕ) (buffer : List ℕ)
    → (t : NumberOrRefusal) × (left : List ℕ) × Selected s row xs x limit buffer t left
selects_exist s row xs x limit buffer =
    let (t, e) = select_case (view s).rows row xs x limit (length buffer) in
    let left = select_buffer (view s).rows row xs x limit buffer in (
      t,
      left,
      select_called ([], ([], ([], tt))) (lent s, (row, (lent xs, (x, (limit, (lent_to_write buffer, tt))))))
          t (lent s, (row, (lent xs, (x, (limit, (lent_to_write left, tt)))))) (record { answer = e; bytes = refl }),
    )

pub reads_exist : (s : Session) (bytes : List ℕ) → (t : ReadResult) × ReadOn s bytes t
reads_exist s bytes =
    let (o, e) = reading_case bytes in
    let t : ReadResult = record { answer = o; session = (reading bytes).session } in
    let met = read_met bytes t (λ i. record { answer = e i; session = t.session }) in (
      t,
      read_called ([], ([], tt)) (lent_to_write s, (lent bytes, tt)) o
          (lent_to_write t.session, (lent bytes, tt))
          (met, refused_fresh bytes t met),
    )

pub way_back_case : (rs : List Row) (i : ℕ) → HasCase answer_of (replied (row_reply rs i))
unfolding row_reply
way_back_case rs i =
    by (not (held_path rs i)) _ _ (Err (BadSide 1), refl)
    (by (eqb (back_nesting rs i) 0) _ _ (Err NotYielded, refl)
    (by (ltb max_nesting (back_nesting rs i)) _ _ (Err TooDeep, refl)
    (by (ltb max_rows (length (back_put rs i rs).rows)) _ _ (Err TermsFull, refl) (Ok _, refl))))
  where
    by : (b : Bool) (r q : Reply) → HasCase answer_of (replied r) → HasCase answer_of (replied q)
        → HasCase answer_of (replied (cond b r q))
    by true r q x y = x
    by false r q x y = y

pub ways_back_exist : (s : Session) (row : ℕ) → (a : Answer) × (t : Session) × Reversed s row a t
ways_back_exist s row =
    let (o, e) = way_back_case (view s).rows row in
    let t = next way_back_calls s row in
    let met : WayBackMet s row (answer_of o) t = record { answer = e; left = refl } in (
      answer_of o,
      t,
      way_back_called ([], tt) (lent_to_write s, (row, tt)) o (lent_to_write t, (row, tt))
          (met, refused_kept way_back_calls s row t (λ n. n) o met),
    )

pub way_back_guarantee : WayBackGuarantee Reversed Called New
way_back_guarantee = way_back_guarantee_by Called met_called Reversed reversed_tied New new_tied call_tied

pub replaces_exist : (s : Session) (old new by : List ℕ) → (t : DoneOrRefusal) × Replaced s old new by t
replaces_exist s old new by =
    let (t, e) = replace_case (view s) old new by in (
      t,
      replace_called ([], ([], ([], ([], tt)))) (lent s, (lent old, (lent new, (lent by, tt)))) t
          (lent s, (lent old, (lent new, (lent by, tt)))) e,
    )

pub replace_guarantee : ReplaceGuarantee Replaced New Called
replace_guarantee = replace_guarantee_by Replaced replace_tied New Called new_tied call_tied

pub orders_exist : (s : Session) (i : ℕ) (t : Session) (j : ℕ) → (r : OrderOrRefusal) × Ordered s i t j r
orders_exist s i t j =
    let (r, e) = order_case (view s).rows i (view t).rows j in
    (r, order_called ([], ([], tt)) (lent s, (i, (lent t, (j, tt)))) r (lent s, (i, (lent t, (j, tt)))) e)

pub bundle_orders_exist : (s t : Session) → (r : OrderOrRefusal) × BundleOrdered s t r
bundle_orders_exist s t =
    let (r, e) = bundle_order_case (view s) (view t) in
    (r, bundle_order_called ([], ([], tt)) (lent s, (lent t, tt)) r (lent s, (lent t, tt)) e)

pub order_guarantee : OrderGuarantee Ordered BundleOrdered New Called
order_guarantee = order_guarantee_by Ordered order_tied BundleOrdered bundle_order_tied New Called new_tied call_tied

write_case : (bundle : List ℕ) (room : ℕ) → HasCase answer_of (write_answer bundle room)
write_case bundle room =
    either_case answer_of (leb (length bundle) room) _ _ (Ok (length bundle), refl)
    (Err (ShortBuffer (length bundle)), refl)

pub writes_exist : (s : Session) (buffer : List ℕ) → (w : NumberOrRefusal) × (left : List ℕ) × Write s buffer w left
writes_exist s buffer =
    let (w, e) = write_case (session_text s) (length buffer) in
    let left = write_buffer (session_text s) buffer in (
      w,
      left,
      write_called ([], ([], tt)) (lent s, (lent_to_write buffer, tt)) w (lent s, (lent_to_write left, tt))
          (record { answer = e; bytes = refl }),
    )

pub read_guarantee : ReadGuarantee Selected Called Read Write
read_guarantee = read_guarantee_by Selected Called Read Write select_tied call_tied met_called read_tied write_tied

pub accept_guarantee : AcceptGuarantee Selected Called New
accept_guarantee = accept_guarantee_by Selected select_tied Called call_tied New new_tied
