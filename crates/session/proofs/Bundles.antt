-- A well-written bundle: its lines read back, and reading it is making its calls.
use Rattle.calls.specs.represent.Answers.{NumberOrRefusal}
use Prim.Native.Nat.{ℕ, ◌+◌, ◌≤◌}
use mathlib.Core.Path.{◌≡◌, refl, sym, ap, subst, ◌∙◌}
use mathlib.Core.Bool.{Bool, true, false}
use mathlib.Core.List.{List, [], ◌∷◌, ◌++◌, map, append_assoc}
use mathlib.Core.Option.{none, some, Option-elim, none-ne-some}
use native.Mathlib.Omega.{arith}
use lib.ListN.{length}
use Rattle.terms.specs.Row.{Row}
use Rattle.common.specs.Limits.{max_bytes}
use Rattle.common.specs.Lists.{Every}
use Rattle.lines.specs.Ascii.{ascii}
use Rattle.lines.specs.Line.{newline, Line, line, in_first_part, lines, parts, same_bytes, is_line, first_is}
use Rattle.lines.specs.Number.{is_digit, is_decimal, append_digits, numbers_up_to, numbers_of}
use Rattle.lines.specs.private.NumbersRead.{first_parts, first_numbers}
use Rattle.lines.proofs.Cutting.{lines_at}
use Rattle.lines.proofs.Written.{line_reads_back}
use Rattle.session.specs.declared.session.Session.{Session}
use Rattle.session.specs.represent.Results.{ReadResult}
use Rattle.calls.specs.Book.{Step, book, answer}
use Rattle.calls.specs.Runs.{seen, done, then}
use Rattle.calls.specs.Calls.{Call, step, CallSeen, AllAccepted, book_after}
use Rattle.calls.specs.represent.Tables.{row_width}
use Rattle.session.specs.View.{view, fresh_session}
use Rattle.terms.specs.Row.{row_numbers}
use Rattle.calls.specs.Book.{step_numbers}
use Rattle.bundles.specs.Bundle.{row_names, step_names, row_text, rows_text, steps_text, bundle_text}
use Rattle.calls.specs.Promises.{row_step_answer}
use Rattle.session.specs.Reading.{Reading, steps_read, rows_read, lines_read, reading}
use Rattle.session.specs.Promises.{CallRelation, SelectRelation, session_answer, session_with, session}
use Rattle.session.specs.Promises.{Met, CallsMade, SelectMet}
use Rattle.session.specs.ReadCall.{ReadMet}
use Rattle.session.specs.WriteCall.{session_text, WriteRelation, WriteMet}
use Rattle.session.specs.ReadGuarantee.{calls_of, RowFits, StepFits, CallFits, ReadGuarantee}
use Rattle.session.specs.SessionLaws.{session_of, without_points}
use Rattle.calls.proofs.Runs.{run_map, accepted_made}
use Rattle.session.proofs.FollowsBook.{CallsKept, SelectsKept}
use Rattle.session.proofs.LineCalls.{row_names_free, step_names_free}
use Rattle.session.proofs.LinesRead.{names_read, row_held, step_held}
use Rattle.session.proofs.ReadByRows.{reading_by_rows}
use Rattle.session.proofs.ReadCalls.{is_line_lem, read_accepted, read_refused}
use Rattle.session.proofs.Restored.{whole_left, points_left_out}
use Rattle.session.proofs.Simulation.{accepted_moves, answers_by_terms, Kept, fresh_kept, kept_on}
use Rattle.session.proofs.Sorted.{AllTaken, Sorted, AllSorted, calls_sorted}
use Rattle.session.proofs.StepsAdded.{book_with_all, calls_behind, calls_held}
use Rattle.session.proofs.Views.{fresh_view}
use Rattle.session.proofs.Whole.{view_of}
use Rattle.session.proofs.Written.{written_text, written_where_room, sorted_taken, read_text}

-- the second names line is no term line
no_row_in_names : numbers_of row_width (line step_names true) ≡ none
unfolding numbers_of numbers_up_to is_decimal is_digit append_digits parts in_first_part step_names ascii Option-elim
no_row_in_names = refl

not_names : (ls : List Line) (ns : List ℕ) → first_numbers row_width ls ≡ some ns → first_is step_names ls ≡ false
unfolding first_is first_parts numbers_of
not_names [] ns e = refl
not_names (l ∷ ls) ns e = by_test (is_line step_names l) refl
  where
    by_test : (b : Bool) → is_line step_names l ≡ b → b ≡ false
    by_test true is =
        absurd (none-ne-some ns (sym no_row_in_names ∙ sym (ap (numbers_of row_width) (is_line_lem step_names l is))
        ∙ e))
    by_test false is = refl

names_are_names : is_line step_names (line step_names true) ≡ true
unfolding is_line same_bytes step_names ascii
names_are_names = refl

first_names_are : is_line row_names (line row_names true) ≡ true
unfolding is_line same_bytes row_names ascii
first_names_are = refl

-- the reading that holds all
abbrev all_read : Session → Reading
all_read u = record { answer = answer 0 (length (view u).steps); session = u }

steps_written : (s : Session) (n : ℕ) (ps : List Step) (os : List CallSeen) (u : Session) → Every StepFits ps
    → CallsMade s (map step ps) os u → AllAccepted os
    → steps_read row_step_answer s n (lines (steps_text ps)) ≡ all_read u
unfolding steps_text steps_read lines
steps_written s n [] os u fits done taken = refl
steps_written s n (p ∷ ps) os u fits (then {os = rest} m run) taken =
    let text = line_reads_back p.rule _ fits.0 (steps_text ps) in
    step_held s n _ (step_numbers p) (sym text.numbers) _ _ m taken.0
    ∙ rw text.next (steps_written _ (n + 1) ps rest u fits.1 run taken.1)

rows_written : (s : Session) (n : ℕ) (rs : List Row) (ps : List Step) (os : List CallSeen) (u : Session)
    → Every RowFits rs → Every StepFits ps
    → CallsMade s (calls_of rs ps) os u → AllAccepted os → rows_read row_step_answer s n
    (lines (rows_text rs ++ (step_names ++ newline ∷ steps_text ps))) ≡ all_read u
unfolding rows_text first_is
rows_written s n [] ps os u rows steps run taken =
    let text = lines_at step_names (steps_text ps) step_names_free in
    rw text (names_read s n _ names_are_names ∙ steps_written s (n + 1) ps os u steps run taken)
rows_written s n (r ∷ rs) ps os u rows steps (then {os = rest} m run) taken =
    let after = rows_text rs ++ (step_names ++ newline ∷ steps_text ps) in
    let text = line_reads_back r.kind _ rows.0 after in
    rw (append_assoc (row_text r) (rows_text rs) (step_names ++ newline ∷ steps_text ps))
    (row_held s n _ (not_names _ (row_numbers r) text.numbers) (row_numbers r) (sym text.numbers) _ _ m taken.0
    ∙ rw text.next (rows_written _ (n + 1) rs ps rest u rows.1 steps run taken.1))

well_written : (rs : List Row) (ps : List Step) (os : List CallSeen) (u : Session) → Every RowFits rs
    → Every StepFits ps
    → CallsMade fresh_session (calls_of rs ps) os u → AllAccepted os → reading (bundle_text rs ps) ≡ record {
      answer = answer 0 (length ps);
      session = u;
    }
unfolding bundle_text lines_read
well_written rs ps os u rows steps run taken =
    let text = lines_at row_names (rows_text rs ++ (step_names ++ newline ∷ steps_text ps)) row_names_free in
    let held = ap (λ b. length b.steps) (calls_held rs ps os u run taken) in
    reading_by_rows (bundle_text rs ps) ∙ rw (text, first_names_are)
    (rows_written fresh_session 2 rs ps os u rows steps run taken ∙ ap (λ n. record {
      answer = answer 0 n;
      session = u;
    }) held)

-- calls that the plain book accepts one after the other are made on a session of it
record TakenRun (s : Session) (cs : List Call) : Type 0 where
  pub seen : List CallSeen
  pub last : Session
  pub made : CallsMade s cs seen last
  pub accepted : AllAccepted seen
  pub kept : Kept last
  pub held : view last ≡ book_with_all (view s) cs

taken_run : (s : Session) → Kept s → (cs : List Call) → AllTaken (view s) cs → TakenRun s cs
taken_run s k [] taken = record { seen = []; last = s; made = done; accepted = tt; kept = k; held = refl }
taken_run s k (c ∷ cs) taken =
    let e = ap (λ a. a.number) (answers_by_terms s k.reachable c) ∙ taken.0 in
    let m = accepted_made session s c e in
    let moved = (accepted_moves s c k.whole e).0 in
    let later = taken_run (session_with s c) (kept_on k m) cs (subst (λ b. AllTaken b cs) (sym moved) taken.1) in
    record {
      seen = seen (session_answer s c) (view (session_with s c)) ∷ later.seen;
      last = later.last;
      made = then m later.made;
      accepted = (e, later.accepted);
      kept = later.kept;
      held = later.held ∙ ap (λ b. book_with_all b cs) moved;
    }

-- what calls leave, as text, reads back
sorted_reads_back : {rs : List Row} {ps : List Step} → Sorted rs ps
    → reading (bundle_text rs ps) ≡ record { answer = answer 0 (length ps); session = session_of (book rs ps) }
sorted_reads_back {rs} {ps} o =
    let from_fresh = subst (λ b. AllTaken b (calls_of rs ps)) (sym fresh_view) o.taken in
    let run = taken_run fresh_session fresh_kept (calls_of rs ps) from_fresh in
    let held = run.held ∙ ap (λ b. book_with_all b (calls_of rs ps)) fresh_view ∙ calls_behind rs ps in
    let last = run.kept.whole.same ∙ ap session_of held in
    well_written rs ps run.seen run.last o.rows_fit o.steps_fit run.made run.accepted
    ∙ ap (λ u. record { answer = answer 0 (length ps); session = u }) last

module _ (cs : List Call) (os : List CallSeen) (s : Session) (run : CallsMade fresh_session cs os s)
    (fits : Every CallFits cs)
  where
    whole : s ≡ session_of (book_after cs)
    whole = whole_left s cs os run

    sorted : AllSorted (book_after cs)
    sorted = calls_sorted cs fits

    shown : view s ≡ book_after cs
    shown = ap view whole ∙ view_of (book_after cs) sorted.fits

    left_reads_back : reading (session_text s)
        ≡ record { answer = answer 0 (length (view s).steps); session = without_points s }
    left_reads_back =
        ap (λ b. reading (bundle_text b.rows b.steps)) shown ∙ sorted_reads_back sorted.held
        ∙ ap (λ b. record { answer = answer 0 (length b.steps); session = session_of (book b.rows b.steps) })
        (sym shown)
        ∙ ap (λ u. record { answer = answer 0 (length (view s).steps); session = u })
        (sym (points_left_out (view s)) ∙ ap (λ b. without_points (session_of b)) shown ∙ sym (ap without_points whole))

    left_taken : length (session_text s) ≤ max_bytes
    left_taken = subst (λ b. length (bundle_text b.rows b.steps) ≤ max_bytes) (sym shown) (sorted_taken sorted)

-- where read, write and the calls meet their promises, and calls that meet them can be made
pub read_guarantee_by : (Selected : SelectRelation) (Called : CallRelation) (Read : List ℕ → ReadResult
    → Type 0) (Write : WriteRelation)
    → SelectsKept Selected SelectMet → CallsKept Called Met → CallsKept Met Called
    → ((bytes : List ℕ) (t : ReadResult) → Read bytes t → ReadMet bytes t)
    → ((s : Session) (buffer : List ℕ) (w : NumberOrRefusal) (left : List ℕ) → Write s buffer w left
    → WriteMet s buffer w left)
    → ReadGuarantee Selected Called Read Write
read_guarantee_by Selected Called Read Write select_tied call_tied met_called read_tied write_tied =
    record {
      accepted = λ bytes t m. read_accepted Selected Called select_tied met_called bytes t (read_tied bytes t m);
      refused = λ bytes t m. read_refused bytes t (read_tied bytes t m);
      reads_back = λ rs ps os s rows steps run taken t m.
          let same = well_written rs ps os s rows steps (run_map call_tied run) taken in
          let met = read_tied _ t m in
          (met.answer ∙ ap (λ r. r.answer) same, met.session ∙ ap (λ r. r.session) same);
      written_reads_back = λ cs os s run fits buffer left w m e t r.
          let text = written_text s buffer w left (write_tied s buffer w left m) e in
          let same = ap reading text ∙ left_reads_back cs os s (run_map call_tied run) fits in
          let met = read_tied _ t r in
          (met.answer ∙ ap (λ r. r.answer) same, met.session ∙ ap (λ r. r.session) same);
      same_bytes = λ bytes t r e buffer left w m taken.
          let read = read_accepted Selected Called select_tied met_called bytes t (read_tied bytes t r) e in
          written_text t.session buffer w left (write_tied t.session buffer w left m) taken
          ∙ read_text bytes read.rows read.steps read.seen t.session read.bundle
          (run_map call_tied read.made) read.all_accepted;
      always_room = λ cs os s run fits buffer left w m room.
          let short = left_taken cs os s (run_map call_tied run) fits in
          written_where_room s buffer w left (write_tied s buffer w left m) (omega (arith, short, room));
    }
