-- What the contracts in the source say of a tally's calls and of the judge of a list of names, and what the calls come
-- to over lists of bundles.
use Prim.Native.Nat.{ℕ, suc}
use mathlib.Core.Path.{◌≡◌, refl, ap, ◌∙◌}
use mathlib.Core.Bool.{Bool}
use mathlib.Core.List.{List, [], ◌∷◌, ◌++◌, map}
use Rattle.std.specs.Prelude.{Option, Some, None, Ok, Err}
use Rattle.std.proofs.Math.Option.{Option as Found, none, some, Option-elim}
use Rattle.common.proofs.Lent.{lent}
use Rattle.common.specs.Bounded.{first_below}
use Rattle.common.specs.Refusals.{bad_name}
use Rattle.common.specs.declared.refusal.Refusal.TheVariants.{BadName}
use Rattle.lines.specs.Line.{lines}
use lib.ListN.{length}
use Rattle.calls.specs.Book.{Answer, answer}
use Rattle.calls.specs.represent.Answers.{done_answer_of}
use Rattle.calls.proofs.Cases.{HasCase}
use Rattle.tallies.specs.declared.Tally.{Tally}
use Rattle.tallies.specs.declared.TallyLine.{TallyLine}
use Rattle.tallies.specs.declared.TallyLine.TheVariants.{Rule, Total}
use Rattle.tallies.specs.NameList.{is_bad_name, list_answer}
use Rattle.tallies.specs.Count.{File, file_of, Entry, entry, rule_entries, entries_by}
use Rattle.tallies.specs.Promise.{AllAdded, none_added, file_added, TallyPromise}
use Rattle.tallies.specs.represent.Tally.{fresh_tally, file_read, with_file, with_files, entry_of, entries_of}
use Rattle.tallies.proofs.AddsUp.{column_adds_up}
use Rattle.tallies.proofs.Files.{lines_are}
use Rattle.tallies.proofs.Tally.new.Reads as new-reads
use Rattle.tallies.proofs.Tally.add.Reads as add-reads
use Rattle.tallies.proofs.Tally.lines.Reads as lines-reads
use Rattle.tallies.proofs.judge_list.Reads as judge-list-reads

-- `Tally::new` gives the tally t
pub data New : Tally → Type 0 where
  new_called : (κs : _) (a : _) (r : _) (x : _) → new-reads.Post κs a r x → New r

-- `Tally::add` on a tally, with the bytes of a file or none, gives a tally
pub data Added : Tally → File → Tally → Type 0 where
  add_called : (κs : _) (a : _) (r : _) (x : _) → add-reads.Post κs a r x → Added a.0 (file_read a.1.0) r

-- `Tally::lines` on a tally gives these lines
pub data Lines : Tally → List Entry → Type 0 where
  lines_called : (κs : _) (a : _) (r : _) (x : _) → lines-reads.Post κs a r x → Lines a.0 (map entry_of r)

-- `judge_list` of a list of names, and of which of the files were opened, answers a
pub data Judged : (list : List ℕ) → (opened : List Bool) → Answer → Type 0 where
  judge_list_called : (κs : _) (a : _) (r : _) (x : _) → judge-list-reads.Post κs a r x
      → Judged a.0.now a.1.0.now (done_answer_of r)

-- the contracts promise what the specifications say, word for word
pub new_tied : (t : Tally) → New t → t ≡ fresh_tally
new_tied t (new_called κs a r x m) = m

pub added_tied : (t : Tally) (f : File) (u : Tally) → Added t f u → u ≡ with_file t f
added_tied t f u (add_called κs a r x m) = m

pub lines_tied : (t : Tally) (es : List Entry) → Lines t es → es ≡ entries_of t
lines_tied t es (lines_called κs a r x m) = m

pub judged_tied : (list : List ℕ) (opened : List Bool) (a : Answer) → Judged list opened a → a ≡ list_answer list opened
judged_tied list opened a (judge_list_called κs args r x m) = m

-- so files that such calls add leave the tally after them
all_added : {t u : Tally} {fs : List File} → AllAdded Added t fs u → u ≡ with_files t fs
unfolding with_files
all_added none_added = refl
all_added (file_added {t} {u} {v} {f} {fs} one rest) =
    all_added rest ∙ ap (λ t. with_files t fs) (added_tied t f u one)

pub tally_promise : TallyPromise New Added Lines
tally_promise =
    record {
      lines = λ t u fs es new added lines few.
          lines_tied u es lines
          ∙ ap entries_of (all_added added ∙ ap (λ t. with_files t fs) (new_tied t new))
          ∙ lines_are fs few;
      adds_up = column_adds_up;
    }

-- and no more: a new tally can be made, any file added to any tally, and any tally's lines asked for
pub new_exists : New fresh_tally
new_exists = new_called _ _ fresh_tally _ refl

pub adds_exist : (t : Tally) (bytes : Option (List ℕ)) → (u : Tally) × Added t (file_of bytes) u
adds_exist t (Some bytes) = (_, add_called ([], tt) (t, (Some (lent bytes), tt)) _ (t, (Some (lent bytes), tt)) refl)
adds_exist t None = (_, add_called ([], tt) (t, (None, tt)) _ (t, (None, tt)) refl)

lines_case : (r : ℕ) (us : List ℕ) (n : ℕ)
    → (ls : List TallyLine) × (map entry_of ls ≡ rule_entries r us ++ (entry 0 n ∷ []))
unfolding rule_entries
lines_case r [] n = (Total n ∷ [], refl)
lines_case r (u ∷ us) n =
    let (ls, e) = lines_case (suc r) us n in (Rule r u ∷ ls, ap (λ es. entry r u ∷ es) e)

pub lines_exist : (t : Tally) → (es : List Entry) × Lines t es
unfolding entries_by
lines_exist t =
    let (ls, e) = lines_case 1 t.uses t.total in (_, lines_called _ (t, tt) ls (t, tt) e)

-- and any list of names judged
bad_name_case : (o : Found ℕ) → HasCase done_answer_of (Option-elim o (answer 0 0) (λ k. answer bad_name (suc k)))
unfolding Option-elim
bad_name_case none = (Ok tt, refl)
bad_name_case (some k) = (Err (BadName (suc k)), refl)

pub judges_exist : (list : List ℕ) (opened : List Bool) → (a : Answer) × Judged list opened a
unfolding list_answer
judges_exist list opened =
    let (r, e) = bad_name_case (first_below (length (lines list)) (is_bad_name opened)) in
    (_, judge_list_called ([], ([], tt)) (lent list, (lent opened, tt)) r (lent list, (lent opened, tt)) e)
