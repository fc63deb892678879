-- The lines of a script: what the first one does, and what is filed from there on.
use Rattle.std.specs.Prelude.{Result, Ok, Err, is_ok, MatchResult}
use Prim.Native.Nat.{ℕ, ◌+◌}
use mathlib.Core.Path.{◌≡◌, refl, sym, ap, subst, ◌∙◌}
use mathlib.Core.Bool.{true, false, cond}
use mathlib.Core.List.{List, [], ◌∷◌}
use mathlib.Core.Option.{Option, none, some, Option-elim, none-ne-some, some-ne-none}
use lib.Dec.{eqb}
use borrow.Author.Tests.{ne_eqb}
use Rattle.common.specs.declared.refusal.Refusal.{Refusal}
use Rattle.common.specs.represent.Refusal.{refusal_number}
use Rattle.common.proofs.Refusals.{refusal_some}
use Rattle.lines.specs.Line.{Line, lines, parts_read}
use Rattle.lines.specs.private.NumbersRead.{first_parts}
use Rattle.selector_grammar.specs.Bytes.{Bytes}
use Rattle.calls.specs.Book.{answer}
use Rattle.calls.specs.declared.answer.LineRefusal.{LineRefusal}
use Rattle.session.specs.declared.session.Session.{Session}
use Rattle.session.specs.Reading.{refused_at}
use Rattle.session.specs.private.Parts.{refused_by}
use Rattle.script.specs.declared.Command.{Command as Given}
use Rattle.script.specs.Command.{Command, command_of}
use Rattle.script.specs.Rest.{rest_of, first_bytes}
use Rattle.script.specs.private.CommandRead.{written_command}
use Rattle.script_bundle.specs.Filing.{Action, action_of, line_action, line_number, line_session, line_names}
use Rattle.script_bundle.specs.Filing.{lines_filed}
use Rattle.script_bundle.specs.declared.Filed.{Filed}
use Rattle.script_bundle.specs.private.FilingMade.{lent_by, command_action, first_action, ActionTaken, ActionDone}

-- a line that is no call does nothing
pub no_action : (ls : List Line) (names : Bytes) → none ≡ first_parts command_of ls → first_action names ls ≡ none
unfolding Option-elim first_parts line_action
no_action [] names e = refl
no_action (l ∷ ls) names e = by_command (parts_read command_of l) e
  where
    by_command : (o : Option Command) → none ≡ o
        → Option-elim o none (λ c. action_of c.word c.numbers names (rest_of l.bytes)) ≡ none
    by_command none t = refl
    by_command (some k) t = absurd (none-ne-some _ t)

-- a line that was read does what its command does
pub read_action : (ls : List Line) (names : Bytes) (k : Given) → some (written_command k) ≡ first_parts command_of ls
    → first_action names ls ≡ command_action k names (rest_of (first_bytes ls))
unfolding Option-elim first_parts line_action first_bytes
read_action [] names k e = absurd (some-ne-none _ e)
read_action (l ∷ ls) names k e =
    ap (λ (o : Option Command). Option-elim o none (λ c. action_of c.word c.numbers names (rest_of l.bytes)))
    (sym e)

by_first : (s : Session) (names : Bytes) (n : ℕ) (l : Line) (ls : List Line)
    → lines_filed s names n (l ∷ ls) ≡ cond (eqb (line_number s (line_action names l)) 0)
    (lines_filed (line_session s (line_action names l)) (line_names names (line_action names l)) (n + 1) ls)
    (refused_at (line_number s (line_action names l)) n)
unfolding lines_filed
by_first s names n l ls = refl

pub no_line_left : (s : Session) (names : Bytes) (n : ℕ) (ls : List Line) → ls ≡ []
    → record { answer = answer 0 0; session = s } ≡ lines_filed s names n ls
unfolding lines_filed
no_line_left s names n ls e = rw e refl

-- line n, the first of the lines ls, is all that the piece has
module _ (f : Filed) (n : ℕ) (ls later : List Line) (piece : Bytes) (l : Line) (alone : lines piece ≡ l ∷ [])
    (there : ls ≡ l ∷ later)
  where
    abbrev done : Option Action
    done = first_action (lent_by f) (lines piece)

    does : done ≡ line_action (lent_by f) l
    does = ap (first_action (lent_by f)) alone

    first : lines_filed f.session (lent_by f) n ls ≡ cond (eqb (line_number f.session (line_action (lent_by f) l)) 0)
        (lines_filed (line_session f.session (line_action (lent_by f) l))
        (line_names (lent_by f) (line_action (lent_by f) l)) (n + 1) later)
        (refused_at (line_number f.session (line_action (lent_by f) l)) n)
    first = ap (lines_filed f.session (lent_by f) n) there ∙ by_first f.session (lent_by f) n l later

    line_refused : (k : Refusal) (r : Filed) → ActionDone f done (Err k) r
        → refused_at (refusal_number k) n ≡ lines_filed f.session (lent_by f) n ls
    line_refused k r m =
        let number : line_number f.session (line_action (lent_by f) l) ≡ refusal_number k =
        sym (m ∙ ap (line_number f.session) does) in
        sym (first ∙ rw (number, ne_eqb (refusal_number k) 0 (refusal_some k)))

    -- of a result that `map_err` gives a line's refusal for
    pub line_refused_by : (q : Result (Unit {0}) Refusal) (r : Filed) → ActionDone f done q r
        → (e : LineRefusal) (P : Unit {0} → Type 0) (Q : Refusal → Type 0) → MatchResult q P Q → is_ok q ≡ false
        → ((k : Refusal) → Q k → e ≡ record { refusal = k; line = n })
        → refused_by e ≡ lines_filed f.session (lent_by f) n ls
    line_refused_by (Ok u) r m e P Q h failed told = cc failed
    line_refused_by (Err k) r m e P Q h failed told = ap refused_by (told k h) ∙ line_refused k r m

    line_taken : (r : Filed) → ActionTaken f done r
        → lines_filed f.session (lent_by f) n ls ≡ lines_filed r.session (lent_by r) (n + 1) later
    line_taken r m =
        let t = subst (λ o. ActionTaken f o r) does m in
        first ∙ rw (t.number, t.session, t.list)

    pub line_taken_by : (q : Result (Unit {0}) Refusal) (r : Filed) → ActionDone f done q r → is_ok q ≡ true
        → lines_filed f.session (lent_by f) n ls ≡ lines_filed r.session (lent_by r) (n + 1) later
    line_taken_by (Ok u) r m taken = line_taken r m
    line_taken_by (Err k) r m taken = cc taken
