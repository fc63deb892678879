-- What the functions that file a script promise.
use Rattle.std.specs.Prelude.{◌≡◌, List, [], ◌∷◌}
use Rattle.std.specs.Prelude.{Result, Ok, Err}
use Rattle.std.proofs.Math.Option.{Option, none}
use Rattle.common.specs.declared.refusal.Refusal.{Refusal}
use Rattle.common.specs.represent.Refusal.{refusal_number}
use Rattle.lines.specs.Line.{Line}
use Rattle.selector_grammar.specs.Bytes.{Bytes}
use Rattle.calls.specs.Book.{Answer, answer}
use Rattle.calls.specs.represent.Answers.{refusal_answer, line_answer}
use Rattle.calls.specs.declared.answer.LineRefusal.{LineRefusal}
use Rattle.session.specs.declared.session.Session.{Session}
use Rattle.session.specs.Reading.{Reading}
use Rattle.session.specs.private.Parts.{refused_by}
use Rattle.script.specs.declared.Command.{Command}
use Rattle.script.specs.Rest.{names_of}
use Rattle.script.specs.private.CommandRead.{written_command}
use Rattle.script_bundle.specs.declared.FileRefusal.{FileRefusal}
use Rattle.script_bundle.specs.declared.FileRefusal.TheVariants as file
use Rattle.script_bundle.specs.declared.Filed.{Filed}
use Rattle.script_bundle.specs.Filing.{Action, action_of, line_action, line_number, line_session, line_names, filed}

-- number and value of a refusal: a line's number and which line it is, or what write answers
abbrev pub file_refusal_answer : FileRefusal → Answer
file_refusal_answer (file.Line e) = line_answer e
file_refusal_answer (file.Write k) = refusal_answer k

-- the list that is lent to texts
abbrev pub lent_by : Filed → Bytes
lent_by f = names_of f.names.bytes.now

-- what a command does
abbrev pub command_action : Command → (names rest : Bytes) → Option Action
command_action k names rest = action_of (written_command k).word (written_command k).numbers names rest

-- an answer without its value
abbrev pub done : {A : Type 0} → Result A Refusal → Result (Unit {0}) Refusal
done (Ok a) = Ok tt
done (Err k) = Err k

-- an action that is taken
pub record ActionTaken (f : Filed) (o : Option Action) (r : Filed) : Type 0 where
  pub number : line_number f.session o ≡ 0
  pub session : r.session ≡ line_session f.session o
  pub list : lent_by r ≡ line_names (lent_by f) o

-- an action on f: what it leaves, or its refusal
abbrev pub ActionDone : (f : Filed) → Option Action → Result (Unit {0}) Refusal → (r : Filed) → Type 0
ActionDone f o (Ok u) r = ActionTaken f o r
ActionDone f o (Err k) r = refusal_number k ≡ line_number f.session o

-- what the first of some lines does; none does nothing
abbrev pub first_action : (names : Bytes) → List Line → Option Action
first_action names [] = none
first_action names (l ∷ ls) = line_action names l

-- what the lines leave in the session s
abbrev pub filed_of : Result (Unit {0}) LineRefusal → (s : Session) → Reading
filed_of (Ok u) s = record { answer = answer 0 0; session = s }
filed_of (Err e) s = refused_by e

abbrev pub LinesMet : (script : Bytes) → Result (Unit {0}) LineRefusal → (s : Session) → Type 0
LinesMet script r s = filed_of r s ≡ filed script
