-- Every call takes every input, ends, and answers the number that docs/SPECIFICATION.md gives it; a refusal changes
-- nothing. term, step and select accept exactly what is well formed and new, what the rule table yields, and what can
-- be selected on.
use Rattle.calls.specs.Book.{Answer}
use Rattle.calls.specs.Calls.{Call}
use Rattle.records.specs.Releases.{OfficeCall}
use Rattle.register.specs.Promises.{RegisterMet}
use Rattle.register.specs.declared.Register.{Register}
use Rattle.session.specs.AcceptGuarantee.{AcceptGuarantee}
use Rattle.session.specs.Promises.{Met, AnswersByTerms}
use Rattle.session.specs.declared.session.Session.{Session}
use Rattle.session.proofs.Source as session
use Rattle.register.proofs.Source as register
use Rattle.session.proofs.Takes as session-takes
use Rattle.register.proofs.Takes as register-takes
use Rattle.host_calls.proofs.Takes as exports-takes

pub record Calls : Type 0 where
  -- the contracts in the source ask nothing of a session's calls, a register's, and those for a host
  pub takes : session-takes.Takes
  pub register_takes : register-takes.Takes
  pub host_takes : exports-takes.Takes
  -- term, step, text, point and return answer the first refusal that applies and leave the session, or accept and add
  -- their row, step, the rows that the text's term needs, or point, or leave just what was held when the point was set
  pub call : (s : Session) (c : Call) (a : Answer) (t : Session) → session.Called s c a t → Met s c a t
  -- on every session that calls lead to, their answers are those of the plain book, where steps are judged as terms
  pub by_terms : AnswersByTerms
  -- on a register, record answers the first refusal that applies and leaves it, or adds its record; release marks its
  -- record as released; the session's calls are passed on, but for a return that would drop a row or step in use
  pub register_call : (r : Register) (c : OfficeCall) (a : Answer) (t : Register) → register.Called r c a t
      → RegisterMet r c a t
  -- after every list of calls from a fresh session: term accepts exactly a row that is well formed and new while there
  -- is space, step exactly what the rule table yields, as terms, of held rows and from held premises while there is
  -- space, select exactly a held path on a well-formed document of 1 to 512 nodes, from one of them, with room for the
  -- marks and visits within the limit
  pub accept_guarantee : AcceptGuarantee session.Selected session.Called session.New
