-- That there are such calls: a statement about all calls says nothing if there are none.
use Rattle.std.specs.Prelude.{ℕ, Bool, List, Option}
use Rattle.calls.specs.Book.{Answer}
use Rattle.calls.specs.Calls.{Call, CallSeen}
use Rattle.calls.specs.Runs.{Run}
use Rattle.calls.specs.represent.Answers.{NumberOrRefusal, DoneOrRefusal, OrderOrRefusal}
use Rattle.host_calls.specs.ClaimCall.{Claimed}
use Rattle.selector_grammar.specs.Bytes.{Bytes}
use Rattle.records.specs.Releases.{OfficeCall, OfficeSeen}
use Rattle.records.specs.declared.Records.{Records}
use Rattle.register.specs.Promises.{fresh_register, holdings}
use Rattle.register.specs.declared.Register.{Register}
use Rattle.register.specs.represent.Results as register-read
use Rattle.session.specs.View.{view, fresh_session}
use Rattle.session.specs.declared.session.Session.{Session}
use Rattle.session.specs.represent.Results.{ReadResult}
use Rattle.tallies.specs.Count.{file_of, Entry}
use Rattle.tallies.specs.declared.Tally.{Tally}
use Rattle.tallies.specs.represent.Tally.{fresh_tally}
use Rattle.xpath.specs.declared.document.Climb.{Climb}
use Rattle.host_calls.proofs.Source as exports
use Rattle.register.proofs.Source as register
use Rattle.session.proofs.Source as session
use Rattle.tallies.proofs.Source as tallies
use Rattle.xpath.proofs.Source as xpath

pub record SessionCalls : Type 0 where
  -- a fresh session can be made as the contracts have it, and on every session every list of calls; so can every
  -- select, every read, every replace, every order, every bundle order and every write
  pub new_exists : session.New fresh_session
  pub calls_exist : (s : Session) (cs : List Call)
      → (os : List CallSeen) × (t : Session) × Run view session.Called s cs os t
  pub selects_exist : (s : Session) (row : ℕ) (xs : List ℕ) (x limit : ℕ) (buffer : List ℕ)
      → (t : NumberOrRefusal) × (left : List ℕ) × session.Selected s row xs x limit buffer t left
  pub reads_exist : (s : Session) (bytes : List ℕ) → (t : ReadResult) × session.ReadOn s bytes t
  pub ways_back_exist : (s : Session) (row : ℕ) → (a : Answer) × (t : Session) × session.Reversed s row a t
  pub replaces_exist : (s : Session) (old new by : List ℕ) → (t : DoneOrRefusal) × session.Replaced s old new by t
  pub orders_exist : (s : Session) (i : ℕ) (t : Session) (j : ℕ) → (r : OrderOrRefusal) × session.Ordered s i t j r
  pub bundle_orders_exist : (s t : Session) → (r : OrderOrRefusal) × session.BundleOrdered s t r
  pub writes_exist : (s : Session) (buffer : List ℕ)
      → (w : NumberOrRefusal) × (left : List ℕ) × session.Write s buffer w left

pub record RegisterCalls : Type 0 where
  -- a fresh register can be made as the contracts have it, and on every register every list of calls; so can every
  -- current, every listing, every select, every replace, every order, every bundle order, every write and every read
  pub new_exists : register.New fresh_register
  pub calls_exist : (r : Register) (cs : List OfficeCall)
      → (os : List OfficeSeen) × (t : Register) × Run holdings register.Called r cs os t
  pub currents_exist : (r : Register) (series : ℕ) → (e : ℕ) × register.Current r series e
  pub listings_exist : (r : Register) → (l : Records) × register.Listing r l
  pub crew_listings_exist : (r : Register) → (l : Records) × register.CrewListing r l
  pub crew_currents_exist : (r : Register) (series : ℕ) → (e : ℕ) × register.CrewCurrent r series e
  pub selects_exist : (s : Session) (row : ℕ) (xs : List ℕ) (x limit : ℕ) (buffer : List ℕ)
      → (t : NumberOrRefusal) × (left : List ℕ) × register.Selected s row xs x limit buffer t left
  pub ways_back_exist : (r : Register) (row : ℕ) → (a : Answer) × (t : Register) × register.Reversed r row a t
  pub replaces_exist : (r : Register) (old new by : List ℕ) → (t : DoneOrRefusal) × register.Replaced r old new by t
  pub orders_exist : (q : Register) (i : ℕ) (r : Register) (j : ℕ) → (t : OrderOrRefusal) × register.Ordered q i r j t
  pub bundle_orders_exist : (q r : Register) → (t : OrderOrRefusal) × register.BundleOrdered q r t
  pub writes_exist : (r : Register) (buffer : List ℕ)
      → (w : NumberOrRefusal) × (left : List ℕ) × register.Write r buffer w left
  pub reads_exist : (q : Register) (bytes : List ℕ) → (t : register-read.ReadResult) × register.ReadOn q bytes t

pub record HostCalls : Type 0 where
  -- every input has an answer as the contracts have it
  pub reads_exist : (bytes : Bytes) → (n : ℕ) × exports.Reads bytes n
  pub read_lines_exist : (bytes : Bytes) → (a : Answer) × exports.ReadLines bytes a
  pub claims_exist : (bundle names old new : Bytes) → (c : Claimed) × exports.Claims bundle names old new c
  pub text_selects_exist : (names t : Bytes) (xs : List ℕ) (x limit : ℕ) (buffer : List ℕ)
      → (a : Answer) × (left : List ℕ) × exports.Selects names t xs x limit buffer a left
  pub files_exist : (script buffer : Bytes) → (a : Answer) × (left : Bytes) × exports.Files script buffer a left

pub record ProgramCalls : Type 0 where
  -- every list of names is judged; a new tally can be made, every file that was read or not is added to every tally,
  -- and every tally has its lines
  pub judges_exist : (list : List ℕ) (opened : List Bool) → (a : Answer) × tallies.Judged list opened a
  pub new_exists : tallies.New fresh_tally
  pub adds_exist : (t : Tally) (bytes : Option (List ℕ)) → (u : Tally) × tallies.Added t (file_of bytes) u
  pub lines_exist : (t : Tally) → (es : List Entry) × tallies.Lines t es

pub record Exist : Type 0 where
  pub session : SessionCalls
  pub register : RegisterCalls
  pub host : HostCalls
  pub programs : ProgramCalls
  -- every climb can be made as the contract has it
  pub climbs_exist : (xs : List ℕ) (x y e : ℕ) (es : List ℕ)
      → (r : Climb) × (left : List ℕ) × xpath.Climbed xs x y e es r left
