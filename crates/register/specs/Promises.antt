-- What the register's calls promise, for every register.
use Rattle.std.specs.Prelude.{◌≡◌, false, List, ℕ}
use Rattle.session.specs.declared.session.Session.{Session}
use Rattle.records.specs.declared.Record.{Record}
use Rattle.records.specs.declared.Records.{Records}
use Rattle.records.specs.declared.Releases.{Releases}
use Rattle.register.specs.declared.Register.{Register}
use Rattle.register.specs.represent.Results.{ReadResult}
use Rattle.calls.specs.Book.{Answer, answer}
use Rattle.common.specs.Refusals.{full_or_in_use, no_record}
use Rattle.calls.specs.Runs.{Machine, Made}
use Rattle.calls.specs.Calls.{Call}
use Rattle.calls.specs.Above.{Both, both, Layer, above, along}
use Rattle.records.specs.Records.{record_answer}
use Rattle.records.specs.represent.Held.{records_in, no_records, with_record}
use Rattle.records.specs.Register.{drops_in_use, RegisterCall}
use Rattle.records.specs.Releases.{release_answer, with_release, released, OfficeCall, OfficeHoldings}
use Rattle.records.specs.represent.Listed.{flagged, no_releases}
use Rattle.session.specs.View.{view, fresh_session}
use Rattle.session.specs.Promises.{session}
use Rattle.session.specs.ReadCall.{ReadMet}
use Rattle.session.specs.WayBackGuarantee.{WayBackMet}

abbrev pub fresh_register : Register
fresh_register = record { session = fresh_session; records = no_records; releases = no_releases }

-- the call record beside the session's calls, and the returns that are refused
abbrev pub records : Layer Session Records Call Record
records =
    record {
      bars = λ s e c. drops_in_use (view s) (records_in e) c;
      barred = answer full_or_in_use 0;
      answer = λ s e r. record_answer (view s).rows (view s).steps (records_in e) r;
      with = λ s e r. with_record e r;
    }

-- the call release beside these
abbrev pub releases : Layer (Both Session Records) Releases RegisterCall ℕ
releases =
    record {
      bars = λ s e c. false;
      barred = answer no_record 0;
      answer = λ s e p. release_answer (records_in s.beside) p;
      with = λ s e p. flagged (with_release e.flags p);
    }

abbrev pub apart : Register → Both (Both Session Records) Releases
apart r = both (both r.session r.records) r.releases

abbrev pub together : Both (Both Session Records) Releases → Register
together b = record { session = b.below.below; records = b.below.beside; releases = b.beside }

abbrev pub register : Machine Register OfficeCall
register = along apart together (above (above session records) releases)

-- what may be said of a call on a register, its answer, and the register that it leaves
abbrev pub RegisterRelation : Type 1
RegisterRelation = Register → OfficeCall → Answer → Register → Type 0

-- what every call on a register promises: c on r answers a and leaves the register t
abbrev pub RegisterMet : RegisterRelation
RegisterMet = Made register

-- what a register holds, as a plain one
abbrev pub holdings : Register → OfficeHoldings
holdings r = both (both (view r.session) (records_in r.records)) r.releases.flags

-- the released records of a register
abbrev pub released_in : Register → List Record
released_in r = released (records_in r.records) r.releases.flags

-- `Register::way_back` on r: what the session's does, with the same records and releases
pub record RegisterWayBackMet (r : Register) (row : ℕ) (a : Answer) (t : Register) : Type 0 where
  pub made : WayBackMet r.session row a t.session
  pub records : t.records ≡ r.records
  pub releases : t.releases ≡ r.releases

-- `Register::read` on the bytes: what the session's does, without records and releases
pub record RegisterReadMet (bytes : List ℕ) (t : ReadResult) : Type 0 where
  pub read : ReadMet bytes (record { answer = t.answer; session = t.register.session })
  pub records : t.register.records ≡ no_records
  pub releases : t.register.releases ≡ no_releases
