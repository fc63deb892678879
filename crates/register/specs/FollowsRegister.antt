-- Every list of calls on a register, record and release among them, from a fresh start, refused ones included, is
-- answered as the plain register answers it; and what a crew sees.
use Rattle.std.specs.Prelude.{ℕ, ◌+◌, ◌<◌, ◌≡◌, List, length}
use Rattle.register.specs.declared.Register.{Register}
use Rattle.calls.specs.Book.{Answer, answer}
use Rattle.calls.specs.Runs.{Run}
use Rattle.calls.specs.Above.{own}
use Rattle.records.specs.Records.{current}
use Rattle.records.specs.represent.Held.{records_in}
use Rattle.records.specs.declared.Records.{Records}
use Rattle.records.specs.Register.{EditionsContained}
use Rattle.records.specs.Releases.{released, crew_current, IsReleased, StillReleased}
use Rattle.records.specs.Releases.{OfficeCall, OfficeSeen, office_seen, office_after}
use Rattle.session.specs.Promises.{SelectRelation}
use Rattle.session.specs.FollowsBook.{Upheld}
use Rattle.register.specs.Promises.{RegisterRelation, holdings, released_in}

-- `Selected` as in session's FollowsBook; `Current r series e`: current on the register r answers the edition e;
-- `CrewCurrent` likewise for a crew
module _ (Selected : SelectRelation) (Current CrewCurrent : Register → (series e : ℕ) → Type 0) where
  -- what is asked of the calls cs, of which os was seen and which left r
  pub record FollowsRegister (cs : List OfficeCall) (os : List OfficeSeen) (r : Register) : Type 0 where
    -- each call's number and value, and after it all that is held, in order, are the plain register's
    pub seen : os ≡ office_seen cs
    pub held : holdings r ≡ office_after cs
    -- as of a session, what is held is true on every document, and select marks by it
    pub upheld : Upheld Selected r.session (office_after cs).below.below
    -- if two editions of one series are held, the older path's nodes are among the newer's on every document
    pub contained : EditionsContained (office_after cs).below.below.rows (office_after cs).below.beside
    -- and so for two that a crew sees
    pub crew_contained : EditionsContained (office_after cs).below.below.rows
        (released (office_after cs).below.beside (office_after cs).beside)
    -- the current edition is the highest of its series, 0 if it has none; a crew's is the highest released one
    pub currents : (series e : ℕ) → Current r series e → e ≡ current (office_after cs).below.beside series
    pub crew_currents : (series e : ℕ) → CrewCurrent r series e
        → e ≡ crew_current (released (office_after cs).below.beside (office_after cs).beside) series

  -- the guarantee: every list of calls, run from what `Register::new` gives; `New r` says that it gives r, and
  -- `Called r c a t` that the call c on the register r answers a and leaves the register t
  abbrev pub RegisterGuarantee : (New : Register → Type 0) (Called : RegisterRelation) → Type 0
  RegisterGuarantee New Called = (r₀ r : Register) (cs : List OfficeCall) (os : List OfficeSeen)
      → New r₀ → Run holdings Called r₀ cs os r → FollowsRegister cs os r

-- releasing can't be taken back: record i, once released, is released after every list of further calls
abbrev pub ReleasesKept : (New : Register → Type 0) (Called : RegisterRelation) → Type 0
ReleasesKept New Called = (r₀ r t : Register) (cs ds : List OfficeCall) (os us : List OfficeSeen)
    → New r₀ → Run holdings Called r₀ cs os r → Run holdings Called r ds us t
    → (i : ℕ) → i < length (holdings r).below.beside → IsReleased (holdings r).beside i
    → StillReleased (holdings r) (holdings t) i

-- releasing a released record again is accepted and changes nothing; i is its place from 0
abbrev pub ReleasedAgain : (Called : RegisterRelation) → Type 0
ReleasedAgain Called = (r t : Register) (a : Answer) (i : ℕ) → i < length (records_in r.records)
    → IsReleased r.releases.flags i → Called r (own (i + 1)) a t → (a ≡ answer 0 0) × (t ≡ r)

-- two registers with the same released records, in the same order, give a crew the same listing and the same current
-- editions; these are all the calls that a crew has: `CrewListing r l` says that the listing of r is l
pub record CrewIsolated (CrewListing : Register → Records → Type 0) (CrewCurrent : Register → (series e : ℕ) → Type 0)
    : Type 0 where
  pub same_listing : (q r : Register) → released_in q ≡ released_in r → (l m : Records)
      → CrewListing q l → CrewListing r m → l ≡ m
  pub same_currents : (q r : Register) → released_in q ≡ released_in r → (series d e : ℕ)
      → CrewCurrent q series d → CrewCurrent r series e → d ≡ e
