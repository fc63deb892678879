-- Of two editions of one series in the register the older path's nodes are among the newer's, and a crew sees what is
-- released and nothing else.
use Rattle.std.specs.Prelude.{ℕ, ◌≡◌, List}
use Rattle.records.specs.Releases.{ShowsReleased}
use Rattle.records.specs.declared.Record.{Record}
use Rattle.register.specs.FollowsRegister.{RegisterGuarantee, ReleasesKept, CrewIsolated}
use Rattle.register.specs.Promises.{fresh_register}
use Rattle.register.specs.RecordGuarantee.{RecordGuarantee}
use Rattle.register.specs.declared.Register.{Register}
use Rattle.register.proofs.Source as register

pub record Editions : Type 0 where
  -- `Register::new` gives a fresh session without records
  pub new_register : (r : Register) → register.New r → r ≡ fresh_register
  -- after every list of calls from a fresh register: all that is guaranteed of a session, the older path's nodes among
  -- the newer's where two editions of one series are held, or seen by a crew, and the current edition of both
  pub register_guarantee :
      RegisterGuarantee register.Selected register.Current register.CrewCurrent register.New register.Called
  -- record accepts exactly the next edition of a series, of a held path, while there is space: the first with step 0, a
  -- later one with a held step that says, as terms, that the previous edition's path is contained in its own
  pub record_guarantee : RecordGuarantee register.New register.Called
  -- a crew gets each released record and no other
  pub shows_released : (rs : List Record) (fs : List ℕ) → ShowsReleased rs fs
  -- what was released stays released, whatever calls are made
  pub releases_kept : ReleasesKept register.New register.Called
  -- two registers with the same released records, in the same order, give a crew the same listing and the same current
  -- editions
  pub crew_isolated : CrewIsolated register.CrewListing register.CrewCurrent
