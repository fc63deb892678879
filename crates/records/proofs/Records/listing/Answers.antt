-- `Records::listing` meets its contract: all are released.
use Prim.Native.Nat.{◌≤◌}
use mathlib.Core.Path.{ap, ◌∙◌}
use native.Mathlib.Omega.{arith}
use lib.ListN.{length, length-take}
use Rattle.records.specs.Records.{max_records}
use Rattle.records.specs.represent.Held.{size_of, records_in}
use Rattle.records.specs.Releases.{released}
use Rattle.records.specs.represent.Listed.{listed}
use Rattle.records.specs.private.Promises.{all_releases}
use Rattle.records.proofs.Released.{every_released}
use Rattle.records.proofs.Records.listing.Goals as goal

pub returns : goal.returns
unfolding all_releases
returns c =
    let s = c.args.self.now in
    let few : length (records_in s) ≤ max_records = omega (arith, length-take (size_of s) s.held) in
    c.released.ensures ∙ ap (λ e. listed (released (records_in s) e.flags)) c.all.ensures
    ∙ ap listed (every_released (records_in s) max_records few)
