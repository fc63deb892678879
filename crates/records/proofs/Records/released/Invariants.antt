-- `Records::released` meets its contract. The loop's invariant: what is released before this place is shown.
use lib.ListN.{length}
use Rattle.records.specs.represent.Held.{records_in}
use Rattle.records.proofs.Released.{Shown}
use Rattle.records.proofs.Records.released.Given as goal

abbrev pub invariant-loop-record : goal.invariant-loop-record
invariant-loop-record l = Shown (records_in l.fn.self) l.fn.releases.flags l.shown (length l.yielded)
