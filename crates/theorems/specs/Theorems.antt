-- All that is promised of calls on sessions, registers, documents of any size and by a host, of audit, tally and derive:
-- the six sentences that README.md names, a file each; the laws; that calls exist. `session.Called`,
-- `register.Selected`, `exports.Claims`, `tallies.Added` and so on (proofs/Source.antt of these crates) say of a call
-- what its contract in the source does; proofs/Proved.antt has the proofs.
use Rattle.theorems.specs.Calls.{Calls}
use Rattle.theorems.specs.Selection.{Selection}
use Rattle.theorems.specs.Rules.{Rules}
use Rattle.theorems.specs.Book.{Book}
use Rattle.theorems.specs.Bundles.{Bundles}
use Rattle.theorems.specs.Editions.{Editions}
use Rattle.theorems.specs.Laws.{Laws}
use Rattle.theorems.specs.Exist.{Exist}

pub record Theorems : Type 0 where
  pub calls : Calls
  pub selection : Selection
  pub rules : Rules
  pub book : Book
  pub bundles : Bundles
  pub editions : Editions
  pub laws : Laws
  pub exist : Exist
