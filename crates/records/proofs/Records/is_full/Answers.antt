-- `Records::is_full` meets its contract.
use mathlib.Core.Path.{◌≡◌, sym, ap, ◌∙◌}
use native.Mathlib.Omega.{arith}
use lib.Dec.{leb}
use lib.ListN.{length}
use lib.Seq.{length-take-le}
use Rattle.records.specs.Records.{max_records}
use Rattle.records.specs.represent.Held.{size_of}
use Rattle.records.proofs.Searches.{length_mapped}
use borrow.Author.Rules.{rules}
use Rattle.records.proofs.Records.is_full.Goals as goal

pub returns : goal.returns
returns c =
    let s = c.args.self.now in
    let size : length s.held ≡ max_records = search (rules, length_mapped) in
    ap (leb max_records) (c.size.ensures ∙ sym (length-take-le (size_of s) s.held (omega arith)))
