-- `document_of` meets its contract.
use Rattle.bench_documents.proofs.Checked.{checked}
use Rattle.bench_documents.proofs.document_of.Goals as goal

pub invariant_of-rows : goal.invariant_of-rows
invariant_of-rows c =
    record {
      even = rw (c.in_ok-kinds.ensures.items, c.in_ok-parents.ensures.items, c.in_ok-names.ensures.items) c.requires;
    }

pub returns : goal.returns
returns c =
    checked _ _ (rw (c.in_ok-kinds.ensures.items, c.in_ok-parents.ensures.items, c.in_ok-names.ensures.items)
    at c.check.ensures)
