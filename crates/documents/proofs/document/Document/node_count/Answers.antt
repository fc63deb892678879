-- `node_count` meets its contract.
use Rattle.std.proofs.Common.{arith}
use Rattle.documents.proofs.Fields.{rows_length}
use Rattle.documents.proofs.document.Document.node_count.Goals as goal

pub returns : goal.returns
returns c = let s = c.args.self.now.sound in omega (arith, s.ends_size, rows_length _ _ _ s.parents_size s.names_size)
