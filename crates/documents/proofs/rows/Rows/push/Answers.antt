-- `push` meets its contract: each column has a number more.
use Rattle.std.proofs.Common.{rules, ◌≡◌, ◌++◌, ◌∷◌, []}
use Rattle.documents.proofs.Fields.{rows_pushed}
use Rattle.documents.proofs.rows.Rows.push.Goals as goal

pub returns-clause-pushed : goal.returns-clause-pushed
returns-clause-pushed c =
    let s = c.args.self.now in
    let k : c.push.new.self.items ≡ s.kinds.items ++ c.args.kind ∷ [] = search rules in
    let p : c.push-2.new.self.items ≡ s.parents.items ++ c.args.parent ∷ [] = search rules in
    let n : c.push-3.new.self.items ≡ s.names.items ++ c.args.name ∷ [] = search rules in
    rw (k, p, n) (rows_pushed _ _ _ _ _ _ s.even.parents_size s.even.names_size)
