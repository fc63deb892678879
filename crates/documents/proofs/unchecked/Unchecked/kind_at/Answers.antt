-- `kind_at` meets its contract.
use Rattle.std.proofs.Common.{◌≡◌, ◌≤◌, length, refl, sym, ◌∙◌, arith}
use lib.ListN.{get_or-eq_default}
use Rattle.documents.proofs.Fields.{rows_kind}
use Rattle.documents.proofs.unchecked.Unchecked.kind_at.Goals as goal

pub returns-then-y-self : goal.returns-then-y-self
returns-then-y-self c =
    let e = c.args.self.now.even in c.from.ensures ∙ sym (rows_kind _ _ _ e.parents_size e.names_size c.args.y)

pub returns-else-y-self : goal.returns-else-y-self
returns-else-y-self c =
    let e = c.args.self.now.even in
    let h : length c.args.self.now.kinds.now ≤ c.args.y = omega arith in
    sym (rows_kind _ _ _ e.parents_size e.names_size c.args.y ∙ rw get_or-eq_default refl)
