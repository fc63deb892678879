-- `root` meets its contract.
use Rattle.std.proofs.Common.{ℕ, ◌≡◌, ◌<◌, length, refl, sym, ◌∙◌, arith}
use Rattle.set_selection.proofs.Images.{made}
use Rattle.set_selection.proofs.Relations.{size}
use Rattle.set_selection.proofs.Evaluating.{positive, root_selected}
use Rattle.set_selection.proofs.columns.Columns.root.Goals as goal

pub marked_at-requires : goal.marked_at-requires
marked_at-requires c =
    let e = size _ _ _ _ c.args.self.now.sound in
    let p = positive _ c.args.self.now.sound.formed in omega (arith, e, p, c.requires)

pub returns : goal.returns
returns c =
    let e = size _ _ _ _ c.args.self.now.sound in
    let p = positive _ c.args.self.now.sound.formed in
    made _ c.marked_at.ensures (λ v u. root_selected _ refl (c.requires ∙ sym e) p c.any.ensures u)
