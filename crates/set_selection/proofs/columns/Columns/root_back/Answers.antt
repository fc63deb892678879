-- `root_back` meets its contract.
use Rattle.std.proofs.Common.{ℕ, ◌≡◌, ◌<◌, length, refl, sym, ◌∙◌, arith}
use Rattle.set_selection.proofs.Relations.{size}
use Rattle.set_selection.proofs.Images.{ok_to}
use Rattle.set_selection.proofs.Evaluating.{positive, root_back_all, root_back_none}
use Rattle.set_selection.proofs.columns.Columns.root_back.Goals as goal

pub bounds-marks-0 : goal.bounds-marks-0
bounds-marks-0 c =
    let e = size _ _ _ _ c.args.self.now.sound in
    let p = positive _ c.args.self.now.sound.formed in omega (arith, e, p, c.requires)

pub returns-then-marks : goal.returns-then-marks
returns-then-marks c =
    let e = size _ _ _ _ c.args.self.now.sound in
    let p = positive _ c.args.self.now.sound.formed in
    ok_to _ c.all_marks.ensures (λ v u. root_back_all _ refl (c.requires ∙ sym e) p c.if-marks.true u)

pub returns-else-marks : goal.returns-else-marks
returns-else-marks c =
    let e = size _ _ _ _ c.args.self.now.sound in
    let p = positive _ c.args.self.now.sound.formed in
    ok_to _ c.no_marks.ensures (λ v u. root_back_none _ refl (c.requires ∙ sym e) p c.if-marks.false u)
