-- `recall` meets its contract.
use Rattle.std.proofs.Common.{rules, ◌≡◌, ◌∙◌, sym}
use Rattle.std.proofs.lemmas.List.{get_or_default}
use Rattle.set_selection.specs.declared.memory.Slot.TheVariants.{Last}
use Rattle.set_selection.specs.Memories.{slot}
use Rattle.set_selection.proofs.Noting.{same_marks, has_last}
use Rattle.set_selection.proofs.memory.Memory.recall.Goals as goal

pub returns-then-eq : goal.returns-then-eq
returns-then-eq c =
    let s : slot c.args.self.now c.args.r ≡ Last c.in-Last.found = search (rules, get_or_default) in
    let e = sym c.as_slice.ensures.value ∙ same_marks _ _ (sym c.eq.ensures ∙ c.if-eq.true) in
    has_last _ c.in-Last.found s e (sym c.deref.ensures.value)
