-- `room` meets its contract.
use mathlib.Core.Path.{refl}
use mathlib.Core.List.{[], ◌∷◌}
use Rattle.lines.specs.Number.{numbers_up_to}
use Rattle.lines.proofs.Parts.{starts_there}
use Rattle.lines.proofs.LineRead.{one_within, no_last_within}
use Rattle.script.specs.declared.words.Word.TheVariants.{Write}
use Rattle.script.specs.Words.{Room}
use Rattle.script.specs.Words.{shape_of}
use Rattle.script.specs.Command.{max_room}
use Rattle.script.proofs.Calls.{no_numbers_call, numbers_call}
use Rattle.script.proofs.room.Goals as goal

pub returns-in_err-room : goal.returns-in_err-room
unfolding shape_of
returns-in_err-room c =
    let a = c.args in
    let read = numbers_up_to (max_room ∷ []) in
    rw c.from_residual.ensures
    (no_numbers_call Write Room refl a.bytes.now a.at
    (no_last_within read max_room [] a.bytes.now a.at a.at [] (starts_there read a.bytes.now a.at) refl
    c.in_err-room.ensures))

pub returns : goal.returns
unfolding shape_of
returns c =
    let a = c.args in
    numbers_call Write Room refl a.bytes.now a.at _ _
    (one_within max_room a.bytes.now a.at _ _ c.in_ok-room.ensures) _ refl
