-- `Records::released` meets its contract. The loop's invariant: what is released before this place is shown.
use Prim.Native.Nat.{ℕ, ◌<◌}
use mathlib.Core.Path.{◌≡◌, sym, ap, ◌∙◌}
use native.Mathlib.Omega.{arith}
use lib.ListN.{length, get_or, length-take}
use borrow.Author.Rules.{rules}
use Rattle.std.proofs.lemmas.List.{length_push}
use Rattle.std.proofs.lemmas.Slice.Zip.{zip_turn, zip_end}
use Rattle.records.specs.declared.Record.{Record}
use Rattle.records.specs.Records.{empty_record, max_records}
use Rattle.records.specs.represent.Held.{size_of, records_in, with_record}
use Rattle.records.proofs.Searches.{length_mapped}
use Rattle.records.proofs.Released.{none_shown, has_room, shown_more, shown_same, all_shown}
use Rattle.records.proofs.Records.released.Goals as goal
use Rattle.records.proofs.Records.released.Goals.{In-Some}

-- the record and the flag at this place, of as many as there is room for
turn : (c : In-Some) → let k = length c.loop-record.yielded in
    (k < length (records_in c.args.self.now)) × (k < length c.args.releases.now.flags)
    × ((d : Record) → c.in-Some.record.now ≡ get_or (records_in c.args.self.now) k d)
    × ((d : ℕ) → c.in-Some.flag.now ≡ get_or c.args.releases.now.flags k d)
turn c =
    zip_turn (records_in c.args.self.now) c.args.releases.now.flags c.loop-record.yielded c.into_iter-record-iterator.result
    c.loop-record.record-iterator c.next.new.self c.next.result (cc) (cc) c.loop-record.yielded_by
    (c.in-Some.record, c.in-Some.flag) c.in-Some.is c.next.ensures.steps

room : (c : In-Some) → length c.loop-record.yielded < max_records
room c =
    let s = c.args.self.now in
    let t = turn c in
    omega (arith, t.0, length-take (size_of s) s.held)

pub loop-record-init : goal.loop-record-init
loop-record-init c = none_shown _ _ _ c.new-shown.ensures

pub put-requires : goal.put-requires
put-requires c = has_room _ _ _ _ (room (goal.at.put-requires c).In-Some) c.loop-record.invariant

pub loop-record-preserved-then-flag-eq1 : goal.loop-record-preserved-then-flag-eq1
loop-record-preserved-then-flag-eq1 c =
    let some = (goal.at.loop-record-preserved-then-flag-eq1 c).In-Some in
    let t = turn some in
    rw (length_push c.loop-record.yielded (c.in-Some.record, c.in-Some.flag))
    (shown_more _ _ _ _ t.0 t.1 c.loop-record.invariant (sym (t.3 0) ∙ c.if-flag-eq1.true) (room some) _
    (c.put.ensures ∙ ap (with_record c.loop-record.shown) (t.2 empty_record)))

pub loop-record-preserved : goal.loop-record-preserved
loop-record-preserved c =
    let t = turn (goal.at.loop-record-preserved c).In-Some in
    rw (length_push c.loop-record.yielded (c.in-Some.record, c.in-Some.flag))
    (shown_same _ _ _ _ t.0 t.1 c.loop-record.invariant (λ e. c.if-flag-eq1.false (t.3 0 ∙ e)))

pub returns : goal.returns
returns c =
    let a = c.args in
    let rs = records_in a.self.now in
    let flags : length a.releases.now.flags ≡ max_records = search (rules, length_mapped) in
    let few = length-take (size_of a.self.now) a.self.now.held in
    let t =
    zip_end rs a.releases.now.flags c.loop-record.yielded c.into_iter-record-iterator.result
    c.loop-record.record-iterator c.next.new.self c.next.result (cc) (cc) c.loop-record.yielded_by c.in-None.is
    c.next.ensures.steps in
    all_shown _ _ _ _ (omega (arith, t, few)) c.loop-record.invariant
