-- `numbered` meets its contract: the check refuses nothing.
use Rattle.std.proofs.Common.{◌≡◌, ◌∙◌, arith}
use Rattle.xml_numbers.proofs.Laws.{made, never_refused}
use Rattle.xml_numbers.proofs.rows.numbered.Goals as goal

pub invariant_of-rows : goal.invariant_of-rows
invariant_of-rows c =
    let e = c.args.document.now.xml.even in
    record {
      even = record {
        parents_size = rw (
          c.in_ok-parents.ensures.items,
          c.as_slice-old_parents.ensures.value,
          c.in_ok-kinds.ensures.items,
          c.as_slice-old_kinds.ensures.value,
        ) e.parents_size;
        names_size = rw (c.in_ok-kinds.ensures.items, c.as_slice-old_kinds.ensures.value) c.in_ok-names.ensures.size;
      };
    }

pub returns-in-Ok : goal.returns-in-Ok
returns-in-Ok c = (
  c.in_ok-names.ensures.all,
  made _ _ _ c.in_ok-names.ensures _
      (rw (
        c.in_ok-parents.ensures.items,
        c.as_slice-old_parents.ensures.value,
        c.in_ok-kinds.ensures.items,
        c.as_slice-old_kinds.ensures.value,
      ) at c.in-Ok.ensures.1),
)

pub unreachable-requires : goal.unreachable-requires
unreachable-requires c =
    never_refused _ _ _ c.in_ok-names.ensures _ _ (c.in_ok-kinds.ensures.items ∙ c.as_slice-old_kinds.ensures.value)
    (c.in_ok-parents.ensures.items ∙ c.as_slice-old_parents.ensures.value)
    (omega (arith, c.args.document.now.few)) _ (rw c.in-BadDocument.is at c.in-Err.ensures)
