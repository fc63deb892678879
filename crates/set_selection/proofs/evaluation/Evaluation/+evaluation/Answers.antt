-- The functions that evaluate a row meet their contracts.
use Rattle.std.proofs.Common.{ℕ, Bool, ◌≡◌, ◌<◌, ◌≤◌, List, length, refl, sym, ap, subst, ◌∙◌, arith, rules}
use Rattle.common.specs.represent.Numbers.{row_number}
use Rattle.xpath.specs.Term.{Path, Qualifier}
use Rattle.xpath.specs.Meaning.{selects}
use Rattle.terms.specs.Row.{table_of}
use Rattle.terms.specs.represent.RowTypes.{row_of}
use Rattle.selection.proofs.Rows.{false_qualifier}
use Rattle.set_selection.specs.Sets.{Image}
use Rattle.set_selection.specs.Evaluations.{document_in, rows_in, terms_before, Holding}
use Rattle.set_selection.specs.Memories.{Remembered}
use Rattle.set_selection.proofs.Noting.{recalled, noted}
use lib.ListN.{length-set}
use Rattle.set_selection.proofs.Written.{done_none, done_on}
use Rattle.set_selection.proofs.Images.{made}
use Rattle.set_selection.proofs.Relations.{size}
use Rattle.set_selection.proofs.Evaluating.{void_selected, void_back, union_selected, union_back, composition_selected}
use Rattle.set_selection.proofs.Evaluating.{composition_back, filter_selected, filter_back, true_holding}
use Rattle.set_selection.proofs.Evaluating.{false_holding, not_holding, and_holding, or_holding, none_holding}
use Rattle.set_selection.proofs.Evaluating.{included, holding_all, path_not_held, qualifier_not_held, path_held}
use Rattle.set_selection.proofs.Evaluating.{qualifier_held, root_row_is, step_row_is, union_row_is, composition_row_is}
use Rattle.set_selection.proofs.Evaluating.{filter_row_is, true_row_is, not_row_is, and_row_is, or_row_is, in_row_is}
use Rattle.set_selection.proofs.Evaluating.{no_path_row}
use Rattle.set_selection.proofs.evaluation.Evaluation.+evaluation.Goals as goal

pub hold-returns-then-top-r-clause-found : goal.hold-returns-then-top-r-clause-found
hold-returns-then-top-r-clause-found t c =
    let l = c.node_count.ensures ∙ sym (size _ _ _ _ c.args.self.now.columns.now.sound) in
    made c.no_marks.result c.no_marks.ensures (λ v u. false_holding (document_in c.args.self.now) l
    (qualifier_not_held (table_of c.args.self.now.rows.now) c.args.top c.args.r c.if-top-r.true) u)

pub hold-returns-clause-found : goal.hold-returns-clause-found
hold-returns-clause-found t c =
    let s = c.args.self.now in
    let w = rw c.row_at.ensures at c.in_ok-out.ensures.found in
    subst (λ (q : Qualifier). Holding (document_in s) q c.in_ok-out.out.items)
    (sym (qualifier_held (rows_in s) c.args.top c.args.r c.if-top-r.false)) w

pub hold-returns-in-Some-clause-found : goal.hold-returns-in-Some-clause-found
hold-returns-in-Some-clause-found t c =
    let s = c.args.self.now in
    let w = recalled _ c.args.memories.now.holding _ c.requires.remembered.holding c.in-Some.ensures in
    made _ c.from_slice.ensures.items
    (λ v e. subst (λ (q : Qualifier). Holding (document_in s) q v.items)
    (sym (qualifier_held (rows_in s) c.args.top c.args.r c.if-top-r.false)) (rw e w))

pub hold-returns-clause-remembered : goal.hold-returns-clause-remembered
hold-returns-clause-remembered t c =
    let u = c.in_ok-out.ensures.remembered in
    let w = rw c.row_at.ensures at c.in_ok-out.ensures.found in
    record {
      forward = u.forward;
      back = u.back;
      holding = noted _ c.hold_row.new.memories.holding c.note.new.self _ u.holding c.note.ensures
          (rw c.deref.ensures.value w);
    }

pub hold_row-returns-in_ok-out-in-Some-Not-clause-found : goal.hold_row-returns-in_ok-out-in-Some-Not-clause-found
hold_row-returns-in_ok-out-in-Some-Not-clause-found t c =
    let k = sym c.in-Some-Not.ensures ∙ ap row_number c.in-Some-Not.field-0-is in
    not_holding _ (not_row_is _ _ k) (rw c.from-a.ensures at c.in_ok-out-in-Some-Not.ensures.found)
    c.complemented.ensures

pub hold_row-returns-in_ok-other-in-Some-And-clause-found : goal.hold_row-returns-in_ok-other-in-Some-And-clause-found
hold_row-returns-in_ok-other-in-Some-And-clause-found t c =
    let k = sym c.in-Some-And.ensures ∙ ap row_number c.in-Some-And.field-0-is in
    let x = rw c.from-a.ensures at c.in_ok-out-in-Some-And.ensures.found in
    let y = rw c.from-b.ensures at c.in_ok-other-in-Some-And.ensures.found in
    let p = rw c.deref.ensures.value at c.intersected.ensures in
    and_holding _ x y (and_row_is _ _ k) p

pub hold_row-returns-in_ok-other-in-Some-Or-clause-found : goal.hold_row-returns-in_ok-other-in-Some-Or-clause-found
hold_row-returns-in_ok-other-in-Some-Or-clause-found t c =
    let k = sym c.in-Some-Or.ensures ∙ ap row_number c.in-Some-Or.field-0-is in
    let x = rw c.from-a.ensures at c.in_ok-out-in-Some-Or.ensures.found in
    let y = rw c.from-b.ensures at c.in_ok-other-in-Some-Or.ensures.found in
    let p = rw c.deref-in-Some-Or.ensures.value at c.united.ensures in
    or_holding _ x y (or_row_is _ _ k) p

pub hold_row-returns-in_ok-out-in-Some-Inclusion-clause-found :
    goal.hold_row-returns-in_ok-out-in-Some-Inclusion-clause-found
hold_row-returns-in_ok-out-in-Some-Inclusion-clause-found t c =
    let k = sym c.in-Some-Inclusion.ensures ∙ ap row_number c.in-Some-Inclusion.field-0-is in
    let l = c.node_count-n.ensures ∙ sym (size _ _ _ _ c.args.self.now.columns.now.sound) in
    let z = rw c.from-b.ensures at (c.is_void.ensures c.args.top c.if-is_void.true) in
    let u = rw (c.deref-then-is_void.ensures.value, c.from-a.ensures) at c.in_ok-out-in-Some-Inclusion.ensures.found in
    none_holding _ (in_row_is _ _ k) z l c.in_ok-all-in-Some-Inclusion.ensures u c.complemented-then-is_void.ensures

pub hold_row-returns-else-is_void-clause-found : goal.hold_row-returns-else-is_void-clause-found
hold_row-returns-else-is_void-clause-found t c =
    let k = sym c.in-Some-Inclusion.ensures ∙ ap row_number c.in-Some-Inclusion.field-0-is in
    let s = c.args.self.now in
    let w = rw (c.from-a.ensures, c.from-b.ensures) at c.include.ensures.found in
    made _ w
    (λ v u. subst (λ (q : Qualifier). Holding (document_in s) q v.items)
    (sym (in_row_is (terms_before s c.args.top) (row_of c.args.row) k)) u)

pub hold_row-returns-in-Some-True-clause-found : goal.hold_row-returns-in-Some-True-clause-found
hold_row-returns-in-Some-True-clause-found t c =
    let k = sym c.in-Some-True.ensures ∙ ap row_number c.in-Some-True.field-0-is in
    let l = c.node_count-n.ensures ∙ sym (size _ _ _ _ c.args.self.now.columns.now.sound) in
    made _ c.all_marks-in-Some-True.ensures (λ v u. true_holding _ l (true_row_is _ _ k) u)

pub hold_row-returns-in_default-clause-found : goal.hold_row-returns-in_default-clause-found
hold_row-returns-in_default-clause-found t c =
    let l = c.node_count-n.ensures ∙ sym (size _ _ _ _ c.args.self.now.columns.now.sound) in
    elim c.in_default.branch [
      | goal.hold_row-in_default-via-in-Some+in_default w ↦ made _ c.no_marks.ensures
          (λ v u. false_holding (document_in c.args.self.now) l
          (false_qualifier (terms_before c.args.self.now c.args.top) (row_of c.args.row) (λ e. grind arith)
          (λ e. grind arith) (λ e. grind arith) (λ e. grind arith) (λ e. grind arith)) u)
      | goal.hold_row-in_default-via-in_default w ↦ made _ c.no_marks.ensures
          (λ v u. false_holding (document_in c.args.self.now) l
          (false_qualifier (terms_before c.args.self.now c.args.top) (row_of c.args.row) (λ e. grind arith)
          (λ e. grind arith) (λ e. grind arith) (λ e. grind arith) (λ e. grind arith)) u)
    ]

pub include-loop-x-preserved : goal.include-loop-x-preserved
include-loop-x-preserved t c =
    let l = c.loop-x in
    let e = size _ _ _ _ c.args.self.now.columns.now.sound in
    let n : l.x < length (document_in c.args.self.now) =
    omega (arith, c.node_count-n.ensures, e, c.loop-x-test.true) in
    let o = rw (c.node_count-n.ensures ∙ sym e) at c.in_ok-from.ensures in
    let p = rw c.deref.ensures.value at c.in_ok-left.ensures.found in
    let q = rw c.deref-in-loop-x.ensures.value at c.in_ok-right.ensures.found in
    let i = rw (c.deref-in-loop-x-2.ensures.value, c.deref-in-loop-x-3.ensures.value) at c.is_included.ensures in
    record {
      size = length-set l.out.items l.x c.is_included.result ∙ l.invariant.size;
      done = done_on _ (omega (arith, l.invariant.size, c.node_count-n.ensures, c.loop-x-test.true)) l.invariant.done
          (i ∙ included _ _ _ _ n o p q);
      remembered = c.in_ok-right.ensures.remembered;
    }

pub include-returns-clause-found : goal.include-returns-clause-found
include-returns-clause-found t c =
    let l = c.loop-x in
    let e = size _ _ _ _ c.args.self.now.columns.now.sound in
    holding_all _ l.invariant.done (omega (arith, c.node_count-n.ensures, e, c.loop-x-test.false))
    (l.invariant.size ∙ sym e)

pub select-returns-then-top-r-clause-found : goal.select-returns-then-top-r-clause-found
select-returns-then-top-r-clause-found t c =
    made _ c.no_marks.ensures (λ v u. void_selected _ (path_not_held _ _ _ c.if-top-r.true) refl u)

pub select-returns-clause-found : goal.select-returns-clause-found
select-returns-clause-found t c =
    let s = c.args.self.now in
    let w = rw c.row_at.ensures at c.in_ok-out.ensures.found in
    subst (λ (p : Path). Image (selects (document_in s) p) c.args.marks.now c.in_ok-out.out.items)
    (sym (path_held (rows_in s) c.args.top c.args.r c.if-top-r.false)) w

pub select-returns-in-Some-clause-found : goal.select-returns-in-Some-clause-found
select-returns-in-Some-clause-found t c =
    let s = c.args.self.now in
    let w = recalled _ c.args.memories.now.forward _ c.requires.remembered.forward c.in-Some.ensures in
    made _ c.from_slice.ensures.items
    (λ v e. subst (λ (p : Path). Image (selects (document_in s) p) c.args.marks.now v.items)
    (sym (path_held (rows_in s) c.args.top c.args.r c.if-top-r.false)) (rw e w))

pub select-returns-clause-remembered : goal.select-returns-clause-remembered
select-returns-clause-remembered t c =
    let u = c.in_ok-out.ensures.remembered in
    let w = rw c.row_at.ensures at c.in_ok-out.ensures.found in
    record {
      forward = noted _ c.select_row.new.memories.forward c.note.new.self _ u.forward c.note.ensures
          (rw c.deref.ensures.value w);
      back = u.back;
      holding = u.holding;
    }

pub select_row-returns-in_ok-other-in-Some-Union-clause-found :
    goal.select_row-returns-in_ok-other-in-Some-Union-clause-found
select_row-returns-in_ok-other-in-Some-Union-clause-found t c =
    let k = sym c.in-Some-Union.ensures ∙ ap row_number c.in-Some-Union.field-0-is in
    let x = rw c.from-a.ensures at c.in_ok-out-in-Some-Union.ensures.found in
    let y = rw c.from-b.ensures at c.in_ok-other-in-Some-Union.ensures.found in
    let p = rw c.deref.ensures.value at c.united.ensures in
    union_selected _ (union_row_is _ _ k) x y p

pub select_row-intersected-requires : goal.select_row-intersected-requires
select_row-intersected-requires t c =
    let h = c.in_ok-holding-in-Some-Filter.ensures.found in
    let o = c.in_ok-out-in-Some-Filter.ensures.found in
    let e = size _ _ _ _ c.args.self.now.columns.now.sound in
    c.in_ok-out-in-Some-Filter.ensures.found.size ∙ c.requires.size ∙ sym e ∙ sym h.size ∙ ap length
    (sym c.deref-in-Some-Filter.ensures.value)

pub select_row-returns-in_ok-first-in-Some-Composition-clause-found :
    goal.select_row-returns-in_ok-first-in-Some-Composition-clause-found
select_row-returns-in_ok-first-in-Some-Composition-clause-found t c =
    let k = sym c.in-Some-Composition.ensures ∙ ap row_number c.in-Some-Composition.field-0-is in
    let l = c.requires.size ∙ sym (size _ _ _ _ c.args.self.now.columns.now.sound) in
    let x = rw c.from-a.ensures at c.in_ok-first-in-Some-Composition.ensures.found in
    let w = rw (c.deref-in-Some-Composition.ensures.value, c.from-b.ensures) at
    c.select-in-Some-Composition-2.ensures.found in
    made c.select-in-Some-Composition-2.result w (λ v u. composition_selected (document_in c.args.self.now)
    (composition_row_is (terms_before c.args.self.now c.args.top) (row_of c.args.row) k) l x u)

pub select_row-returns-in_ok-holding-in-Some-Filter-clause-found :
    goal.select_row-returns-in_ok-holding-in-Some-Filter-clause-found
select_row-returns-in_ok-holding-in-Some-Filter-clause-found t c =
    let k = sym c.in-Some-Filter.ensures ∙ ap row_number c.in-Some-Filter.field-0-is in
    let l = c.requires.size ∙ sym (size _ _ _ _ c.args.self.now.columns.now.sound) in
    let x = rw c.from-a.ensures at c.in_ok-out-in-Some-Filter.ensures.found in
    let y = rw c.from-b.ensures at c.in_ok-holding-in-Some-Filter.ensures.found in
    let p = rw c.deref-in-Some-Filter.ensures.value at c.intersected.ensures in
    filter_selected _ (filter_row_is (terms_before c.args.self.now c.args.top) (row_of c.args.row) k) l x y p

pub select_row-returns-in-Some-Step-clause-found : goal.select_row-returns-in-Some-Step-clause-found
select_row-returns-in-Some-Step-clause-found t c =
    let k = sym c.in-Some-Step.ensures ∙ ap row_number c.in-Some-Step.field-0-is in
    let s = c.args.self.now in
    made _ c.step.ensures
    (λ v u. subst (λ (p : Path). Image (selects (document_in s) p) c.args.marks.now v.items)
    (sym (step_row_is (terms_before s c.args.top) (row_of c.args.row) k)) u)

pub select_row-returns-in-Some-Root-clause-found : goal.select_row-returns-in-Some-Root-clause-found
select_row-returns-in-Some-Root-clause-found t c =
    let k = sym c.in-Some-Root.ensures ∙ ap row_number c.in-Some-Root.field-0-is in
    let s = c.args.self.now in
    made _ c.root.ensures
    (λ v u. subst (λ (p : Path). Image (selects (document_in s) p) c.args.marks.now v.items)
    (sym (root_row_is (terms_before s c.args.top) (row_of c.args.row) k)) u)

pub select_row-returns-in_default-clause-found : goal.select_row-returns-in_default-clause-found
select_row-returns-in_default-clause-found t c =
    elim c.in_default.branch [
      | goal.select_row-in_default-via-in-Some+in_default w ↦ made _ c.no_marks.ensures
          (λ v u. void_selected _ (no_path_row (terms_before c.args.self.now c.args.top) (row_of c.args.row)
          (λ e. grind arith) (λ e. grind arith) (λ e. grind arith) (λ e. grind arith) (λ e. grind arith)) refl u)
      | goal.select_row-in_default-via-in_default w ↦ made _ c.no_marks.ensures
          (λ v u. void_selected _ (no_path_row (terms_before c.args.self.now c.args.top) (row_of c.args.row)
          (λ e. grind arith) (λ e. grind arith) (λ e. grind arith) (λ e. grind arith) (λ e. grind arith)) refl u)
    ]

pub select_back-returns-then-top-r-clause-found : goal.select_back-returns-then-top-r-clause-found
select_back-returns-then-top-r-clause-found t c =
    made _ c.no_marks.ensures (λ v u. void_back _ (path_not_held _ _ _ c.if-top-r.true) refl u)

pub select_back-returns-clause-found : goal.select_back-returns-clause-found
select_back-returns-clause-found t c =
    let s = c.args.self.now in
    let w = rw c.row_at.ensures at c.in_ok-out.ensures.found in
    subst (λ (p : Path). Image (λ x y. selects (document_in s) p y x) c.args.marks.now c.in_ok-out.out.items)
    (sym (path_held (rows_in s) c.args.top c.args.r c.if-top-r.false)) w

pub select_back-returns-in-Some-clause-found : goal.select_back-returns-in-Some-clause-found
select_back-returns-in-Some-clause-found t c =
    let s = c.args.self.now in
    let w = recalled _ c.args.memories.now.back _ c.requires.remembered.back c.in-Some.ensures in
    made _ c.from_slice.ensures.items
    (λ v e. subst (λ (p : Path). Image (λ x y. selects (document_in s) p y x) c.args.marks.now v.items)
    (sym (path_held (rows_in s) c.args.top c.args.r c.if-top-r.false)) (rw e w))

pub select_back-returns-clause-remembered : goal.select_back-returns-clause-remembered
select_back-returns-clause-remembered t c =
    let u = c.in_ok-out.ensures.remembered in
    let w = rw c.row_at.ensures at c.in_ok-out.ensures.found in
    record {
      forward = u.forward;
      back = noted _ c.select_row_back.new.memories.back c.note.new.self _ u.back c.note.ensures
          (rw c.deref.ensures.value w);
      holding = u.holding;
    }

pub select_row_back-returns-in_ok-other-in-Some-Union-clause-found :
    goal.select_row_back-returns-in_ok-other-in-Some-Union-clause-found
select_row_back-returns-in_ok-other-in-Some-Union-clause-found t c =
    let k = sym c.in-Some-Union.ensures ∙ ap row_number c.in-Some-Union.field-0-is in
    let x = rw c.from-a.ensures at c.in_ok-out-in-Some-Union.ensures.found in
    let y = rw c.from-b.ensures at c.in_ok-other-in-Some-Union.ensures.found in
    let p = rw c.deref.ensures.value at c.united.ensures in
    union_back _ (union_row_is _ _ k) x y p

pub select_row_back-intersected-kept-requires : goal.select_row_back-intersected-kept-requires
select_row_back-intersected-kept-requires t c =
    let h = c.in_ok-holding-in-Some-Filter.ensures.found in
    let e = size _ _ _ _ c.args.self.now.columns.now.sound in h.size ∙ e ∙ sym c.requires.size

pub select_row_back-select_back-requires-in-Some-Filter : goal.select_row_back-select_back-requires-in-Some-Filter
select_row_back-select_back-requires-in-Some-Filter t c =
    let h = c.in_ok-holding-in-Some-Filter.ensures.found in
    let e = size _ _ _ _ c.args.self.now.columns.now.sound in (
      search rules,
      (
        ap length c.deref-in-Some-Filter.ensures.value ∙ c.intersected-kept.ensures.size ∙ h.size ∙ e,
        c.in_ok-holding-in-Some-Filter.ensures.remembered,
      ),
    )

pub select_row_back-returns-in_ok-last-in-Some-Composition-clause-found :
    goal.select_row_back-returns-in_ok-last-in-Some-Composition-clause-found
select_row_back-returns-in_ok-last-in-Some-Composition-clause-found t c =
    let k = sym c.in-Some-Composition.ensures ∙ ap row_number c.in-Some-Composition.field-0-is in
    let l = c.requires.size ∙ sym (size _ _ _ _ c.args.self.now.columns.now.sound) in
    let x = rw c.from-b.ensures at c.in_ok-last-in-Some-Composition.ensures.found in
    let w = rw (c.deref-in-Some-Composition.ensures.value, c.from-a.ensures)
    at c.select_back-in-Some-Composition-2.ensures.found in
    made c.select_back-in-Some-Composition-2.result w (λ v u. composition_back (document_in c.args.self.now)
    (composition_row_is (terms_before c.args.self.now c.args.top) (row_of c.args.row) k) l x u)

pub select_row_back-returns-in_ok-holding-in-Some-Filter-clause-found :
    goal.select_row_back-returns-in_ok-holding-in-Some-Filter-clause-found
select_row_back-returns-in_ok-holding-in-Some-Filter-clause-found t c =
    let k = sym c.in-Some-Filter.ensures ∙ ap row_number c.in-Some-Filter.field-0-is in
    let l = c.requires.size ∙ sym (size _ _ _ _ c.args.self.now.columns.now.sound) in
    let y = rw c.from-b.ensures at c.in_ok-holding-in-Some-Filter.ensures.found in
    let w = rw (c.deref-in-Some-Filter.ensures.value, c.from-a.ensures) at c.select_back-in-Some-Filter.ensures.found in
    made c.select_back-in-Some-Filter.result w (λ v u. filter_back (document_in c.args.self.now)
    (filter_row_is (terms_before c.args.self.now c.args.top) (row_of c.args.row) k) l y c.intersected-kept.ensures
    u)

pub select_row_back-returns-in-Some-Step-clause-found : goal.select_row_back-returns-in-Some-Step-clause-found
select_row_back-returns-in-Some-Step-clause-found t c =
    let k = sym c.in-Some-Step.ensures ∙ ap row_number c.in-Some-Step.field-0-is in
    let s = c.args.self.now in
    made _ c.step_back.ensures
    (λ v u. subst (λ (p : Path). Image (λ x y. selects (document_in s) p y x) c.args.marks.now v.items)
    (sym (step_row_is (terms_before s c.args.top) (row_of c.args.row) k)) u)

pub select_row_back-returns-in-Some-Root-clause-found : goal.select_row_back-returns-in-Some-Root-clause-found
select_row_back-returns-in-Some-Root-clause-found t c =
    let k = sym c.in-Some-Root.ensures ∙ ap row_number c.in-Some-Root.field-0-is in
    let s = c.args.self.now in
    made _ c.root_back.ensures
    (λ v u. subst (λ (p : Path). Image (λ x y. selects (document_in s) p y x) c.args.marks.now v.items)
    (sym (root_row_is (terms_before s c.args.top) (row_of c.args.row) k)) u)

pub select_row_back-returns-in_default-clause-found : goal.select_row_back-returns-in_default-clause-found
select_row_back-returns-in_default-clause-found t c =
    elim c.in_default.branch [
      | goal.select_row_back-in_default-via-in-Some+in_default w ↦ made _ c.no_marks.ensures
          (λ v u. void_back _ (no_path_row (terms_before c.args.self.now c.args.top) (row_of c.args.row)
          (λ e. grind arith) (λ e. grind arith) (λ e. grind arith) (λ e. grind arith) (λ e. grind arith)) refl u)
      | goal.select_row_back-in_default-via-in_default w ↦ made _ c.no_marks.ensures
          (λ v u. void_back _ (no_path_row (terms_before c.args.self.now c.args.top) (row_of c.args.row)
          (λ e. grind arith) (λ e. grind arith) (λ e. grind arith) (λ e. grind arith) (λ e. grind arith)) refl u)
    ]
