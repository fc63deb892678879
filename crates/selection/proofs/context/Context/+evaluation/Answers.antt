-- The functions that evaluate a row meet their contracts.
use Prim.Native.Nat.{◌+◌}
use mathlib.Core.Path.{◌≡◌, ◌∙◌, sym, refl, ap}
use mathlib.Core.Bool.{◌&&◌, not}
use native.Mathlib.Omega.{arith}
use borrow.Author.Tests.{eq-eqb, ne_eqb, lt-ltb, le-leb}
use lib.ListN.{length}
use Rattle.xpath.specs.Meaning.{selects, holds}
use Rattle.xpath.specs.Visits.{visits, qualifier_visits}
use Rattle.terms.specs.represent.RowTypes.{row_of}
use Rattle.terms.specs.Terms.{path_in, qualifier_in, term_by, as_qualifier}
use Rattle.marking.specs.private.Added.{marked}
use Rattle.marking.proofs.Added.{up_start, up_marked, up_left, added_cong, added_twice}
use Rattle.selection.specs.private.Parts.{document_in, terms_in}
use Rattle.selection.proofs.Folds.{all_cong}
use Rattle.selection.proofs.Marks.{fresh_marked, fresh_are_marks, none_joined, joined_skipped, joined_next}
use Rattle.selection.proofs.Limits.{none_visited, skipped, visited_next, stopped_at, second_over}
use Rattle.selection.proofs.Limits.{one_found, both_found}
use Rattle.selection.proofs.Parts.{void_found, false_found, leaf_found, false_row_found}
use Rattle.selection.proofs.Parts.{composition_found, composition_passed, filter_found, filter_passed}
use Rattle.selection.proofs.Rows.{term_held, and_or_visits, and_or_holds}
use Rattle.selection.proofs.context.Context.+evaluation.Goals as goal

pub eval_path-returns-then-self-r : goal.eval_path-returns-then-self-r
eval_path-returns-then-self-r t c =
    void_found _ _ _ _ _ _ c.if-self-r.true c.one_visit.result c.one_visit.ensures _

pub eval_path-returns : goal.eval_path-returns
eval_path-returns t c =
    let s = c.args.self.now in
    let b = c.below.ensures in
    let e = term_held _ _ _ c.if-self-r.false (row_of c.row_at.result) c.row_at.ensures in
    rw e (rw (b.lent, b.top, b.x) at c.eval_path_row.ensures)

pub eval_path_row-returns-in_default : goal.eval_path_row-returns-in_default
eval_path_row-returns-in_default t c =
    let found = leaf_found _ (terms_in c.args.self.now) (row_of c.args.row) _ _ in
    let visit = c.one_visit.ensures in
    elim c.in_default.branch [
      | goal.eval_path_row-in_default-via-in-Some+in_default w ↦
          found (λ e. grind arith) (λ e. grind arith) (λ e. grind arith) _ visit _ _ c.mark_leaf.ensures
      | goal.eval_path_row-in_default-via-in_default w ↦
          found (λ e. grind arith) (λ e. grind arith) (λ e. grind arith) _ visit _ _ c.mark_leaf.ensures
    ]

pub eval_union-returns-in_err-rest : goal.eval_union-returns-in_err-rest
unfolding visits
eval_union-returns-in_err-rest t c = rw c.from_residual.ensures (omega (arith, c.in_err-rest.ensures))

pub eval_union-returns-in_err-first : goal.eval_union-returns-in_err-first
unfolding visits
eval_union-returns-in_err-first t c =
    rw c.from_residual-in_err-first.ensures (omega (arith, c.in_ok-rest.ensures, c.in_err-first.ensures))

pub eval_union-returns-in_err-second : goal.eval_union-returns-in_err-second
unfolding visits
eval_union-returns-in_err-second t c =
    rw c.from_residual-in_err-second.ensures
    (second_over refl c.in_ok-rest.ensures c.in_ok-first.ensures c.in_err-second.ensures)

pub eval_union-returns : goal.eval_union-returns
unfolding selects visits
eval_union-returns t c =
    both_found refl c.in_ok-rest.ensures c.in_ok-first.ensures c.in_ok-second.ensures
    (λ u v. added_twice _ _ _ u v (λ y h. refl))

pub eval_composition-returns-in_err-rest : goal.eval_composition-returns-in_err-rest
unfolding visits
eval_composition-returns-in_err-rest t c = rw c.from_residual.ensures (omega (arith, c.in_err-rest.ensures))

pub eval_composition-returns-in_err-visits : goal.eval_composition-returns-in_err-visits
unfolding visits
eval_composition-returns-in_err-visits t c =
    rw c.from_residual-in_err-visits.ensures (omega (arith, c.in_ok-rest.ensures, c.in_err-visits.ensures))

pub eval_composition-loop-z-init : goal.eval_composition-loop-z-init
eval_composition-loop-z-init t c =
    let s = c.args.self.now in (
      none_visited _ _ _ _ (omega (arith, c.in_ok-rest.ensures, c.in_ok-visits.ensures.fits)),
      none_joined (marked c.eval_path.new.out) (selects (document_in s) (path_in (terms_in s) c.args.b)) _ _,
    )

pub eval_composition-returns-in_err-visits-2 : goal.eval_composition-returns-in_err-visits-2
eval_composition-returns-in_err-visits-2 t c =
    let a = c.at.ensures in
    let w = c.in_ok-visits.ensures in
    rw c.from_residual-in_err-visits-2.ensures
    (composition_passed _ _ _ _ _ _ w.result_is (ap (λ k. 1 + k) w.made_is) _
    (stopped_at _ _ _ _ c.loop-z.invariant.0 (eq-eqb _ 1 c.if-first-z-eq1.true) (omega arith)
    (rw (a.lent, a.top, a.x) at c.in_err-visits-2.ensures)))

pub eval_composition-loop-z-preserved : goal.eval_composition-loop-z-preserved
eval_composition-loop-z-preserved t c =
    let l = c.loop-z in
    let s = marked c.eval_path.new.out in
    let q = selects (document_in c.args.self.now) (path_in (terms_in c.args.self.now) c.args.b) in
    elim c.if-first-z-eq1.branch [
      | goal.eval_composition-then-first-z-eq1+in_ok-visits-2 w ↦
          let m = eq-eqb _ 1 w.if-first-z-eq1.true in
          let a = w.at.ensures in
          let u = rw (a.lent, a.top, a.x) at w.in_ok-visits-2.ensures in
          rw (w.out-is, w.visits-is) (
            visited_next _ _ _ _ l.invariant.0 m u,
            joined_next s q _ l.z l.invariant.1 _ m u.result_is,
          )
      | goal.eval_composition-else-first-z-eq1 w ↦
          let m = ne_eqb _ 1 w.if-first-z-eq1.false in
          rw (w.out-is, w.visits-is) (skipped _ _ _ _ l.invariant.0 m, joined_skipped s q _ l.z l.invariant.1 m)
    ]

pub eval_composition-returns : goal.eval_composition-returns
eval_composition-returns t c =
    let l = c.loop-z in
    let w = c.in_ok-visits.ensures in
    let e : l.z ≡ length (document_in c.args.self.now) = omega (arith, c.node_count-z-end.ensures) in
    composition_found _ _ _ _ _ _ w.result_is (ap (λ k. 1 + k) w.made_is) _ _ _ (rw e at l.invariant.0)
    (rw e at l.invariant.1)

pub eval_filter-returns-in_err-rest : goal.eval_filter-returns-in_err-rest
unfolding visits
eval_filter-returns-in_err-rest t c = rw c.from_residual.ensures (omega (arith, c.in_err-rest.ensures))

pub eval_filter-returns-in_err-visits : goal.eval_filter-returns-in_err-visits
unfolding visits
eval_filter-returns-in_err-visits t c =
    rw c.from_residual-in_err-visits.ensures (omega (arith, c.in_ok-rest.ensures, c.in_err-visits.ensures))

pub eval_filter-loop-z-init : goal.eval_filter-loop-z-init
eval_filter-loop-z-init t c =
    (none_visited _ _ _ _ (omega (arith, c.in_ok-rest.ensures, c.in_ok-visits.ensures.fits)), up_start _ 0)

pub eval_filter-returns-in_err-found : goal.eval_filter-returns-in_err-found
eval_filter-returns-in_err-found t c =
    let a = c.at.ensures in
    let w = c.in_ok-visits.ensures in
    rw c.from_residual-in_err-found.ensures
    (filter_passed _ _ _ _ _ _ w.result_is (ap (λ k. 1 + k) w.made_is) _
    (stopped_at _ _ _ _ c.loop-z.invariant.0 (eq-eqb _ 1 c.if-first-z-eq1.true) (omega arith)
    (rw (a.lent, a.top, a.x) at c.in_err-found.ensures)))

pub eval_filter-loop-z-preserved : goal.eval_filter-loop-z-preserved
eval_filter-loop-z-preserved t c =
    let l = c.loop-z in
    let f = λ (y : _). marked c.eval_path.new.out y
    && holds (document_in c.args.self.now) (qualifier_in (terms_in c.args.self.now) c.args.b) y in
    elim c.if-first-z-eq1.branch [
      | goal.eval_filter-then-first-z-eq1+in_ok-found+then-found w ↦
          let m = eq-eqb _ 1 w.if-first-z-eq1.true in
          let a = w.at.ensures in
          let q = rw (a.lent, a.top, a.x) at w.in_ok-found.ensures in
          rw (w.out-is, w.visits-is) (
            visited_next _ _ _ _ l.invariant.0 m q,
            up_marked f 0 l.z (l.z + 1) l.invariant.1 (omega arith) (omega arith) (λ k m p q. absurd (omega arith))
                (omega arith) (rw m (sym q.result_is ∙ w.if-found.true)),
          )
      | goal.eval_filter-then-first-z-eq1+in_ok-found+else-found w ↦
          let m = eq-eqb _ 1 w.if-first-z-eq1.true in
          let a = w.at.ensures in
          let q = rw (a.lent, a.top, a.x) at w.in_ok-found.ensures in
          rw (w.out-is, w.visits-is) (
            visited_next _ _ _ _ l.invariant.0 m q,
            up_left f 0 l.z (l.z + 1) l.invariant.1 (omega arith) (omega arith) (λ k m p q. absurd (omega arith))
                (rw m (sym q.result_is ∙ w.if-found.false)),
          )
      | goal.eval_filter-else-first-z-eq1 w ↦
          let m = ne_eqb _ 1 w.if-first-z-eq1.false in
          rw (w.out-is, w.visits-is) (
            skipped _ _ _ _ l.invariant.0 m,
            up_left f 0 l.z (l.z + 1) l.invariant.1 (omega arith) (omega arith) (λ k m p q. absurd (omega arith))
                (rw m),
          )
    ]

pub eval_filter-returns : goal.eval_filter-returns
eval_filter-returns t c =
    let l = c.loop-z in
    let w = c.in_ok-visits.ensures in
    let e : l.z ≡ length (document_in c.args.self.now) = omega (arith, c.node_count-z-end.ensures) in
    filter_found _ _ _ _ _ _ w.result_is (ap (λ k. 1 + k) w.made_is) _ _ _ (rw e at l.invariant.0)
    (added_cong _ l.invariant.1 (λ y h. sym (rw (le-leb 0 y (omega arith), lt-ltb y l.z (omega arith)))))

pub eval_qualifier-returns-then-self-r : goal.eval_qualifier-returns-then-self-r
eval_qualifier-returns-then-self-r t c =
    false_found _ _ _ _ _ _ c.if-self-r.true c.found_leaf.result c.found_leaf.ensures

pub eval_qualifier-returns : goal.eval_qualifier-returns
eval_qualifier-returns t c =
    let s = c.args.self.now in
    let b = c.below.ensures in
    let e = term_held _ _ _ c.if-self-r.false (row_of c.row_at.result) c.row_at.ensures in
    rw e (rw (b.lent, b.top, b.x) at c.eval_qualifier_row.ensures)

pub eval_qualifier_row-returns-in_err-rest-in-Some-Not : goal.eval_qualifier_row-returns-in_err-rest-in-Some-Not
unfolding term_by as_qualifier qualifier_visits
eval_qualifier_row-returns-in_err-rest-in-Some-Not t c =
    rw (c.from_residual.ensures, ← c.in-Some-Not.ensures, c.in-Some-Not.field-0-is)
    (omega (arith, c.in_err-rest-in-Some-Not.ensures))

pub eval_qualifier_row-returns-in_err-first-in-Some-Not : goal.eval_qualifier_row-returns-in_err-first-in-Some-Not
unfolding term_by as_qualifier qualifier_visits
eval_qualifier_row-returns-in_err-first-in-Some-Not t c =
    let over = rw c.from-a.ensures at c.in_err-first-in-Some-Not.ensures in
    rw (c.from_residual-in_err-first-in-Some-Not.ensures, ← c.in-Some-Not.ensures, c.in-Some-Not.field-0-is)
    (omega (arith, c.in_ok-rest-in-Some-Not.ensures, over))

pub eval_qualifier_row-returns-in_ok-first-in-Some-Not : goal.eval_qualifier_row-returns-in_ok-first-in-Some-Not
unfolding term_by as_qualifier holds qualifier_visits
eval_qualifier_row-returns-in_ok-first-in-Some-Not t c =
    rw (← c.in-Some-Not.ensures, c.in-Some-Not.field-0-is)
    (one_found refl c.in_ok-rest-in-Some-Not.ensures (rw c.from-a.ensures at c.in_ok-first-in-Some-Not.ensures)
    (λ e. ap not e))

pub eval_qualifier_row-returns-in_err-rest-in-Some-And : goal.eval_qualifier_row-returns-in_err-rest-in-Some-And
eval_qualifier_row-returns-in_err-rest-in-Some-And t c =
    let s = c.args.self.now in
    let v = and_or_visits (document_in s) s.x (terms_in s) (row_of c.args.row) (λ n. grind arith) in
    rw c.from_residual-in_err-rest-in-Some-And.ensures (omega (arith, v, c.in_err-rest-in-Some-And.ensures))

pub eval_qualifier_row-returns-in_err-first-in-Some-And : goal.eval_qualifier_row-returns-in_err-first-in-Some-And
eval_qualifier_row-returns-in_err-first-in-Some-And t c =
    let s = c.args.self.now in
    let v = and_or_visits (document_in s) s.x (terms_in s) (row_of c.args.row) (λ n. grind arith) in
    let over = rw c.from-a.ensures at c.in_err-first-in-Some-And.ensures in
    rw c.from_residual-in_err-first-in-Some-And.ensures
    (omega (arith, v, c.in_ok-rest-in-Some-And.ensures, over))

pub eval_qualifier_row-returns-in_err-second-in-Some-And : goal.eval_qualifier_row-returns-in_err-second-in-Some-And
eval_qualifier_row-returns-in_err-second-in-Some-And t c =
    let s = c.args.self.now in
    let v = and_or_visits (document_in s) s.x (terms_in s) (row_of c.args.row) (λ n. grind arith) in
    rw c.from_residual-in_err-second-in-Some-And.ensures
    (second_over v c.in_ok-rest-in-Some-And.ensures (rw c.from-a.ensures at c.in_ok-first-in-Some-And.ensures)
    (rw c.from-b.ensures at c.in_err-second-in-Some-And.ensures))

pub eval_qualifier_row-returns-in_ok-second-in-Some-And : goal.eval_qualifier_row-returns-in_ok-second-in-Some-And
eval_qualifier_row-returns-in_ok-second-in-Some-And t c =
    let s = c.args.self.now in
    both_found
    (and_or_visits (document_in s) s.x (terms_in s) (row_of c.args.row) (λ n. grind arith))
    c.in_ok-rest-in-Some-And.ensures
    (rw c.from-a.ensures at c.in_ok-first-in-Some-And.ensures)
    (rw c.from-b.ensures at c.in_ok-second-in-Some-And.ensures)
    (λ u v. c.and_or.ensures
    ∙ rw (c.in-Some-And.ensures, u, v)
    (and_or_holds (document_in s) s.x (terms_in s) (row_of c.args.row) (λ n. grind arith)))

pub eval_qualifier_row-returns-in-Some-True : goal.eval_qualifier_row-returns-in-Some-True
unfolding term_by as_qualifier holds qualifier_visits
eval_qualifier_row-returns-in-Some-True t c =
    rw (← c.in-Some-True.ensures, c.in-Some-True.field-0-is) c.found_leaf.ensures

pub eval_qualifier_row-returns-in_default : goal.eval_qualifier_row-returns-in_default
eval_qualifier_row-returns-in_default t c =
    false_row_found _ (terms_in c.args.self.now) (row_of c.args.row) _ _
    (λ e. grind arith) (λ e. grind arith) (λ e. grind arith) (λ e. grind arith) (λ e. grind arith)
    _ c.found_leaf-in_default.ensures

pub eval_inclusion-returns-in_err-rest : goal.eval_inclusion-returns-in_err-rest
unfolding qualifier_visits
eval_inclusion-returns-in_err-rest t c = rw c.from_residual.ensures (omega (arith, c.in_err-rest.ensures))

pub eval_inclusion-returns-in_err-first : goal.eval_inclusion-returns-in_err-first
unfolding qualifier_visits
eval_inclusion-returns-in_err-first t c =
    rw c.from_residual-in_err-first.ensures (omega (arith, c.in_ok-rest.ensures, c.in_err-first.ensures))

pub eval_inclusion-returns-in_err-second : goal.eval_inclusion-returns-in_err-second
unfolding qualifier_visits
eval_inclusion-returns-in_err-second t c =
    rw c.from_residual-in_err-second.ensures
    (second_over refl c.in_ok-rest.ensures c.in_ok-first.ensures c.in_err-second.ensures)

pub eval_inclusion-is_included-requires-clause-marks : goal.eval_inclusion-is_included-requires-clause-marks
eval_inclusion-is_included-requires-clause-marks t c = (
  rw c.node_count.ensures (fresh_are_marks _ c.in_ok-first.ensures.result_is),
  rw c.node_count.ensures (fresh_are_marks _ c.in_ok-second.ensures.result_is),
)

pub eval_inclusion-returns : goal.eval_inclusion-returns
unfolding holds qualifier_visits
eval_inclusion-returns t c =
    both_found refl c.in_ok-rest.ensures c.in_ok-first.ensures c.in_ok-second.ensures
    (λ p q. let g = fresh_marked _ p in let h = fresh_marked _ q in
    c.is_included.ensures ∙ rw c.node_count.ensures (all_cong _ _ _ (λ y l. rw (g y l, h y l))))
