-- Replace, the orders and record on every register that calls lead to.
use Prim.Native.Nat.{ℕ, ◌+◌}
use mathlib.Core.Path.{◌≡◌, refl, sym, ap, subst, ◌∙◌}
use mathlib.Core.Bool.{true, false, ◌&&◌}
use mathlib.Core.List.{List, [], ◌∷◌}
use mathlib.Core.Logic.{◌↔◌, inl, ⊎_elim}
use native.Mathlib.Omega.{arith}
use lib.Dec.{T, leb, eqb}
use lib.ListN.{length}
use borrow.Author.Tests.{eq-eqb, ne_eqb, lt-leb}
use mir.Facts.{and_yes, yes_and, eqb_yes, yes_eqb, or_yes}
use Rattle.common.specs.Lists.{any_of}
use Rattle.common.proofs.Reflect.{yes_or, true_iff, eq_or_ne}
use Rattle.terms.specs.Fields.{held_path}
use Rattle.terms.specs.Terms.{path_at}
use Rattle.calls.specs.Book.{Book, Answer}
use Rattle.calls.specs.StepCall.{step_numbered}
use Rattle.calls.specs.Runs.{Run}
use Rattle.calls.specs.Above.{passed, own}
use Rattle.calls.proofs.Reached.{HeldLaws}
use Rattle.calls.proofs.Runs.{run_map}
use Rattle.replacement.specs.Covered.{is_held_step, is_in, is_replaced}
use Rattle.replacement.specs.NoneLost.{Some, paths_of, StepSays}
use Rattle.replacement.proofs.ByTerms.{replaced_iff}
use Rattle.records.specs.declared.Record.{Record}
use Rattle.records.specs.Records.{max_records, current, row_of, is_fit_step, record_answer}
use Rattle.records.specs.represent.Held.{records_in}
use Rattle.records.specs.Register.{EditionsContained}
use Rattle.records.specs.Releases.{OfficeCall, OfficeSeen, office_after}
use Rattle.records.proofs.Judged.{record_accepted, is_recorded}
use Rattle.records.proofs.Editions.{current_path}
use Rattle.session.specs.View.{view}
use Rattle.session.specs.ReplaceGuarantee.{ReplaceRelation}
use Rattle.session.specs.OrderGuarantee.{OrderRelation, BundleOrderRelation}
use Rattle.session.proofs.SetsReplaced.{ReplacesKept, sets_replaced}
use Rattle.session.proofs.ArchivesOrdered.{OrdersKept, BundleOrdersKept, ordered}
use Rattle.register.specs.declared.Register.{Register}
use Rattle.register.specs.Promises.{fresh_register, RegisterRelation, RegisterMet, holdings}
use Rattle.register.specs.RecordGuarantee.{AcceptableRecord, RecordGuarantee, RegisterReplaceGuarantee}
use Rattle.register.specs.RecordGuarantee.{RegisterWayBackGuarantee, RegisterOrderGuarantee}
use Rattle.session.specs.WayBackGuarantee.{WayBackRelation}
use Rattle.register.proofs.Simulation.{RegisterLaws, register_laws}
use Rattle.register.proofs.WaysBack.{WaysBackKept, register_ways_back}

-- a later edition's step, by row numbers and by terms
module _ (b : Book) (laws : HeldLaws b.rows b.steps) (previous : ℕ) (g : Record) (later : ¬ (g.edition ≡ 1))
    (old : T (held_path b.rows previous)) (new : T (held_path b.rows g.row)) where
  abbrev new_rows : List ℕ
  new_rows = g.row ∷ []

  -- it is judged as replace judges the previous row, replaced by the new one alone
  fit_replaced : T (is_fit_step b.steps previous g) → T (is_replaced b new_rows previous g.step)
  unfolding is_fit_step is_replaced is_held_step is_in any_of
  fit_replaced t =
      let p = step_numbered b.steps g.step in
      let (held, sides) = and_yes (leb 1 g.step && leb g.step (length b.steps))
      (eqb p.left previous && eqb p.right g.row) (rw (ne_eqb g.edition 1 later) at t) in
      let (left, right) = and_yes (eqb p.left previous) (eqb p.right g.row) sides in
      yes_and (leb 1 g.step && leb g.step (length b.steps))
      (eqb p.left previous && held_path b.rows previous && is_in new_rows p.right) held
      (yes_and (eqb p.left previous && held_path b.rows previous) (is_in new_rows p.right)
      (yes_and (eqb p.left previous) (held_path b.rows previous) left old)
      (yes_or (eqb g.row p.right) false (inl (yes_eqb (sym (eqb_yes right))))))

  replaced_fit : T (is_replaced b new_rows previous g.step) → T (is_fit_step b.steps previous g)
  unfolding is_fit_step is_replaced is_held_step is_in any_of
  replaced_fit t =
      let p = step_numbered b.steps g.step in
      let (held, rest) = and_yes (leb 1 g.step && leb g.step (length b.steps))
      (eqb p.left previous && held_path b.rows previous && is_in new_rows p.right) t in
      let (from, among) = and_yes (eqb p.left previous && held_path b.rows previous) (is_in new_rows p.right) rest in
      let (left, path) = and_yes (eqb p.left previous) (held_path b.rows previous) from in
      let right = ⊎_elim (λ u. u) (λ u. absurd u) (or_yes (eqb g.row p.right) false among) in
      rw (ne_eqb g.edition 1 later)
      (yes_and (leb 1 g.step && leb g.step (length b.steps)) (eqb p.left previous && eqb p.right g.row) held
      (yes_and (eqb p.left previous) (eqb p.right g.row) left (yes_eqb (sym (eqb_yes right)))))

  -- the only path of the new rows
  only_path : paths_of b.rows new_rows ≡ path_at b.rows g.row ∷ []
  unfolding paths_of
  only_path = rw ((true_iff (held_path b.rows g.row)).0 new) refl

  fit_iff : T (is_fit_step b.steps previous g) ↔ StepSays b g.step (path_at b.rows previous) (path_at b.rows g.row)
  fit_iff =
      let P = StepSays b g.step (path_at b.rows previous) in
      let iff = replaced_iff b laws new_rows previous g.step in (
        λ t. let s = subst (Some P) only_path (iff.0 (fit_replaced t)).1 in ⊎_elim (λ u. u) (λ u. absurd u) s,
        λ s. replaced_fit (iff.1 (old, subst (Some P) (sym only_path) (inl s))),
      )

-- a record call
module _ (b : Book) (rs : List Record) (laws : HeldLaws b.rows b.steps) (editions : EditionsContained b.rows rs)
    (g : Record) where
  abbrev highest : ℕ
  highest = current rs g.series

  abbrev previous : ℕ
  previous = row_of rs g.series highest

  previous_path : g.edition ≡ highest + 1 → ¬ (g.edition ≡ 1) → T (held_path b.rows previous)
  previous_path due later = current_path b.rows rs editions.paths g.series (omega (arith, later, due))

  first_iff : g.edition ≡ 1 → (is_fit_step b.steps previous g ≡ true) ↔ (g.step ≡ 0)
  unfolding is_fit_step
  first_iff e =
      let one = eq-eqb g.edition 1 e in (
        λ f. eqb_yes ((true_iff (eqb g.step 0)).1 (rw one at f)),
        λ z. rw (one, eq-eqb g.step 0 z) refl,
      )

  record_fits : (record_answer b.rows b.steps rs g).number ≡ 0 → AcceptableRecord b rs g
  record_fits e =
      let t = record_accepted b.rows b.steps rs g e in
      let path = (true_iff (held_path b.rows g.row)).1 t.path in
      record {
        next = t.due;
        path = path;
        first = λ one. (first_iff one).0 t.fits;
        later = λ later. (fit_iff b laws previous g later (previous_path t.due later) path).0
            ((true_iff (is_fit_step b.steps previous g)).1 t.fits);
        space = t.room;
      }

  fits : AcceptableRecord b rs g → is_fit_step b.steps previous g ≡ true
  fits f =
      ⊎_elim (λ one. (first_iff one).1 (f.first one))
      (λ later. (true_iff (is_fit_step b.steps previous g)).0
      ((fit_iff b laws previous g later (previous_path f.next later) f.path).1 (f.later later)))
      (eq_or_ne g.edition 1)

  fits_record : AcceptableRecord b rs g → (record_answer b.rows b.steps rs g).number ≡ 0
  fits_record f =
      ap (λ a. a.number)
      (sym (is_recorded b.rows b.steps rs g highest refl f.next
      ((true_iff (held_path b.rows g.row)).0 f.path) previous refl (fits f)
      (leb max_records (length rs)) refl (lt-leb max_records (length rs) f.space)))

-- calls that meet their promises
module _ (New : Register → Type 0) (new_tied : (r : Register) → New r → r ≡ fresh_register)
    (Called : RegisterRelation)
    (call_tied : (r : Register) (c : OfficeCall) (a : Answer) (t : Register) → Called r c a t
    → RegisterMet r c a t) where
  led : (r₀ r : Register) (cs : List OfficeCall) (os : List OfficeSeen) → New r₀ → Run holdings Called r₀ cs os r
      → RegisterLaws cs r
  led r₀ r cs os new run =
      register_laws cs os r
      (subst (λ z. Run holdings RegisterMet z cs os r) (new_tied r₀ new) (run_map call_tied run))

  pub record_guarantee_by : ((r : Register) (g : Record) (a : Answer) (t : Register) → Called r (passed (own g)) a t
      → a ≡ record_answer (view r.session).rows (view r.session).steps (records_in r.records) g)
      → RecordGuarantee New Called
  record_guarantee_by told r₀ r cs os new run =
      let w = led r₀ r cs os new run in
      let b = (office_after cs).below.below in
      let rs = (office_after cs).below.beside in
      let number : (g : Record) (a : Answer) (t : Register) → Called r (passed (own g)) a t
      → a.number ≡ (record_answer b.rows b.steps rs g).number =
      λ g a t m. ap (λ a. a.number)
      (told r g a t m ∙ ap (λ h. record_answer h.below.below.rows h.below.below.steps h.below.beside g) w.held) in
      record {
        by_terms = λ previous g later old new. fit_iff b w.laws.held previous g later old new;
        accepts = λ g a t m.
            let e = number g a t m in (
              λ z. record_fits b rs w.laws.held w.editions g (sym e ∙ z),
              λ f. e ∙ fits_record b rs w.laws.held w.editions g f,
            );
      }

  pub replace_guarantee_by : (Replaced : ReplaceRelation Register) → ReplacesKept (λ r. r.session) Replaced
      → RegisterReplaceGuarantee New Called Replaced
  replace_guarantee_by Replaced replace_tied r₀ r cs os new run =
      let w = led r₀ r cs os new run in
      sets_replaced (λ r. r.session) Replaced replace_tied r _ (ap (λ h. h.below.below) w.held) w.laws.held

  pub way_back_guarantee_by : ((r : Register) (c : OfficeCall) (a : Answer) (t : Register) → RegisterMet r c a t
      → Called r c a t) → (Reversed : WayBackRelation Register) → WaysBackKept Reversed
      → RegisterWayBackGuarantee New Called Reversed
  way_back_guarantee_by met_called Reversed reversed_tied r₀ r cs os new run =
      let w = led r₀ r cs os new run in
      register_ways_back Called met_called r Reversed reversed_tied _ w.session (ap (λ h. h.below.below) w.held)

  pub order_guarantee_by : (Ordered : OrderRelation Register) → OrdersKept (λ r. r.session) Ordered
      → (BundleOrdered : BundleOrderRelation Register) → BundleOrdersKept (λ r. r.session) BundleOrdered
      → RegisterOrderGuarantee New Called Ordered BundleOrdered
  order_guarantee_by Ordered order_tied BundleOrdered bundle_order_tied q₀ r₀ q r cs ds os us new-q new-r run-q run-r =
      ordered (λ r. r.session) Ordered order_tied BundleOrdered bundle_order_tied q r _ _
      (ap (λ h. h.below.below) (led q₀ q cs os new-q run-q).held)
      (ap (λ h. h.below.below) (led r₀ r ds us new-r run-r).held)
