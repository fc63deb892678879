-- A call is accepted just where it fits: the refusals, test by test, on a session that calls lead to.
use Rattle.calls.specs.represent.Answers.{answer_of}
use Prim.Native.Nat.{ℕ, ◌≤◌, ◌<◌}
use mathlib.Core.Path.{◌≡◌, refl, sym, ap, ◌∙◌}
use mathlib.Core.Bool.{Bool, true, false, not, cond, decide_iff}
use mathlib.Core.List.{List, map}
use mathlib.Core.Logic.{◌↔◌, ⊎_elim}
use mathlib.Core.Option.{Option-elim}
use native.Mathlib.Omega.{arith}
use lib.Dec.{T, leb, ltb}
use lib.ListN.{length}
use borrow.Author.Tests.{le-ltb, lt-leb, ne_eqb, leb-false, ltb-false, not-false}
use Rattle.common.proofs.Reflect.{true_iff, le_or_lt}
use Rattle.xpath.specs.Document.{document_of, document_refusal}
use Rattle.xpath.specs.Visits.{visits}
use Rattle.xpath.proofs.Refusal.{accepted_iff}
use Rattle.terms.specs.Row.{Row, find}
use Rattle.terms.specs.Fields.{fields_of, field_ok, bad_place, held_path}
use Rattle.terms.specs.Terms.{path_at}
use Rattle.terms.proofs.Find.{find_first, find_there}
use Rattle.rules.specs.Yields.{max_rule, premise_count}
use Rattle.rules.specs.Decision.{yields_dec}
use Rattle.rules.proofs.RuleNumbers.{rule_numbers}
use Rattle.calls.specs.Book.{Step, max_steps, Book, Answer}
use Rattle.calls.specs.TermCall.{term_answer}
use Rattle.calls.specs.StepCall.{same_sort, bad_side_of, premise_ok, bad_premise_of, claim_of, premises_of}
use Rattle.calls.specs.StepCall.{is_yielded, step_answer_by, step_answer}
use Rattle.calls.specs.SelectCall.{select_answer}
use Rattle.calls.specs.Calls.{Call, book_answer, book_after}
use Rattle.calls.proofs.Accepted.{test_failed}
use Rattle.calls.proofs.Marked.{no_refusal}
use Rattle.calls.proofs.TermJudged.{term_accepted, row_held}
use Rattle.calls.proofs.StepJudged.{step_accepted}
use Rattle.calls.proofs.Premises.{sides_held}
use Rattle.session.specs.declared.session.Session.{Session}
use Rattle.session.specs.View.{view, fresh_session}
use Rattle.session.specs.Promises.{CallRelation, SelectRelation, Met, SelectMet}
use Rattle.session.specs.AcceptGuarantee.{AcceptableRow, AcceptableStep, AcceptableSelect, AcceptsExactly}
use Rattle.session.specs.AcceptGuarantee.{AcceptGuarantee}
use Rattle.session.proofs.Simulation.{Kept, answers_by_terms, calls_follow}
use Rattle.session.proofs.FollowsBook.{CallsKept, SelectsKept, made_from_fresh}

-- the first of two or three places whose test fails is 0 just where all hold
two_places : (u v : Bool) → (cond (not u) 1 (cond (not v) 2 0) ≤ 0) ↔ (T u × T v)
two_places true true = (λ h. (tt, tt), λ h. omega arith)
two_places true false = (λ h. absurd (omega arith), λ h. absurd h.1)
two_places false v = (λ h. absurd (omega arith), λ h. absurd h.0)

three_places : (u v w : Bool) → (cond (not u) 1 (cond (not v) 2 (cond (not w) 3 0)) ≤ 0) ↔ (T u × T v × T w)
three_places true true true = (λ h. (tt, tt, tt), λ h. omega arith)
three_places true true false = (λ h. absurd (omega arith), λ h. absurd h.2)
three_places true false w = (λ h. absurd (omega arith), λ h. absurd h.1)
three_places false v w = (λ h. absurd (omega arith), λ h. absurd h.0)

-- a row
module _ (rs : List Row) (r : Row) where
  fields_iff : (bad_place rs r ≤ 0) ↔ (T (field_ok rs (fields_of r.kind).a r.a r.b)
      × T (field_ok rs (fields_of r.kind).b r.b r.b) × T (field_ok rs (fields_of r.kind).c r.c r.b))
  unfolding bad_place
  fields_iff = three_places _ _ _

  row_fits : (term_answer rs r).number ≡ 0 → AcceptableRow rs r
  row_fits e =
      let t = term_accepted rs r e in
      let fields = fields_iff.0 t.fields in
      record {
        well_formed = record
            { kind = t.kind; a = fields.0; b = fields.1; c = fields.2; nesting = t.nesting };
        new = λ i h. find_first rs r i (let n = t.new in omega arith);
        space = t.room;
      }

  fits_row : AcceptableRow rs r → (term_answer rs r).number ≡ 0
  fits_row f =
      let w = f.well_formed in
      let new : length rs ≤ find rs r =
      ⊎_elim (λ h. h) (λ h. absurd (f.new (find rs r) h (find_there rs r h))) (le_or_lt (length rs) (find rs r)) in
      ap (λ a. a.number)
      (sym (row_held rs r (record {
        kind = w.kind;
        fields = fields_iff.1 (w.a, w.b, w.c);
        nesting = w.nesting;
        new = new;
        room = f.space;
      })))

-- a step
module _ (b : Book) (p : Step) where
  premises_iff : (bad_premise_of (length b.steps) p ≤ 0)
      ↔ (T (premise_ok (leb 1 (premise_count p.rule)) (length b.steps) p.first)
      × T (premise_ok (leb 2 (premise_count p.rule)) (length b.steps) p.second))
  unfolding bad_premise_of
  premises_iff = two_places _ _

  sides_fit : p.left < length b.rows → p.right < length b.rows → same_sort b.rows p.left p.right ≡ true
      → bad_side_of b.rows p ≤ 0
  unfolding bad_side_of
  sides_fit h k e = rw (lt-leb (length b.rows) p.left h, lt-leb (length b.rows) p.right k, e) (omega arith)

  step_fits : (step_answer b p).number ≡ 0 → AcceptableStep b p
  unfolding step_answer is_yielded
  step_fits e =
      let t = step_accepted (is_yielded b p) b p e in
      let sides = sides_held b.rows p t.sides in
      let premises = premises_iff.0 t.premises in
      record {
        left = sides.left;
        right = sides.right;
        one_sort = (true_iff (same_sort b.rows p.left p.right)).1 sides.one_sort_lem;
        first = premises.0;
        second = premises.1;
        yielded = (decide_iff
            (yields_dec p.rule (claim_of b.rows p) (map (claim_of b.rows) (premises_of b.steps p)))).0
            t.yielded;
        space = t.room;
      }

  fits_step : AcceptableStep b p → (step_answer b p).number ≡ 0
  unfolding step_answer step_answer_by is_yielded
  fits_step f =
      let (from, to) = rule_numbers p.rule _ _ f.yielded in
      let sides = sides_fit f.left f.right ((true_iff (same_sort b.rows p.left p.right)).0 f.one_sort) in
      let premises = premises_iff.1 (f.first, f.second) in
      let yielded = (decide_iff
      (yields_dec p.rule (claim_of b.rows p) (map (claim_of b.rows) (premises_of b.steps p)))).1 f.yielded in
      rw (
        ne_eqb p.rule 0 (λ e. omega arith),
        le-ltb max_rule p.rule to,
        le-ltb 0 (bad_side_of b.rows p) sides,
        le-ltb 0 (bad_premise_of (length b.steps) p) premises,
        yielded,
        lt-leb max_steps (length b.steps) f.space,
      )
      refl

-- a selection
module _ (rs : List Row) (row : ℕ) (xs : List ℕ) (x limit room : ℕ) where
  select_fits : (select_answer rs row xs x limit room).number ≡ 0 → AcceptableSelect rs row xs x limit room
  unfolding select_answer
  select_fits e =
      let d = document_of xs in
      let t₈ = no_refusal (document_refusal xs) _ e in
      let t₉ = test_failed (leb (length d) x) _ _ (omega arith) t₈.1 in
      let p₉ = test_failed (not (held_path rs row)) _ _ (omega arith) t₉.1 in
      let t₁₄ = test_failed (ltb room (length d)) _ _ (omega arith) p₉.1 in
      let t₁₅ = test_failed (ltb limit (visits d (path_at rs row) x)) _ _ (omega arith) t₁₄.1 in
      let document = (accepted_iff xs).0 t₈.0 in
      record {
        whole = document.0;
        few = document.1;
        well_formed = document.2;
        context = leb-false _ _ t₉.0;
        path = (true_iff (held_path rs row)).1 (not-false _ p₉.0);
        marks = ltb-false _ _ t₁₄.0;
        within = ltb-false _ _ t₁₅.0;
      }

  fits_select : AcceptableSelect rs row xs x limit room → (select_answer rs row xs x limit room).number ≡ 0
  unfolding select_answer Option-elim
  fits_select f =
      let d = document_of xs in
      rw (
        (accepted_iff xs).1 (f.whole, f.few, f.well_formed),
        lt-leb (length d) x f.context,
        (true_iff (held_path rs row)).0 f.path,
        le-ltb room (length d) f.marks,
        le-ltb limit (visits d (path_at rs row) x) f.within,
      )
      refl

-- calls that meet their promises
module _ (Selected : SelectRelation) (select_tied : SelectsKept Selected SelectMet)
    (Called : CallRelation) (call_tied : CallsKept Called Met) where
  accepts_exactly : (s : Session) (b : Book) → view s ≡ b → Kept s → AcceptsExactly Selected Called s b
  accepts_exactly s b same kept =
      let told : (c : Call) (a : Answer) (t : Session) → Called s c a t → a.number ≡ (book_answer b c).number =
      λ c a t m. ap (λ a. a.number)
      ((call_tied s c a t m).answer ∙ answers_by_terms s kept.reachable c ∙ ap (λ b. book_answer b c) same) in
      record {
        rows = λ r a t m.
            let e = told (Call.term r) a t m in (
              λ z. row_fits b.rows r (sym e ∙ z),
              λ f. e ∙ fits_row b.rows r f,
            );
        steps = λ p a t m.
            let e = told (Call.step p) a t m in (λ z. step_fits b p (sym e ∙ z), λ f. e ∙ fits_step b p f);
        selects = λ row xs x limit buffer left t m.
            let e : (answer_of t).number ≡ (select_answer b.rows row xs x limit (length buffer)).number =
            ap (λ a. a.number) ((select_tied s row xs x limit buffer t left m).answer
            ∙ ap (λ (b : Book). select_answer b.rows row xs x limit (length buffer)) same) in (
              λ z. select_fits b.rows row xs x limit (length buffer) (sym e ∙ z),
              λ f. e ∙ fits_select b.rows row xs x limit (length buffer) f,
            );
      }

  -- so for every `new` and every calls that meet theirs
  pub accept_guarantee_by : (New : Session → Type 0) → ((s : Session) → New s → s ≡ fresh_session)
      → AcceptGuarantee Selected Called New
  accept_guarantee_by New new_tied s₀ s cs os new run =
      let f = calls_follow (made_from_fresh new_tied call_tied new run) in
      accepts_exactly s (book_after cs) f.held f.kept
