-- Laws of every book that calls lead to.
use Prim.Native.Nat.{ℕ, suc, ◌+◌, ◌<◌}
use mathlib.Core.Path.{◌≡◌, sym, subst}
use mathlib.Core.Bool.{◌&&◌, decide_iff}
use mathlib.Core.List.{List, [], ◌∷◌, ◌++◌, map}
use mathlib.Core.Logic.{⊎_elim}
use native.Mathlib.Omega.{arith}
use lib.Dec.{leb, eqb}
use lib.ListN.{length, get_or, take, length-append, length-map, get_or-append}
use lib.Seq.{get_or_at, get_or-take, length-take-le}
use mir.Facts.{yes_and, yes_leb, yes_eqb}
use Rattle.common.proofs.Reflect.{below_suc}
use Rattle.terms.specs.Row.{Row, row_at, no_row, find}
use Rattle.terms.specs.Fields.{max_kind, bad_place}
use Rattle.terms.specs.Nesting.{max_nesting, nesting}
use Rattle.terms.specs.AcceptedRows.{is_well_formed, is_new, Built, empty, more}
use Rattle.terms.proofs.Find.{find_le}
use Rattle.terms.proofs.Terms.{term_stays}
use Rattle.common.specs.Lists.{Every}
use Rattle.rules.specs.Claim.{says, IsTrue}
use Rattle.rules.specs.Yields.{Yields}
use Rattle.rules.specs.Decision.{yields_dec}
use Rattle.rules.proofs.Sound.{yields_sound}
use Rattle.selector_grammar.specs.Bytes.{Bytes}
use Rattle.selector_grammar.proofs.Answered.{given}
use Rattle.selector_grammar.proofs.Longer.{answer_longer}
use Rattle.selector_grammar.proofs.Standing.{answer_built}
use Rattle.calls.specs.Book as books
use Rattle.calls.specs.Book.{Step, no_step, no_point, Book}
use Rattle.calls.specs.TermCall.{term_answer}
use Rattle.calls.specs.StepCall.{same_sort, claim_of, premises_of, is_yielded, step_answer}
use Rattle.calls.specs.TextCall.{text_reply}
use Rattle.calls.specs.PointCall.{point_names, place_of}
use Rattle.calls.specs.Calls.{Call, term, step, text, point, return, book_answer, book_with, plain_book, Reachable}
use Rattle.calls.proofs.Runs.{reached_law}
use Rattle.calls.proofs.PointJudged.{return_accepted}
use Rattle.calls.proofs.TermJudged.{term_accepted}
use Rattle.calls.proofs.StepJudged.{step_accepted}
use Rattle.calls.proofs.Premises.{SidesHeld, sides_held, HeldIn, premises_held}

-- a held row stays as it is when rows are added
module _ (rs new : List Row) (i : ℕ) (h : i < length rs) where
  row_stays : row_at (rs ++ new) i ≡ row_at rs i
  row_stays = get_or-append rs new no_row i h

-- the rows of a held step, and what it says, stay as they are when rows are added
module _ (rs new : List Row) (p : Step) (held : SidesHeld rs p) where
  grown : length (rs ++ new) ≡ length rs + length new
  grown = length-append rs new

  pub sides_stay : SidesHeld (rs ++ new) p
  unfolding same_sort
  sides_stay =
      record {
        left = omega (arith, grown, held.left);
        right = omega (arith, grown, held.right);
        one_sort_lem = rw (row_stays rs new p.left held.left, row_stays rs new p.right held.right)
            held.one_sort_lem;
      }

  pub claim_stays : claim_of (rs ++ new) p ≡ claim_of rs p
  unfolding claim_of says
  claim_stays =
      rw (
        row_stays rs new p.left held.left,
        term_stays rs new p.left held.left,
        term_stays rs new p.right held.right,
      )

-- rows and steps that calls lead to
pub record HeldLaws (rs : List Row) (ps : List Step) : Type 0 where
  pub built : Built rs
  pub sides : (i : ℕ) → i < length ps → SidesHeld rs (get_or ps i no_step)
  pub claims : (i : ℕ) → i < length ps → IsTrue (claim_of rs (get_or ps i no_step))

-- rows that are accepted after those held
rows_added : (rs new : List Row) (ps : List Step) → HeldLaws rs ps → Built (rs ++ new) → HeldLaws (rs ++ new) ps
rows_added rs new ps w b =
    record {
      built = b;
      sides = λ i h. sides_stay rs new (get_or ps i no_step) (w.sides i h);
      claims = λ i h. rw (claim_stays rs new (get_or ps i no_step) (w.sides i h)) (w.claims i h);
    }

row_added : (rs : List Row) (ps : List Step) (r : Row) → HeldLaws rs ps → (term_answer rs r).number ≡ 0
    → HeldLaws (rs ++ (r ∷ [])) ps
unfolding is_well_formed is_new
row_added rs ps r w e =
    let t = term_accepted rs r e in
    rows_added rs (r ∷ []) ps w
    (more r w.built
    (yes_and (leb r.kind max_kind && eqb (bad_place rs r) 0) (leb (nesting rs r) max_nesting)
    (yes_and (leb r.kind max_kind) (eqb (bad_place rs r) 0) (yes_leb t.kind)
    (yes_eqb (let z : bad_place rs r ≡ 0 = omega (arith, t.fields) in z)))
    (yes_leb t.nesting))
    (yes_eqb (let z : find rs r ≡ length rs = omega (arith, t.new, find_le rs r) in z)))

-- a text leaves accepted rows, the held ones in front
text_added : (rs : List Row) (ps : List Step) (names t : Bytes) → HeldLaws rs ps
    → HeldLaws (text_reply names t rs).rows ps
unfolding text_reply
text_added rs ps names t w =
    let found = given names t rs in
    let (new, e) = answer_longer names t rs _ _ _ found in
    let built = answer_built names t rs w.built _ _ _ found in
    subst (λ (ss : List Row). HeldLaws ss ps) (sym e) (rows_added rs new ps w (subst Built e built))

-- what holds of each, and of one more, holds of each of both
each_and_last : {A : Type 0} (d : A) (P : A → Type 0) (ps : List A) (p : A)
    → ((i : ℕ) → i < length ps → P (get_or ps i d)) → P p
    → (i : ℕ) → i < length (ps ++ (p ∷ [])) → P (get_or (ps ++ (p ∷ [])) i d)
each_and_last d P ps p f g i h =
    let n = length-append ps (p ∷ []) in
    let k : i < suc (length ps) = omega arith in
    ⊎_elim (λ e. rw (get_or_at ps p [] d i (sym e)) g) (λ l. rw (get_or-append ps (p ∷ []) d i l) (f i l))
    (below_suc k)

-- what holds of held steps says so of premises
premises_true : (rs : List Row) (ps qs : List Step)
    → ((i : ℕ) → i < length ps → IsTrue (claim_of rs (get_or ps i no_step)))
    → Every (HeldIn ps) qs → Every IsTrue (map (claim_of rs) qs)
premises_true rs ps [] f h = tt
premises_true rs ps (q ∷ qs) f h = (rw h.0.2 (f h.0.0 h.0.1), premises_true rs ps qs f h.1)

step_added : (b : Book) (p : Step) → HeldLaws b.rows b.steps → (step_answer b p).number ≡ 0
    → HeldLaws b.rows (b.steps ++ (p ∷ []))
unfolding step_answer is_yielded
step_added b p w e =
    let t = step_accepted (is_yielded b p) b p e in
    let yields : Yields p.rule (claim_of b.rows p) (map (claim_of b.rows) (premises_of b.steps p)) =
    (decide_iff (yields_dec p.rule (claim_of b.rows p) (map (claim_of b.rows) (premises_of b.steps p)))).0
    t.yielded in
    let premises = premises_true b.rows b.steps (premises_of b.steps p) w.claims
    (premises_held b.steps p t.premises) in
    record {
      built = w.built;
      sides = each_and_last no_step (SidesHeld b.rows) b.steps p w.sides (sides_held b.rows p t.sides);
      claims = each_and_last no_step (λ q. IsTrue (claim_of b.rows q)) b.steps p w.claims
          (yields_sound p.rule _ _ yields premises);
    }

-- the laws of the rows and steps held, and of those of each point
pub record BookLaws (b : Book) : Type 0 where
  pub held : HeldLaws b.rows b.steps
  pub points : (i : ℕ) → i < length b.points
      → HeldLaws (get_or b.points i no_point).rows (get_or b.points i no_point).steps

-- what an accepted call makes of the book keeps the laws
laws_with : (b : Book) (c : Call) → BookLaws b → (book_answer b c).number ≡ 0 → BookLaws (book_with b c)
laws_with b (term r) w e = record { held = row_added b.rows b.steps r w.held e; points = w.points }
laws_with b (step p) w e = record { held = step_added b p w.held e; points = w.points }
laws_with b (text names t) w e = record { held = text_added b.rows b.steps names t w.held; points = w.points }
laws_with b (point n) w e =
    record {
      held = w.held;
      points = each_and_last no_point (λ q. HeldLaws q.rows q.steps) b.points
          (books.point n b.rows b.steps) w.points w.held;
    }
laws_with b (return n) w e =
    let i = place_of (point_names b.points) n in
    let here : i < length b.points =
    omega (arith, return_accepted (point_names b.points) n e, length-map b.points (λ p. p.name)) in
    let count : length (take (i + 1) b.points) ≡ i + 1 = length-take-le (i + 1) b.points (omega arith) in
    record {
      held = w.points i here;
      points = λ j h. rw (get_or-take (i + 1) b.points j no_point (omega arith)) (w.points j (omega arith));
    }

pub reachable_laws : {b : Book} → Reachable b → BookLaws b
reachable_laws =
    reached_law plain_book BookLaws
    (record {
      held = record { built = empty; sides = λ i h. absurd (omega arith); claims = λ i h. absurd (omega arith) };
      points = λ i h. absurd (omega arith);
    })
    laws_with
