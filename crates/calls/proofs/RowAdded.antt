-- A step call is answered as before when a row is added.
use mathlib.Core.Path.{◌≡◌, refl, ap₂}
use mathlib.Core.List.{List, [], ◌∷◌, map}
use lib.ListN.{length}
use borrow.Author.Tests.{lt-leb}
use Rattle.terms.specs.Row.{Row}
use Rattle.common.specs.Lists.{Every}
use Rattle.calls.specs.Book.{Step, Book}
use Rattle.calls.specs.TermCall.{term_book}
use Rattle.calls.specs.StepCall.{bad_side_of, claim_of, premises_of, is_yielded, step_answer_by, step_answer}
use Rattle.calls.proofs.Premises.{SidesHeld, sides_held, HeldIn, premises_held}
use Rattle.calls.proofs.Reached.{HeldLaws, sides_stay, claim_stays}
use Rattle.calls.proofs.StepJudged.{step_accepted}

no_bad_side : (rs : List Row) (p : Step) → SidesHeld rs p → bad_side_of rs p ≡ 0
unfolding bad_side_of
no_bad_side rs p held = rw (
  lt-leb (length rs) p.left held.left,
  lt-leb (length rs) p.right held.right,
  held.one_sort_lem,
)

-- the row r is added to the rows of the book b
module _ (b : Book) (laws : HeldLaws b.rows b.steps) (r : Row) where
  abbrev grown : Book
  grown = term_book b r

  premises_stay : (qs : List Step) → Every (HeldIn b.steps) qs
      → map (claim_of grown.rows) qs ≡ map (claim_of b.rows) qs
  premises_stay [] h = refl
  premises_stay (q ∷ qs) h =
      let (i, held, is) = h.0 in
      ap₂ (λ c cs. c ∷ cs) (rw is (claim_stays b.rows (r ∷ []) _ (laws.sides i held))) (premises_stay qs h.1)

  -- an accepted step call
  pub step_stays : (p : Step) → (step_answer b p).number ≡ 0 → step_answer grown p ≡ step_answer b p
  unfolding step_answer step_answer_by is_yielded
  step_stays p e =
      let t = step_accepted (is_yielded b p) b p e in
      let held = sides_held b.rows p t.sides in
      rw (
        no_bad_side b.rows p held,
        no_bad_side grown.rows p (sides_stay b.rows (r ∷ []) p held),
        claim_stays b.rows (r ∷ []) p held,
        premises_stay (premises_of b.steps p) (premises_held b.steps p t.premises),
      )
