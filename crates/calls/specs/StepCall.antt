-- The call step on the plain book.
use Rattle.std.specs.Prelude.{ℕ, ◌+◌, ◌-◌, Bool, not, cond, ◌&&◌, ◌||◌, List, [], ◌∷◌, ◌++◌, map, leb, ltb, eqb, length}
use Rattle.std.specs.Prelude.{get_or, take}
use Rattle.std.proofs.Math.Bool.{decide}
use Rattle.terms.specs.Row.{Row, row_at}
use Rattle.terms.specs.Fields.{is_path}
use Rattle.rules.specs.Claim.{Claim, says}
use Rattle.rules.specs.Yields.{max_rule, premise_count}
use Rattle.rules.specs.Decision.{yields_dec}
use Rattle.calls.specs.Book.{Step, no_step, max_steps, Book, pointed_book, Answer, answer}
use Rattle.common.specs.Refusals.{no_rule, bad_side, bad_premise, not_yielded, steps_full}

-- rows i and j are both paths, or neither is
unfoldable pub same_sort : List Row → ℕ → ℕ → Bool
same_sort rs i j = cond (is_path (row_at rs i)) (is_path (row_at rs j)) (not (is_path (row_at rs j)))

-- the place of refusal 5: left (1) not held, or right (2) not held or of the other sort; 0 if there is none
unfoldable pub bad_side_of : List Row → Step → ℕ
bad_side_of rs p =
    cond (leb (length rs) p.left) 1
    (cond (leb (length rs) p.right || not (same_sort rs p.left p.right)) 2 0)

-- a premise that is needed is a held step, 1 to `held`; another is 0
unfoldable pub premise_ok : (needed : Bool) (held i : ℕ) → Bool
premise_ok needed held i = cond needed (leb 1 i && leb i held) (eqb i 0)

-- the place of refusal 6, where `held` steps are; 0 if there is none
unfoldable pub bad_premise_of : (held : ℕ) → Step → ℕ
bad_premise_of held p =
    cond (not (premise_ok (leb 1 (premise_count p.rule)) held p.first)) 1
    (cond (not (premise_ok (leb 2 (premise_count p.rule)) held p.second)) 2 0)

-- step i of the book, counted from 1; of 0, step 1
abbrev pub step_numbered : List Step → ℕ → Step
step_numbered ps i = get_or ps (i - 1) no_step

-- what a step says, read with the book's rows
unfoldable pub claim_of : List Row → Step → Claim
claim_of rs p = says rs p.left p.right

-- the steps that are the premises of p, in order
unfoldable pub premises_of : List Step → Step → List Step
premises_of ps p = map (step_numbered ps) (take (premise_count p.rule) (p.first ∷ p.second ∷ []))

-- the first refusal that applies, in the order 4, 5, 6, 7, 13, where `yielded` says whether the rule yields the step;
-- else 0 with the step's number
unfoldable pub step_answer_by : (yielded : Bool) → Book → Step → Answer
step_answer_by yielded b p =
    cond (eqb p.rule 0 || ltb max_rule p.rule) (answer no_rule 0)
    (cond (ltb 0 (bad_side_of b.rows p)) (answer bad_side (bad_side_of b.rows p))
    (cond (ltb 0 (bad_premise_of (length b.steps) p)) (answer bad_premise (bad_premise_of (length b.steps) p))
    (cond (not yielded) (answer not_yielded 0)
    (cond (leb max_steps (length b.steps)) (answer steps_full 0)
    (answer 0 (length b.steps + 1))))))

-- the rule yields what the step says from what its premises say, all as terms
unfoldable pub is_yielded : Book → Step → Bool
is_yielded b p = decide (yields_dec p.rule (claim_of b.rows p) (map (claim_of b.rows) (premises_of b.steps p)))

unfoldable pub step_answer : Book → Step → Answer
step_answer b p = step_answer_by (is_yielded b p) b p

-- where no refusal applies, the step goes to the end of its list
abbrev pub step_book : Book → Step → Book
step_book b p = pointed_book b.rows (b.steps ++ (p ∷ [])) b.points
