-- The ancestor test: a climb from y that ends once it is at or below x, and need not go on to the root.
use Rattle.std.specs.Prelude.{ℕ, zero, suc, ◌≤◌, ◌<◌, ◌≡◌, Bool, cond, ◌&&◌, List, ◌⊎◌, T, ltb, eqb, length}
use Rattle.xpath.specs.Document.{Document, parent_at, is_ancestor, well_formed, document_refusal, document_refusal_by}

-- the row that is k parents above y
unfoldable pub above : Document → ℕ → ℕ → ℕ
above d zero y = y
above d (suc k) y = parent_at d (above d k y)

-- how many parents the climb from y takes, `most` at most: it goes on where it is after x and the parent is the smaller
-- row, as in every document
unfoldable pub climb_takes : ℕ → Document → ℕ → ℕ → ℕ
climb_takes zero d x y = 0
climb_takes (suc most) d x y = cond (ltb x y && ltb (parent_at d y) y) (suc (climb_takes most d x (parent_at d y))) 0

-- each parent taken is a smaller row, so y parents are enough
unfoldable pub parents_taken : Document → ℕ → ℕ → ℕ
parents_taken d x y = climb_takes y d x y

-- the test's answer: the climb from y, which is after x, ends at x
unfoldable pub climb_met : Document → ℕ → ℕ → Bool
climb_met d x y = ltb x y && eqb (above d (parents_taken d x y) y) x

-- The laws of the test, proved in proofs/Climbing.antt.

-- after k parents the climb from y toward x ends, and after fewer it goes on
pub record ClimbEnds (d : Document) (x y k : ℕ) : Type 0 where
  pub ends : (above d k y ≤ x) ⊎ (above d k y ≤ parent_at d (above d k y))
  pub earlier : (j : ℕ) → j < k → (x < above d j y) × (parent_at d (above d j y) < above d j y)

-- k is the least number of parents above y that leads to x or below it
pub record Least (d : Document) (x y k : ℕ) : Type 0 where
  pub ends : above d k y ≤ x
  pub earlier : (j : ℕ) → j < k → x < above d j y

-- whatever the nodes, the count is where the climb ends
abbrev pub CountEnds : Type 0
CountEnds = (d : Document) (x y : ℕ) → ClimbEnds d x y (parents_taken d x y)

-- on every well-formed document, of any length, it is the least number
abbrev pub CountLeast : Type 0
CountLeast = (d : Document) → T (well_formed d) → (x y : ℕ) → y < length d → Least d x y (parents_taken d x y)

-- and the answer is that of the climb to the root
abbrev pub AnswersAlike : Type 0
AnswersAlike = (d : Document) → T (well_formed d) → (x y : ℕ) → y < length d → climb_met d x y ≡ is_ancestor d x y

-- whatever numbers are lent, the value of refusal 8 is the same by either climb
abbrev pub RefusesAlike : Type 0
RefusesAlike = (xs : List ℕ) → document_refusal_by climb_met xs ≡ document_refusal xs
