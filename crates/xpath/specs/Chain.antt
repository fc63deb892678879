-- A bound on the visits of paths of steps alone.
use Rattle.std.specs.Prelude.{ℕ, suc, ◌+◌, ◌-◌, ◌*◌, ◌≤◌, length}
use Rattle.xpath.specs.Document.{Document}
use Rattle.xpath.specs.Term.{Path, AxisStep, Composition}
use Rattle.xpath.specs.Visits.{visits}

-- a path of k steps composed from the left, without filters: a step, or such a path and a step after it
pub data Chain : (k : ℕ) → Path → Type 0 where
  one : {a t c : ℕ} → Chain 1 (AxisStep a t c)
  more : {k a t c : ℕ} {p : Path} → Chain k p → Chain (suc k) (Composition p (AxisStep a t c))

-- the bound for k steps on n nodes
abbrev pub visit_bound : (k n : ℕ) → ℕ
visit_bound k n = 1 + (k - 1) * (n + 1)

-- it holds on every list of nodes, a document or not, from every number; k is 1 or more, as every chain has a step
abbrev pub ChainVisits : Type 0
ChainVisits = (k : ℕ) (p : Path) → Chain k p → (d : Document) (x : ℕ) → visits d p x ≤ visit_bound k (length d)
