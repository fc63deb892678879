-- What the evaluation of a path answers, by its result under the limit.
use Prim.Native.Nat.{ℕ, ◌≤◌, ◌<◌}
use mathlib.Core.Path.{◌≡◌, ◌∙◌}
use mathlib.Core.List.{List, ◌++◌}
use native.Mathlib.Omega.{arith}
use lib.ListN.{length, take, drop, replicate, length-replicate}
use lib.Seq.{take-length}
use borrow.Author.Tests.{lt-ltb, le-ltb, le-leb, lt-leb}
use Rattle.xpath.specs.Document.{Document, max_nodes}
use Rattle.xpath.specs.Meaning.{selects}
use Rattle.xpath.specs.Visits.{visits}
use Rattle.terms.specs.Row.{Row}
use Rattle.terms.specs.Terms.{terms, term_at, path_in, path_at}
use Rattle.marking.specs.private.Added.{Added}
use Rattle.selection.specs.private.Limit.{Finished}
use Rattle.selection.specs.Evaluation.{selected, no_room, too_many_visits, outcome, evaluated, path_evaluated}
use Rattle.selection.proofs.Marks.{fresh_marks, written_copied}

-- the path in row r of the first `top` rows, which are all
module _ (rs : List Row) (r : ℕ) (d : Document) (x limit : ℕ) (buffer : List ℕ) (l : length d ≤ max_nodes) where
  pub too_short : length buffer < length d → outcome no_room buffer ≡ evaluated rs r d x limit buffer
  unfolding path_evaluated
  too_short h = rw (le-ltb max_nodes (length d) l, lt-ltb (length buffer) (length d) h)

  module _ (b : length d ≤ length buffer) (top : ℕ) (e : top ≡ length rs) where
    same_path : path_in (terms (take top rs)) r ≡ path_at rs r
    unfolding term_at
    same_path = rw (e, take-length rs)

    pub passed : limit < visits d (path_in (terms (take top rs)) r) x →
        outcome too_many_visits buffer ≡ evaluated rs r d x limit buffer
    unfolding path_evaluated
    passed h =
        let over = rw same_path at h in
        rw (
          le-ltb max_nodes (length d) l,
          le-ltb (length buffer) (length d) b,
          lt-leb (visits d (path_at rs r) x) limit over,
        )

    module _ {made : ℕ} (m : List ℕ)
        (w : Finished (Added (length d) (replicate max_nodes 0) m (selects d (path_in (terms (take top rs)) r) x))
        (visits d (path_in (terms (take top rs)) r) x) limit made) where
      all_found : Finished (Added (length d) (replicate max_nodes 0) m (selects d (path_at rs r) x))
          (visits d (path_at rs r) x) limit made
      all_found = rw same_path at w

      -- the first n marks are copied, where n is the number of nodes
      pub copied : (n : ℕ) (new : List ℕ) → n ≡ length d → new ≡ take n m ++ drop n buffer →
          outcome (selected made) new ≡ evaluated rs r d x limit buffer
      unfolding path_evaluated
      copied n new k o =
          let size : length m ≡ max_nodes = all_found.result_is.size ∙ length-replicate {A = ℕ} max_nodes 0 in
          rw (
            le-ltb max_nodes (length d) l,
            le-ltb (length buffer) (length d) b,
            le-leb (visits d (path_at rs r) x) limit (omega (arith, all_found.made_is, all_found.fits)),
            o,
            k,
            written_copied (length d) m (selects d (path_at rs r) x) buffer (omega arith) b
                (fresh_marks m all_found.result_is),
            all_found.made_is,
          )
