-- What the ways through the evaluation of a row find.
use Prim.Native.Nat.{ℕ, ◌+◌, ◌≤◌, ◌<◌}
use mathlib.Core.Path.{◌≡◌, refl, sym}
use mathlib.Core.Bool.{cond, false, ◌&&◌}
use mathlib.Core.List.{List}
use native.Mathlib.Omega.{arith}
use lib.ListN.{length, take, replicate}
use Rattle.std.specs.Prelude.{Option, ⊤}
use Rattle.common.specs.Bounded.{sum_below}
use Rattle.common.proofs.Tests.{any_cong}
use Rattle.xpath.specs.Document.{Document, max_nodes}
use Rattle.xpath.specs.Term.{Path, Qualifier, Composition, Filter}
use Rattle.xpath.specs.Meaning.{selects, holds}
use Rattle.xpath.specs.Visits.{visits, qualifier_visits}
use Rattle.terms.specs.Row.{Row}
use Rattle.terms.specs.Terms.{Term, term_by, terms, as_path, as_qualifier, path_in, qualifier_in}
use Rattle.selection.specs.declared.evaluation.Found.{Found}
use Rattle.marking.specs.private.Added.{marked, Added}
use Rattle.marking.proofs.Added.{nothing_added, added_cong}
use Rattle.selection.specs.private.Limit.{Finished, UnderLimit}
use Rattle.selection.specs.private.Parts.{leaf_path}
use Rattle.selection.proofs.Folds.{sum_cong}
use Rattle.selection.proofs.Limits.{recounted, Visited}
use Rattle.selection.proofs.Marks.{fresh_marked, joined_below}
use Rattle.selection.proofs.Rows.{term_not_held, leaf_path_lem, false_qualifier, leaf_visits}

-- row r of the first `top` rows, from x
module _ (rs : List Row) (d : Document) (top r x limit : ℕ) where
  module _ (h : top ≤ r) where
    pub void_found : (o : Option ℕ) → UnderLimit (λ made. made) (λ _. ⊤) 1 limit o → (m : List ℕ) →
        UnderLimit (λ made. made) (λ _. Added (length d) m m (selects d (path_in (terms (take top rs)) r) x))
        (visits d (path_in (terms (take top rs)) r) x) limit o
    unfolding selects visits as_path
    void_found o w m =
        rw (term_not_held rs top r h) (recounted (λ made. made) limit o w refl (λ _ _. nothing_added _ (λ y l. refl)))

    pub false_found : (o : Option Found) → UnderLimit (λ v. v.visits) (λ v. v.holds ≡ false) 1 limit o →
        UnderLimit (λ v. v.visits) (λ v. v.holds ≡ holds d (qualifier_in (terms (take top rs)) r) x)
        (qualifier_visits d (qualifier_in (terms (take top rs)) r) x) limit o
    unfolding holds qualifier_visits as_qualifier
    false_found o w = rw (term_not_held rs top r h) w

-- a row without operands takes one visit
module _ (d : Document) (ts : List Term) (r : Row) (x limit : ℕ) where
  pub leaf_found : ¬ (r.kind ≡ 3) → ¬ (r.kind ≡ 4) → ¬ (r.kind ≡ 5) → (o : Option ℕ) →
      UnderLimit (λ made. made) (λ _. ⊤) 1 limit o → (old new : List ℕ) →
      Added (length d) old new (selects d (leaf_path r) x) →
      UnderLimit (λ made. made) (λ _. Added (length d) old new (selects d (as_path (term_by ts r)) x))
      (visits d (as_path (term_by ts r)) x) limit o
  leaf_found l m n o w old new g =
      rw (leaf_path_lem ts r l m n) (recounted (λ made. made) limit o w (leaf_visits d x r) (λ _ _. g))

  pub false_row_found : ¬ (r.kind ≡ 6) → ¬ (r.kind ≡ 8) → ¬ (r.kind ≡ 9) → ¬ (r.kind ≡ 10) → ¬ (r.kind ≡ 11) →
      (o : Option Found) → UnderLimit (λ v. v.visits) (λ v. v.holds ≡ false) 1 limit o →
      UnderLimit (λ v. v.visits) (λ v. v.holds ≡ holds d (as_qualifier (term_by ts r)) x)
      (qualifier_visits d (as_qualifier (term_by ts r)) x) limit o
  unfolding holds qualifier_visits
  false_row_found l m n o p v w = rw (false_qualifier ts r l m n o p) w

-- the second operand, where `first` marks what the first, p, selects from x; `start` visits are the term's own and
-- those of p
module _ (d : Document) (p : Path) (x limit start : ℕ) (first : List ℕ)
    (a : Added (length d) (replicate max_nodes 0) first (selects d p x)) (e : start ≡ 1 + visits d p x) where
  same_visits : (v : ℕ → ℕ) → sum_below (length d) (λ z. cond (marked first z) (v z) 0) ≡ sum_below (length d)
      (λ z. cond (selects d p x z) (v z) 0)
  same_visits v = sum_cong _ _ (length d) (λ z h. rw (fresh_marked first a z h))

  module _ (q : Path) where
    pub composition_found : {made : ℕ} (old new : List ℕ) →
        Visited (marked first) (visits d q) start limit (length d) made →
        Added (length d) old new (joined_below (marked first) (selects d q) (length d)) →
        Finished (Added (length d) old new (selects d (Composition p q) x)) (visits d (Composition p q) x) limit made
    unfolding selects visits
    composition_found old new v u =
        record {
          made_is = omega (arith, v.made_is, e, same_visits (visits d q));
          fits = v.fits;
          result_is = added_cong _ u (λ y h. sym (any_cong _ _ (length d) (λ z j. rw (fresh_marked first a z j))));
        }

    pub composition_passed : limit < start + sum_below (length d) (λ z. cond (marked first z) (visits d q z) 0) →
        limit < visits d (Composition p q) x
    unfolding visits
    composition_passed h = omega (arith, e, same_visits (visits d q))

  module _ (f : Qualifier) where
    pub filter_found : {made : ℕ} (old new : List ℕ) →
        Visited (marked first) (qualifier_visits d f) start limit (length d) made →
        Added (length d) old new (λ y. marked first y && holds d f y) →
        Finished (Added (length d) old new (selects d (Filter p f) x)) (visits d (Filter p f) x) limit made
    unfolding selects visits
    filter_found old new v u =
        record {
          made_is = omega (arith, v.made_is, e, same_visits (qualifier_visits d f));
          fits = v.fits;
          result_is = added_cong _ u (λ y h. sym (rw (fresh_marked first a y h)));
        }

    pub filter_passed : limit < start + sum_below (length d) (λ z. cond (marked first z) (qualifier_visits d f z) 0) →
        limit < visits d (Filter p f) x
    unfolding visits
    filter_passed h = omega (arith, e, same_visits (qualifier_visits d f))
