-- The terms of rows by the code's tests: past the rows held, without operands, with operands.
use Prim.Native.Nat.{ℕ, zero, suc, ◌+◌, ◌≤◌, ◌<◌}
use mathlib.Core.Path.{◌≡◌, refl, ◌∙◌}
use mathlib.Core.Bool.{false, cond, ◌&&◌, ◌||◌, and-false}
use mathlib.Core.List.{List}
use mathlib.Core.Logic.{⊎_elim}
use native.Mathlib.Omega.{arith}
use lib.Dec.{eqb}
use lib.ListN.{length, get_or, set, take, length-take, get_or-eq_default}
use borrow.Author.Tests.{ne_eqb, lt-ltb}
use Rattle.xpath.specs.Document.{Document}
use Rattle.xpath.specs.Term.{Void, Root, AxisStep, False}
use Rattle.xpath.specs.Axis.{on_axis, passes}
use Rattle.xpath.specs.Meaning.{selects, holds}
use Rattle.xpath.specs.Visits.{visits, qualifier_visits}
use Rattle.common.proofs.Reflect.{le_or_lt, eq_or_ne}
use Rattle.terms.specs.Row.{Row, row, row_at}
use Rattle.terms.specs.Fields.{max_kind}
use Rattle.terms.specs.Terms.{Term, no_term, term_by, terms, term_at, as_path, as_qualifier, qualifier_in}
use Rattle.terms.proofs.Terms.{term_past, term_at_lem, term_take}
use Rattle.terms.proofs.ByKind.{Kind, void_kind, root_kind, step_kind, union_kind, composition_kind, filter_kind}
use Rattle.terms.proofs.ByKind.{true_kind, false_kind, not_kind, and_kind, or_kind, in_kind, kind_of_lem, past_kinds}
use Rattle.marking.specs.private.Added.{Added}
use Rattle.marking.proofs.Added.{nothing_added, added_cong, added_set}
use Rattle.selection.specs.private.Parts.{leaf_path}

-- row r of the first `top` rows
module _ (rs : List Row) (top r : ℕ) where
  pub term_not_held : top ≤ r → get_or (terms (take top rs)) r no_term ≡ no_term
  unfolding term_at
  term_not_held h = term_past (take top rs) r (rw length-take (omega arith))

  pub term_held : r < top → (s : Row) → s ≡ row_at rs r →
      get_or (terms (take top rs)) r no_term ≡ term_by (terms (take r rs)) s
  unfolding term_at
  term_held h s e = term_take top rs r h ∙ term_at_lem rs r ∙ rw e

void_leaf : (r : Row) → ¬ (r.kind ≡ 2) → ¬ (r.kind ≡ 1) → leaf_path r ≡ Void
unfolding leaf_path
void_leaf r n o =
    ⊎_elim (λ e. rw e) (λ h. let l : 2 < r.kind = omega arith in rw get_or-eq_default) (eq_or_ne r.kind 0)

module _ (ts : List Term) (a b c : ℕ) where
  leaf_path_by : {k : ℕ} → Kind k → ¬ (k ≡ 3) → ¬ (k ≡ 4) → ¬ (k ≡ 5) →
      as_path (term_by ts (row k a b c)) ≡ leaf_path (row k a b c)
  unfolding term_by as_path leaf_path
  leaf_path_by void_kind l m n = refl
  leaf_path_by root_kind l m n = refl
  leaf_path_by step_kind l m n = refl
  leaf_path_by union_kind l m n = absurd (l refl)
  leaf_path_by composition_kind l m n = absurd (m refl)
  leaf_path_by filter_kind l m n = absurd (n refl)
  leaf_path_by true_kind l m n = refl
  leaf_path_by false_kind l m n = refl
  leaf_path_by not_kind l m n = refl
  leaf_path_by and_kind l m n = refl
  leaf_path_by or_kind l m n = refl
  leaf_path_by in_kind l m n = refl

  false_qualifier_by : {k : ℕ} → Kind k → ¬ (k ≡ 6) → ¬ (k ≡ 8) → ¬ (k ≡ 9) → ¬ (k ≡ 10) → ¬ (k ≡ 11) →
      as_qualifier (term_by ts (row k a b c)) ≡ False
  unfolding term_by as_qualifier
  false_qualifier_by void_kind l m n o p = refl
  false_qualifier_by root_kind l m n o p = refl
  false_qualifier_by step_kind l m n o p = refl
  false_qualifier_by union_kind l m n o p = refl
  false_qualifier_by composition_kind l m n o p = refl
  false_qualifier_by filter_kind l m n o p = refl
  false_qualifier_by true_kind l m n o p = absurd (l refl)
  false_qualifier_by false_kind l m n o p = refl
  false_qualifier_by not_kind l m n o p = absurd (m refl)
  false_qualifier_by and_kind l m n o p = absurd (n refl)
  false_qualifier_by or_kind l m n o p = absurd (o refl)
  false_qualifier_by in_kind l m n o p = absurd (p refl)

module _ (ts : List Term) (r : Row) where
  pub leaf_path_lem : ¬ (r.kind ≡ 3) → ¬ (r.kind ≡ 4) → ¬ (r.kind ≡ 5) → as_path (term_by ts r) ≡ leaf_path r
  unfolding as_path
  leaf_path_lem l m n =
      ⊎_elim
      (λ h. leaf_path_by ts r.a r.b r.c (kind_of_lem r.kind h) l m n)
      (λ h. rw (past_kinds ts r h, void_leaf r (omega arith) (omega arith)))
      (le_or_lt r.kind max_kind)

  -- a row of no other kind of qualifiers is read as false
  pub false_qualifier : ¬ (r.kind ≡ 6) → ¬ (r.kind ≡ 8) → ¬ (r.kind ≡ 9) → ¬ (r.kind ≡ 10) → ¬ (r.kind ≡ 11) →
      as_qualifier (term_by ts r) ≡ False
  unfolding as_qualifier
  false_qualifier l m n o p =
      ⊎_elim
      (λ h. false_qualifier_by ts r.a r.b r.c (kind_of_lem r.kind h) l m n o p)
      (λ h. rw (past_kinds ts r h))
      (le_or_lt r.kind max_kind)

module _ (d : Document) (x : ℕ) where
  -- the marks of the root and of the void path
  pub root_added : (m : List ℕ) → 0 < length d → 0 < length m →
      Added (length d) m (set m 0 1) (selects d Root x)
  unfolding selects
  root_added m k l =
      added_set (selects d Root x) 0 (nothing_added (λ y. false) (λ y h. refl)) l
      (rw (lt-ltb 0 (length d) k))
      (λ y h ne. rw (ne_eqb y 0 ne, and-false))

  pub step_added : (a t c : ℕ) {old new : List ℕ} →
      Added (length d) old new (λ y. on_axis a d x y && passes a t c d y) →
      Added (length d) old new (selects d (AxisStep a t c) x)
  unfolding selects
  step_added a t c u = added_cong _ u (λ y h. rw (lt-ltb y (length d) h))

  pub void_added : (m : List ℕ) (r : Row) → ¬ (r.kind ≡ 2) → ¬ (r.kind ≡ 1) →
      Added (length d) m m (selects d (leaf_path r) x)
  unfolding selects
  void_added m r n o = nothing_added _ (λ y h. rw (void_leaf r n o))

  pub leaf_visits : (r : Row) → visits d (leaf_path r) x ≡ 1
  unfolding visits leaf_path
  leaf_visits r = go r.kind
    where
      go : (k : ℕ) → visits d (leaf_path (row k r.a r.b r.c)) x ≡ 1
      go zero = refl
      go (suc zero) = refl
      go (suc (suc zero)) = refl
      go (suc (suc (suc k))) = refl

  module _ (ts : List Term) (r : Row) (h : ¬ (r.kind ≡ 9) → r.kind ≡ 10) where
    pub and_or_visits : qualifier_visits d
        (as_qualifier (term_by ts r)) x ≡ 1 + (qualifier_visits d (qualifier_in ts r.a) x + qualifier_visits d
        (qualifier_in ts r.b) x)
    unfolding qualifier_visits term_by as_qualifier
    and_or_visits = ⊎_elim (λ e. rw e) (λ n. rw (h n)) (eq_or_ne r.kind 9)

    pub and_or_holds : cond (eqb r.kind 9)
        (holds d (qualifier_in ts r.a) x && holds d (qualifier_in ts r.b) x)
        (holds d (qualifier_in ts r.a) x || holds d (qualifier_in ts r.b) x) ≡ holds d
        (as_qualifier (term_by ts r)) x
    unfolding holds term_by as_qualifier
    and_or_holds = ⊎_elim (λ e. rw e) (λ n. rw (h n)) (eq_or_ne r.kind 9)
