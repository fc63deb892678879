-- The twelve kinds of rows, for proofs by cases.
use Prim.Native.Nat.{ℕ, zero, suc, ◌≤◌, ◌<◌}
use mathlib.Core.Path.{◌≡◌, refl}
use mathlib.Core.List.{List}
use native.Mathlib.Omega.{arith}
use lib.ListN.{get_or-eq_default}
use Rattle.xpath.specs.Term.{Void, Root, AxisStep, Union, Composition, Filter, True, False, Not, And, Or, In}
use Rattle.terms.specs.Row.{Row, row}
use Rattle.terms.specs.Fields.{max_kind}
use Rattle.terms.specs.Terms.{Term, of_path, of_qualifier, as_path, as_qualifier, no_term, term_by}

pub data Kind : ℕ → Type 0 where
  void_kind : Kind 0
  root_kind : Kind 1
  step_kind : Kind 2
  union_kind : Kind 3
  composition_kind : Kind 4
  filter_kind : Kind 5
  true_kind : Kind 6
  false_kind : Kind 7
  not_kind : Kind 8
  and_kind : Kind 9
  or_kind : Kind 10
  in_kind : Kind 11

pub kind_of_lem : (k : ℕ) → k ≤ max_kind → Kind k
kind_of_lem zero h = void_kind
kind_of_lem (suc zero) h = root_kind
kind_of_lem (suc (suc zero)) h = step_kind
kind_of_lem (suc (suc (suc zero))) h = union_kind
kind_of_lem (suc (suc (suc (suc zero)))) h = composition_kind
kind_of_lem (suc (suc (suc (suc (suc zero))))) h = filter_kind
kind_of_lem (suc (suc (suc (suc (suc (suc zero)))))) h = true_kind
kind_of_lem (suc (suc (suc (suc (suc (suc (suc zero))))))) h = false_kind
kind_of_lem (suc (suc (suc (suc (suc (suc (suc (suc zero)))))))) h = not_kind
kind_of_lem (suc (suc (suc (suc (suc (suc (suc (suc (suc zero))))))))) h = and_kind
kind_of_lem (suc (suc (suc (suc (suc (suc (suc (suc (suc (suc zero)))))))))) h = or_kind
kind_of_lem (suc (suc (suc (suc (suc (suc (suc (suc (suc (suc (suc zero))))))))))) h = in_kind
kind_of_lem (suc (suc (suc (suc (suc (suc (suc (suc (suc (suc (suc (suc k)))))))))))) h = absurd (omega arith)

-- a row of a kind past the last is read as the void path
pub past_kinds : (ts : List Term) (r : Row) → max_kind < r.kind → term_by ts r ≡ no_term
unfolding term_by
past_kinds ts r h = rw get_or-eq_default

-- the kind of a row with that term
unfoldable pub kind_of : Term → ℕ
kind_of (of_path Void) = 0
kind_of (of_path Root) = 1
kind_of (of_path (AxisStep a t c)) = 2
kind_of (of_path (Union p q)) = 3
kind_of (of_path (Composition p q)) = 4
kind_of (of_path (Filter p f)) = 5
kind_of (of_qualifier True) = 6
kind_of (of_qualifier False) = 7
kind_of (of_qualifier (Not f)) = 8
kind_of (of_qualifier (And f g)) = 9
kind_of (of_qualifier (Or f g)) = 10
kind_of (of_qualifier (In p q)) = 11

module _ (ts : List Term) (x y z : ℕ) where
  pub term_kind_lem : {k : ℕ} → Kind k → kind_of (term_by ts (row k x y z)) ≡ k
  unfolding kind_of term_by
  term_kind_lem void_kind = refl
  term_kind_lem root_kind = refl
  term_kind_lem step_kind = refl
  term_kind_lem union_kind = refl
  term_kind_lem composition_kind = refl
  term_kind_lem filter_kind = refl
  term_kind_lem true_kind = refl
  term_kind_lem false_kind = refl
  term_kind_lem not_kind = refl
  term_kind_lem and_kind = refl
  term_kind_lem or_kind = refl
  term_kind_lem in_kind = refl

  -- kinds 0 to 5 decode to paths, 6 to 11 to qualifiers
  pub term_path : {k : ℕ} → Kind k → k ≤ 5 → term_by ts (row k x y z) ≡ of_path (as_path (term_by ts (row k x y z)))
  unfolding term_by as_path
  term_path void_kind h = refl
  term_path root_kind h = refl
  term_path step_kind h = refl
  term_path union_kind h = refl
  term_path composition_kind h = refl
  term_path filter_kind h = refl
  term_path true_kind h = absurd (omega arith)
  term_path false_kind h = absurd (omega arith)
  term_path not_kind h = absurd (omega arith)
  term_path and_kind h = absurd (omega arith)
  term_path or_kind h = absurd (omega arith)
  term_path in_kind h = absurd (omega arith)

  pub term_qualifier : {k : ℕ} → Kind k → 6 ≤ k →
      term_by ts (row k x y z) ≡ of_qualifier (as_qualifier (term_by ts (row k x y z)))
  unfolding term_by as_qualifier
  term_qualifier void_kind h = absurd (omega arith)
  term_qualifier root_kind h = absurd (omega arith)
  term_qualifier step_kind h = absurd (omega arith)
  term_qualifier union_kind h = absurd (omega arith)
  term_qualifier composition_kind h = absurd (omega arith)
  term_qualifier filter_kind h = absurd (omega arith)
  term_qualifier true_kind h = refl
  term_qualifier false_kind h = refl
  term_qualifier not_kind h = refl
  term_qualifier and_kind h = refl
  term_qualifier or_kind h = refl
  term_qualifier in_kind h = refl
