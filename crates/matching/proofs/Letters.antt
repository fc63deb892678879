-- What the letters stand for on a table of accepted rows: at most one number each.
use Prim.Native.Nat.{ℕ, zero, suc, ◌<◌, ◌≤◌}
use mathlib.Core.Path.{◌≡◌, refl, sym, ◌∙◌, ap, subst}
use mathlib.Core.List.{List, [], ◌∷◌}
use mathlib.Core.Logic.{⊎_elim}
use native.Mathlib.Omega.{arith}
use lib.Dec.{T}
use lib.ListN.{length, get_or, get_or-eq_default}
use Rattle.xpath.specs.Term.{Path, Qualifier}
use Rattle.common.proofs.Reflect.{facts, le_or_lt}
use Rattle.terms.specs.Row.{Row, row_at}
use Rattle.terms.specs.Fields.{max_kind, is_path, is_qualifier, held_path, held_qualifier}
use Rattle.terms.specs.Terms.{of_path, of_qualifier, path_at, qualifier_at}
use Rattle.terms.specs.AcceptedRows.{Built}
use Rattle.terms.proofs.Terms.{path_term, qualifier_term}
use Rattle.terms.proofs.Built.{built_terms_differ}
use Rattle.rules.specs.Form.{PathLetter, QualifierLetter, AxisLetter, TestLetter}
use Rattle.rules.specs.Instance.{Letters}
use Rattle.matching.specs.private.Pattern.{letter_count, path_letter_number, qualifier_letter_number}
use Rattle.matching.specs.private.Pattern.{axis_letter_number}
use Rattle.matching.specs.private.Pattern.{test_letter_number}
use Rattle.matching.specs.private.Pattern.{name_letter}
use Rattle.matching.specs.private.RowYields.{suits}

-- what a letter stands for
pub data Meant : Type 0 where
  a_path : Path → Meant
  a_qualifier : Qualifier → Meant
  a_number : ℕ → Meant
  nothing : Meant

abbrev pub meanings : Letters → List Meant
meanings e =
    a_path (e.path PathLetter.p)
    ∷ a_path (e.path PathLetter.q)
    ∷ a_path (e.path PathLetter.r)
    ∷ a_path (e.path PathLetter.s)
    ∷ a_qualifier (e.qualifier QualifierLetter.f)
    ∷ a_qualifier (e.qualifier QualifierLetter.g)
    ∷ a_qualifier (e.qualifier QualifierLetter.h)
    ∷ a_number (e.axis AxisLetter.a)
    ∷ a_number (e.axis AxisLetter.b)
    ∷ a_number (e.test TestLetter.N).test
    ∷ a_number (e.test TestLetter.N).name
    ∷ a_number (e.test TestLetter.M).test
    ∷ a_number (e.test TestLetter.M).name
    ∷ []

unfoldable pub meant : Letters → ℕ → Meant
meant e k = get_or (meanings e) k nothing

-- v is a held row whose term is meant, or the number that is meant
abbrev pub Stands : List Row → Meant → ℕ → Type 0
Stands rs (a_path t) v = T (held_path rs v) × (t ≡ path_at rs v)
Stands rs (a_qualifier t) v = T (held_qualifier rs v) × (t ≡ qualifier_at rs v)
Stands rs (a_number n) v = n ≡ v
Stands rs nothing v = ⊥

-- v is what letter k stands for in the choice e
unfoldable pub Means : List Row → Letters → ℕ → ℕ → Type 0
Means rs e k v = Stands rs (meant e k) v

pub means_small : (rs : List Row) (e : Letters) (k v : ℕ) → Means rs e k v → k < letter_count
unfolding Means meant
means_small rs e k v s =
    ⊎_elim (λ h. absurd (subst (λ m. Stands rs m v) (get_or-eq_default (meanings e) nothing h) s)) (λ h. h)
    (le_or_lt letter_count k)

-- the choice of the letters by their values
unfoldable pub letters_of : List Row → List ℕ → Letters
letters_of rs ys =
    record {
      path = λ x. path_at rs (get_or ys (path_letter_number x) 0);
      qualifier = λ x. qualifier_at rs (get_or ys (qualifier_letter_number x) 0);
      axis = λ x. get_or ys (axis_letter_number x) 0;
      test = λ x. record { test = get_or ys (test_letter_number x) 0; name = get_or ys (name_letter x) 0 };
    }

-- a letter's value is what it stands for in that choice
pub value_means : (rs : List Row) (ys : List ℕ) (k : ℕ) → k < letter_count → T (suits rs k (get_or ys k 0))
    → Means rs (letters_of rs ys) k (get_or ys k 0)
unfolding Means meant letters_of suits path_letter_number qualifier_letter_number axis_letter_number
    test_letter_number name_letter
value_means rs ys zero h s = (s, refl)
value_means rs ys (suc zero) h s = (s, refl)
value_means rs ys (suc (suc zero)) h s = (s, refl)
value_means rs ys (suc (suc (suc zero))) h s = (s, refl)
value_means rs ys (suc (suc (suc (suc zero)))) h s = (s, refl)
value_means rs ys (suc (suc (suc (suc (suc zero))))) h s = (s, refl)
value_means rs ys (suc (suc (suc (suc (suc (suc zero)))))) h s = (s, refl)
value_means rs ys (suc (suc (suc (suc (suc (suc (suc zero))))))) h s = refl
value_means rs ys (suc (suc (suc (suc (suc (suc (suc (suc zero)))))))) h s = refl
value_means rs ys (suc (suc (suc (suc (suc (suc (suc (suc (suc zero))))))))) h s = refl
value_means rs ys (suc (suc (suc (suc (suc (suc (suc (suc (suc (suc zero)))))))))) h s = refl
value_means rs ys (suc (suc (suc (suc (suc (suc (suc (suc (suc (suc (suc zero))))))))))) h s = refl
value_means rs ys (suc (suc (suc (suc (suc (suc (suc (suc (suc (suc (suc (suc zero)))))))))))) h s = refl
value_means rs ys (suc (suc (suc (suc (suc (suc (suc (suc (suc (suc (suc (suc (suc k))))))))))))) h s =
    absurd (omega arith)

-- a held path and a held qualifier, by their kinds
module _ (rs : List Row) where
  pub held_path_lem : (v : ℕ) → T (held_path rs v) → (v < length rs) × ((row_at rs v).kind ≤ 5)
  unfolding held_path is_path
  held_path_lem v t = simp facts at t

  pub held_qualifier_lem : (v : ℕ) → T (held_qualifier rs v) → (v < length rs)
      × ((6 ≤ (row_at rs v).kind) × ((row_at rs v).kind ≤ max_kind))
  unfolding held_qualifier is_qualifier
  held_qualifier_lem v t = simp facts at t

-- held rows with the same term are one row
module _ {rs : List Row} (built : Built rs) where
  pub same_path : (v w : ℕ) → (v < length rs) × ((row_at rs v).kind ≤ 5) → (w < length rs) × ((row_at rs w).kind ≤ 5) →
      path_at rs v ≡ path_at rs w → v ≡ w
  same_path v w (g, k) (h, l) e =
      built_terms_differ built v w g h (path_term rs v k ∙ ap of_path e ∙ sym (path_term rs w l))

  pub same_qualifier : (v w : ℕ) → (v < length rs) × ((6 ≤ (row_at rs v).kind) × ((row_at rs v).kind ≤ max_kind)) →
      (w < length rs) × ((6 ≤ (row_at rs w).kind) × ((row_at rs w).kind ≤ max_kind)) →
      qualifier_at rs v ≡ qualifier_at rs w → v ≡ w
  same_qualifier v w (g, (k, l)) (h, (m, n)) e =
      built_terms_differ built v w g h (qualifier_term rs v k l ∙ ap of_qualifier e ∙ sym (qualifier_term rs w m n))

  pub means_one : (e : Letters) (k v w : ℕ) → Means rs e k v → Means rs e k w → v ≡ w
  unfolding Means
  means_one e k v w s t = by (meant e k) s t
    where
      by : (m : Meant) → Stands rs m v → Stands rs m w → v ≡ w
      by (a_path t) p q = same_path v w (held_path_lem rs v p.0) (held_path_lem rs w q.0) (sym p.1 ∙ q.1)
      by (a_qualifier t) p q =
          same_qualifier v w (held_qualifier_lem rs v p.0) (held_qualifier_lem rs w q.0) (sym p.1 ∙ q.1)
      by (a_number n) p q = sym p ∙ q
      by nothing p q = absurd p
