-- Ways back and rule 59, by numbers.
use Rattle.std.specs.Prelude.{ℕ, ◌≡◌, refl, List, [], ◌∷◌}
use mathlib.Core.List.Memᴰ
use Rattle.std.proofs.Common.{inr, ⊎_elim}
use Rattle.std.proofs.Math.Option.{Option, none, some}
use Rattle.common.specs.values.Expected.{◌is◌, AllRight}
use Rattle.xpath.specs.Term.{Path, Qualifier, Void, Root, AxisStep, Union, Composition, Filter, Not, In}
use Rattle.rules.specs.RuleTable.{rules}
use Rattle.rules.specs.Claim.{Claim, Containment}
use Rattle.rules.specs.WayBack.{opposites, lookup, opposite, joined, way_back}
use Rattle.rules.specs.Yields.{forms_in, forms_of, FormYields, WayBackYields, Yields}

-- for every test N: self::N, then the opposite axis with node(); the other axes have none
pub steps_back :
    (t c : ℕ) →
    AllRight
    (way_back (AxisStep 0 t c) is some (Composition (AxisStep 0 t c) (AxisStep 0 2 0))
    ∷ way_back (AxisStep 1 t c) is some (Composition (AxisStep 0 t c) (AxisStep 2 2 0))
    ∷ way_back (AxisStep 2 t c) is none
    ∷ way_back (AxisStep 3 t c) is some (Composition (AxisStep 0 t c) (AxisStep 4 2 0))
    ∷ way_back (AxisStep 4 t c) is none
    ∷ way_back (AxisStep 5 t c) is some (Composition (AxisStep 0 t c) (AxisStep 6 2 0))
    ∷ way_back (AxisStep 6 t c) is none
    ∷ way_back (AxisStep 7 t c) is some (Composition (AxisStep 0 t c) (AxisStep 8 2 0))
    ∷ way_back (AxisStep 8 t c) is some (Composition (AxisStep 0 t c) (AxisStep 7 2 0))
    ∷ way_back (AxisStep 9 t c) is none
    ∷ way_back (AxisStep 10 t c) is none
    ∷ way_back (AxisStep 11 t c) is none
    ∷ way_back (AxisStep 12 t c) is none
    ∷ [])
unfolding way_back opposite lookup opposites
steps_back t c = refl

-- where v and w are the ways back of p and q, those of p|q, p/q and p[f]
abbrev Joined : Option Path → Option Path → (union composition filter : Option Path) → Qualifier → Type 0
Joined v w union composition filter f =
    (p q : Path) → way_back p ≡ v → way_back q ≡ w →
    (way_back (Union p q) ≡ union) × (way_back (Composition p q) ≡ composition) × (way_back (Filter p f) ≡ filter)

-- p's first in a union, q's first in a composition, .[f] before p's
pub joined_back : (v w : Path) (f : Qualifier) →
    Joined (some v) (some w) (some (Union v w)) (some (Composition w v))
    (some (Composition (Filter (AxisStep 0 2 0) f) v)) f
unfolding way_back joined
joined_back v w f p q e h = (rw (e, h) refl, rw (e, h) refl, rw e refl)

-- where an operand has none, nor has the path
pub none_back : (v w : Path) (f : Qualifier) →
    Joined none (some w) none none none f × Joined none none none none none f
    × Joined (some v) none none none (some (Composition (Filter (AxisStep 0 2 0) f) v)) f
unfolding way_back joined
none_back v w f = (
  λ p q e h. (rw (e, h) refl, rw (e, h) refl, rw e refl),
  λ p q e h. (rw (e, h) refl, rw (e, h) refl, rw e refl),
  λ p q e h. (rw (e, h) refl, rw (e, h) refl, rw e refl),
)

pub others_back : AllRight (way_back Void is none ∷ way_back Root is none ∷ [])
unfolding way_back
others_back = refl

-- for every path r that has a way back w, rule 59 yields r <= r[some w] from no premise
pub way_back_yielded : (r w : Path) → way_back r ≡ some w → Yields 59 (Containment r (Filter r (Not (In w Void)))) []
way_back_yielded r w e =
    inr (record { rule = refl; path = r; back = w; is_way_back = e; conclusion = refl; premises = refl })

-- and it yields nothing else
pub way_back_alone : (c : Claim) (cs : List Claim) → Yields 59 c cs →
    (r : Path) × (w : Path) × (way_back r ≡ some w) × (Containment r (Filter r (Not (In w Void))) ≡ c) × ([] ≡ cs)
unfolding forms_of forms_in rules
way_back_alone c cs y =
    ⊎_elim
    (λ (f : FormYields 59 c cs). absurd (Memᴰ.not-nil f.of_rule))
    (λ (b : WayBackYields 59 c cs). (b.path, b.back, b.is_way_back, b.conclusion, b.premises))
    y
