-- What a derivation that was found means: the session is one that calls lead to, and so what its steps say is true.
use Prim.Native.Nat.{ℕ, ◌-◌}
use mathlib.Core.Path.{◌≡◌, ap₂, subst, ◌∙◌}
use mathlib.Core.Bool.{Bool, true, false, cond}
use mathlib.Core.List.{List, [], ◌∷◌}
use mathlib.Core.Logic.{⊎_elim}
use native.Mathlib.Omega.{arith}
use lib.Dec.{T}
use lib.ListN.{length, get_or}
use Rattle.xpath.specs.Term.{Path}
use Rattle.terms.specs.Row.{Row}
use Rattle.terms.specs.Fields.{held_path}
use Rattle.terms.specs.Terms.{path_at}
use Rattle.rules.specs.Claim.{Claim, Containment, IsTrue}
use Rattle.selector_grammar.specs.Bytes.{Bytes}
use Rattle.selector_grammar.specs.Words.{number_of}
use Rattle.selector_grammar.specs.Grammar.{Union, Spells}
use Rattle.selector_grammar.specs.Denotes.{union_of}
use Rattle.calls.proofs.Reached.{HeldLaws, reachable_laws}
use Rattle.replacement.specs.NoneLost.{Some, paths_of, StepSays}
use Rattle.replacement.proofs.ByTerms.{replaced_iff}
use Rattle.session.specs.declared.session.Session.{Session}
use Rattle.session.specs.View.{view}
use Rattle.session.proofs.Simulation.{Kept}
use Rattle.host_calls.proofs.Saying.{saying_found}
use Rattle.derivations.specs.Derived.{IsMade, Derived}
use Rattle.derivations.specs.Meant.{DerivedLaw, DerivedGuarantee}
use Rattle.theorems.proofs.TwoTexts.{made_kept, Stands, made_both, old_stands, new_stands}

-- the one row of a list has a path that passes, if some row has
only_path : (rs : List Row) (P : Path → Type 0) (n : ℕ) → Some P (paths_of rs (n ∷ [])) → P (path_at rs n)
unfolding paths_of
only_path rs P n s = by_test (held_path rs n) s
  where
    by_test : (b : Bool) → Some P (cond b (path_at rs n ∷ []) []) → P (path_at rs n)
    by_test true x = ⊎_elim (λ p. p) (λ e. absurd e) x
    by_test false x = absurd x

laws_of : (s : Session) → Kept s → HeldLaws (view s).rows (view s).steps
laws_of s h = (reachable_laws h.reachable).held

-- what a step of a session that calls lead to says is true
pub kept_true : (s : Session) → Kept s → (k : ℕ) (p q : Path) → StepSays (view s) k p q → IsTrue (Containment p q)
kept_true s h k p q says =
    let lower = says.0 in
    let upper = says.1 in
    subst IsTrue says.2 ((laws_of s h).claims (k - 1) (omega (arith, lower, upper)))

module _ (names old new : Bytes) (v : Session) (k : ℕ) (d : Derived names old new v k) where
  made : IsMade v
  made = made_both names old new d.s d.u v d.i d.j d.made d.first d.second

  first : Stands names old v d.i
  first = old_stands names old new d.s d.u v d.i d.j d.made d.first d.second

  second : Stands names new v d.j
  second = new_stands names old new d.s d.u v d.i d.j d.made d.first d.second

  -- the step says it of the rows' paths
  rows_say : StepSays (view v) k (path_at (view v).rows d.i) (path_at (view v).rows d.j)
  rows_say =
      only_path (view v).rows (StepSays (view v) k (path_at (view v).rows d.i)) d.j
      ((replaced_iff (view v) (laws_of v (made_kept v made)) (d.j ∷ []) d.i k).0
      (saying_found (view v) d.i d.j k d.said (λ e. let held = d.held in omega (arith, held, e)))).1

  -- and these are the paths of both trees
  says : (u w : Union) → Spells old u → Spells new w
      → StepSays (view v) k (union_of (number_of names) u) (union_of (number_of names) w)
  says u w old-spells new-spells = (
    rows_say.0,
    rows_say.1,
    rows_say.2 ∙ ap₂ (λ p q. Containment p q) (first.path u old-spells) (second.path w new-spells),
  )

pub derived_guarantee : DerivedGuarantee
derived_guarantee names old new v k d =
    record {
      made = made names old new v k d;
      old_tree = (first names old new v k d).tree;
      new_tree = (second names old new v k d).tree;
      old_spells = (first names old new v k d).spells;
      new_spells = (second names old new v k d).spells;
      says = says names old new v k d;
      contained = λ u w old-spells new-spells.
          kept_true v (made_kept v (made names old new v k d)) k _ _ (says names old new v k d u w old-spells new-spells);
    }
