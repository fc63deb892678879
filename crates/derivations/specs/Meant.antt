-- What a derivation found means.
use Rattle.std.specs.Prelude.{ℕ}
use Rattle.selector_grammar.specs.Bytes.{Bytes}
use Rattle.selector_grammar.specs.Words.{number_of}
use Rattle.selector_grammar.specs.Grammar.{Union, Spells}
use Rattle.selector_grammar.specs.Denotes.{union_of}
use Rattle.rules.specs.Claim.{Containment, IsTrue}
use Rattle.replacement.specs.NoneLost.{StepSays}
use Rattle.session.specs.declared.session.Session.{Session}
use Rattle.session.specs.View.{view}
use Rattle.derivations.specs.Derived.{IsMade, Derived}

-- of a derivation in the session v, by its step k
pub record DerivedLaw (names old new : Bytes) (v : Session) (k : ℕ) : Type 0 where
  -- calls lead from a fresh session to v
  pub made : IsMade v
  -- both selectors are texts of the grammar
  pub old_tree : Union
  pub new_tree : Union
  pub old_spells : Spells old old_tree
  pub new_spells : Spells new new_tree
  -- the step says of their paths that the old one is contained in the new one
  pub says : (u w : Union) → Spells old u → Spells new w
      → StepSays (view v) k (union_of (number_of names) u) (union_of (number_of names) w)
  -- and so it is: on every document of any size, from every node, each node that the old one selects, the new one
  -- selects
  pub contained : (u w : Union) → Spells old u → Spells new w
      → IsTrue (Containment (union_of (number_of names) u) (union_of (number_of names) w))

abbrev pub DerivedGuarantee : Type 0
DerivedGuarantee = (names old new : Bytes) (v : Session) (k : ℕ) → Derived names old new v k
    → DerivedLaw names old new v k
