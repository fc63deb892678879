-- The answer of a select on a document of any size, test by test.
use Prim.Native.Nat.{ℕ, ◌≤◌, ◌<◌}
use mathlib.Core.Path.{◌≡◌, refl, ◌∙◌}
use mathlib.Core.Bool.{Bool, true, false}
use mathlib.Core.List.{List}
use native.Mathlib.Omega.{arith}
use lib.ListN.{length}
use borrow.Author.Tests.{le-leb, lt-leb, eq-eqb, ne_eqb}
use Rattle.std.specs.Prelude.{Ok, Err}
use Rattle.std.specs.Global.{Vec}
use Rattle.common.specs.declared.refusal.Refusal.TheVariants.{BadArgument}
use Rattle.xpath.specs.Document.{Document}
use Rattle.xpath.specs.Meaning.{selects}
use Rattle.terms.specs.Row.{Row}
use Rattle.terms.specs.Fields.{held_path}
use Rattle.terms.specs.Terms.{path_at}
use Rattle.set_selection.specs.Sets.{Image}
use Rattle.set_selection.specs.Evaluations.{Only}
use Rattle.set_selection.proofs.Evaluating.{image_of_only}
use Rattle.document_calls.specs.declared.selection_error.SelectionError.TheVariants.{Refused}
use Rattle.document_calls.specs.Selections.{NodesSelected, NodesSelectedFrom}

module _ (rs : List Row) (row : ℕ) (d : Document) where
  -- from one context node
  module _ (x : ℕ) where
    pub node_outside : length d ≤ x → NodesSelected rs row d x (Err (Refused (BadArgument 1)))
    node_outside h = rw (le-leb (length d) x h) refl

    module _ (inside : x < length d) where
      pub no_path_there : held_path rs row ≡ false → NodesSelected rs row d x (Err (Refused (BadArgument 2)))
      no_path_there h = rw (lt-leb (length d) x inside, h) refl

      pub nodes_marked : held_path rs row ≡ true → (from : List Bool) → Only (length d) x from → (v : Vec Bool)
          → Image (selects d (path_at rs row)) from v.items → NodesSelected rs row d x (Ok v)
      nodes_marked h from u v i = (
        rw (lt-leb (length d) x inside, h) refl,
        record {
          size = i.size ∙ u.size;
          each = λ y k. i.each y (omega (arith, k, u.size)) ∙ image_of_only (selects d (path_at rs row)) inside u y;
        },
      )

  -- from a set of them
  module _ (context : List Bool) where
    pub marks_of_another : ¬ (length context ≡ length d)
        → NodesSelectedFrom rs row d context (Err (Refused (BadArgument 1)))
    marks_of_another h = rw (ne_eqb (length context) (length d) h) refl

    module _ (size : length context ≡ length d) where
      pub no_path_from : held_path rs row ≡ false → NodesSelectedFrom rs row d context (Err (Refused (BadArgument 2)))
      no_path_from h = rw (eq-eqb (length context) (length d) size, h) refl

      pub nodes_marked_from : held_path rs row ≡ true → (v : Vec Bool)
          → Image (selects d (path_at rs row)) context v.items → NodesSelectedFrom rs row d context (Ok v)
      nodes_marked_from h v i = (
        rw (eq-eqb (length context) (length d) size, h) refl,
        record { size = i.size ∙ size; each = λ y k. i.each y (omega (arith, k, size)) },
      )
