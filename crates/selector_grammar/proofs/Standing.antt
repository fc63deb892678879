-- The rows that an accepted text leaves are accepted rows, and the row that it answers is the text's term.
use Prim.Native.Nat.{ℕ}
use mathlib.Core.Path.{◌≡◌}
use mathlib.Core.List.{List}
use native.Mathlib.Omega.{arith}
use Rattle.common.specs.Lists.{Every}
use Rattle.terms.specs.Row.{Row}
use Rattle.terms.specs.Terms.{of_path}
use Rattle.terms.specs.AcceptedRows.{Built}
use Rattle.selector_grammar.specs.Bytes.{Bytes}
use Rattle.selector_grammar.specs.Words.{number_of}
use Rattle.selector_grammar.specs.Grammar.{Union, Spells}
use Rattle.selector_grammar.specs.Denotes.{union_of, nest_path}
use Rattle.selector_grammar.specs.Answer.{Answers, outside, unnumbered, deep, full, held}
use Rattle.selector_grammar.proofs.Stands.{StepFits, Stands, path_stands}
use Rattle.selector_grammar.proofs.Fitting.{union_fits}
use Rattle.selector_grammar.proofs.Numbered.{NameFits, number_fits, path_numbered}

module _ (list t : Bytes) (rs : List Row) (b : Built rs) where
  pub answer_built : (n v : ℕ) (ss : List Row) → Answers list t rs n v ss → Built ss
  answer_built n v ss (outside h) = b
  answer_built n v ss (unnumbered s e) = b
  answer_built n v ss (deep s e h) = b
  answer_built n v ss (full s e h i) = b
  answer_built n v ss (held u s e h i) =
      (path_stands StepFits (λ a t c f. f.0) (union_of (number_of list) u) rs b (union_fits (number_of list) (number_fits list) u 32 0 s.fine e)
      h).built

-- and their names have 16 bits
module _ (list t : Bytes) (rs : List Row) (h : Every NameFits rs) where
  pub answer_numbered : (n v : ℕ) (ss : List Row) → Answers list t rs n v ss → Every NameFits ss
  answer_numbered n v ss (outside g) = h
  answer_numbered n v ss (unnumbered s e) = h
  answer_numbered n v ss (deep s e g) = h
  answer_numbered n v ss (full s e g i) = h
  answer_numbered n v ss (held u s e g i) =
      path_numbered (union_of (number_of list) u) rs h (union_fits (number_of list) (number_fits list) u 32 0 s.fine e)

-- what is known of an accepted text: its tree, and where its term stands
pub record Accepted (list t : Bytes) (v : ℕ) (ss : List Row) : Type 0 where
  pub tree : Union
  pub spells : Spells t tree
  pub stands : Stands ss v (of_path (union_of (number_of list) tree)) (nest_path (union_of (number_of list) tree))

module _ (list t : Bytes) (rs : List Row) (b : Built rs) where
  pub accepted : (n v : ℕ) (ss : List Row) → Answers list t rs n v ss → n ≡ 0 → Accepted list t v ss
  accepted n v ss (outside h) z = absurd (omega arith)
  accepted n v ss (unnumbered s e) z = absurd (omega arith)
  accepted n v ss (deep s e h) z = absurd (omega arith)
  accepted n v ss (full s e h i) z = absurd (omega arith)
  accepted n v ss (held u s e h i) z =
      record {
        tree = u;
        spells = s;
        stands = path_stands StepFits (λ a t c f. f.0) (union_of (number_of list) u) rs b (union_fits (number_of list) (number_fits list) u 32 0
            s.fine e) h;
      }
