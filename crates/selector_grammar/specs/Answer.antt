-- The answer to a text call on the rows held, by the grammar, the term of a tree, its names and the rows that it needs.
use Rattle.std.specs.Prelude.{ℕ, ◌<◌, ◌≤◌, ◌≡◌, List, length}
use Rattle.std.proofs.Math.Option.{none, some}
use Rattle.common.specs.Refusals.{too_deep, terms_full, outside_grammar, unlisted_name}
use Rattle.terms.specs.Row.{Row, max_rows}
use Rattle.terms.specs.Nesting.{max_nesting}
use Rattle.selector_grammar.specs.Bytes.{Bytes}
use Rattle.selector_grammar.specs.Words.{number_of}
use Rattle.selector_grammar.specs.Grammar.{Union, Spells, Outside}
use Rattle.selector_grammar.specs.Denotes.{unlisted, union_names, union_of, put_path, nest_path}

-- number, value, and the rows held afterwards
pub record Reply : Type 0 where
  pub number : ℕ
  pub value : ℕ
  pub rows : List Row

abbrev pub reply : ℕ → ℕ → List Row → Reply
reply n v rs = record { number = n; value = v; rows = rs }

-- in the order 18, 19, 3, 11; else 0 with the term's row, and the rows that the term needs are held
pub data Answers (list t : Bytes) (rs : List Row) : (number value : ℕ) → List Row → Type 0 where
  outside : {k : ℕ} → Outside t k → Answers list t rs outside_grammar k rs
  unnumbered : {u : Union} {k : ℕ} → Spells t u → unlisted (number_of list) (union_names u 0) ≡ some k
      → Answers list t rs unlisted_name k rs
  deep : {u : Union} → Spells t u → unlisted (number_of list) (union_names u 0) ≡ none
      → max_nesting < nest_path (union_of (number_of list) u) → Answers list t rs too_deep 0 rs
  full : {u : Union} → Spells t u → unlisted (number_of list) (union_names u 0) ≡ none
      → nest_path (union_of (number_of list) u) ≤ max_nesting
      → max_rows < length (put_path (union_of (number_of list) u) rs).rows → Answers list t rs terms_full 0 rs
  held : (u : Union) → Spells t u → unlisted (number_of list) (union_names u 0) ≡ none
      → nest_path (union_of (number_of list) u) ≤ max_nesting
      → length (put_path (union_of (number_of list) u) rs).rows ≤ max_rows
      → Answers list t rs 0 (put_path (union_of (number_of list) u) rs).at
      (put_path (union_of (number_of list) u) rs).rows
