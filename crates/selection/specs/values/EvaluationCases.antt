-- Values of the evaluation at the edges of its limit and of its buffer.
use Rattle.std.specs.Prelude.{ℕ, refl, List, [], ◌∷◌, replicate}
use Rattle.common.specs.Bounded.{any_below, sum_below}
use Rattle.xpath.specs.Document.{root_node, kind_at, parent_at, name_at, is_child, document_of}
use Rattle.xpath.specs.Axis.{on_axis, passes}
use Rattle.xpath.specs.Meaning.{selects}
use Rattle.xpath.specs.Visits.{visits}
use Rattle.common.specs.values.Expected.{◌is◌, AllRight}
use Rattle.xpath.specs.values.LogCases.{log_document}
use Rattle.terms.specs.Row.{Row, table_of, entries_from}
use Rattle.terms.specs.Terms.{as_path, term_by, terms, term_at}
use Rattle.selection.specs.Marks.{written}
use Rattle.selection.specs.Evaluation.{EvaluationAnswer, selected, no_room, too_many_visits, Outcome, outcome}
use Rattle.selection.specs.Evaluation.{path_evaluated}
use Rattle.selection.specs.Evaluation.{evaluated}

-- child::log, child::mark, child::log/child::mark, true
abbrev table : List Row
table = table_of (2 ∷ 1 ∷ 0 ∷ 1 ∷ 2 ∷ 1 ∷ 0 ∷ 2 ∷ 4 ∷ 0 ∷ 1 ∷ 0 ∷ 6 ∷ 0 ∷ 0 ∷ 0 ∷ [])

-- on the document of the log cases, from its root, with a buffer of sevens
abbrev on_log : (row limit size : ℕ) → Outcome
on_log row limit size = evaluated table row log_document 0 limit (replicate size 7)

pub evaluations :
    AllRight
    -- row 2 takes three visits and selects node 2 of seven; bytes beyond stay
    (on_log 2 3 9 is outcome (selected 3) (0 ∷ 0 ∷ 1 ∷ 0 ∷ 0 ∷ 0 ∷ 0 ∷ 7 ∷ 7 ∷ [])
    ∷ on_log 2 4 7 is outcome (selected 3) (0 ∷ 0 ∷ 1 ∷ 0 ∷ 0 ∷ 0 ∷ 0 ∷ [])
    -- one visit too few, one byte too few, both
    ∷ on_log 2 2 9 is outcome too_many_visits (replicate 9 7)
    ∷ on_log 2 3 6 is outcome no_room (replicate 6 7)
    ∷ on_log 2 2 6 is outcome no_room (replicate 6 7)
    -- a leaf takes one visit
    ∷ on_log 0 1 8 is outcome (selected 1) (0 ∷ 1 ∷ 0 ∷ 0 ∷ 0 ∷ 0 ∷ 0 ∷ 7 ∷ [])
    ∷ on_log 0 0 8 is outcome too_many_visits (replicate 8 7)
    -- a row that is no path, and one past the table, are read as the void path
    ∷ on_log 3 1 8 is outcome (selected 1) (0 ∷ 0 ∷ 0 ∷ 0 ∷ 0 ∷ 0 ∷ 0 ∷ 7 ∷ [])
    ∷ on_log 4 1 8 is outcome (selected 1) (0 ∷ 0 ∷ 0 ∷ 0 ∷ 0 ∷ 0 ∷ 0 ∷ 7 ∷ [])
    ∷ [])
unfolding path_evaluated written selects visits on_axis passes document_of kind_at parent_at name_at is_child any_below
    sum_below table_of entries_from as_path term_by terms term_at
evaluations = refl

-- the void path on so many rows
abbrev on_rows : ℕ → EvaluationAnswer
on_rows size = (evaluated [] 0 (replicate size root_node) 0 1 (replicate 600 7)).answer

-- 512 nodes are taken, one more is not
pub most_nodes : AllRight (on_rows 512 is selected 1 ∷ on_rows 513 is no_room ∷ [])
unfolding path_evaluated selects visits entries_from as_path term_by terms term_at
most_nodes = refl
