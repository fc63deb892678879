-- Answers of replace, by computation: each refusal, which of two comes first; lists that are covered, of any length;
-- the paths of rows; and lists of paths by which a node is lost.
use Rattle.std.specs.Prelude.{ℕ, refl, true, false, List, [], ◌∷◌, ◌++◌, replicate}
use Rattle.std.proofs.Common.{⊎_elim, arith}
use Rattle.std.proofs.Math.Option.{Option-elim}
use Rattle.common.specs.Bounded.{first_below, all_below}
use Rattle.common.specs.Lists.{any_of}
use Rattle.common.specs.values.Expected.{◌is◌, AllRight}
use Rattle.xpath.specs.Document.{Document, node, root_node}
use Rattle.xpath.specs.Term.{AxisStep}
use Rattle.terms.specs.Row.{row}
use Rattle.terms.specs.Fields.{is_path, held_path}
use Rattle.terms.specs.Terms.{path_at}
use Rattle.rules.specs.values.Mistakes.{IsFalse}
use Rattle.calls.specs.Book.{step, Book, book, Answer, answer}
use Rattle.replacement.specs.Covered.{is_held_step, is_in, is_replaced, is_replaced_at, is_covered}
use Rattle.replacement.specs.ReplaceCall.{are_bad_lists, first_uncovered, replace_answer}
use Rattle.replacement.specs.NoneLost.{paths_of, NoneLost}

-- child::1, child::*, true; child::1 <= child::*, child::* <= child::*, true => true, a step between rows that are not
-- held, and the first step again
abbrev held : Book
held =
    book (row 2 1 0 1 ∷ row 2 1 1 0 ∷ row 6 0 0 0 ∷ [])
    (step 8 0 1 0 0 ∷ step 2 1 1 0 0 ∷ step 2 2 2 0 0 ∷ step 2 9 9 0 0 ∷ step 8 0 1 0 0 ∷ [])

-- the answer for old rows, new rows and steps
abbrev replace : (old new by : List ℕ) → Answer
replace = replace_answer held

pub accepted :
    AllRight
    -- nothing for nothing, nothing for something
    (replace [] [] [] is answer 0 0
    ∷ replace [] (1 ∷ []) [] is answer 0 0
    -- one row, by the first step and by the last one; a row for itself
    ∷ replace (0 ∷ []) (1 ∷ []) (1 ∷ []) is answer 0 0
    ∷ replace (0 ∷ []) (1 ∷ []) (5 ∷ []) is answer 0 0
    ∷ replace (1 ∷ []) (1 ∷ []) (2 ∷ []) is answer 0 0
    -- two rows in another order than the new ones, two rows by one
    ∷ replace (1 ∷ 0 ∷ []) (0 ∷ 1 ∷ []) (2 ∷ 1 ∷ []) is answer 0 0
    ∷ replace (0 ∷ 1 ∷ []) (1 ∷ []) (1 ∷ 2 ∷ []) is answer 0 0
    -- a row twice, by one step and by two; a new row twice
    ∷ replace (0 ∷ 0 ∷ []) (1 ∷ 1 ∷ []) (1 ∷ 1 ∷ []) is answer 0 0
    ∷ replace (0 ∷ 0 ∷ []) (1 ∷ []) (1 ∷ 5 ∷ []) is answer 0 0
    -- new rows that are not held, or qualifiers, before and after the one that is needed
    ∷ replace (0 ∷ []) (9 ∷ 2 ∷ 1 ∷ []) (1 ∷ []) is answer 0 0
    ∷ replace (0 ∷ []) (1 ∷ 9 ∷ 2 ∷ []) (1 ∷ []) is answer 0 0
    ∷ replace (0 ∷ []) (replicate 63 9 ++ (1 ∷ [])) (1 ∷ []) is answer 0 0
    -- 64 of each
    ∷ replace (replicate 64 0) (replicate 64 1) (replicate 64 1) is answer 0 0
    ∷ replace (replicate 64 0) (1 ∷ []) (replicate 64 1) is answer 0 0
    ∷ replace [] (replicate 64 1) [] is answer 0 0
    ∷ [])
unfolding replace_answer are_bad_lists first_uncovered first_below is_replaced_at is_replaced is_held_step is_in any_of
    held_path is_path Option-elim
accepted = refl

-- rows past those held are not looked at: a right row that is not held may be in the new list
pub not_held :
    AllRight
    (replace_answer (book (row 2 1 0 1 ∷ []) (step 8 0 9 0 0 ∷ [])) (0 ∷ []) (9 ∷ []) (1 ∷ []) is answer 0 0
    ∷ [])
unfolding replace_answer are_bad_lists first_uncovered first_below is_replaced_at is_replaced is_held_step is_in any_of
    held_path is_path Option-elim
not_held = refl

pub bad_lists :
    AllRight
    -- 65 old rows, 65 new ones, 65 steps, 65 of each
    (replace (replicate 65 0) (1 ∷ []) (replicate 65 1) is answer 25 0
    ∷ replace (0 ∷ []) (replicate 65 1) (1 ∷ []) is answer 25 0
    ∷ replace [] (replicate 65 1) [] is answer 25 0
    ∷ replace (replicate 64 0) (1 ∷ []) (replicate 65 1) is answer 25 0
    ∷ replace (replicate 65 0) (replicate 65 1) (replicate 65 1) is answer 25 0
    -- a step too few, a step too many
    ∷ replace (0 ∷ 0 ∷ []) (1 ∷ []) (1 ∷ []) is answer 25 0
    ∷ replace (0 ∷ []) (1 ∷ []) [] is answer 25 0
    ∷ replace (0 ∷ []) (1 ∷ []) (1 ∷ 1 ∷ []) is answer 25 0
    ∷ replace [] [] (1 ∷ []) is answer 25 0
    -- before a step that isn't as it must be
    ∷ replace (0 ∷ []) (1 ∷ []) (9 ∷ 9 ∷ []) is answer 25 0
    ∷ replace (0 ∷ 0 ∷ []) (1 ∷ []) (9 ∷ []) is answer 25 0
    ∷ replace (replicate 65 0) (1 ∷ []) (replicate 65 9) is answer 25 0
    ∷ replace (0 ∷ []) (replicate 65 1) (9 ∷ []) is answer 25 0
    ∷ [])
unfolding replace_answer are_bad_lists first_uncovered first_below is_replaced_at is_replaced is_held_step is_in any_of
    held_path is_path Option-elim
bad_lists = refl

pub not_covered :
    AllRight
    -- the right row of the step is not in the new list, where its left row is; there is no new row
    (replace (0 ∷ []) (0 ∷ 2 ∷ []) (1 ∷ []) is answer 26 1
    ∷ replace (0 ∷ []) [] (1 ∷ []) is answer 26 1
    -- the step is that of another old row; two steps exchanged
    ∷ replace (0 ∷ []) (1 ∷ []) (2 ∷ []) is answer 26 1
    ∷ replace (0 ∷ 1 ∷ []) (1 ∷ []) (2 ∷ 1 ∷ []) is answer 26 1
    -- left and right exchanged
    ∷ replace (1 ∷ []) (0 ∷ []) (1 ∷ []) is answer 26 1
    -- a qualifier's step; a step of rows that are not held
    ∷ replace (2 ∷ []) (2 ∷ []) (3 ∷ []) is answer 26 1
    ∷ replace (9 ∷ []) (9 ∷ []) (4 ∷ []) is answer 26 1
    -- step 0; the step after the last
    ∷ replace (0 ∷ []) (1 ∷ []) (0 ∷ []) is answer 26 1
    ∷ replace (0 ∷ []) (1 ∷ []) (6 ∷ []) is answer 26 1
    -- a later place, the first of two, the first of 64, the last of 64
    ∷ replace (0 ∷ 1 ∷ []) (1 ∷ []) (1 ∷ 1 ∷ []) is answer 26 2
    ∷ replace (0 ∷ 0 ∷ 0 ∷ 0 ∷ []) (1 ∷ []) (1 ∷ 1 ∷ 2 ∷ 0 ∷ []) is answer 26 3
    ∷ replace (replicate 64 0) (1 ∷ []) (replicate 64 2) is answer 26 1
    ∷ replace (replicate 64 0) (1 ∷ []) (replicate 63 1 ++ (2 ∷ [])) is answer 26 64
    ∷ [])
unfolding replace_answer are_bad_lists first_uncovered first_below is_replaced_at is_replaced is_held_step is_in any_of
    held_path is_path Option-elim
not_covered = refl

-- covered lists: none, and more rows than the call takes; a later step that isn't so, a step too few, a step too many
pub coverings :
    AllRight
    (is_covered held [] [] [] is true
    ∷ is_covered held [] (1 ∷ []) [] is true
    ∷ is_covered held (replicate 65 0) (replicate 65 1) (replicate 65 1) is true
    ∷ is_covered held (replicate 65 0) (1 ∷ []) (replicate 64 1 ++ (2 ∷ [])) is false
    ∷ is_covered held (0 ∷ 0 ∷ []) (1 ∷ []) (1 ∷ []) is false
    ∷ is_covered held (0 ∷ []) (1 ∷ []) (1 ∷ 1 ∷ []) is false
    ∷ [])
unfolding is_covered all_below is_replaced_at is_replaced is_held_step is_in any_of held_path is_path
coverings = refl

-- the paths of rows: a row twice, a qualifier, a row that is not held
pub paths :
    AllRight
    (paths_of held.rows [] is []
    ∷ paths_of held.rows (1 ∷ 0 ∷ 1 ∷ []) is
    (path_at held.rows 1 ∷ path_at held.rows 0 ∷ path_at held.rows 1 ∷ [])
    ∷ paths_of held.rows (2 ∷ 0 ∷ 3 ∷ []) is (path_at held.rows 0 ∷ [])
    ∷ [])
unfolding paths_of held_path is_path
paths = refl

-- elements 1 and 2 under the root
abbrev two_children : Document
two_children = root_node ∷ node 1 0 1 ∷ node 1 0 2 ∷ []

-- a node is lost by the second path of two, and where there is no new path, from the root and from another node
pub second_lost : IsFalse (NoneLost (AxisStep 1 0 1 ∷ AxisStep 1 0 2 ∷ []) (AxisStep 1 0 1 ∷ AxisStep 3 0 1 ∷ []))
unfolding IsFalse
second_lost claim =
    ⊎_elim (λ t. t) (⊎_elim (λ t. t) (λ t. t)) ((claim two_children tt 0 (omega arith) 2).1.0 tt)

pub all_lost : IsFalse (NoneLost (AxisStep 1 0 1 ∷ []) [])
unfolding IsFalse
all_lost claim = (claim two_children tt 0 (omega arith) 1).0 tt

pub lost_elsewhere : IsFalse (NoneLost (AxisStep 0 0 1 ∷ []) [])
unfolding IsFalse
lost_elsewhere claim = (claim two_children tt 1 (omega arith) 1).0 tt
