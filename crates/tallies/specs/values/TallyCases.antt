-- Values of the definitions, by computation.
use Rattle.std.specs.Prelude.{ℕ, zero, suc, ◌≤◌, ◌<◌, ◌≡◌, refl, Bool, true, false, cond, List, [], ◌∷◌, map, length}
use Rattle.std.specs.Prelude.{get_or, replicate, set}
use Prim.Native.String.{String, ◌++◌}
use Rattle.std.proofs.Math.Bool.{decide}
use Rattle.std.proofs.Math.Option.{Option-elim}
use Rattle.std.proofs.Common.{le-leb}
use Rattle.std.proofs.lemmas.Bool.{lt-leb}
use Rattle.common.specs.Bounded.{first_below}
use Rattle.common.specs.values.Expected.{◌is◌, AllRight}
use Rattle.terms.specs.Row.{table_of, entries_from, same_row, find}
use Rattle.terms.specs.Fields.{fields_of, is_path, is_qualifier, held_path, held_qualifier, field_ok, bad_place}
use Rattle.terms.specs.Nesting.{operand_nesting, nesting_by, nestings, nesting}
use Rattle.terms.specs.Terms.{as_path, as_qualifier, term_by, terms, term_at}
use Rattle.rules.specs.RuleTable.{rules}
use Rattle.rules.specs.Claim.{says}
use Rattle.rules.specs.Yields.{forms_in, forms_of, first_count, premise_count}
use Rattle.rules.specs.private.RuleFits.{rule_fits}
use Rattle.rules.specs.Decision.{yields_dec}
use Rattle.lines.specs.Ascii.{ascii}
use Rattle.lines.specs.Line.{in_first_line, lines, in_first_part, parts, same_bytes, is_line}
use Rattle.common.specs.Lists.{all_of}
use Rattle.lines.specs.Number.{is_digit, is_decimal, append_digits, numbers_up_to, numbers_of}
use Rattle.calls.specs.Book.{Step, step, answer, accepted}
use Rattle.calls.specs.TermCall.{term_answer}
use Rattle.calls.specs.StepCall.{same_sort, bad_side_of, premise_ok, bad_premise_of, claim_of, premises_of}
use Rattle.calls.specs.StepCall.{step_answer_by, is_yielded, step_answer}
use Rattle.calls.specs.represent.Tables.{steps_of}
use Rattle.calls.specs.Uses.{uses_of}
use Rattle.session.specs.View.{view, fresh_session, with_row, with_step}
use Rattle.bundles.specs.Bundle.{row_names, step_names, row_of_line, step_of_line}
use Rattle.session.specs.Reading.{steps_read, rows_read, lines_read, reading}
use Rattle.tallies.specs.NameList.{is_bad_name, list_answer}
use Rattle.tallies.specs.Count.{File, file, is_accepted, counted_steps, uses, total, each_from, each_rule, sum}
use Rattle.tallies.specs.Count.{Entry, entry, rule_entries, entries_by, entries}
use Rattle.tallies.specs.represent.Tally.{plus, plus_each, column_of, fresh_tally, with_steps, no_entry}

-- n names "a", each with its newline, and then a last line
names : ℕ → String → List ℕ
names zero last = ascii last
names (suc n) last = 97 ∷ 10 ∷ names n last

opened : ℕ → List Bool
opened n = replicate n true

-- all of n files opened but that of line k + 1
but : ℕ → ℕ → List Bool
but n k = set (opened n) k false

lists :
    AllRight
    -- no name, one, 63 and 64; the last line has its newline or lacks it
    (list_answer (names 0 "") (opened 0) is answer 0 0
    ∷ list_answer (names 1 "") (opened 1) is answer 0 0
    ∷ list_answer (names 0 "a") (opened 1) is answer 0 0
    ∷ list_answer (names 63 "") (opened 63) is answer 0 0
    ∷ list_answer (names 64 "") (opened 64) is answer 0 0
    ∷ list_answer (names 63 "a") (opened 64) is answer 0 0
    -- what is past the list's names says nothing
    ∷ list_answer (names 0 "") (but 1 0) is answer 0 0
    ∷ list_answer (names 1 "") (but 2 1) is answer 0 0
    -- a 65th name, also one without its newline, an empty one, and one whose file opens; a 66th
    ∷ list_answer (names 65 "") (opened 64) is answer 17 65
    ∷ list_answer (names 64 "a") (opened 64) is answer 17 65
    ∷ list_answer (names 64 "\n") (opened 64) is answer 17 65
    ∷ list_answer (names 65 "") (opened 65) is answer 17 65
    ∷ list_answer (names 66 "") (opened 66) is answer 17 65
    -- a file that can't be opened: the first, a later one, the last, whose line lacks its newline
    ∷ list_answer (names 2 "") (but 2 0) is answer 17 1
    ∷ list_answer (names 4 "") (but 4 2) is answer 17 3
    ∷ list_answer (names 1 "a") (but 2 1) is answer 17 2
    -- the first such line: of two, and before a 65th name; what isn't tried isn't open
    ∷ list_answer (names 4 "") (set (but 4 2) 1 false) is answer 17 2
    ∷ list_answer (names 65 "") (but 64 2) is answer 17 3
    ∷ list_answer (names 65 "") (but 64 63) is answer 17 64
    ∷ list_answer (names 4 "") (opened 3) is answer 17 4
    ∷ [])
unfolding names opened but ascii lines in_first_line list_answer is_bad_name first_below Option-elim
lists = refl

-- the bundle of Specification, Bundles, with one step by rule 8, and further steps
bundle : String → File
bundle more = file false (ascii ("kind a b c\n2 1 0 2\n2 3 1 0\nrule left right first second\n8 0 1 0 0\n" ++ more))

one : File
one = bundle ""

-- a step by rule 2 and one by rule 3 more
three : File
three = bundle "2 1 1 0 0\n3 0 1 1 2\n"

twice : File
twice = bundle "8 0 1 0 0\n"

-- the second step is not yielded; the third would be
refused : File
refused = bundle "8 1 0 0 0\n2 1 1 0 0\n"

-- the example, of which the reading failed
failed : File
failed = file true one.bytes

counted : List File → List ℕ
counted fs = total fs ∷ map (λ r. uses r fs) (1 ∷ 2 ∷ 3 ∷ 7 ∷ 8 ∷ 9 ∷ 50 ∷ 59 ∷ [])

-- the total, and the uses of rules 1, 2, 3, 7, 8, 9, 50 and 59
counts :
    AllRight
    (counted [] is (0 ∷ 0 ∷ 0 ∷ 0 ∷ 0 ∷ 0 ∷ 0 ∷ 0 ∷ 0 ∷ [])
    ∷ counted (one ∷ []) is (1 ∷ 0 ∷ 0 ∷ 0 ∷ 0 ∷ 1 ∷ 0 ∷ 0 ∷ 0 ∷ [])
    ∷ counted (three ∷ []) is (3 ∷ 0 ∷ 1 ∷ 1 ∷ 0 ∷ 1 ∷ 0 ∷ 0 ∷ 0 ∷ [])
    -- a step twice counts twice
    ∷ counted (twice ∷ []) is (2 ∷ 0 ∷ 0 ∷ 0 ∷ 0 ∷ 2 ∷ 0 ∷ 0 ∷ 0 ∷ [])
    -- a file named twice too
    ∷ counted (one ∷ one ∷ []) is (2 ∷ 0 ∷ 0 ∷ 0 ∷ 0 ∷ 2 ∷ 0 ∷ 0 ∷ 0 ∷ [])
    ∷ counted (one ∷ three ∷ one ∷ []) is (5 ∷ 0 ∷ 1 ∷ 1 ∷ 0 ∷ 3 ∷ 0 ∷ 0 ∷ 0 ∷ [])
    -- a refused bundle counts nowhere, before an accepted one and after it, nor do its steps before the refused line
    ∷ counted (refused ∷ []) is (0 ∷ 0 ∷ 0 ∷ 0 ∷ 0 ∷ 0 ∷ 0 ∷ 0 ∷ 0 ∷ [])
    ∷ counted (refused ∷ one ∷ refused ∷ []) is (1 ∷ 0 ∷ 0 ∷ 0 ∷ 0 ∷ 1 ∷ 0 ∷ 0 ∷ 0 ∷ [])
    -- so for one whose reading failed, and an empty file
    ∷ counted (failed ∷ one ∷ []) is (1 ∷ 0 ∷ 0 ∷ 0 ∷ 0 ∷ 1 ∷ 0 ∷ 0 ∷ 0 ∷ [])
    ∷ counted (file false [] ∷ one ∷ []) is (1 ∷ 0 ∷ 0 ∷ 0 ∷ 0 ∷ 1 ∷ 0 ∷ 0 ∷ 0 ∷ [])
    ∷ [])
unfolding counted one three twice refused failed bundle uses total uses_of counted_steps is_accepted ascii reading
    lines_read rows_read steps_read row_names step_names row_of_line step_of_line lines in_first_line parts
    in_first_part
    same_bytes is_line numbers_of numbers_up_to is_decimal all_of is_digit append_digits Option-elim view table_of
    steps_of fresh_session with_row with_step term_answer bad_place fields_of field_ok held_path held_qualifier is_path
    is_qualifier nesting nestings entries_from nesting_by operand_nesting find same_row step_answer step_answer_by
    same_sort bad_side_of premise_ok bad_premise_of claim_of premises_of is_yielded says term_at terms term_by as_path
    as_qualifier premise_count first_count forms_of forms_in rules decide yields_dec rule_fits
counts = refl

-- a file of more than 65,536 bytes counts nowhere; one of 65,536 is read
longer : (bytes : List ℕ) → 65536 < length bytes → counted_steps (file false bytes) ≡ []
unfolding counted_steps is_accepted
longer bytes h = rw (lt-leb (length bytes) 65536 h)

no_longer : (bytes : List ℕ) → length bytes ≤ 65536
    → counted_steps (file false bytes)
    ≡ cond (accepted (reading bytes).answer) (view (reading bytes).session).steps []
unfolding counted_steps is_accepted
no_longer bytes h = rw (le-leb (length bytes) 65536 h)

-- line k where each rule has as many uses as its number
abbrev line : ℕ → Entry
line k = get_or (entries_by (each_rule (λ r. r)) 7) k no_entry

-- the lines: rule 1 first, rule 50 too, rule 59 last of the rules, then 0 and the total, 60 in all
lines_of :
    AllRight
    (line 0 is entry 1 1 ∷ line 1 is entry 2 2 ∷ line 49 is entry 50 50 ∷ line 58 is entry 59 59
    ∷ line 59 is entry 0 7 ∷ line 60 is entry 0 0
    ∷ [])
unfolding entries_by rule_entries each_from
lines_of = refl

-- line k of two files
abbrev file_line : ℕ → Entry
file_line k = get_or (entries (three ∷ one ∷ [])) k no_entry

entries_of_lem :
    AllRight
    (file_line 0 is entry 1 0 ∷ file_line 1 is entry 2 1 ∷ file_line 2 is entry 3 1 ∷ file_line 7 is entry 8 2
    ∷ file_line 58 is entry 59 0 ∷ file_line 59 is entry 0 4
    ∷ [])
unfolding entries entries_by rule_entries each_from one three bundle uses total uses_of counted_steps is_accepted ascii
    reading lines_read rows_read steps_read row_names step_names row_of_line step_of_line lines in_first_line parts
    in_first_part
    same_bytes is_line numbers_of numbers_up_to is_decimal all_of is_digit append_digits Option-elim view table_of
    steps_of fresh_session with_row with_step term_answer bad_place fields_of field_ok held_path held_qualifier is_path
    is_qualifier nesting nestings entries_from nesting_by operand_nesting find same_row step_answer step_answer_by
    same_sort bad_side_of premise_ok bad_premise_of claim_of premises_of is_yielded says term_at terms term_by as_path
    as_qualifier premise_count first_count forms_of forms_in rules decide yields_dec rule_fits
entries_of_lem = refl

as_many_lines : AllRight (length (entries []) is 60 ∷ [])
unfolding entries entries_by rule_entries each_from
as_many_lines = refl

-- the total is counted from the steps: where they have a rule that no line is for, the column adds up to less
rule_8 : List Step
rule_8 = step 8 0 1 0 0 ∷ []

other_rules : List Step
other_rules = step 60 0 1 0 0 ∷ step 0 0 1 0 0 ∷ []

total_of : List Step → ℕ
total_of ps = (with_steps fresh_tally ps).total

column_of_lem : List Step → ℕ
column_of_lem ps = sum (with_steps fresh_tally ps).uses

not_from_the_column :
    AllRight
    (total_of rule_8 is 1 ∷ column_of_lem rule_8 is 1
    ∷ total_of other_rules is 2 ∷ column_of_lem other_rules is 0
    ∷ [])
unfolding total_of column_of_lem rule_8 other_rules with_steps fresh_tally plus_each plus column_of each_from uses_of
    sum
not_from_the_column = refl
