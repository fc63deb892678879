-- Calls, by computation: each refusal, which of two comes first, and the book after each call.
use Rattle.std.specs.Prelude.{ℕ, zero, suc, ◌≡◌, refl, List, [], ◌∷◌, ◌++◌, map, length, replicate}
use Rattle.std.proofs.Math.Bool.{decide}
use Rattle.std.proofs.Math.Option.{Option-elim}
use Rattle.common.specs.Bounded.{first_below}
use Rattle.common.specs.values.Expected.{◌is◌, AllRight}
use Rattle.xpath.specs.Document.{kind_at, parent_at, name_at, is_child, climb_meets, is_ancestor, kind_and_name_ok}
use Rattle.xpath.specs.Document.{row_ok}
use Rattle.xpath.specs.Document.{root_node, document_of, lent_rows, bad_row, document_refusal}
use Rattle.xpath.specs.values.DocumentCases.{lent, texts}
use Rattle.xpath.specs.Axis.{on_axis, passes}
use Rattle.xpath.specs.Meaning.{selects}
use Rattle.xpath.specs.Visits.{visits}
use Rattle.xpath.specs.values.LogCases.{log_numbers}
use Rattle.terms.specs.Row.{Row, row, entries_from, same_row, find}
use Rattle.terms.specs.Fields.{fields_of, is_path, is_qualifier, held_path, held_qualifier, field_ok, bad_place}
use Rattle.terms.specs.Nesting.{operand_nesting, nesting_by, nestings, nesting}
use Rattle.terms.specs.Terms.{as_path, as_qualifier, term_by, terms, term_at}
use Rattle.rules.specs.RuleTable.{rules}
use Rattle.rules.specs.Claim.{says}
use Rattle.rules.specs.Yields.{forms_in, forms_of, first_count, premise_count}
use Rattle.rules.specs.private.RuleFits.{rule_fits}
use Rattle.rules.specs.Decision.{yields_dec}
use Rattle.selection.specs.Marks.{written}
use Rattle.calls.specs.Book as books
use Rattle.calls.specs.Book.{Book, book, empty_book, Answer, answer}
use Rattle.calls.specs.TermCall.{term_answer}
use Rattle.calls.specs.StepCall.{same_sort, bad_side_of, premise_ok, bad_premise_of, claim_of, premises_of}
use Rattle.calls.specs.StepCall.{step_answer_by, is_yielded, step_answer}
use Rattle.calls.specs.SelectCall.{select_answer, select_buffer}
use Rattle.calls.specs.PointCall.{place_of, point_answer, return_answer}
use Rattle.calls.specs.Runs.{seen, shown, final}
use Rattle.calls.specs.Calls.{Call, plain_book, CallSeen, book_after}

abbrev pub term : ℕ → ℕ → ℕ → ℕ → Call
term k a b c = Call.term (row k a b c)

abbrev pub step : ℕ → ℕ → ℕ → ℕ → ℕ → Call
step n l r i j = Call.step (books.step n l r i j)

infix 72 ◌leaving◌
-- an answer, and the book after it
abbrev pub ◌leaving◌ : Answer → Book → CallSeen
t leaving b = seen t b

-- what is seen of calls made in order on the book b; to unfold it is to unfold all that it computes with
unfoldable pub seen_from : Book → List Call → List CallSeen
unfolding
    shown term_answer bad_place fields_of field_ok
    held_path held_qualifier is_path is_qualifier nesting nestings entries_from nesting_by operand_nesting
    find same_row step_answer step_answer_by same_sort bad_side_of premise_ok bad_premise_of claim_of premises_of
    is_yielded says term_at terms term_by as_path as_qualifier premise_count first_count forms_of forms_in
    rules decide yields_dec rule_fits place_of point_answer return_answer
seen_from b cs = shown plain_book b cs

-- a call, and what it must give
pub record CallCase (A : Type 0) : Type 0 where
  pub call : Call
  pub expected : A

infix 70 ◌gets◌
abbrev pub ◌gets◌ : {A : Type 0} → Call → A → CallCase A
c gets a = record { call = c; expected = a }

abbrev pub calls_in : {A : Type 0} → List (CallCase A) → List Call
calls_in cases = map (λ c. c.call) cases

-- the calls, made in order on the book b, get these answers and leave these books
abbrev pub AllSeen : Book → List (CallCase CallSeen) → Type 0
AllSeen b cases = seen_from b (calls_in cases) ≡ map (λ c. c.expected) cases

-- they get these answers
abbrev pub Answered : Book → List (CallCase Answer) → Type 0
Answered b cases = map (λ o. o.answer) (seen_from b (calls_in cases)) ≡ map (λ c. c.expected) cases

-- they get these answers, and after each the book is as it was
abbrev pub Refused : Book → List (CallCase Answer) → Type 0
Refused b cases = seen_from b (calls_in cases) ≡ map (λ c. c.expected leaving b) cases

-- child::2, descendant::*, true
abbrev three_rows : List Row
three_rows = row 2 1 0 2 ∷ row 2 3 1 0 ∷ row 6 0 0 0 ∷ []

abbrev four_steps : List books.Step
four_steps = books.step 8 0 1 0 0 ∷ books.step 2 0 0 0 0 ∷ books.step 3 0 1 2 1 ∷ books.step 14 2 2 0 0 ∷ []

-- an accepted row or step goes to the end of its list, a refused one leaves both as they were
abbrev calls_made : List (CallCase CallSeen)
calls_made =
    term 2 1 0 2 gets answer 0 0 leaving book (row 2 1 0 2 ∷ []) []
    ∷ term 2 3 1 0 gets answer 0 1 leaving book (row 2 1 0 2 ∷ row 2 3 1 0 ∷ []) []
    ∷ term 12 0 0 0 gets answer 1 0 leaving book (row 2 1 0 2 ∷ row 2 3 1 0 ∷ []) []
    ∷ step 8 0 1 0 0 gets answer 0 1 leaving book (row 2 1 0 2 ∷ row 2 3 1 0 ∷ []) (books.step 8 0 1 0 0 ∷ [])
    ∷ step 8 1 0 0 0 gets answer 7 0 leaving book (row 2 1 0 2 ∷ row 2 3 1 0 ∷ []) (books.step 8 0 1 0 0 ∷ [])
    ∷ term 6 0 0 0 gets answer 0 2 leaving book three_rows (books.step 8 0 1 0 0 ∷ [])
    ∷ term 2 3 1 0 gets answer 12 1 leaving book three_rows (books.step 8 0 1 0 0 ∷ [])
    ∷ step 2 0 0 0 0 gets answer 0 2 leaving book three_rows (books.step 8 0 1 0 0 ∷ books.step 2 0 0 0 0 ∷ [])
    ∷ step 3 0 1 2 1 gets answer 0 3
    leaving book three_rows (books.step 8 0 1 0 0 ∷ books.step 2 0 0 0 0 ∷ books.step 3 0 1 2 1 ∷ [])
    ∷ step 14 2 2 0 0 gets answer 0 4 leaving book three_rows four_steps
    ∷ []

books_seen : AllSeen empty_book calls_made
unfolding seen_from
books_seen = refl

book_after_lem : book_after (calls_in calls_made) ≡ book three_rows four_steps
unfolding final seen_from
book_after_lem = refl

-- a row of each other kind is held
rows_held_lem :
    Answered (book three_rows [])
    (term 0 0 0 0 gets answer 0 3 ∷ term 1 0 0 0 gets answer 0 4 ∷ term 2 11 0 2 gets answer 0 5
    ∷ term 3 0 1 0 gets answer 0 6 ∷ term 4 0 1 0 gets answer 0 7 ∷ term 5 0 2 0 gets answer 0 8
    ∷ term 7 0 0 0 gets answer 0 9 ∷ term 8 2 0 0 gets answer 0 10 ∷ term 9 2 2 0 gets answer 0 11
    ∷ term 10 2 2 0 gets answer 0 12 ∷ term 11 0 1 0 gets answer 0 13
    ∷ [])
unfolding seen_from
rows_held_lem = refl

-- Term calls. Two refusals that can apply together: 1 and 2, 1 and 11, 2 and 3, 2 and 11, 3 and 11, 12 and 11. A kind
-- above 11 has no operands to nest, so 1 and 3 can't; a held row has a good kind, good fields and a good nesting, so
-- 12 can't apply with 1, 2 or 3.

terms_refused :
    Refused (book three_rows (books.step 8 0 1 0 0 ∷ []))
    (term 12 0 0 0 gets answer 1 0 ∷ term 65535 0 0 0 gets answer 1 0
    -- 1 and 2
    ∷ term 12 1 0 0 gets answer 1 0 ∷ term 12 9 9 9 gets answer 1 0
    -- 2 at each place, and at the first of two and of three
    ∷ term 3 3 0 0 gets answer 2 1 ∷ term 3 0 2 0 gets answer 2 2 ∷ term 3 0 0 1 gets answer 2 3
    ∷ term 3 2 2 0 gets answer 2 1 ∷ term 3 2 0 1 gets answer 2 1 ∷ term 3 0 2 1 gets answer 2 2
    ∷ term 3 9 9 9 gets answer 2 1 ∷ term 2 12 0 2 gets answer 2 1 ∷ term 2 0 7 0 gets answer 2 2
    ∷ term 2 0 0 0 gets answer 2 3 ∷ term 2 12 7 7 gets answer 2 1 ∷ term 2 0 6 0 gets answer 2 3
    ∷ term 2 0 5 1 gets answer 2 3 ∷ term 2 0 7 1 gets answer 2 2
    -- 12 with the first row, and with the last
    ∷ term 2 1 0 2 gets answer 12 0 ∷ term 6 0 0 0 gets answer 12 2
    ∷ [])
unfolding seen_from
terms_refused = refl

-- true, and n rows `not` of the row before
nots : ℕ → List Row
nots zero = row 6 0 0 0 ∷ []
nots (suc n) = nots n ++ (row 8 n 0 0 ∷ [])

-- child::n, child::n-1, .., child::1
named : ℕ → List Row
named zero = []
named (suc n) = row 2 1 0 (suc n) ∷ named n

-- nesting 32 is held, 33 is refused
deepest :
    AllSeen (book (nots 30) [])
    (term 8 30 0 0 gets answer 0 31 leaving book (nots 31) []
    ∷ term 8 31 0 0 gets answer 3 0 leaving book (nots 31) []
    ∷ [])
unfolding seen_from nots
deepest = refl

deep_terms_refused :
    Refused (book (nots 31) [])
    (term 8 31 0 0 gets answer 3 0 ∷ term 9 31 0 0 gets answer 3 0 ∷ term 9 0 31 0 gets answer 3 0
    -- 2 and 3
    ∷ term 8 31 0 1 gets answer 2 3 ∷ term 9 31 32 0 gets answer 2 2 ∷ term 9 32 31 0 gets answer 2 1
    ∷ [])
unfolding seen_from nots
deep_terms_refused = refl

-- 1,024 rows are held, one more is refused
last_row :
    AllSeen (book (nots 31 ++ named 991) [])
    (term 0 0 0 0 gets answer 0 1023 leaving book (nots 31 ++ named 991 ++ (row 0 0 0 0 ∷ [])) []
    ∷ term 1 0 0 0 gets answer 11 0 leaving book (nots 31 ++ named 991 ++ (row 0 0 0 0 ∷ [])) []
    ∷ [])
unfolding seen_from nots named
last_row = refl

full_terms_refused :
    Refused (book (nots 31 ++ named 992) [])
    (term 0 0 0 0 gets answer 11 0
    -- 1 and 11; 2 and 11; 3 and 11; 12 and 11
    ∷ term 12 0 0 0 gets answer 1 0 ∷ term 0 1 0 0 gets answer 2 1 ∷ term 4 32 1024 0 gets answer 2 2
    ∷ term 8 31 0 0 gets answer 3 0 ∷ term 6 0 0 0 gets answer 12 0 ∷ term 2 1 0 1 gets answer 12 1023
    -- 1, 2 and 11; 2, 3 and 11
    ∷ term 12 1 0 0 gets answer 1 0 ∷ term 8 31 1 0 gets answer 2 2
    ∷ [])
unfolding seen_from nots named
full_terms_refused = refl

-- Step calls. Any two of 4, 5, 6, 7 and 13 can apply together.

-- three_rows with child::2|descendant::* and not true
abbrev five_rows : List Row
five_rows = three_rows ++ (row 3 0 1 0 ∷ row 8 2 0 0 ∷ [])

abbrev one_step : Book
one_step = book five_rows (books.step 8 0 1 0 0 ∷ [])

steps_refused :
    Refused one_step
    (step 0 0 1 0 0 gets answer 4 0 ∷ step 60 0 1 0 0 gets answer 4 0 ∷ step 65535 0 1 0 0 gets answer 4 0
    -- 4 and 5; 4 and 6; 4, 5 and 6
    ∷ step 60 9 1 0 0 gets answer 4 0 ∷ step 60 0 1 1 0 gets answer 4 0 ∷ step 0 0 1 1 0 gets answer 4 0
    ∷ step 60 9 9 9 9 gets answer 4 0
    -- 5 on the left, on the right, on the right for its sort, and at the first of two
    ∷ step 8 5 1 0 0 gets answer 5 1 ∷ step 8 0 5 0 0 gets answer 5 2 ∷ step 8 0 2 0 0 gets answer 5 2
    ∷ step 8 2 0 0 0 gets answer 5 2 ∷ step 8 5 5 0 0 gets answer 5 1 ∷ step 8 5 2 0 0 gets answer 5 1
    -- 5 and 6
    ∷ step 8 5 1 1 0 gets answer 5 1 ∷ step 3 0 2 0 0 gets answer 5 2 ∷ step 8 9 9 9 9 gets answer 5 1
    -- 6 with a rule that has no premise, one premise, two; at the first of two
    ∷ step 8 0 1 1 0 gets answer 6 1 ∷ step 8 0 1 0 1 gets answer 6 2 ∷ step 8 0 1 1 1 gets answer 6 1
    ∷ step 5 0 3 0 0 gets answer 6 1 ∷ step 5 0 3 2 0 gets answer 6 1 ∷ step 5 0 3 1 1 gets answer 6 2
    ∷ step 5 0 3 0 1 gets answer 6 1 ∷ step 5 0 3 2 2 gets answer 6 1 ∷ step 3 0 1 0 1 gets answer 6 1
    ∷ step 3 0 1 2 1 gets answer 6 1 ∷ step 3 0 1 1 0 gets answer 6 2 ∷ step 3 0 1 1 2 gets answer 6 2
    ∷ step 3 0 1 0 0 gets answer 6 1 ∷ step 3 0 1 9 9 gets answer 6 1
    -- 6 and 7
    ∷ step 8 1 0 1 0 gets answer 6 1 ∷ step 8 1 0 0 1 gets answer 6 2 ∷ step 4 1 0 0 0 gets answer 6 1
    ∷ step 3 1 0 1 0 gets answer 6 2
    -- 7; a premise that says something else, premises in another order
    ∷ step 8 1 0 0 0 gets answer 7 0 ∷ step 4 0 3 1 0 gets answer 7 0 ∷ step 3 0 1 1 1 gets answer 7 0
    ∷ step 14 2 4 0 0 gets answer 7 0
    -- the first rule and the last
    ∷ step 1 0 1 0 0 gets answer 7 0 ∷ step 59 0 1 0 0 gets answer 7 0
    -- rule 50 has no premise and yields nothing
    ∷ step 50 0 1 0 0 gets answer 7 0 ∷ step 50 0 0 0 0 gets answer 7 0 ∷ step 50 0 1 1 0 gets answer 6 1
    ∷ step 50 0 1 0 1 gets answer 6 2
    ∷ [])
unfolding seen_from
steps_refused = refl

-- what those refusals leave open is held: a premise less, the other rule, the premises in order, one step as both
-- premises
steps_held_lem :
    Answered one_step
    (step 5 0 3 1 0 gets answer 0 2 ∷ step 2 0 0 0 0 gets answer 0 3 ∷ step 3 0 1 3 1 gets answer 0 4
    ∷ step 3 0 1 1 3 gets answer 7 0 ∷ step 8 0 1 0 0 gets answer 0 5 ∷ step 3 0 0 3 3 gets answer 0 6
    ∷ [])
unfolding seen_from
steps_held_lem = refl

-- rows with targets, and steps: a target is below itself, any instruction and node(), and no other target; any
-- instruction is not below a target, nor is a name
targets_seen :
    Answered empty_book
    (term 2 1 6 1 gets answer 0 0 ∷ term 2 3 6 1 gets answer 0 1 ∷ term 2 3 6 65535 gets answer 0 2
    ∷ term 2 3 5 0 gets answer 0 3 ∷ term 2 3 2 0 gets answer 0 4 ∷ term 2 1 0 1 gets answer 0 5
    ∷ step 8 0 1 0 0 gets answer 0 1 ∷ step 8 0 3 0 0 gets answer 0 2 ∷ step 8 0 4 0 0 gets answer 0 3
    ∷ step 8 0 2 0 0 gets answer 7 0 ∷ step 8 3 1 0 0 gets answer 7 0 ∷ step 8 5 1 0 0 gets answer 7 0
    ∷ [])
unfolding seen_from
targets_seen = refl

-- child::2, its way back self::2/parent::node() in row 3, and child::2[some of that] in row 7
abbrev way_back_rows : List Row
way_back_rows =
    row 2 1 0 2 ∷ row 2 0 0 2 ∷ row 2 2 2 0 ∷ row 4 1 2 0 ∷ row 0 0 0 0 ∷ row 11 3 4 0 ∷ row 8 5 0 0 ∷ row 5 0 6 0 ∷ []

-- rule 59 has no premise; another right side, the other direction and a qualifier get 7, a right side of the other
-- sort 5
way_back_steps :
    Answered (book way_back_rows [])
    (step 59 0 7 1 0 gets answer 6 1 ∷ step 59 0 7 0 1 gets answer 6 2 ∷ step 59 0 3 0 0 gets answer 7 0
    ∷ step 59 0 0 0 0 gets answer 7 0 ∷ step 59 7 0 0 0 gets answer 7 0 ∷ step 59 6 6 0 0 gets answer 7 0
    ∷ step 59 0 6 0 0 gets answer 5 2 ∷ step 59 0 7 0 0 gets answer 0 1 ∷ step 59 0 7 1 0 gets answer 6 1
    ∷ step 59 0 7 0 0 gets answer 0 2 ∷ step 60 0 7 0 0 gets answer 4 0
    ∷ [])
unfolding seen_from
way_back_steps = refl

-- n steps, each child::2 <= descendant::*
abbrev steps_alike : ℕ → List books.Step
steps_alike n = replicate n (books.step 8 0 1 0 0)

-- 2,048 steps are held, one more is refused
last_step :
    AllSeen (book five_rows (steps_alike 2047))
    (step 2 0 0 0 0 gets answer 0 2048 leaving book five_rows (steps_alike 2047 ++ (books.step 2 0 0 0 0 ∷ []))
    ∷ step 2 0 0 0 0 gets answer 13 0 leaving book five_rows (steps_alike 2047 ++ (books.step 2 0 0 0 0 ∷ []))
    ∷ [])
unfolding seen_from
last_step = refl

full_steps_refused :
    Refused (book five_rows (steps_alike 2048))
    (step 2 0 0 0 0 gets answer 13 0 ∷ step 8 0 1 0 0 gets answer 13 0 ∷ step 5 0 3 2048 0 gets answer 13 0
    -- 4 and 13; 5 and 13; 6 and 13; 7 and 13
    ∷ step 60 0 1 0 0 gets answer 4 0 ∷ step 8 5 1 0 0 gets answer 5 1 ∷ step 2 0 0 1 0 gets answer 6 1
    ∷ step 5 0 3 2049 0 gets answer 6 1 ∷ step 8 1 0 0 0 gets answer 7 0
    ∷ [])
unfolding seen_from
full_steps_refused = refl

-- Select calls. Any two of 8, 9, 14 and 15 can apply together.

-- descendant::mark, and true
abbrev held : List Row
held = row 2 3 0 2 ∷ row 6 0 0 0 ∷ []

-- what is seen of a select call: its answer, and the bytes after it
record SelectSeen : Type 0 where
  answer : Answer
  bytes : List ℕ

-- a call of a row on lent numbers from node x; to unfold it is to unfold all that it computes with
unfoldable select_seen : (row : ℕ) → List ℕ → (x limit : ℕ) → List ℕ → SelectSeen
unfolding
    select_answer Option-elim document_refusal lent_rows bad_row first_below document_of row_ok kind_and_name_ok kind_at
    parent_at
    name_at is_child climb_meets is_ancestor held_path is_path term_at terms entries_from term_by as_path visits
    select_buffer written selects on_axis passes
select_seen row xs x limit bytes =
    record {
      answer = select_answer held row xs x limit (length bytes);
      bytes = select_buffer held row xs x limit bytes;
    }

-- the log document from node x with a buffer of n bytes, each 7
abbrev on_log : (row x limit n : ℕ) → SelectSeen
on_log row x limit n = select_seen row log_numbers x limit (replicate n 7)

-- an answer with n bytes as they were
abbrev refusal : ℕ → ℕ → ℕ → SelectSeen
refusal number value n = record { answer = books.answer number value; bytes = replicate n 7 }

-- acceptance with the visits, and the bytes
abbrev marked : ℕ → List ℕ → SelectSeen
marked visits bytes = record { answer = books.answer 0 visits; bytes = bytes }

select_accepted :
    AllRight
    (on_log 0 0 1 7 is marked 1 (0 ∷ 0 ∷ 1 ∷ 0 ∷ 0 ∷ 0 ∷ 1 ∷ [])
    ∷ on_log 0 0 1 9 is marked 1 (0 ∷ 0 ∷ 1 ∷ 0 ∷ 0 ∷ 0 ∷ 1 ∷ 7 ∷ 7 ∷ [])
    ∷ on_log 0 6 4294967295 7 is marked 1 (replicate 7 0)
    ∷ [])
unfolding select_seen
select_accepted = refl

-- 513 rows are refused before anything else
select_too_many :
    AllRight
    (select_seen 0 (lent (root_node ∷ texts 512)) 512 1 (replicate 513 7) is refusal 8 512 513
    ∷ select_seen 2 (lent (texts 513)) 513 0 [] is refusal 8 512 0
    ∷ [])
unfolding select_seen
select_too_many = refl

-- three rows, of which 1 and 2 are bad
abbrev two_bad_rows : List ℕ
two_bad_rows = 0 ∷ 0 ∷ 0 ∷ 2 ∷ 0 ∷ 1 ∷ 2 ∷ 0 ∷ 1 ∷ []

abbrev on_bad : (row x limit n : ℕ) → SelectSeen
on_bad row x limit n = select_seen row two_bad_rows x limit (replicate n 7)

select_refused :
    AllRight
    -- 8 for no rows, for an incomplete row, for the first of two bad rows
    (select_seen 0 [] 0 1 [] is refusal 8 0 0
    ∷ select_seen 0 (0 ∷ 0 ∷ 0 ∷ 2 ∷ []) 0 1 (replicate 7 7) is refusal 8 1 7 ∷ on_bad 0 0 1 7 is refusal 8 1 7
    -- 8 and 9, context and row; 8 and 14; 8 and 15; all
    ∷ on_bad 0 3 1 7 is refusal 8 1 7 ∷ on_bad 1 0 1 7 is refusal 8 1 7 ∷ on_bad 0 0 1 2 is refusal 8 1 2
    ∷ on_bad 0 0 0 7 is refusal 8 1 7 ∷ on_bad 2 3 0 0 is refusal 8 1 0
    -- 9 for the context; for the row, which is no path or not held; for the first of both
    ∷ on_log 0 7 1 7 is refusal 9 1 7 ∷ on_log 1 6 1 7 is refusal 9 2 7 ∷ on_log 2 6 1 7 is refusal 9 2 7
    ∷ on_log 1 7 1 7 is refusal 9 1 7
    -- 9 and 14; 9 and 15
    ∷ on_log 0 7 1 6 is refusal 9 1 6 ∷ on_log 1 6 1 6 is refusal 9 2 6 ∷ on_log 0 7 0 7 is refusal 9 1 7
    ∷ on_log 1 6 0 7 is refusal 9 2 7
    -- 14; 14 and 15; 15
    ∷ on_log 0 6 1 6 is refusal 14 0 6 ∷ on_log 0 6 1 0 is refusal 14 0 0 ∷ on_log 0 6 0 6 is refusal 14 0 6
    ∷ on_log 0 6 0 7 is refusal 15 0 7
    ∷ [])
unfolding select_seen
select_refused = refl
