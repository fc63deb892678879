-- The call select: its answer, and the buffer that it leaves.
use Rattle.std.specs.Prelude.{ℕ, cond, not, List, leb, ltb, length}
use Rattle.std.proofs.Math.Option.{Option-elim}
use Rattle.xpath.specs.Document.{document_of, document_refusal}
use Rattle.xpath.specs.Meaning.{selects}
use Rattle.xpath.specs.Visits.{visits}
use Rattle.terms.specs.Row.{Row}
use Rattle.terms.specs.Fields.{held_path}
use Rattle.terms.specs.Terms.{path_at}
use Rattle.selection.specs.Marks.{written}
use Rattle.calls.specs.Book.{Answer, answer, accepted}
use Rattle.common.specs.Refusals.{bad_document, bad_argument, short_marks, limit_passed}

-- the first refusal that applies, in the order 8, 9, 14, 15, on the lent numbers xs from node x with a buffer of `room`
-- bytes; else 0 with the visits
unfoldable pub select_answer : List Row → (row : ℕ) → List ℕ → (x limit room : ℕ) → Answer
select_answer rs row xs x limit room =
    Option-elim (document_refusal xs)
    (cond (leb (length (document_of xs)) x) (answer bad_argument 1)
    (cond (not (held_path rs row)) (answer bad_argument 2)
    (cond (ltb room (length (document_of xs))) (answer short_marks 0)
    (cond (ltb limit (visits (document_of xs) (path_at rs row) x)) (answer limit_passed 0)
    (answer 0 (visits (document_of xs) (path_at rs row) x))))))
    (λ v. answer bad_document v)

-- 1 or 0 for each node where no refusal applies; else the buffer as it was
unfoldable pub select_buffer : List Row → (row : ℕ) → List ℕ → (x limit : ℕ) → List ℕ → List ℕ
select_buffer rs row xs x limit buffer =
    cond (accepted (select_answer rs row xs x limit (length buffer)))
    (written (length (document_of xs)) (selects (document_of xs) (path_at rs row) x) buffer)
    buffer
