-- Every answer of the definitions is that of a case of the code's answers.
use Prim.Native.Nat.{ℕ, ◌+◌}
use mathlib.Core.Path.{◌≡◌, refl}
use mathlib.Core.Bool.{Bool, true, false, not, cond, ◌||◌}
use mathlib.Core.List.{List}
use mathlib.Core.Option.{Option, none, some, Option-elim}
use lib.Dec.{leb, ltb, eqb}
use lib.ListN.{length}
use Rattle.xpath.specs.Document.{document_of, document_refusal}
use Rattle.xpath.specs.Visits.{visits}
use Rattle.terms.specs.Row.{Row, max_rows, find}
use Rattle.terms.specs.Fields.{max_kind, held_path, bad_place}
use Rattle.terms.specs.Nesting.{max_nesting, nesting}
use Rattle.terms.specs.Terms.{path_at}
use Rattle.rules.specs.Yields.{max_rule}
use Rattle.selector_grammar.specs.Bytes.{Bytes}
use Rattle.selector_grammar.specs.Answer.{Answers, outside, unnumbered, deep, full, held}
use Rattle.std.specs.Prelude.{Ok, Err}
use Rattle.common.specs.declared.refusal.Refusal.TheVariants as Refused
use Rattle.calls.specs.Book.{Step, max_steps, max_points, Book, Answer, answer}
use Rattle.common.specs.Refusals as refusals
use Rattle.calls.specs.TermCall.{term_answer}
use Rattle.calls.specs.StepCall.{bad_side_of, bad_premise_of, step_answer_by}
use Rattle.calls.specs.SelectCall.{select_answer}
use Rattle.calls.specs.TextCall.{text_answer}
use Rattle.calls.specs.PointCall.{place_of, point_answer, return_answer}
use Rattle.calls.specs.represent.Answers.{answer_of, done_answer_of}
use Rattle.calls.proofs.TextLaws.{answers_as_defined}

-- some case of an enum has the answer t
abbrev pub HasCase : {A : Type 0} → (A → Answer) → Answer → Type 0
HasCase {A} f t = (a : A) × (f a ≡ t)

pub either_case : {A : Type 0} (f : A → Answer) (b : Bool) (t u : Answer)
    → HasCase f t → HasCase f u → HasCase f (cond b t u)
either_case f true t u x y = x
either_case f false t u x y = y

pub term_case : (rs : List Row) (r : Row) → HasCase answer_of (term_answer rs r)
unfolding term_answer
term_case rs r =
    either_case answer_of (ltb max_kind r.kind) _ _ (Err Refused.BadKind, refl)
    (either_case answer_of (ltb 0 (bad_place rs r)) _ _ (Err (Refused.BadField (bad_place rs r)), refl)
    (either_case answer_of (ltb max_nesting (nesting rs r)) _ _ (Err Refused.TooDeep, refl)
    (either_case answer_of (ltb (find rs r) (length rs)) _ _ (Err (Refused.AlreadyHeld (find rs r)), refl)
    (either_case answer_of (leb max_rows (length rs)) _ _ (Err Refused.TermsFull, refl)
    (Ok (length rs), refl)))))

pub step_case : (y : Bool) (b : Book) (p : Step) → HasCase answer_of (step_answer_by y b p)
unfolding step_answer_by
step_case y b p =
    let side = bad_side_of b.rows p in
    let premise = bad_premise_of (length b.steps) p in
    either_case answer_of (eqb p.rule 0 || ltb max_rule p.rule) _ _ (Err Refused.NoRule, refl)
    (either_case answer_of (ltb 0 side) _ _ (Err (Refused.BadSide side), refl)
    (either_case answer_of (ltb 0 premise) _ _ (Err (Refused.BadPremise premise), refl)
    (either_case answer_of (not y) _ _ (Err Refused.NotYielded, refl)
    (either_case answer_of (leb max_steps (length b.steps)) _ _ (Err Refused.StepsFull, refl)
    (Ok (length b.steps + 1), refl)))))

-- as the grammar answers
grammar_case : (names t : Bytes) (rs : List Row) (n v : ℕ) (ss : List Row) → Answers names t rs n v ss
    → HasCase answer_of (answer n v)
grammar_case names t rs n v ss (outside {k = k} h) = (Err (Refused.OutsideGrammar k), refl)
grammar_case names t rs n v ss (unnumbered {k = k} s e) = (Err (Refused.UnlistedName k), refl)
grammar_case names t rs n v ss (deep s e h) = (Err Refused.TooDeep, refl)
grammar_case names t rs n v ss (full s e h i) = (Err Refused.TermsFull, refl)
grammar_case names t rs n v ss (held u s e h i) = (Ok v, refl)

pub text_case : (rs : List Row) (names t : Bytes) → HasCase answer_of (text_answer rs names t)
unfolding text_answer
text_case rs names t = grammar_case names t rs _ _ _ ((answers_as_defined names t rs _ _ _).1 refl)

pub point_case : (names : List ℕ) (n : ℕ) → HasCase done_answer_of (point_answer names n)
unfolding point_answer
point_case names n =
    let bad = eqb n 0 || ltb (place_of names n) (length names) in
    either_case done_answer_of bad _ _ (Err (Refused.BadPoint n), refl)
    (either_case done_answer_of (leb max_points (length names)) _ _ (Err Refused.PointsFull, refl)
    (Ok tt, refl))

pub return_case : (names : List ℕ) (n : ℕ) → HasCase done_answer_of (return_answer names n)
unfolding return_answer
return_case names n =
    either_case done_answer_of (leb (length names) (place_of names n)) _ _ (Err (Refused.BadPoint n), refl)
    (Ok tt, refl)

document_case : (o : Option ℕ) (t : Answer) → HasCase answer_of t
    → HasCase answer_of (Option-elim o t (λ v. answer refusals.bad_document v))
unfolding Option-elim
document_case none t x = x
document_case (some v) t x = (Err (Refused.BadDocument v), refl)

pub select_case : (rs : List Row) (row : ℕ) (xs : List ℕ) (x limit room : ℕ)
    → HasCase answer_of (select_answer rs row xs x limit room)
unfolding select_answer
select_case rs row xs x limit room =
    let d = document_of xs in
    let count = visits d (path_at rs row) x in
    document_case (document_refusal xs) _
    (either_case answer_of (leb (length d) x) _ _ (Err (Refused.BadArgument 1), refl)
    (either_case answer_of (not (held_path rs row)) _ _ (Err (Refused.BadArgument 2), refl)
    (either_case answer_of (ltb room (length d)) _ _ (Err Refused.ShortMarks, refl)
    (either_case answer_of (ltb limit count) _ _ (Err Refused.LimitPassed, refl)
    (Ok count, refl)))))
