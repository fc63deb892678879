-- The laws of text calls.
use Prim.Native.Nat.{suc, ◌≤◌}
use mathlib.Core.Path.{◌≡◌, refl, sym, ap, subst, ◌∙◌}
use mathlib.Core.List.{List, [], ◌∷◌, ◌++◌, map, append_assoc, append-nil}
use native.Mathlib.Omega.{arith}
use lib.ListN.{length, take, drop, length-append}
use lib.Seq.{drop-append_seam, take-append_seam, get_or-append_seam}
use Rattle.common.specs.Lists.{Every}
use Rattle.common.proofs.Reflect.{facts}
use Rattle.terms.specs.Row.{Row, no_row, row_at, max_rows}
use Rattle.terms.specs.Terms.{of_path}
use Rattle.terms.specs.AcceptedRows.{is_well_formed, is_new, Built}
use Rattle.terms.proofs.Built.{built_at, Accepted}
use Rattle.selector_grammar.specs.Bytes.{Bytes}
use Rattle.selector_grammar.specs.Words.{number_of}
use Rattle.selector_grammar.specs.Grammar.{Union}
use Rattle.selector_grammar.specs.Denotes.{union_of, nest_path}
use Rattle.selector_grammar.specs.Answer.{Reply, Answers}
use Rattle.selector_grammar.proofs.Answered.{given, only}
use Rattle.selector_grammar.proofs.Place.{one_tree}
use Rattle.selector_grammar.proofs.Longer.{answer_longer, accepted_few}
use Rattle.selector_grammar.proofs.Standing.{answer_built, accepted}
use Rattle.calls.specs.Book.{Step, Point, Book, pointed_book, Answer, answer}
use Rattle.calls.specs.TermCall.{term_answer}
use Rattle.calls.specs.TextCall.{text_reply, text_answer}
use Rattle.calls.specs.Runs.{next, shown, final}
use Rattle.calls.specs.Calls.{term, CallSeen, plain_book}
use Rattle.calls.specs.TextLaws.{AnswersAsDefined, new_rows, AsTermCalls, GivesItsTerm, GivesItsNesting}
use Rattle.calls.proofs.Accepted.{if_accepted}
use Rattle.calls.proofs.TermJudged.{row_held}
use Rattle.calls.proofs.Reached.{reachable_laws}

pub answers_as_defined : AnswersAsDefined
unfolding text_reply
answers_as_defined names t rs n v ss = (
  λ a. only names t rs n v ss a,
  λ e. subst (λ (q : Reply). Answers names t rs q.number q.value q.rows) (sym e) (given names t rs),
)

-- a row that is well formed and new is accepted where there is room
row_accepted : (rs : List Row) (r : Row) → Accepted rs r → suc (length rs) ≤ max_rows
    → term_answer rs r ≡ answer 0 (length rs)
unfolding is_well_formed is_new
row_accepted rs r (ok, new) room =
    let u = simp facts at ok in
    let e = simp facts at new in
    sym (row_held rs r (record {
      kind = u.0.0;
      fields = omega (arith, u.0.1);
      nesting = u.1;
      new = omega (arith, e);
      room = omega arith;
    }))

-- rows that keep a table accepted, added one after the other
pub rows_accepted : (rs new : List Row) (ps : List Step) (points : List Point) → Built (rs ++ new)
    → length (rs ++ new) ≤ max_rows
    → Every (λ (o : CallSeen). o.answer.number ≡ 0) (shown plain_book (pointed_book rs ps points) (map term new))
    × (final plain_book (pointed_book rs ps points) (map term new) ≡ pointed_book (rs ++ new) ps points)
unfolding shown final
rows_accepted rs [] ps points b few = (tt, ap (λ (q : List Row). pointed_book q ps points) (sym (append-nil rs)))
rows_accepted rs (r ∷ new) ps points b few =
    let longer = length-append rs (r ∷ new) in
    let at : Accepted (take (length rs) (rs ++ (r ∷ new))) (row_at (rs ++ (r ∷ new)) (length rs)) =
    built_at b (length rs) (omega (arith, longer)) in
    let ok : Accepted rs r = rw (take-append_seam rs (r ∷ new), get_or-append_seam rs r new no_row) at at in
    let e = row_accepted rs r ok (omega (arith, longer, few)) in
    let join : rs ++ (r ∷ []) ++ new ≡ rs ++ (r ∷ new) = append_assoc rs (r ∷ []) new in
    let (all, last) = rows_accepted (rs ++ (r ∷ [])) new ps points (subst Built (sym join) b) (rw join few) in
    let number = ap (λ (a : Answer). a.number) e in
    let moved : next plain_book (pointed_book rs ps points) (term r) ≡ pointed_book (rs ++ (r ∷ [])) ps points =
    sym (if_accepted (term_answer rs r) _ refl _ _ number) in (
      (
        number,
        subst (λ (d : Book). Every (λ (o : CallSeen). o.answer.number ≡ 0) (shown plain_book d (map term new)))
            (sym moved) all,
      ),
      ap (λ (d : Book). final plain_book d (map term new)) moved ∙ last
          ∙ ap (λ (q : List Row). pointed_book q ps points) join,
    )

-- an accepted text's rows are those held and new ones, and there is room for them
pub text_accepted : (rs : List Row) (names t : Bytes) → (text_answer rs names t).number ≡ 0
    → (new : List Row) × ((text_reply names t rs).rows ≡ rs ++ new) × (length (text_reply names t rs).rows ≤ max_rows)
unfolding text_answer
text_accepted rs names t e =
    let told = (answers_as_defined names t rs _ _ _).1 refl in
    let (new, grown) = answer_longer names t rs _ _ _ told in
    (new, grown, accepted_few names t rs _ _ _ told e)

pub as_term_calls : AsTermCalls
unfolding new_rows text_answer
as_term_calls b h names t e =
    let (new, grown, few) = text_accepted b.rows names t e in
    let told = (answers_as_defined names t b.rows _ _ _).1 refl in
    let built = answer_built names t b.rows (reachable_laws h).held.built _ _ _ told in
    let are_new : drop (length b.rows) (text_reply names t b.rows).rows ≡ new =
    ap (drop (length b.rows)) grown ∙ drop-append_seam b.rows new in
    let (all, last) =
    rows_accepted b.rows new b.steps b.points (subst Built grown built)
    (subst (λ (q : List Row). length q ≤ max_rows) grown few) in
    rw are_new (all, last ∙ ap (λ (q : List Row). pointed_book q b.steps b.points) (sym grown))

pub gives_its_term : GivesItsTerm
unfolding text_answer
gives_its_term b h names t e u s =
    let told = (answers_as_defined names t b.rows _ _ _).1 refl in
    let known = accepted names t b.rows (reachable_laws h).held.built _ _ _ told e in
    known.stands.term
    ∙ ap (λ (q : Union). of_path (union_of (number_of names) q)) (one_tree t known.tree u known.spells s)

pub gives_its_nesting : GivesItsNesting
unfolding text_answer
gives_its_nesting b h names t e u s =
    let told = (answers_as_defined names t b.rows _ _ _).1 refl in
    let known = accepted names t b.rows (reachable_laws h).held.built _ _ _ told e in
    known.stands.nest
    ∙ ap (λ (q : Union). nest_path (union_of (number_of names) q)) (one_tree t known.tree u known.spells s)
