-- The rows and then the steps of a book that calls lead to are accepted from the empty book.
use Prim.Native.Nat.{◌+◌, ◌≤◌, ◌<◌}
use mathlib.Core.Path.{◌≡◌, refl, sym, ap, subst, ◌∙◌}
use mathlib.Core.List.{List, [], ◌∷◌, ◌++◌, map, append_assoc, append-nil}
use native.Mathlib.Omega.{arith}
use lib.ListN.{length, drop, length-append}
use lib.Seq.{get_or_at, drop-append_seam}
use Rattle.terms.specs.Row.{Row, row_at, no_row, max_rows}
use Rattle.common.specs.Lists.{Every}
use Rattle.common.proofs.Entries.{every_map, every_more, every_first, every_later, every_there}
use Rattle.selector_grammar.specs.Bytes.{Bytes}
use Rattle.selector_grammar.proofs.Numbered.{NameFits}
use Rattle.selector_grammar.proofs.Standing.{answer_numbered}
use Rattle.calls.specs.Book as books
use Rattle.calls.specs.Book.{Step, Point, no_point, Book, empty_book}
use Rattle.calls.specs.TextCall.{text_reply, text_answer}
use Rattle.calls.specs.TextLaws.{new_rows}
use Rattle.calls.specs.PointCall.{point_names, place_of}
use Rattle.calls.specs.TermCall.{term_answer}
use Rattle.calls.specs.StepCall.{is_yielded, step_answer_by, step_answer}
use Rattle.calls.specs.Runs.{next, final, first, after}
use Rattle.calls.specs.Calls.{Call, term, step, text, point, return, book_answer, book_with, plain_book, book_after}
use Rattle.calls.specs.Calls.{Reachable}
use Rattle.bundles.specs.Bundle.{row_text, step_text}
use Rattle.bundles.proofs.Lengths.{row_numbers_lem, row_short, step_short}
use Rattle.session.specs.ReadGuarantee.{calls_of, RowFits, StepFits, CallFits}
use Rattle.calls.proofs.Accepted.{if_accepted, by_accepted}
use Rattle.calls.proofs.ByTerms.{answer_by_terms}
use Rattle.calls.proofs.PointJudged.{return_accepted}
use Rattle.calls.proofs.Premises.{sides_held, premise_fits}
use Rattle.calls.proofs.Reached.{reachable_laws}
use Rattle.calls.proofs.Returns.{Fits, empty_fits, fits_with, point_names_lem}
use Rattle.calls.proofs.RowAdded.{step_stays}
use Rattle.calls.proofs.StepJudged.{step_accepted}
use Rattle.calls.proofs.TermJudged.{term_accepted}
use Rattle.calls.proofs.TextLaws.{answers_as_defined, text_accepted, as_term_calls}
use Rattle.session.proofs.StepsAdded.{book_with_all, calls_behind}

-- the calls are accepted one after the other
abbrev pub AllTaken : Book → List Call → Type 0
AllTaken b [] = Unit {0}
AllTaken b (c ∷ cs) = ((book_answer b c).number ≡ 0) × AllTaken (book_with b c) cs

pub reachable_with : {b : Book} (c : Call) → Reachable b → (book_answer b c).number ≡ 0 → Reachable (book_with b c)
reachable_with {b} c h e = subst Reachable (sym (if_accepted (book_answer b c) _ refl (book_with b c) b e)) (after c h)

taken_last : (b : Book) (cs : List Call) (c : Call) → AllTaken b cs → (book_answer (book_with_all b cs) c).number ≡ 0
    → AllTaken b (cs ++ (c ∷ []))
taken_last b [] c h e = (e, tt)
taken_last b (d ∷ ds) c h e = (h.0, taken_last (book_with b d) ds c h.1 e)

-- the row r is put before steps that are accepted without it
steps_with_row : (r : Row) (b : Book) → Reachable b → (term_answer b.rows r).number ≡ 0 → (ps : List Step)
    → AllTaken b (map step ps) → AllTaken (book_with b (term r)) (map step ps)
unfolding step_answer
steps_with_row r b h new [] taken = tt
steps_with_row r b h new (p ∷ ps) taken =
    let same = step_stays b (reachable_laws h).held r p taken.0 in (
      ap (λ a. a.number) same ∙ taken.0,
      steps_with_row r (book_with b (step p)) (reachable_with (step p) h taken.0) new ps taken.1,
    )

-- the row r is put behind the rows rs
all_with_row : (r : Row) (b : Book) → Reachable b → (rs : List Row) (ps : List Step)
    → (term_answer (b.rows ++ rs) r).number ≡ 0 → AllTaken b (calls_of rs ps) →
    AllTaken b (calls_of (rs ++ (r ∷ [])) ps)
all_with_row r b h [] ps new taken =
    let here = subst (λ qs. (term_answer qs r).number ≡ 0) (append-nil b.rows) new in
    (here, steps_with_row r b h here ps taken)
all_with_row r b h (q ∷ rs) ps new taken =
    let later = subst (λ qs. (term_answer qs r).number ≡ 0) (sym (append_assoc b.rows (q ∷ []) rs)) new in
    (taken.0, all_with_row r (book_with b (term q)) (reachable_with (term q) h taken.0) rs ps later taken.1)

map_last : {A B : Type 0} (f : A → B) (xs : List A) (x : A) → map f (xs ++ (x ∷ [])) ≡ map f xs ++ (f x ∷ [])
map_last f [] x = refl
map_last f (y ∷ ys) x = ap (λ zs. f y ∷ zs) (map_last f ys x)

step_last : (rs : List Row) (ps : List Step) (p : Step) → calls_of rs (ps ++ (p ∷ [])) ≡ calls_of rs ps ++ (step p ∷ [])
step_last rs ps p =
    ap (λ cs. map term rs ++ cs) (map_last step ps p) ∙ sym (append_assoc (map term rs) (map step ps) (step p ∷ []))

-- rows and steps of 16-bit numbers that are accepted, rows first, from the empty book
pub record Sorted (rs : List Row) (ps : List Step) : Type 0 where
  pub taken : AllTaken empty_book (calls_of rs ps)
  pub rows_fit : Every RowFits rs
  pub steps_fit : Every StepFits ps
  pub rows_short : Every (λ r. length (row_text r) ≤ 15) rs
  pub steps_short : Every (λ p. length (step_text p) ≤ 23) ps

-- an accepted row is short, since it is the last of the rows that are then held
short_row : (b : Book) (r : Row) → Reachable b → (term_answer b.rows r).number ≡ 0 → RowFits r
    → length (row_text r) ≤ 15
short_row b r h new fit =
    let rs = b.rows in
    let built = (reachable_laws (reachable_with (term r) h new)).held.built in
    let last : row_at (rs ++ (r ∷ [])) (length rs) ≡ r = get_or_at rs r [] no_row (length rs) refl in
    let room = (term_accepted rs r new).room in
    let inside : length rs < length (rs ++ (r ∷ [])) = omega (arith, length-append rs (r ∷ [])) in
    subst (λ q. length (row_text q) ≤ 15) last (row_short built (length rs) inside room (subst RowFits (sym last) fit))

-- an accepted step is short
short_step : (b : Book) (p : Step) → length b.rows ≤ max_rows → (step_answer b p).number ≡ 0
    → length (step_text p) ≤ 23
unfolding step_answer
short_step b p few e =
    let t = step_accepted (is_yielded b p) b p e in
    let sides = sides_held b.rows p t.sides in
    let premises = premise_fits (length b.steps) p t.premises in
    step_short p (omega (arith, t.rule)) (omega (arith, sides.left)) (omega (arith, sides.right))
    (omega (arith, premises.0, t.room)) (omega (arith, premises.1, t.room))

abbrev PointSorted : Point → Type 0
PointSorted q = Sorted q.rows q.steps

-- what a book holds is sorted, and so is what each of its points holds
pub record AllSorted (b : Book) : Type 0 where
  pub reachable : Reachable b
  pub fits : Fits b
  pub held : Sorted b.rows b.steps
  pub points : Every PointSorted b.points

module _ (b : Book) (o : AllSorted b) where
  with_row : (r : Row) → (term_answer b.rows r).number ≡ 0 → RowFits r → Sorted (b.rows ++ (r ∷ [])) b.steps
  with_row r new fit =
      let h = o.held in
      record {
        taken = all_with_row r empty_book first b.rows b.steps new h.taken;
        rows_fit = every_more RowFits b.rows r h.rows_fit fit;
        steps_fit = h.steps_fit;
        rows_short = every_more _ b.rows r h.rows_short (short_row b r o.reachable new fit);
        steps_short = h.steps_short;
      }

  with_step_lem : (p : Step) → (step_answer b p).number ≡ 0 → StepFits p → Sorted b.rows (b.steps ++ (p ∷ []))
  unfolding step_answer step_answer_by is_yielded
  with_step_lem p e fit =
      let h = o.held in
      let behind = calls_behind b.rows b.steps in
      let here = subst (λ d. (step_answer d p).number ≡ 0) (sym behind) e in
      let all = taken_last empty_book (calls_of b.rows b.steps) (step p) h.taken here in
      record {
        taken = subst (AllTaken empty_book) (sym (step_last b.rows b.steps p)) all;
        rows_fit = h.rows_fit;
        steps_fit = every_more StepFits b.steps p h.steps_fit fit;
        rows_short = h.rows_short;
        steps_short = every_more _ b.steps p h.steps_short (short_step b p o.fits.rows e);
      }

  module _ (c : Call) (e : (book_answer b c).number ≡ 0) (fit : CallFits c) where
    all_with : Sorted (book_with b c).rows (book_with b c).steps
        → Every PointSorted (book_with b c).points → AllSorted (book_with b c)
    all_with held points =
        let by_rows = ap (λ a. a.number) (answer_by_terms b c o.reachable) ∙ e in
        record {
          reachable = reachable_with c o.reachable e;
          fits = fits_with b c o.fits by_rows;
          held = held;
          points = points;
        }

term_sorted : (b : Book) (r : Row) → AllSorted b → (term_answer b.rows r).number ≡ 0 → RowFits r
    → AllSorted (book_with b (term r))
term_sorted b r o e fit = all_with b o (term r) e fit (with_row b o r e fit) o.points

-- of an accepted row's numbers only a name's may have more than 16 bits
row_fits : (b : Book) (r : Row) → Reachable b → (term_answer b.rows r).number ≡ 0 → NameFits r → RowFits r
row_fits b r h new m =
    let rs = b.rows in
    let built = (reachable_laws (reachable_with (term r) h new)).held.built in
    let last : row_at (rs ++ (r ∷ [])) (length rs) ≡ r = get_or_at rs r [] no_row (length rs) refl in
    let room = (term_accepted rs r new).room in
    let inside : length rs < length (rs ++ (r ∷ [])) = omega (arith, length-append rs (r ∷ [])) in
    subst RowFits last (row_numbers_lem built (length rs) inside room (subst NameFits (sym last) m))

-- rows that are added one after the other, as a text's are
rows_sorted : (rs : List Row) (b : Book) → AllSorted b → Every NameFits rs →
    AllSorted (final plain_book b (map term rs))
unfolding final
rows_sorted [] b o m = o
rows_sorted (r ∷ rs) b o m =
    let kept = by_accepted AllSorted (book_answer b (term r)) (book_with b (term r)) b
    (λ e. term_sorted b r o e (row_fits b r o.reachable e m.0)) o in
    rows_sorted rs _ kept m.1

text_sorted : (b : Book) (names t : Bytes) → AllSorted b → (text_answer b.rows names t).number ≡ 0
    → AllSorted (book_with b (text names t))
unfolding new_rows
text_sorted b names t o e =
    let (new, grown, few) = text_accepted b.rows names t e in
    let named = every_map RowFits NameFits (λ r h. h.1.1.1.0) b.rows o.held.rows_fit in
    let all = answer_numbered names t b.rows named _ _ _ ((answers_as_defined names t b.rows _ _ _).1 refl) in
    let are_new : drop (length b.rows) (text_reply names t b.rows).rows ≡ new =
    ap (drop (length b.rows)) grown ∙ drop-append_seam b.rows new in
    let later = every_later NameFits b.rows new (subst (Every NameFits) grown all) in
    subst AllSorted (as_term_calls b o.reachable names t e).1
    (rows_sorted (new_rows b names t) b o (subst (Every NameFits) (sym are_new) later))

pub sorted_with : (b : Book) (c : Call) → AllSorted b → (book_answer b c).number ≡ 0 → CallFits c
    → AllSorted (book_with b c)
sorted_with b (term r) o e fit = term_sorted b r o e fit
sorted_with b (step p) o e fit = all_with b o (step p) e fit (with_step_lem b o p e fit) o.points
sorted_with b (text names t) o e fit = text_sorted b names t o e
sorted_with b (point n) o e fit =
    all_with b o (point n) e fit o.held
    (every_more PointSorted b.points (books.point n b.rows b.steps) o.points o.held)
sorted_with b (return n) o e fit =
    let place = place_of (point_names b.points) n in
    let inside = return_accepted (point_names b.points) n e in
    let there = every_there PointSorted no_point b.points place o.points
    (omega (arith, inside, point_names_lem b.points)) in
    all_with b o (return n) e fit there (every_first PointSorted (place + 1) b.points o.points)

pub empty_sorted : AllSorted empty_book
empty_sorted =
    record {
      reachable = first;
      fits = empty_fits;
      held = record { taken = tt; rows_fit = tt; steps_fit = tt; rows_short = tt; steps_short = tt };
      points = tt;
    }

sorted_after : (b : Book) (cs : List Call) → AllSorted b → Every CallFits cs → AllSorted (final plain_book b cs)
unfolding final
sorted_after b [] o fits = o
sorted_after b (c ∷ cs) o fits =
    let kept = by_accepted AllSorted (book_answer b c) (book_with b c) b (λ e. sorted_with b c o e fits.0) o in
    sorted_after (next plain_book b c) cs kept fits.1

-- so of what every list of calls leaves
pub calls_sorted : (cs : List Call) → Every CallFits cs → AllSorted (book_after cs)
calls_sorted cs fits = sorted_after empty_book cs empty_sorted fits
