-- Points and returns on the plain book: each point's rows and steps begin those of later points and those held, and a
-- return restores the book.
use Prim.Native.Nat.{ℕ, zero, suc, ◌+◌, ◌≤◌, ◌<◌}
use mathlib.Core.Path.{◌≡◌, refl, sym, ap, subst, ◌∙◌}
use mathlib.Core.Bool.{Bool, true, false, cond}
use mathlib.Core.List.{List, [], ◌∷◌, ◌++◌, append_assoc, append-nil}
use native.Mathlib.Omega.{arith}
use native.Mathlib.Numerals.{add-one}
use lib.Dec.{eqb}
use lib.ListN.{length, get_or, take, length-append, length-map}
use lib.Seq.{get_or_at, length-take-le, take-append-add}
use borrow.Author.Tests.{eq-eqb}
use Rattle.common.specs.Lists.{Every}
use Rattle.common.proofs.Entries.{every_map, every_more, every_first, every_there}
use Rattle.terms.specs.Row.{Row, max_rows}
use Rattle.calls.specs.Book as books
use Rattle.calls.specs.Book.{Step, Point, no_point, max_steps, max_points, Book, empty_book, answer}
use Rattle.selector_grammar.specs.Bytes.{Bytes}
use Rattle.calls.specs.TextCall.{text_answer}
use Rattle.calls.specs.PointCall.{point_names, place_of, point_book, return_book}
use Rattle.calls.specs.Promises.{row_yielded, row_step_answer}
use Rattle.calls.specs.Runs.{next, final}
use Rattle.calls.specs.Calls.{Call, term, step, text, point, return, book_answer, book_with, plain_book, row_answer}
use Rattle.calls.specs.PointLaws.{KeepsPoints, ReturnRestores}
use Rattle.calls.proofs.Accepted.{if_accepted, by_accepted}
use Rattle.calls.proofs.TermJudged.{term_accepted}
use Rattle.calls.proofs.StepJudged.{step_accepted}
use Rattle.calls.proofs.TextLaws.{text_accepted}
use Rattle.calls.proofs.PointJudged.{point_accepted, return_accepted, returns_there}

-- the rows and steps of the point begin these
pub record Begins (p : Point) (rs : List Row) (ps : List Step) : Type 0 where
  pub later_rows : List Row
  pub rows : rs ≡ p.rows ++ later_rows
  pub later_steps : List Step
  pub steps : ps ≡ p.steps ++ later_steps

begins_itself : (p : Point) → Begins p p.rows p.steps
begins_itself p =
    record { later_rows = []; rows = sym (append-nil p.rows); later_steps = []; steps = sym (append-nil p.steps) }

begins_rows : (new : List Row) (p : Point) (rs : List Row) (ps : List Step) → Begins p rs ps → Begins p (rs ++ new) ps
begins_rows new p rs ps w =
    record {
      later_rows = w.later_rows ++ new;
      rows = ap (λ xs. xs ++ new) w.rows ∙ append_assoc p.rows w.later_rows new;
      later_steps = w.later_steps;
      steps = w.steps;
    }

begins_step_lem : (q : Step) (p : Point) (rs : List Row) (ps : List Step) → Begins p rs ps
    → Begins p rs (ps ++ (q ∷ []))
begins_step_lem q p rs ps w =
    record {
      later_rows = w.later_rows;
      rows = w.rows;
      later_steps = w.later_steps ++ (q ∷ []);
      steps = ap (λ xs. xs ++ (q ∷ [])) w.steps ∙ append_assoc p.steps w.later_steps (q ∷ []);
    }

-- each point begins those after it
abbrev pub Ordered : List Point → Type 0
Ordered [] = Unit {0}
Ordered (p ∷ ps) = Every (λ q. Begins p q.rows q.steps) ps × Ordered ps

ordered_more : (ps : List Point) (q : Point) → Ordered ps → Every (λ p. Begins p q.rows q.steps) ps
    → Ordered (ps ++ (q ∷ []))
ordered_more [] q w h = (tt, tt)
ordered_more (p ∷ ps) q w h =
    (every_more (λ r. Begins p r.rows r.steps) ps q w.0 h.0, ordered_more ps q w.1 h.1)

ordered_first : (n : ℕ) (ps : List Point) → Ordered ps → Ordered (take n ps)
ordered_first zero ps w = tt
ordered_first (suc n) [] w = tt
ordered_first (suc n) (p ∷ ps) w =
    (every_first (λ r. Begins p r.rows r.steps) n ps w.0, ordered_first n ps w.1)

-- the points up to point i begin it
begin_there : (ps : List Point) (i : ℕ) → i < length ps → Ordered ps
    → Every (λ p. Begins p (get_or ps i no_point).rows (get_or ps i no_point).steps) (take (suc i) ps)
begin_there [] i h w = tt
begin_there (p ∷ ps) zero h w = (begins_itself p, tt)
begin_there (p ∷ ps) (suc i) h w = (
  every_there (λ r. Begins p r.rows r.steps) no_point ps i w.0 (omega arith),
  begin_there ps i (omega arith) w.1,
)

-- a book that a session has room for, and whose points begin one another and what is held
pub record Fits (b : Book) : Type 0 where
  pub rows : length b.rows ≤ max_rows
  pub steps : length b.steps ≤ max_steps
  pub points : length b.points ≤ max_points
  pub begin : Every (λ p. Begins p b.rows b.steps) b.points
  pub ordered : Ordered b.points

pub empty_fits : Fits empty_book
empty_fits = record { rows = omega arith; steps = omega arith; points = omega arith; begin = tt; ordered = tt }

module _ (b : Book) (w : Fits b) where
  rows_fit : (new : List Row) → length (b.rows ++ new) ≤ max_rows
      → Fits (books.pointed_book (b.rows ++ new) b.steps b.points)
  rows_fit new room =
      record {
        rows = room;
        steps = w.steps;
        points = w.points;
        begin = every_map (λ p. Begins p b.rows b.steps) (λ p. Begins p (b.rows ++ new) b.steps)
            (λ p. begins_rows new p b.rows b.steps) b.points w.begin;
        ordered = w.ordered;
      }

  row_fits : (r : Row) → length b.rows < max_rows → Fits (book_with b (term r))
  row_fits r room = rows_fit (r ∷ []) (omega (arith, length-append b.rows (r ∷ [])))

  text_fits : (names t : Bytes) → (text_answer b.rows names t).number ≡ 0 → Fits (book_with b (text names t))
  text_fits names t e =
      let (new, grown, few) = text_accepted b.rows names t e in
      subst (λ rs. Fits (books.pointed_book rs b.steps b.points)) (sym grown)
      (rows_fit new (subst (λ rs. length rs ≤ max_rows) grown few))

  step_fits : (q : Step) → length b.steps < max_steps → Fits (book_with b (step q))
  step_fits q room =
      record {
        rows = w.rows;
        steps = omega (arith, length-append b.steps (q ∷ []));
        points = w.points;
        begin = every_map (λ p. Begins p b.rows b.steps) (λ p. Begins p b.rows (b.steps ++ (q ∷ [])))
            (λ p. begins_step_lem q p b.rows b.steps) b.points w.begin;
        ordered = w.ordered;
      }

  point_fits : (n : ℕ) → length b.points < max_points → Fits (book_with b (point n))
  point_fits n room =
      let q = books.point n b.rows b.steps in
      record {
        rows = w.rows;
        steps = w.steps;
        points = omega (arith, length-append b.points (q ∷ []));
        begin = every_more (λ p. Begins p b.rows b.steps) b.points q w.begin (begins_itself q);
        ordered = ordered_more b.points q w.ordered w.begin;
      }

  return_fits : (n : ℕ) → place_of (point_names b.points) n < length b.points → Fits (book_with b (return n))
  return_fits n here =
      let i = place_of (point_names b.points) n in
      let q = every_there (λ p. Begins p b.rows b.steps) no_point b.points i w.begin here in
      let p = get_or b.points i no_point in
      let fewer_rows : length p.rows ≤ length b.rows =
      rw q.rows (omega (arith, length-append p.rows q.later_rows)) in
      let fewer_steps : length p.steps ≤ length b.steps =
      rw q.steps (omega (arith, length-append p.steps q.later_steps)) in
      record {
        rows = omega (arith, fewer_rows, w.rows);
        steps = omega (arith, fewer_steps, w.steps);
        points = omega (arith, length-take-le (i + 1) b.points (omega arith), w.points);
        begin = rw (add-one i) (begin_there b.points i here w.ordered);
        ordered = ordered_first (i + 1) b.points w.ordered;
      }

pub point_names_lem : (ps : List Point) → length (point_names ps) ≡ length ps
point_names_lem ps = length-map ps (λ p. p.name)

-- so does the book with an accepted call, where steps are judged by row numbers
pub fits_with : (b : Book) (c : Call) → Fits b → (row_answer b c).number ≡ 0 → Fits (book_with b c)
unfolding row_step_answer
fits_with b (term r) w e = row_fits b w r (term_accepted b.rows r e).room
fits_with b (step p) w e = step_fits b w p (step_accepted (row_yielded b p) b p e).room
fits_with b (text names t) w e = text_fits b w names t e
fits_with b (point n) w e =
    point_fits b w n (omega (arith, (point_accepted (point_names b.points) n e).room, point_names_lem b.points))
fits_with b (return n) w e =
    return_fits b w n (omega (arith, return_accepted (point_names b.points) n e, point_names_lem b.points))

names_append : (ps qs : List Point) → point_names (ps ++ qs) ≡ point_names ps ++ point_names qs
names_append [] qs = refl
names_append (p ∷ ps) qs = ap (λ ns. p.name ∷ ns) (names_append ps qs)

-- a name that is none of the first ones stands after them
place_after : (ns ms : List ℕ) (n : ℕ) → ¬ (place_of ns n < length ns)
    → place_of (ns ++ ms) n ≡ length ns + place_of ms n
unfolding place_of
place_after [] ms n f = omega arith
place_after (x ∷ ns) ms n f = by_test (eqb x n) f (place_after ns ms n)
  where
    by_test : (b : Bool) → ¬ (cond b 0 (place_of ns n + 1) < length (x ∷ ns))
        → (¬ (place_of ns n < length ns) → place_of (ns ++ ms) n ≡ length ns + place_of ms n)
        → cond b 0 (place_of (ns ++ ms) n + 1) ≡ length (x ∷ ns) + place_of ms n
    by_test true f later = absurd (f (omega arith))
    by_test false f later = let h = later (λ l. f (omega arith)) in omega arith

-- the point n is set on b, which accepts it
module _ (b : Book) (n : ℕ) (taken : (book_answer b (point n)).number ≡ 0) where
  abbrev set : Point
  set = books.point n b.rows b.steps

  -- the points that b has then are the first ones of d
  record Kept (d : Book) : Type 0 where
    pub later : List Point
    pub points : d.points ≡ b.points ++ set ∷ later

  module _ (d : Book) (w : Kept d) where
    -- a name of no earlier point stands after those
    place_kept : (m : ℕ) → ¬ (place_of (point_names b.points) m < length (point_names b.points))
        → place_of (point_names d.points) m ≡ length b.points + place_of (n ∷ point_names w.later) m
    place_kept m f =
        ap (λ ps. place_of (point_names ps) m) w.points
        ∙ ap (λ ns. place_of ns m) (names_append b.points (set ∷ w.later))
        ∙ place_after (point_names b.points) (n ∷ point_names w.later) m f
        ∙ ap (λ k. k + place_of (n ∷ point_names w.later) m) (point_names_lem b.points)

    kept_with : (c : Call) → KeepsPoints (point_names b.points) c → (book_answer d c).number ≡ 0 → Kept (book_with d c)
    kept_with (term r) f e = record { later = w.later; points = w.points }
    kept_with (step p) f e = record { later = w.later; points = w.points }
    kept_with (text names t) f e = record { later = w.later; points = w.points }
    kept_with (point m) f e =
        let new = books.point m d.rows d.steps in
        record {
          later = w.later ++ (new ∷ []);
          points = ap (λ ps. ps ++ (new ∷ [])) w.points ∙ append_assoc b.points (set ∷ w.later) (new ∷ []);
        }
    kept_with (return m) f e =
        let j = place_of (n ∷ point_names w.later) m in
        let place = place_kept m f in
        let end : place_of (point_names d.points) m + 1 ≡ length b.points + suc j = omega arith in
        record {
          later = take j w.later;
          points = ap (λ k. take k d.points) end ∙ ap (take (length b.points + suc j)) w.points
              ∙ take-append-add b.points (set ∷ w.later) (suc j);
        }

  kept_final : (cs : List Call) (d : Book) → Kept d → Every (KeepsPoints (point_names b.points)) cs
      → Kept (final plain_book d cs)
  unfolding final
  kept_final [] d w fs = w
  kept_final (c ∷ cs) d w fs =
      let after = by_accepted Kept (book_answer d c) (book_with d c) d (kept_with d w c fs.0) w in
      kept_final cs (next plain_book d c) after fs.1

  -- then its place is known, and a return to it restores what was held
  module _ (d : Book) (w : Kept d) where
    place_set : place_of (point_names d.points) n ≡ length b.points
    unfolding place_of
    place_set =
        let new = (point_accepted (point_names b.points) n taken).new in
        let here : place_of (n ∷ point_names w.later) n ≡ 0 = rw (eq-eqb n n refl) in
        let place = place_kept d w n (λ l. absurd (omega arith)) in
        omega arith

    return_taken : answer 0 0 ≡ book_answer d (return n)
    return_taken =
        let place = place_set in
        let more : length d.points ≡ length b.points + suc (length w.later) =
        ap length w.points ∙ length-append b.points (set ∷ w.later) in
        returns_there (point_names d.points) n (omega (arith, point_names_lem d.points))

    restored : return_book d n ≡ point_book b n
    restored =
        let here : get_or d.points (place_of (point_names d.points) n) no_point ≡ set =
        ap (λ i. get_or d.points i no_point) place_set
        ∙ ap (λ ps. get_or ps (length b.points) no_point) w.points
        ∙ get_or_at b.points set w.later no_point (length b.points) refl in
        let left : take (place_of (point_names d.points) n + 1) d.points ≡ b.points ++ (set ∷ []) =
        ap (λ i. take (i + 1) d.points) place_set
        ∙ ap (take (length b.points + 1)) w.points
        ∙ take-append-add b.points (set ∷ w.later) 1 in
        λ i. books.pointed_book (here i).rows (here i).steps (left i)

pub return_restores : ReturnRestores
unfolding final
return_restores b n cs taken keep =
    let set_book : point_book b n ≡ next plain_book b (point n) = if_accepted (book_answer b (point n)) _ refl
    (point_book b n) b taken in
    let first : Kept b n taken (next plain_book b (point n)) =
    subst (Kept b n taken) set_book (record { later = []; points = refl }) in
    let d = final plain_book (next plain_book b (point n)) cs in
    let w = kept_final b n taken cs (next plain_book b (point n)) first keep in
    let accepts = return_taken b n taken d w in (
      sym accepts,
      sym (if_accepted (answer 0 0) _ accepts (return_book d n) d refl) ∙ restored b n taken d w ∙ set_book,
    )
