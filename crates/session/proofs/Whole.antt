-- The session that a book determines shows that book, and moves as it does.
use Prim.Native.Nat.{ℕ, zero, suc, ◌+◌, ◌-◌, ◌*◌, ◌≤◌, ◌<◌, min}
use mathlib.Core.Path.{◌≡◌, refl, sym, ap, subst, ◌∙◌}
use mathlib.Core.List.{List, [], ◌∷◌, ◌++◌, map, append_assoc, append-nil}
use native.Mathlib.Nat.{add_comm, sub-zero, mul-zero, mul-suc, mul-le-mul_left}
use native.Mathlib.Omega.{arith}
use lib.ListN.{length, get_or, take, drop, replicate, length-append, length-replicate}
use lib.ListN.{take-append-drop, get_or-map}
use lib.Seq.{sets, sets-eq, take_at, drop-append-add, drop-append_seam, length-take-le}
use Rattle.common.specs.Lists.{Every, joined}
use Rattle.common.proofs.Entries.{every_there}
use Rattle.terms.specs.Row.{Row, table_of, max_rows, table_with}
use Rattle.calls.specs.declared.points.PointCounts.{PointCounts}
use Rattle.calls.specs.Book as books
use Rattle.calls.specs.Book.{Step, max_steps, Point, no_point, max_points, Book, empty_book, pointed_book}
use Rattle.calls.specs.TextCall.{text_reply}
use Rattle.calls.specs.PointCall.{point_names, place_of}
use Rattle.calls.specs.Calls.{Call, term, step, text, point, return, book_with, row_answer}
use Rattle.calls.specs.Promises.{row_yielded, row_step_answer}
use Rattle.calls.specs.represent.Tables.{row_width, step_width, steps_of, first_rows, first_steps}
use Rattle.calls.specs.represent.Points.{point_width, counts, no_counts, counts_of, counts_names, point_named}
use Rattle.calls.specs.represent.Points.{first_points}
use Rattle.calls.specs.represent.Points.{cleared}
use Rattle.session.specs.View.{points_in, point_of, view, fresh_session}
use Rattle.terms.specs.Row.{row_numbers}
use Rattle.calls.specs.Book.{step_numbers}
use Rattle.session.specs.View.{with_row, with_rows, with_step, with_point, at_point}
use Rattle.session.specs.Promises.{session_with}
use Rattle.session.specs.SessionLaws.{filled, point_numbers, session_of}
use Rattle.calls.proofs.TermJudged.{term_accepted}
use Rattle.calls.proofs.StepJudged.{step_accepted}
use Rattle.calls.proofs.TextLaws.{text_accepted}
use Rattle.calls.proofs.PointJudged.{point_accepted, return_accepted}
use Rattle.calls.proofs.Returns.{Begins, Fits, point_names_lem}

-- numbers of entries
joined_append : {A : Type 0} (f : A → List ℕ) (xs ys : List A) → joined f (xs ++ ys) ≡ joined f xs ++ joined f ys
unfolding joined
joined_append f [] ys = refl
joined_append f (x ∷ xs) ys =
    ap (λ zs. f x ++ zs) (joined_append f xs ys) ∙ sym (append_assoc (f x) (joined f xs) (joined f ys))

-- tables with zeros at their end
drop_zeros : (k m : ℕ) → drop k (replicate {A = ℕ} m 0) ≡ replicate (m - k) 0
drop_zeros zero m = ap (λ k. replicate {A = ℕ} k 0) (sym (sub-zero m))
drop_zeros (suc k) zero = let e : 0 ≡ 0 - suc k = omega arith in ap (λ j. replicate {A = ℕ} j 0) e
drop_zeros (suc k) (suc m) =
    let e : m - k ≡ suc m - suc k = omega arith in drop_zeros k m ∙ ap (λ j. replicate {A = ℕ} j 0) e

filled_length : (n : ℕ) (xs : List ℕ) → length xs ≤ n → length (filled n xs) ≡ n
filled_length n xs h =
    omega (arith, length-append xs (replicate (n - length xs) 0), length-replicate {A = ℕ} (n - length xs) 0)

filled_more : (n : ℕ) (xs vs : List ℕ) → length xs + length vs ≤ n
    → sets (filled n xs) (length xs) vs ≡ filled n (xs ++ vs)
filled_more n xs vs h =
    let zeros : List ℕ = replicate (n - length xs) 0 in
    let size = filled_length n xs (omega arith) in
    let rest : (n - length xs) - length vs ≡ n - length (xs ++ vs) = omega (arith, length-append xs vs) in
    sets-eq vs (filled n xs) (length xs) (omega arith)
    ∙ ap (λ ys. ys ++ vs ++ drop (length xs + length vs) (filled n xs)) (take_at xs zeros (length xs) refl)
    ∙ ap (λ ys. xs ++ vs ++ ys) (drop-append-add xs zeros (length vs) ∙ drop_zeros (length vs) (n - length xs))
    ∙ ap (λ k. xs ++ vs ++ replicate k 0) rest

filled_first : (n : ℕ) (xs ys : List ℕ) → take (length xs) (filled n (xs ++ ys)) ≡ xs
filled_first n xs ys =
    let zeros : List ℕ = replicate (n - length (xs ++ ys)) 0 in
    ap (take (length xs)) (append_assoc xs ys zeros) ∙ take_at xs (ys ++ zeros) (length xs) refl

filled_cleared : (n : ℕ) (xs ys : List ℕ) → length (xs ++ ys) ≤ n → cleared (length xs) (filled n (xs ++ ys))
    ≡ filled n xs
filled_cleared n xs ys h =
    let rest : length (filled n (xs ++ ys)) - length xs ≡ n - length xs = omega (arith, filled_length n (xs ++ ys) h) in
    ap (λ zs. zs ++ replicate (length (filled n (xs ++ ys)) - length xs) 0) (filled_first n xs ys)
    ∙ ap (λ m. xs ++ replicate m 0) rest

-- a table of entries with w numbers each, and room for n entries
module _ {A : Type 0} (w n : ℕ) (f : A → List ℕ) (width : (x : A) → length (f x) ≡ w) where
  joined_length : (xs : List A) → length (joined f xs) ≡ w * length xs
  unfolding joined
  joined_length [] = sym (mul-zero w)
  joined_length (x ∷ xs) =
      length-append (f x) (joined f xs) ∙ ap (λ k. k + length (joined f xs)) (width x)
      ∙ ap (λ k. w + k) (joined_length xs) ∙ add_comm w (w * length xs) ∙ sym (mul-suc w (length xs))

  within : (xs : List A) → length xs ≤ n → length (joined f xs) ≤ w * n
  within xs h = rw (joined_length xs) (mul-le-mul_left w h)

  -- with more, and with one more
  table_added : (xs ys : List A) → length (xs ++ ys) ≤ n
      → sets (filled (w * n) (joined f xs)) (w * min (length xs) n) (joined f ys) ≡ filled (w * n) (joined f (xs ++ ys))
  table_added xs ys room =
      let held : min (length xs) n ≡ length xs = omega (arith, length-append xs ys) in
      let fit : length (joined f (xs ++ ys)) ≤ w * n = within (xs ++ ys) room in
      let both = ap length (joined_append f xs ys) in
      ap (λ k. sets (filled (w * n) (joined f xs)) k (joined f ys)) (ap (λ k. w * k) held ∙ sym (joined_length xs))
      ∙ filled_more (w * n) (joined f xs) (joined f ys) (omega (arith, length-append (joined f xs) (joined f ys)))
      ∙ ap (filled (w * n)) (sym (joined_append f xs ys))

  table_more : (xs : List A) (x : A) → length xs < n
      → sets (filled (w * n) (joined f xs)) (w * min (length xs) n) (f x) ≡ filled (w * n) (joined f (xs ++ (x ∷ [])))
  unfolding joined
  table_more xs x room =
      ap (sets (filled (w * n) (joined f xs)) (w * min (length xs) n)) (sym (append-nil (f x)))
      ∙ table_added xs (x ∷ []) (omega (arith, length-append xs (x ∷ [])))

  -- the numbers of the first entries, and those alone
  table_first : (xs later all : List A) → all ≡ xs ++ later → length xs ≤ n
      → take (w * min (length xs) n) (filled (w * n) (joined f all)) ≡ joined f xs
  table_first xs later all e h =
      let held : min (length xs) n ≡ length xs = omega arith in
      ap (λ k. take k (filled (w * n) (joined f all))) (ap (λ k. w * k) held ∙ sym (joined_length xs))
      ∙ ap (λ ys. take (length (joined f xs)) (filled (w * n) ys)) (ap (joined f) e ∙ joined_append f xs later)
      ∙ filled_first (w * n) (joined f xs) (joined f later)

  table_cleared : (xs later all : List A) → all ≡ xs ++ later → length all ≤ n
      → cleared (w * length xs) (filled (w * n) (joined f all)) ≡ filled (w * n) (joined f xs)
  table_cleared xs later all e h =
      let same = ap (joined f) e ∙ joined_append f xs later in
      let size : length (joined f xs ++ joined f later) ≤ w * n = subst (λ ys. length ys ≤ w * n) same (within all h) in
      ap (λ k. cleared k (filled (w * n) (joined f all))) (sym (joined_length xs))
      ∙ ap (λ ys. cleared (length (joined f xs)) (filled (w * n) ys)) same
      ∙ filled_cleared (w * n) (joined f xs) (joined f later) size

-- the entries of such numbers
rows_joined : (rs : List Row) → table_of (joined row_numbers rs) ≡ rs
unfolding table_of joined
rows_joined [] = refl
rows_joined (r ∷ rs) = ap (λ qs. r ∷ qs) (rows_joined rs)

steps_joined : (ps : List Step) → steps_of (joined step_numbers ps) ≡ ps
unfolding steps_of joined
steps_joined [] = refl
steps_joined (p ∷ ps) = ap (λ qs. p ∷ qs) (steps_joined ps)

abbrev counts_in : Point → PointCounts
counts_in q = counts q.name (length q.rows) (length q.steps)

points_joined : (qs : List Point) → counts_of (joined point_numbers qs) ≡ map counts_in qs
unfolding counts_of joined
points_joined [] = refl
points_joined (q ∷ qs) = ap (λ cs. counts_in q ∷ cs) (points_joined qs)

names_counted : (qs : List Point) → counts_names (map counts_in qs) ≡ point_names qs
names_counted [] = refl
names_counted (q ∷ qs) = ap (λ ns. q.name ∷ ns) (names_counted qs)

first_rows_of : (rs later all : List Row) → all ≡ rs ++ later → length rs ≤ max_rows
    → first_rows (length rs) (filled (row_width * max_rows) (joined row_numbers all)) ≡ rs
first_rows_of rs later all e h =
    ap table_of (table_first row_width max_rows row_numbers (λ r. refl) rs later all e h) ∙ rows_joined rs

first_steps_of : (ps later all : List Step) → all ≡ ps ++ later → length ps ≤ max_steps
    → first_steps (length ps) (filled (step_width * max_steps) (joined step_numbers all)) ≡ ps
first_steps_of ps later all e h =
    ap steps_of (table_first step_width max_steps step_numbers (λ p. refl) ps later all e h) ∙ steps_joined ps

first_points_of : (qs : List Point) → length qs ≤ max_points
    → first_points (length qs) (filled (point_width * max_points) (joined point_numbers qs)) ≡ map counts_in qs
first_points_of qs h =
    ap counts_of (table_first point_width max_points point_numbers (λ q. refl) qs [] qs (sym (append-nil qs)) h)
    ∙ points_joined qs

one_more : {A : Type 0} (n : ℕ) (xs : List A) (x : A) → length xs < n → min (length xs) n + 1 ≡ length (xs ++ (x ∷ []))
one_more n xs x h = omega (arith, length-append xs (x ∷ []))

module _ (b : Book) (fits : Fits b) where
  abbrev row_table : List ℕ
  row_table = filled (row_width * max_rows) (joined row_numbers b.rows)

  abbrev step_table : List ℕ
  step_table = filled (step_width * max_steps) (joined step_numbers b.steps)

  -- each point shows the rows and steps that it was set with
  points_shown : (qs : List Point) → Every (λ q. Begins q b.rows b.steps) qs
      → map (point_of row_table step_table) (map counts_in qs) ≡ qs
  points_shown [] w = refl
  points_shown (q ∷ qs) w =
      let first = w.0 in
      let rows : length q.rows ≤ max_rows =
      omega (arith, fits.rows, ap length first.rows, length-append q.rows first.later_rows) in
      let steps : length q.steps ≤ max_steps =
      omega (arith, fits.steps, ap length first.steps, length-append q.steps first.later_steps) in
      let of-rows = first_rows_of q.rows first.later_rows b.rows first.rows rows in
      let of_steps = first_steps_of q.steps first.later_steps b.steps first.steps steps in
      let later = points_shown qs w.1 in
      λ i. books.point q.name (of-rows i) (of_steps i) ∷ later i

  points_in_lem : points_in (session_of b) ≡ map counts_in b.points
  unfolding session_of
  points_in_lem = first_points_of b.points fits.points

  pub view_of : view (session_of b) ≡ b
  unfolding view session_of
  view_of =
      let rows = first_rows_of b.rows [] b.rows (sym (append-nil b.rows)) fits.rows in
      let steps = first_steps_of b.steps [] b.steps (sym (append-nil b.steps)) fits.steps in
      let points = ap (map (point_of row_table step_table)) points_in_lem ∙ points_shown b.points fits.begin in
      λ i. pointed_book (rows i) (steps i) (points i)

  -- a row, a step or a point more
  with_row_of : (r : Row) → length b.rows < max_rows → with_row (session_of b) r ≡ session_of (book_with b (term r))
  unfolding with_row session_of
  with_row_of r room =
      let table = table_more row_width max_rows row_numbers (λ r. refl) b.rows r room in
      let count = one_more max_rows b.rows r room in
      λ i. record {
        rows = table i;
        row_count = count i;
        steps = (session_of b).steps;
        step_count = (session_of b).step_count;
        points = (session_of b).points;
        point_count = (session_of b).point_count;
      }

  -- the rows ss are those held and new ones, and there is room for them
  pub with_rows_of : (ss new : List Row) → ss ≡ b.rows ++ new → length ss ≤ max_rows
      → with_rows (session_of b) ss ≡ session_of (pointed_book ss b.steps b.points)
  unfolding with_rows table_with session_of
  with_rows_of ss new e few =
      let n = min (length b.rows) max_rows in
      let held : n ≡ length b.rows = omega (arith, fits.rows) in
      let news : drop n ss ≡ new =
      ap (λ k. drop k ss) held ∙ ap (drop (length b.rows)) e ∙ drop-append_seam b.rows new in
      let table = ap (λ rs. sets row_table (row_width * n) (joined row_numbers rs)) news
      ∙ table_added row_width max_rows row_numbers (λ r. refl) b.rows new (subst (λ rs. length rs ≤ max_rows) e few)
      ∙ ap (λ rs. filled (row_width * max_rows) (joined row_numbers rs)) (sym e) in
      λ i. record {
        rows = table i;
        row_count = length ss;
        steps = (session_of b).steps;
        step_count = (session_of b).step_count;
        points = (session_of b).points;
        point_count = (session_of b).point_count;
      }

  with_step_of : (p : Step) → length b.steps < max_steps → with_step (session_of b) p
      ≡ session_of (book_with b (step p))
  unfolding with_step session_of
  with_step_of p room =
      let table = table_more step_width max_steps step_numbers (λ p. refl) b.steps p room in
      let count = one_more max_steps b.steps p room in
      λ i. record {
        rows = (session_of b).rows;
        row_count = (session_of b).row_count;
        steps = table i;
        step_count = count i;
        points = (session_of b).points;
        point_count = (session_of b).point_count;
      }

  with_point_of : (n : ℕ) → length b.points < max_points
      → with_point (session_of b) n ≡ session_of (book_with b (point n))
  unfolding with_point session_of
  with_point_of n room =
      let q = books.point n b.rows b.steps in
      let all_rows : min (length b.rows) max_rows ≡ length b.rows = omega (arith, fits.rows) in
      let all_steps : min (length b.steps) max_steps ≡ length b.steps = omega (arith, fits.steps) in
      let before = filled (point_width * max_points) (joined point_numbers b.points) in
      let at = point_width * min (length b.points) max_points in
      let table = (λ i. sets before at (n ∷ all_rows i ∷ all_steps i ∷ []))
      ∙ table_more point_width max_points point_numbers (λ q. refl) b.points q room in
      let count = one_more max_points b.points q room in
      λ i. record {
        rows = (session_of b).rows;
        row_count = (session_of b).row_count;
        steps = (session_of b).steps;
        step_count = (session_of b).step_count;
        points = table i;
        point_count = count i;
      }

  -- a return
  module _ (n : ℕ) (here : place_of (point_names b.points) n < length b.points) where
    abbrev place : ℕ
    place = place_of (point_names b.points) n

    abbrev there : Point
    there = get_or b.points place no_point

    place_of_lem : place_of (counts_names (points_in (session_of b))) n ≡ place
    place_of_lem = ap (λ cs. place_of (counts_names cs) n) points_in_lem
        ∙ ap (λ ns. place_of ns n) (names_counted b.points)

    counts_of_lem : point_named (points_in (session_of b)) n ≡ counts_in there
    counts_of_lem =
        ap (λ i. get_or (points_in (session_of b)) i no_counts) place_of_lem
        ∙ ap (λ cs. get_or cs place no_counts) points_in_lem ∙ get_or-map counts_in b.points place no_point

    at_point_of : at_point (session_of b) n ≡ session_of (book_with b (return n))
    unfolding at_point session_of
    at_point_of =
        let w = every_there (λ q. Begins q b.rows b.steps) no_point b.points place fits.begin here in
        let first = take (place + 1) b.points in
        let first_count : length first ≡ place + 1 = length-take-le (place + 1) b.points (omega arith) in
        let points-split = sym (take-append-drop (place + 1) b.points) in
        let rows = ap (λ c. cleared (row_width * c.rows) (session_of b).rows) counts_of_lem
        ∙ table_cleared row_width max_rows row_numbers (λ r. refl) there.rows _ b.rows w.rows fits.rows in
        let steps = ap (λ c. cleared (step_width * c.steps) (session_of b).steps) counts_of_lem
        ∙ table_cleared step_width max_steps step_numbers (λ p. refl) there.steps _ b.steps w.steps
        fits.steps in
        let points = ap (λ i. cleared (point_width * (i + 1)) (session_of b).points) place_of_lem
        ∙ ap (λ k. cleared (point_width * k) (session_of b).points) (sym first_count)
        ∙ table_cleared point_width max_points point_numbers (λ q. refl) first _ b.points points-split fits.points in
        let count = ap (λ i. i + 1) place_of_lem ∙ sym first_count in
        λ i. record {
          rows = rows i;
          row_count = (counts_of_lem i).rows;
          steps = steps i;
          step_count = (counts_of_lem i).steps;
          points = points i;
          point_count = count i;
        }

-- an accepted call makes of the book's session the session of what it makes of the book
pub with_of : (b : Book) (c : Call) → Fits b → (row_answer b c).number ≡ 0 → session_with (session_of b) c
    ≡ session_of (book_with b c)
unfolding row_step_answer
with_of b (term r) fits e = with_row_of b fits r (term_accepted b.rows r e).room
with_of b (step p) fits e = with_step_of b fits p (step_accepted (row_yielded b p) b p e).room
with_of b (text names t) fits e =
    let (new, grown, few) = text_accepted b.rows names t e in
    ap (λ d. with_rows (session_of b) (text_reply names t d.rows).rows) (view_of b fits)
    ∙ with_rows_of b fits _ new grown few
with_of b (point n) fits e =
    with_point_of b fits n (omega (arith, (point_accepted (point_names b.points) n e).room, point_names_lem b.points))
with_of b (return n) fits e =
    at_point_of b fits n (omega (arith, return_accepted (point_names b.points) n e, point_names_lem b.points))

pub fresh_of : fresh_session ≡ session_of empty_book
unfolding fresh_session session_of joined
fresh_of = refl
