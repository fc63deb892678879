-- After every list of calls from a fresh start: of two editions of one series, the older path's nodes are among the
-- newer's, on every document.
use Prim.Native.Nat.{ℕ, zero, suc, ◌+◌, ◌-◌, ◌≤◌, ◌<◌}
use mathlib.Core.Path.{◌≡◌, refl, sym, ap, subst, ◌∙◌}
use mathlib.Core.Bool.{Bool, true, false, cond, not, ◌&&◌, false≢true}
use mathlib.Core.List.{List, [], ◌∷◌, ◌++◌}
use mathlib.Core.Logic.{⊎_elim}
use native.Mathlib.Omega.{arith}
use lib.Dec.{T, leb, ltb, eqb}
use lib.ListN.{length, get_or, length-append, get_or-append}
use lib.Seq.{get_or_at}
use borrow.Author.Tests.{eq-eqb, ne_eqb, eqb-true, eqb-false, ltb-true, ltb-false, leb-true, not-false, lt-ltb}
use Rattle.std.proofs.lemmas.Bool.{and_parts}
use Rattle.common.proofs.Reflect.{below_suc, true_iff}
use Rattle.common.proofs.Entries.{every_there}
use Rattle.common.specs.Lists.{all_of}
use Rattle.xpath.specs.Meaning.{selects}
use Rattle.terms.specs.Row.{Row, no_row, row_at}
use Rattle.terms.specs.Fields.{is_path, held_path}
use Rattle.terms.specs.Terms.{path_at, as_path}
use Rattle.terms.proofs.Terms.{term_stays}
use Rattle.rules.specs.Claim.{Containment, says, TrueOn, IsTrue}
use Rattle.calls.specs.Book.{Step, no_step, no_point, Answer, answer, accepted}
use Rattle.common.specs.Refusals.{full_or_in_use}
use Rattle.calls.specs.StepCall.{same_sort, claim_of, step_numbered}
use Rattle.calls.specs.PointCall.{point_names, place_of}
use Rattle.calls.specs.Runs.{Reached, first}
use Rattle.calls.specs.Calls.{Call, term, step, text, point, return, book_answer, plain_book, Reachable}
use Rattle.calls.specs.Above.{passed, own}
use Rattle.calls.proofs.PointJudged.{return_accepted}
use Rattle.calls.proofs.TextLaws.{text_accepted}
use Rattle.calls.proofs.Runs.{reached_law}
use Rattle.calls.proofs.Above.{passed_accepted, call_below}
use Rattle.calls.proofs.Returns.{Fits, empty_fits, fits_with, point_names_lem}
use Rattle.calls.proofs.Reached.{HeldLaws, reachable_laws}
use Rattle.calls.proofs.ByTerms.{answer_by_terms}
use Rattle.records.specs.declared.Record.{Record}
use Rattle.records.specs.Records.{empty_record, current, row_of, is_fit_step, record_answer, all_kept}
use Rattle.records.specs.Register.{drops_in_use, plain_records, RegisterCall, Holdings}
use Rattle.records.specs.Register.{plain_register, empty_register}
use Rattle.records.specs.Register.{Within, EditionsContained}
use Rattle.records.proofs.Judged.{Accepted, record_accepted}

-- every edition held of a series is at most the current one
current_most : (rs : List Record) (s i : ℕ) → i < length rs → (get_or rs i empty_record).series ≡ s
    → (get_or rs i empty_record).edition ≤ current rs s
unfolding current
current_most [] s i h e = absurd (omega arith)
current_most (r ∷ rs) s zero h e = by_test (eqb r.series s) (ltb (current rs s) r.edition) refl refl
  where
    by_test : (a b : Bool) → eqb r.series s ≡ a → ltb (current rs s) r.edition ≡ b
        → r.edition ≤ cond (a && b) r.edition (current rs s)
    by_test true true p q = omega arith
    by_test true false p q = ltb-false (current rs s) r.edition q
    by_test false b p q = absurd (eqb-false r.series s p e)
current_most (r ∷ rs) s (suc i) h e =
    by_test (eqb r.series s && ltb (current rs s) r.edition) refl (current_most rs s i (omega arith) e)
  where
    by_test : (a : Bool) → (eqb r.series s && ltb (current rs s) r.edition) ≡ a
        → (get_or rs i empty_record).edition ≤ current rs s
        → (get_or rs i empty_record).edition ≤ cond a r.edition (current rs s)
    by_test true p l =
        let q = ltb-true (current rs s) r.edition (and_parts (eqb r.series s) _ p).1 in omega arith
    by_test false p l = l

-- a record of that series, edition and row is held
abbrev HeldAs : List Record → (s e : ℕ) → (ℕ → Type 0) → Type 0
HeldAs rs s e P = (j : ℕ) × (j < length rs) × ((get_or rs j empty_record).series ≡ s)
    × ((get_or rs j empty_record).edition ≡ e)
    × P (get_or rs j empty_record).row

-- the current edition, where there is one, is held
current_held : (rs : List Record) (s : ℕ) → 0 < current rs s → HeldAs rs s (current rs s) (λ n. Unit {0})
unfolding current
current_held [] s h = absurd (omega arith)
current_held (r ∷ rs) s h = by_test (eqb r.series s && ltb (current rs s) r.edition) refl h
    (λ k. current_held rs s k)
  where
    by_test : (a : Bool) → (eqb r.series s && ltb (current rs s) r.edition) ≡ a
        → 0 < cond a r.edition (current rs s)
        → (0 < current rs s → HeldAs rs s (current rs s) (λ n. Unit {0}))
        → HeldAs (r ∷ rs) s (cond a r.edition (current rs s)) (λ n. Unit {0})
    by_test true p h later = (0, omega arith, eqb-true r.series s (and_parts (eqb r.series s) _ p).0, refl, tt)
    by_test false p h later = let (i, l, e, f, u) = later h in (suc i, omega arith, e, f, u)

-- the row of an edition that is held is that of some record of it
row_pattern : (rs : List Record) (s e i : ℕ) → i < length rs → (get_or rs i empty_record).series ≡ s
    → (get_or rs i empty_record).edition ≡ e
    → HeldAs rs s e (λ n. n ≡ row_of rs s e)
unfolding row_of
row_pattern [] s e i h p q = absurd (omega arith)
row_pattern (r ∷ rs) s e zero h p q = (0, h, p, q, rw (eq-eqb r.series s p, eq-eqb r.edition e q))
row_pattern (r ∷ rs) s e (suc i) h p q =
    by_test (eqb r.series s && eqb r.edition e) refl (row_pattern rs s e i (omega arith) p q)
  where
    by_test : (a : Bool) → (eqb r.series s && eqb r.edition e) ≡ a → HeldAs rs s e (λ n. n ≡ row_of rs s e)
        → HeldAs (r ∷ rs) s e (λ n. n ≡ cond a r.row (row_of rs s e))
    by_test true f w =
        let k = and_parts (eqb r.series s) (eqb r.edition e) f in
        (0, omega arith, eqb-true r.series s k.0, eqb-true r.edition e k.1, refl)
    by_test false f w = (suc w.0, omega arith, w.2, w.3, w.4)

-- so where the paths of records are held, the row of the current edition is a held path
pub current_path : (rows : List Row) (rs : List Record) → ((i : ℕ) → i < length rs
    → T (held_path rows (get_or rs i empty_record).row))
    → (s : ℕ) → 0 < current rs s → T (held_path rows (row_of rs s (current rs s)))
current_path rows rs paths s h =
    let (i, l, e, f, u) = current_held rs s h in
    let (j, m, g, k, q) = row_pattern rs s (current rs s) i l e f in
    subst (λ n. T (held_path rows n)) q (paths j m)

-- what is kept is there
kept_at : (n m : ℕ) (rs : List Record) → all_kept n m rs ≡ true → (i : ℕ) → i < length rs
    → (get_or rs i empty_record).row < n
unfolding all_kept all_of
kept_at n m [] e i h = absurd (omega arith)
kept_at n m (r ∷ rs) e zero h =
    let both = (and_parts (ltb r.row n && leb r.step m) (all_kept n m rs) e).0 in
    ltb-true r.row n (and_parts (ltb r.row n) (leb r.step m) both).0
kept_at n m (r ∷ rs) e (suc i) h =
    kept_at n m rs (and_parts (ltb r.row n && leb r.step m) (all_kept n m rs) e).1 i (omega arith)

-- a held path, by its two tests
path_there : (rows : List Row) (x : ℕ) → held_path rows x ≡ true → (x < length rows) × (is_path (row_at rows x) ≡ true)
unfolding held_path
path_there rows x e =
    let (a, b) = and_parts (ltb x (length rows)) (is_path (row_at rows x)) e in (ltb-true x (length rows) a, b)

path_held : (rows : List Row) (x : ℕ) → x < length rows → is_path (row_at rows x) ≡ true → held_path rows x ≡ true
unfolding held_path
path_held rows x h e = rw (lt-ltb x (length rows) h, e)

-- the records of a book's rows: their rows are held paths, their editions count from 1, and older editions are within
-- newer ones
record InOrder (rows : List Row) (rs : List Record) : Type 0 where
  pub paths : (i : ℕ) → i < length rs → held_path rows (get_or rs i empty_record).row ≡ true
  pub from_1 : (i : ℕ) → i < length rs → 1 ≤ (get_or rs i empty_record).edition
  pub within : (i j : ℕ) → i < length rs → j < length rs
      → (get_or rs i empty_record).series ≡ (get_or rs j empty_record).series
      → (get_or rs i empty_record).edition ≤ (get_or rs j empty_record).edition
      → Within rows (get_or rs i empty_record).row (get_or rs j empty_record).row

-- rows that begin others, and hold the rows in use
module _ (rows more : List Row) (rs : List Record) where
  row_stays : (x : ℕ) → x < length rows → row_at (rows ++ more) x ≡ row_at rows x
  row_stays x h = get_or-append rows more no_row x h

  path_stays : (x : ℕ) → x < length rows → path_at (rows ++ more) x ≡ path_at rows x
  path_stays x h = ap as_path (term_stays rows more x h)

  rows_added : InOrder rows rs → InOrder (rows ++ more) rs
  unfolding Within
  rows_added w =
      record {
        paths = λ i h.
            let (l, e) = path_there rows _ (w.paths i h) in
            path_held (rows ++ more) _ (omega (arith, length-append rows more)) (rw (row_stays _ l) e);
        from_1 = w.from_1;
        within = λ i j h k e l d f x u y t.
            let left = path_stays _ (path_there rows _ (w.paths i h)).0 in
            let right = path_stays _ (path_there rows _ (w.paths j k)).0 in
            subst (λ p. T (selects d p x y)) (sym right)
            (w.within i j h k e l d f x u y (subst (λ p. T (selects d p x y)) left t));
      }

  rows_dropped : ((i : ℕ) → i < length rs → (get_or rs i empty_record).row < length rows) → InOrder (rows ++ more) rs
      → InOrder rows rs
  unfolding Within
  rows_dropped stay w =
      record {
        paths = λ i h.
            let (l, e) = path_there (rows ++ more) _ (w.paths i h) in
            path_held rows _ (stay i h) (sym (ap is_path (row_stays _ (stay i h))) ∙ e);
        from_1 = w.from_1;
        within = λ i j h k e l d f x u y t.
            let left = path_stays _ (stay i h) in
            let right = path_stays _ (stay j k) in
            subst (λ p. T (selects d p x y)) right
            (w.within i j h k e l d f x u y (subst (λ p. T (selects d p x y)) (sym left) t));
      }

-- the paths of a held step whose right row is a path
module _ (rows : List Row) (ps : List Step) (laws : HeldLaws rows ps) (i : ℕ) (here : i < length ps) where
  abbrev held_step : Step
  held_step = get_or ps i no_step

  step_within : is_path (row_at rows held_step.right) ≡ true → Within rows held_step.left held_step.right
  unfolding Within IsTrue TrueOn claim_of says same_sort
  step_within right d f x u y t =
      subst IsTrue says_contained (laws.claims i here) d f x u y t
    where
      by_sort : (l r : Bool) → r ≡ true → cond l r (not r) ≡ true → l ≡ true
      by_sort true r e f = refl
      by_sort false true e f = absurd (false≢true f)
      by_sort false false e f = e

      left_path : is_path (row_at rows held_step.left) ≡ true
      left_path = by_sort _ _ right (laws.sides i here).one_sort_lem

      says_contained : claim_of rows held_step
          ≡ Containment (path_at rows held_step.left) (path_at rows held_step.right)
      says_contained = rw left_path

-- a record that is accepted
module _ (rows : List Row) (ps : List Step) (laws : HeldLaws rows ps) (rs : List Record) (order : InOrder rows rs)
    (r : Record)
    (told : (record_answer rows ps rs r).number ≡ 0) where
  tests : Accepted rows ps rs r
  tests = record_accepted rows ps rs r told

  record StepTold : Type 0 where
    pub from_1 : 1 ≤ r.step
    pub held : r.step ≤ length ps
    pub left : (step_numbered ps r.step).left ≡ row_of rs r.series (current rs r.series)
    pub right : (step_numbered ps r.step).right ≡ r.row

  step_tests : ¬ (r.edition ≡ 1) → StepTold
  unfolding is_fit_step
  step_tests f =
      let e = rw (ne_eqb r.edition 1 f) at tests.fits in
      let a = and_parts (leb 1 r.step && leb r.step (length ps)) _ e in
      let c = and_parts (leb 1 r.step) (leb r.step (length ps)) a.0 in
      let previous = row_of rs r.series (current rs r.series) in
      let d = and_parts (eqb (step_numbered ps r.step).left previous) _ a.1 in
      record {
        from_1 = leb-true _ _ c.0;
        held = leb-true _ _ c.1;
        left = eqb-true _ _ d.0;
        right = eqb-true _ _ d.1;
      }

  older : (i : ℕ) → i < length rs → (get_or rs i empty_record).series ≡ r.series
      → Within rows (get_or rs i empty_record).row r.row
  unfolding Within
  older i h e d f x u y t =
      let s = r.series in
      let most = current_most rs s i h e in
      let one = order.from_1 i h in
      let due = tests.due in
      let (k, k-in, k-series, k-edition, _) = current_held rs s (omega arith) in
      let (j, j-in, j-series, j-edition, j-row) = row_pattern rs s (current rs s) k k-in k-series k-edition in
      let first_step = order.within i j h j-in (e ∙ sym j-series) (omega arith) in
      let st = step_tests (λ z. absurd (omega arith)) in
      let left : (step_numbered ps r.step).left ≡ (get_or rs j empty_record).row = st.left ∙ sym j-row in
      let here : r.step - 1 < length ps = omega (arith, st.from_1, st.held) in
      let path = (path_there rows r.row tests.path).1 in
      let right_path = subst (λ q. is_path (row_at rows q) ≡ true) (sym st.right) path in
      let second-step = step_within rows ps laws (r.step - 1) here right_path in
      let mid = first_step d f x u y t in
      let mid-left = subst (λ q. T (selects d (path_at rows q) x y)) (sym left) mid in
      subst (λ q. T (selects d (path_at rows q) x y)) st.right (second-step d f x u y mid-left)

  abbrev more : List Record
  more = rs ++ (r ∷ [])

  count : length more ≡ length rs + 1
  count = length-append rs (r ∷ [])

  at_old : (i : ℕ) → i < length rs → get_or more i empty_record ≡ get_or rs i empty_record
  at_old i h = get_or-append rs (r ∷ []) empty_record i h

  at_new : (i : ℕ) → i ≡ length rs → get_or more i empty_record ≡ r
  at_new i e = get_or_at rs r [] empty_record i (sym e)

  record_added : InOrder rows more
  unfolding Within
  record_added =
      record {
        paths = λ i h.
            let l : i < suc (length rs) = omega (arith, count) in
            ⊎_elim (λ e. rw (at_new i e) tests.path) (λ o. rw (at_old i o) (order.paths i o)) (below_suc l);
        from_1 = λ i h.
            let l : i < suc (length rs) = omega (arith, count) in
            let due = tests.due in
            ⊎_elim (λ e. rw (at_new i e) (omega arith)) (λ o. rw (at_old i o) (order.from_1 i o)) (below_suc l);
        within = λ i j h k.
            let l : i < suc (length rs) = omega (arith, count) in
            let m : j < suc (length rs) = omega (arith, count) in
            ⊎_elim
            (λ j-new. ⊎_elim
            (λ i-new. rw (at_new i i-new, at_new j j-new) (λ e g d f x u y t. t))
            (λ i-old. rw (at_old i i-old, at_new j j-new) (λ e g. older i i-old e))
            (below_suc l))
            (λ j-old. ⊎_elim
            (λ i-new. rw (at_new i i-new, at_old j j-old) (λ e g. absurd (too_late j j-old (sym e) g)))
            (λ i-old. rw (at_old i i-old, at_old j j-old) (order.within i j i-old j-old))
            (below_suc l))
            (below_suc m);
      }
    where
      too_late : (j : ℕ) → j < length rs → (get_or rs j empty_record).series ≡ r.series
          → r.edition ≤ (get_or rs j empty_record).edition → ⊥
      too_late j h e g = let most = current_most rs r.series j h e in let due = tests.due in omega arith

-- an accepted call that was passed on was not barred
not_barred : (t barred : Answer) (b : Bool) → ¬ (barred.number ≡ 0) → (cond (accepted t && b) barred t).number ≡ 0
    → b ≡ false
not_barred t barred b f e = by_tests (accepted t) b refl e
  where
    by_tests : (a b : Bool) → accepted t ≡ a → (cond (a && b) barred t).number ≡ 0 → b ≡ false
    by_tests true true is e = absurd (f e)
    by_tests true false is e = refl
    by_tests false b is e = absurd (eqb-false t.number 0 is e)

-- what lists of calls lead to: the book below is one that calls lead to, its points begin what is held, and the records
-- are in order
record RegisterLaws (b : Holdings) : Type 0 where
  pub below : Reachable b.below
  pub fits : Fits b.below
  pub order : InOrder b.below.rows b.beside

-- the plain register where a call is accepted
module _ (b : Holdings) (w : RegisterLaws b) where
  passed_told : (c : Call) → (plain_register.answer b (passed c)).number ≡ 0 → (book_answer b.below c).number ≡ 0
  passed_told c e =
      passed_accepted (book_answer b.below c) (answer full_or_in_use 0) (drops_in_use b.below b.beside c)
      (λ z. omega arith) e

  fits_below : (c : RegisterCall) → (plain_register.answer b c).number ≡ 0 → Fits (plain_register.with b c).below
  fits_below (passed c) e =
      let same = answer_by_terms b.below c w.below in
      fits_with b.below c w.fits (ap (λ a. a.number) same ∙ passed_told c e)
  fits_below (own r) e = w.fits

  order_with : (c : RegisterCall) → (plain_register.answer b c).number ≡ 0
      → InOrder (plain_register.with b c).below.rows (plain_register.with b c).beside
  order_with (passed (term r)) e = rows_added b.below.rows (r ∷ []) b.beside w.order
  order_with (passed (step p)) e = w.order
  order_with (passed (text names t)) e =
      let (new, grown, few) = text_accepted b.below.rows names t (passed_told (text names t) e) in
      subst (λ rows. InOrder rows b.beside) (sym grown) (rows_added b.below.rows new b.beside w.order)
  order_with (passed (point n)) e = w.order
  order_with (passed (return n)) e =
      let ps = b.below.points in
      let i = place_of (point_names ps) n in
      let p = get_or ps i no_point in
      let bars = not_barred (book_answer b.below (return n)) (answer full_or_in_use 0)
      (drops_in_use b.below b.beside (return n)) (λ z. omega arith) e in
      let found = return_accepted (point_names ps) n (passed_told (return n) e) in
      let here : i < length ps = omega (arith, found, point_names_lem ps) in
      let begins = every_there _ no_point ps i w.fits.begin here in
      let kept = kept_at (length p.rows) (length p.steps) b.beside (not-false _ bars) in
      rows_dropped p.rows begins.later_rows b.beside kept
      (subst (λ rows. InOrder rows b.beside) begins.rows w.order)
  order_with (own r) e =
      record_added b.below.rows b.below.steps (reachable_laws w.below).held b.beside w.order r e

editions_in_order : {b : Holdings} → Reached plain_register empty_register b → RegisterLaws b
editions_in_order =
    reached_law plain_register RegisterLaws
    (record {
      below = first;
      fits = empty_fits;
      order = record {
        paths = λ i h. absurd (omega arith);
        from_1 = λ i h. absurd (omega arith);
        within = λ i j h k. absurd (omega arith);
      };
    })
    (λ b c w e. record {
      below = call_below plain_book plain_records (λ z. omega arith) b c w.below e;
      fits = fits_below b w c e;
      order = order_with b w c e;
    })

pub editions_contained : {b : Holdings} → Reached plain_register empty_register b
    → EditionsContained b.below.rows b.beside
editions_contained {b} h =
    let order = (editions_in_order h).order in
    record {
      paths = λ i l. (true_iff _).1 (order.paths i l);
      contained = λ i j k l same older. order.within i j k l same (omega arith);
    }
