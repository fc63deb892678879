-- Rows put one by one.
use Prim.Native.Nat.{ℕ, suc, ◌+◌, ◌*◌, ◌-◌, ◌<◌, ◌≤◌, max}
use mathlib.Core.Path.{◌≡◌, refl, sym, ap, ◌∙◌, subst}
use mathlib.Core.Bool.{Bool, true, false, cond}
use mathlib.Core.List.{List, [], ◌∷◌, ◌++◌}
use mathlib.Core.Option.{Option, none, some}
use Rattle.std.specs.Prelude.{Option as Maybe, Some, None}
use Rattle.std.specs.Option.{option_or}
use native.Mathlib.Omega.{arith}
use borrow.Author.Clash.{clash}
use Rattle.std.proofs.lemmas.Bool.{false≢true, le-ltb, lt-ltb}
use lib.Dec.{eqb, ltb}
use lib.ListN.{length, take, drop, length-append}
use lib.Seq.{sets, length-sets, length-take-le, drop-drop, drop-set-lt}
use Rattle.terms.specs.Row.{Row, row, table_of, max_rows, find}
use Rattle.terms.proofs.LentRows.{rows_lent, row_put}
use Rattle.terms.proofs.Find.{find_le}
use Rattle.selector_grammar.specs.Bytes.{Bytes}
use Rattle.selector_grammar.specs.Denotes.{Put, put, Named, unlisted}
use Rattle.selector_heads.specs.private.Head.{place_of}
use Rattle.selector_readings.specs.declared.Reading.{Reading}
use Rattle.selector_readings.specs.private.Build.{Standing, stands, row_width, row_numbers, capped, moved_to, row_taken}
use Rattle.selector_readings.specs.private.Build.{no_room, Sized, Holds, Beyond, SameText, PutMet, first_of, Made}
use Rattle.selector_readings.specs.private.Build.{Grown}
use Rattle.selector_readings.specs.private.Build.{StepPut, joined, over, leaf}

-- a row put never leaves fewer rows
pub put_more : (rs : List Row) (r : Row) → length rs ≤ length (put rs r).rows
unfolding put
put_more rs r = go (ltb (find rs r) (length rs))
  where
    go : (b : Bool) → length rs ≤ length (cond b rs (rs ++ (r ∷ [])))
    go true = omega arith
    go false = omega (arith, length-append rs (r ∷ []))

-- a row that is held, and one that is not
pub put_held : (rs : List Row) (r : Row) → find rs r < length rs → (put rs r).rows ≡ rs
unfolding put
put_held rs r h = rw (lt-ltb (find rs r) (length rs) h) refl

pub put_new : (rs : List Row) (r : Row) → length rs ≤ find rs r → (put rs r).rows ≡ rs ++ (r ∷ [])
unfolding put
put_new rs r h = rw (le-ltb (find rs r) (length rs) h) refl

pub put_at : (rs : List Row) (r : Row) → (put rs r).at ≡ find rs r
unfolding put
put_at rs r = refl

unchanged : (x y : Standing) → y.ok ≡ x.ok → y.at ≡ x.at → y.missing ≡ x.missing → SameText x y
unchanged x y a b c = record { ok = a; at = b; missing = c }

-- a table holds as many rows as are counted
pub table_count : (xs : List ℕ) (count : ℕ) → Sized xs count → length (table_of (take (row_width * count) xs)) ≡ count
table_count xs count z =
    rows_lent (take (row_width * count) xs)
    ∙ rw (length-take-le (row_width * count) xs (omega (arith, z.size, z.bound))) (omega arith)

-- what stands past the rows stays, from one table to the next
pub none_put : (xs : List ℕ) (n : ℕ) → Beyond xs n xs n
none_put xs n = record { more = omega arith; rest = refl }

pub then_beyond : (xs ys zs : List ℕ) (m n k : ℕ) → Beyond xs m ys n → Beyond ys n zs k → Beyond xs m zs k
then_beyond xs ys zs m n k a b =
    let g = k - n in
    let e : row_width * n + row_width * g ≡ row_width * k = omega (arith, b.more) in
    let past : (ws : List ℕ) → drop (row_width * k) ws ≡ drop (row_width * g) (drop (row_width * n) ws) =
    λ ws. ap (λ (i : ℕ). drop i ws) (sym e) ∙ sym (drop-drop (row_width * g) (row_width * n) ws) in
    record {
      more = omega (arith, a.more, b.more);
      rest = b.rest ∙ past ys ∙ ap (drop (row_width * g)) a.rest ∙ sym (past xs);
    }

pub row_beyond : (xs ys : List ℕ) (n : ℕ) (r : Row) → ys ≡ sets xs (row_width * n) (row_numbers r)
    → Beyond xs n ys (n + 1)
row_beyond xs ys n r e =
    let i = row_width * n in
    let j = row_width * (n + 1) in
    record {
      more = omega arith;
      rest = ap (drop j) e
          ∙ drop-set-lt j _ (suc (suc (suc i))) r.c (omega arith)
          ∙ drop-set-lt j _ (suc (suc i)) r.b (omega arith)
          ∙ drop-set-lt j _ (suc i) r.a (omega arith)
          ∙ drop-set-lt j xs i r.kind (omega arith);
    }

-- put
module _ (r : Row) (nesting : ℕ) (xs : List ℕ) (x : Standing) (z : Sized xs x.count) where
  abbrev counted_rows : List Row
  counted_rows = table_of (take (row_width * x.count) xs)

  counted : length counted_rows ≡ x.count
  counted = table_count xs x.count z

  held_count : (rs : List Row) → Holds rs xs x.count x.fits → x.fits ≡ true → length rs ≡ x.count
  held_count rs h e = sym (ap length (h.rows e)) ∙ counted

  pub put_none : x.fits ≡ false → PutMet r nesting xs x xs (no_room x nesting)
  put_none e =
      record {
        sized = z;
        puts = record {
          held = λ rs h. record {
            rows = λ f. absurd (false≢true f);
            over = λ _. omega (arith, h.over e, put_more rs r);
          };
          at = λ rs h f. absurd (false≢true f);
          keeps = λ f. absurd (false≢true f);
          beyond = λ f. absurd (false≢true f);
        };
        text = unchanged x (no_room x nesting) refl refl refl;
        nest = refl;
      }

  module _ (e : x.fits ≡ true) (found : ℕ) (f : found ≡ find counted_rows r) where
    found_in : (rs : List Row) → Holds rs xs x.count x.fits → found ≡ find rs r
    found_in rs h = f ∙ ap (λ (q : List Row). find q r) (h.rows e)

    pub put_found : found < length counted_rows → PutMet r nesting xs x xs (row_taken x found x.count nesting)
    put_found i =
        record {
          sized = z;
          puts = record {
            held = λ rs h. record {
              rows = λ g. h.rows g ∙ sym (put_held rs r (omega (arith, found_in rs h, held_count rs h e, counted, i)));
              over = λ g. clash x.fits e g;
            };
            at = λ rs h g. found_in rs h ∙ sym (put_at rs r);
            keeps = λ g. g;
            beyond = λ g. none_put xs x.count;
          };
          text = unchanged x (row_taken x found x.count nesting) refl refl refl;
          nest = refl;
        }

    module _ (i : found ≡ length counted_rows) where
      fresh_rows : (rs : List Row) → Holds rs xs x.count x.fits → (put rs r).rows ≡ rs ++ (r ∷ [])
      fresh_rows rs h = put_new rs r (omega (arith, found_in rs h, held_count rs h e, counted, i))

      pub put_full : max_rows ≤ x.count → PutMet r nesting xs x xs (no_room x nesting)
      put_full j =
          record {
            sized = z;
            puts = record {
              held = λ rs h. record {
                rows = λ g. absurd (false≢true g);
                over = λ g. rw (fresh_rows rs h) (omega (arith, length-append rs (r ∷ []), held_count rs h e, j));
              };
              at = λ rs h g. absurd (false≢true g);
              keeps = λ g. absurd (false≢true g);
              beyond = λ g. absurd (false≢true g);
            };
            text = unchanged x (no_room x nesting) refl refl refl;
            nest = refl;
          }

      pub put_added : (ys : List ℕ) → x.count < max_rows → ys ≡ sets xs (row_width * x.count) (row_numbers r)
          → PutMet r nesting xs x ys (row_taken x x.count (x.count + 1) nesting)
      unfolding table_of
      put_added ys j k =
          let n = x.count in
          let rows : table_of (take (row_width * (n + 1)) ys) ≡ table_of (take (row_width * n) xs) ++ (r ∷ []) =
          rw k (row_put n xs r (omega (arith, z.size, j))) in
          record {
            sized = record {
              size = ap length k ∙ length-sets xs (row_width * n) (row_numbers r) ∙ z.size;
              bound = omega (arith, j);
            };
            puts = record {
              held = λ rs h. record {
                rows = λ g. rows ∙ ap (λ (q : List Row). q ++ (r ∷ [])) (h.rows g) ∙ sym (fresh_rows rs h);
                over = λ g. clash x.fits e g;
              };
              at = λ rs h g.
                  sym (put_at rs r ∙ omega (arith, found_in rs h, held_count rs h e, counted, i, find_le rs r));
              keeps = λ g. g;
              beyond = λ g. row_beyond xs ys n r k;
            };
            text = unchanged x (row_taken x n (n + 1) nesting) refl refl refl;
            nest = refl;
          }

first_none : (m : Option ℕ) → first_of m none ≡ m
unfolding first_of
first_none none = refl
first_none (some i) = refl

pub first_assoc : (x y z : Option ℕ) → first_of (first_of x y) z ≡ first_of x (first_of y z)
unfolding first_of
first_assoc none y z = refl
first_assoc (some i) y z = refl

-- the first unlisted name of two lists of names
pub unlisted_append : (num : Bytes → ℕ) (xs ys : List Named)
    → unlisted num (xs ++ ys) ≡ first_of (unlisted num xs) (unlisted num ys)
unfolding unlisted first_of
unlisted_append num [] ys = refl
unlisted_append num (x ∷ xs) ys = go (eqb (num x.name) 0) (unlisted_append num xs ys)
  where
    go : (b : Bool) → unlisted num (xs ++ ys) ≡ first_of (unlisted num xs) (unlisted num ys)
        → cond b (some x.place) (unlisted num (xs ++ ys))
        ≡ first_of (cond b (some x.place) (unlisted num xs)) (unlisted num ys)
    go true e = refl
    go false e = e

-- what was made does not depend on the places before and after it
pub made_from : {f : List Row → Put} {n : ℕ} {m : Option ℕ} {xs ys : List ℕ} (x : Standing) (to : ℕ) (y : Standing)
    → Made f n m xs (moved_to x to) ys y → Made f n m xs x ys y
made_from x to y a =
    record {
      puts = record { held = a.puts.held; at = a.puts.at; keeps = a.puts.keeps; beyond = a.puts.beyond };
      nest = a.nest;
      names = a.names;
    }

pub made_to : {f : List Row → Put} {n : ℕ} {m : Option ℕ} {xs ys : List ℕ} (x y : Standing) (to : ℕ)
    → Made f n m xs x ys y → Made f n m xs x ys (moved_to y to)
made_to x y to a =
    record {
      puts = record { held = a.puts.held; at = a.puts.at; keeps = a.puts.keeps; beyond = a.puts.beyond };
      nest = a.nest;
      names = a.names;
    }

-- a row put is a term made, with no name
pub made_row : (r : Row) (n : ℕ) (xs : List ℕ) (x : Standing) (ys : List ℕ) (y : Standing)
    → PutMet r (capped n) xs x ys y → Made (λ rs. put rs r) n none xs x ys y
made_row r n xs x ys y m =
    record { puts = m.puts; nest = m.nest; names = m.text.missing ∙ sym (first_none x.missing) }

-- two terms, one after the other, and a row over both
module _ (kind : ℕ) (f g : List Row → Put) (n k : ℕ) (m p : Option ℕ) (ws xs ys zs : List ℕ) (w x y z : Standing)
    (a : Made f n m ws w xs x) (b : Made g k p xs x ys y)
    (c : PutMet (row kind x.row y.row 0) (capped (suc (max x.nesting y.nesting))) ys y zs z) where
  joined_more : (rs : List Row) → Holds rs ws w.count w.fits → y.fits ≡ false
      → max_rows < length (joined kind f g rs).rows
  joined_more rs h e =
      let t = b.puts.held (f rs).rows (a.puts.held rs h) in
      omega (arith, t.over e, put_more (g (f rs).rows).rows (row kind (f rs).at (g (f rs).rows).at 0))

  same_join : (rs : List Row) → Holds rs ws w.count w.fits → y.fits ≡ true → row kind x.row y.row 0
      ≡ row kind (f rs).at (g (f rs).rows).at 0
  same_join rs h e =
      let t = a.puts.held rs h in
      let p₁ : x.row ≡ (f rs).at = a.puts.at rs h (b.puts.keeps e) in
      let p₂ : y.row ≡ (g (f rs).rows).at = b.puts.at (f rs).rows t e in
      λ i. row kind (p₁ i) (p₂ i) 0

  pub made_join : Made (joined kind f g) (suc (max n k)) (first_of m p) ws w zs z
  made_join =
      record {
        puts = record {
          held = λ rs h. held rs h y.fits refl;
          at = λ rs h e. let t = b.puts.held (f rs).rows (a.puts.held rs h) in
              c.puts.at (g (f rs).rows).rows t e
              ∙ ap (λ (r : Row). (put (g (f rs).rows).rows r).at) (same_join rs h (c.puts.keeps e));
          keeps = λ e. a.puts.keeps (b.puts.keeps (c.puts.keeps e));
          beyond = λ e.
              let f = c.puts.keeps e in
              then_beyond ws ys zs _ _ _
              (then_beyond ws xs ys _ _ _ (a.puts.beyond (b.puts.keeps f)) (b.puts.beyond f))
              (c.puts.beyond e);
        };
        nest = c.nest ∙ rw (a.nest, b.nest) (omega arith);
        names = c.text.missing ∙ b.names ∙ rw a.names (first_assoc w.missing m p);
      }
    where
      held : (rs : List Row) → Holds rs ws w.count w.fits → (q : Bool) → y.fits ≡ q
          → Holds (joined kind f g rs).rows zs z.count z.fits
      held rs h true e =
          let t = b.puts.held (f rs).rows (a.puts.held rs h) in
          subst (λ (r : Row). Holds (put (g (f rs).rows).rows r).rows zs z.count z.fits) (same_join rs h e)
          (c.puts.held (g (f rs).rows).rows t)
      held rs h false e = record { rows = λ i. clash y.fits (c.puts.keeps i) e; over = λ _. joined_more rs h e }

-- a row over one term
module _ (kind : ℕ) (f : List Row → Put) (n : ℕ) (m : Option ℕ) (ws xs ys : List ℕ) (w x y : Standing)
    (a : Made f n m ws w xs x) (c : PutMet (row kind x.row 0 0) (capped (suc x.nesting)) xs x ys y) where
  pub made_over : Made (over kind f) (suc n) m ws w ys y
  made_over =
      record {
        puts = record {
          held = λ rs h. held rs h x.fits refl;
          at = λ rs h e. c.puts.at (f rs).rows (a.puts.held rs h) e
              ∙ ap (λ (r : Row). (put (f rs).rows r).at) (same_over rs h (c.puts.keeps e));
          keeps = λ e. a.puts.keeps (c.puts.keeps e);
          beyond = λ e. then_beyond ws xs ys _ _ _ (a.puts.beyond (c.puts.keeps e)) (c.puts.beyond e);
        };
        nest = c.nest ∙ rw a.nest (omega arith);
        names = c.text.missing ∙ a.names;
      }
    where
      same_over : (rs : List Row) → Holds rs ws w.count w.fits → x.fits ≡ true → row kind x.row 0 0
          ≡ row kind (f rs).at 0 0
      same_over rs h e = ap (λ (i : ℕ). row kind i 0 0) (a.puts.at rs h e)

      held : (rs : List Row) → Holds rs ws w.count w.fits → (q : Bool) → x.fits ≡ q
          → Holds (over kind f rs).rows ys y.count y.fits
      held rs h true e = subst (λ (r : Row). Holds (put (f rs).rows r).rows ys y.count y.fits)
          (same_over rs h e) (c.puts.held (f rs).rows (a.puts.held rs h))
      held rs h false e = record {
        rows = λ i. clash x.fits (c.puts.keeps i) e;
        over = λ _. omega (arith, (a.puts.held rs h).over e, put_more (f rs).rows (row kind (f rs).at 0 0));
      }

pub same_text : (x y z : Standing) → SameText x y → SameText y z → SameText x z
same_text x y z a b =
    record {
      ok = b.ok ∙ a.ok;
      at = b.at ∙ a.at;
      missing = b.missing ∙ a.missing;
    }

-- every_below
pub below_grown : (xs ys zs : List ℕ) (x y z : Standing) → PutMet (row 2 5 2 0) 1 xs x ys y
    → PutMet (row 4 x.row y.row 0) (capped (suc (max x.nesting y.nesting))) ys y zs z
    → Grown (λ f. joined 4 f (λ rs. put rs (row 2 5 2 0))) (λ n. suc (max n 1)) xs x zs z
below_grown xs ys zs x y z a b =
    record {
      sized = b.sized;
      text = same_text x y z a.text b.text;
      made = λ f n m ws w h. subst
          (λ (o : Option ℕ). Made (joined 4 f (λ rs. put rs (row 2 5 2 0))) (suc (max n 1)) o ws w zs z)
          (first_none m)
          (made_join 4 f (λ rs. put rs (row 2 5 2 0)) n 1 m none ws xs ys zs w x y z h
          (made_row (row 2 5 2 0) 1 xs x ys y a) b);
    }

-- some_of
pub some_grown : (xs ys zs us : List ℕ) (x y z u : Standing) → PutMet (row 0 0 0 0) 1 xs x ys y
    → PutMet (row 11 x.row y.row 0) (capped (suc (max x.nesting y.nesting))) ys y zs z
    → PutMet (row 8 z.row 0 0) (capped (suc z.nesting)) zs z us u
    → Grown (λ f. over 8 (joined 11 f (leaf 0))) (λ n. suc (suc (max n 1))) xs x us u
some_grown xs ys zs us x y z u a b c =
    record {
      sized = c.sized;
      text = same_text x y u a.text (same_text y z u b.text c.text);
      made = λ f n m ws w h. subst
          (λ (o : Option ℕ). Made (over 8 (joined 11 f (leaf 0))) (suc (suc (max n 1))) o ws w us u) (first_none m)
          (made_over 8 (joined 11 f (leaf 0)) (suc (max n 1)) (first_of m none) ws zs us w z u
          (made_join 11 f (leaf 0) n 1 m none ws xs ys zs w x y z h (made_row (row 0 0 0 0) 1 xs x ys y a) b) c);
    }

-- the first of two places, where the code has them
place_or : (m o : Maybe ℕ) → place_of (option_or m o) ≡ first_of (place_of m) (place_of o)
unfolding first_of
place_or None o = refl
place_or (Some i) o = refl

-- put_step: a row put, whose name may be the first that is not listed
pub step_put : (r : Row) (m : Maybe ℕ) (xs : List ℕ) (x : Standing) (at : ℕ) (ys : List ℕ) (y : Reading) (o : Maybe ℕ)
    → o ≡ option_or y.missing m → PutMet r 1 xs (moved_to x at) ys (stands y)
    → StepPut r (place_of m) xs x at ys (stands (record {
      at = y.at;
      row = y.row;
      nesting = y.nesting;
      count = y.count;
      fits = y.fits;
      missing = o;
    }))
step_put r m xs x at ys y o e a =
    let made = made_row r 1 xs (moved_to x at) ys (stands y) a in
    record {
      sized = record { size = a.sized.size; bound = a.sized.bound };
      at = a.text.at;
      ok = a.text.ok;
      made = record {
        puts = record { held = made.puts.held; at = made.puts.at; keeps = made.puts.keeps; beyond = made.puts.beyond };
        nest = made.nest;
        names = rw (e, place_or y.missing m, a.text.missing) refl;
      };
    }
