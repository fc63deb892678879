-- One law for each way through read_and and read_or.
use Prim.Native.Nat.{ℕ, suc, ◌+◌, ◌≤◌, max}
use mathlib.Core.Path.{◌≡◌, refl, sym, ap, ◌∙◌, subst}
use mathlib.Core.Bool.{Bool, true, false, cond}
use mathlib.Core.List.{List, [], ◌∷◌, ◌++◌}
use native.Mathlib.Omega.{arith}
use borrow.Author.Clash.{clash}
use lib.Dec.{eqb}
use lib.ListN.{length, drop, length-append}
use Rattle.terms.specs.Row.{row, max_rows}
use Rattle.selector_grammar.specs.Bytes.{Bytes}
use Rattle.selector_grammar.specs.Words.{number_of}
use Rattle.selector_grammar.specs.Grammar.{Unary, operand, conj, Or, alone, disj, spell_and, spell_or}
use Rattle.selector_grammar.specs.Denotes.{unary_of, and_of, or_of, and_names, or_names, put_qual, nest_qual}
use Rattle.selector_grammar.specs.private.Reader.{need, inside, Open, first, begin, Left, nothing, either, Pend, plain}
use Rattle.selector_grammar.specs.private.Reader.{both}
use Rattle.selector_grammar.specs.private.Reader.{left_of, and_to, or_to, wrap, room_of, enter, run, unary_byte}
use Rattle.selector_words.specs.private.Scan.{byte_at}
use Rattle.selector_heads.specs.private.Head.{proceed}
use Rattle.selector_readings.specs.private.Build.{Standing, capped, moved_to, refused_at, Sized, PutMet}
use Rattle.selector_readings.specs.private.Passing.{WordMet, after_and, after_or}
use Rattle.selector_reader.specs.private.Readers.{MadeQual, Reached, UnaryMet, AndRead, AndFails, AndMet, OrFails}
use Rattle.selector_reader.specs.private.Readers.{OrMet}
use Rattle.selector_readings.proofs.Built.{unlisted_append, made_from, made_join}

-- an operator name changes only the place
module _ (s : Bytes) (y q : Standing) (n : ℕ) (next : Open → Pend → Unary → Bytes → Pend)
    (m : WordMet s y q n next) where
  word_sized : (ys : List ℕ) → Sized ys y.count → Sized ys q.count
  word_sized ys z =
      record {
        size = z.size;
        bound = subst (λ (n : ℕ). n ≤ max_rows) (sym (ap (λ (r : Standing). r.count) m.same)) (go q.ok);
      }
    where
      go : (b : Bool) → (cond b (moved_to y q.at) (refused_at q.at)).count ≤ max_rows
      go true = z.bound
      go false = omega arith

  -- one that was read
  word_moved : q.ok ≡ true → q ≡ moved_to y q.at
  word_moved e = m.same ∙ ap (λ (b : Bool). cond b (moved_to y q.at) (refused_at q.at)) e

  -- the place is further on, the table the same
  word_reached : (at : ℕ) (ys : List ℕ) → Reached s at ys y → Reached s at ys q
  word_reached at ys r =
      record {
        from = omega (arith, r.from, m.between.from);
        fits = m.between.fits;
        sized = word_sized ys r.sized;
      }

-- operands joined by `and` so far
pub record AndGot (s list : Bytes) (left : ℕ) (xs : List ℕ) (x : Standing) (ys : List ℕ) (y : Standing) : Type 0 where
  pub reached : Reached s x.at ys y
  pub read : y.ok ≡ true → AndRead s list left xs x ys y
  pub failed : y.ok ≡ false → AndFails s left x.at y.at

-- the first operand
pub and_first : (s list : Bytes) (left : ℕ) (xs : List ℕ) (x : Standing) (ys : List ℕ) (y : Standing)
    → UnaryMet s list left xs x ys y → AndGot s list left xs x ys y
unfolding left_of and_to and_of and_names spell_and
and_first s list left xs x ys y m =
    record {
      reached = m.reached;
      read = λ e. let r = m.read e in record {
        tree = operand r.tree;
        pend = λ l. plain l;
        last = r.tree;
        spaces = r.spaces;
        parts = λ l. (refl, refl);
        size = r.size;
        made = r.made;
        runs = λ o l i. r.runs o (plain l) i;
      };
      failed = λ e o l i. m.failed e o (plain l) i;
    }

module _ (s list : Bytes) (left : ℕ) (xs : List ℕ) (x : Standing) (ys : List ℕ) (y : Standing)
    (ok : y.ok ≡ true) (q : Standing) (w : WordMet s y q 3 after_and) where
  -- `and` is not read to its end
  pub and_refused : q.ok ≡ false → AndGot s list left xs x ys y → AndMet s list left xs x ys q
  and_refused e got =
      let a = got.read ok in
      record {
        reached = word_reached s y q 3 after_and w x.at ys got.reached;
        read = λ f. clash q.ok f e;
        stops = λ f. clash q.ok f e;
        failed = λ _ o l i. a.runs o l i ∙ w.failed e o (a.pend l) a.last a.spaces;
      }

  -- the next operand was refused
  pub and_stopped : (zs : List ℕ) (z : Standing) → q.ok ≡ true → UnaryMet s list left ys q zs z → z.ok ≡ false
      → AndGot s list left xs x ys y → AndMet s list left xs x zs z
  unfolding left_of and_to
  and_stopped zs z e n f got =
      let a = got.read ok in
      let m = subst (λ (r : Standing). UnaryMet s list left ys r zs z) (word_moved s y q 3 after_and w e) n in
      let next : (o : Open) (l : Left) → room_of o ≡ left
      → run (drop x.at s) (need (inside o (plain l)) first begin [])
      ≡ run (drop q.at s) (need (inside o (both l a.tree a.spaces)) first begin []) =
      λ o l i. a.runs o l i ∙ w.read e o (a.pend l) a.last a.spaces
      ∙ (λ j. run (drop q.at s)
      (need (inside o (both ((a.parts l).0 j) ((a.parts l).1 j) a.spaces)) first begin [])) in
      record {
        reached = record {
          from = omega (arith, got.reached.from, w.between.from, m.reached.from);
          fits = m.reached.fits;
          sized = m.reached.sized;
        };
        read = λ g. clash z.ok g f;
        stops = λ g. clash z.ok g f;
        failed = λ _ o l i. next o l i ∙ m.failed f o (both l a.tree a.spaces) i;
      }

  -- one more operand
  pub and_more : (zs : List ℕ) (z : Standing) (vs : List ℕ) (v : Standing) → q.ok ≡ true
      → UnaryMet s list left ys q zs z
      → PutMet (row 9 y.row z.row 0) (capped (suc (max y.nesting z.nesting))) zs z vs v
      → AndGot s list left xs x ys y → AndGot s list left xs x vs v
  unfolding left_of and_to and_of and_names spell_and put_qual nest_qual
  and_more zs z vs v e n p got =
      let a = got.read ok in
      let m = subst (λ (r : Standing). UnaryMet s list left ys r zs z) (word_moved s y q 3 after_and w e) n in
      let next : (o : Open) (l : Left) → room_of o ≡ left
      → run (drop x.at s) (need (inside o (plain l)) first begin [])
      ≡ run (drop q.at s) (need (inside o (both l a.tree a.spaces)) first begin []) =
      λ o l i. a.runs o l i ∙ w.read e o (a.pend l) a.last a.spaces
      ∙ (λ j. run (drop q.at s)
      (need (inside o (both ((a.parts l).0 j) ((a.parts l).1 j) a.spaces)) first begin [])) in
      record {
        reached = record {
          from = omega (arith, got.reached.from, w.between.from, m.reached.from, p.text.at);
          fits = rw p.text.at m.reached.fits;
          sized = p.sized;
        };
        read = λ f. let r = m.read (sym p.text.ok ∙ f) in
            let at : x.at + length (spell_and a.tree ++ (a.spaces ++ (97 ∷ 110 ∷ 100 ∷ []))) ≡ q.at =
            simp length-append (omega (arith, simp length-append at a.size, w.place e)) in
            record {
              tree = conj a.tree a.spaces r.tree;
              pend = λ l. both l a.tree a.spaces;
              last = r.tree;
              spaces = r.spaces;
              parts = λ l. (refl, refl);
              size = simp length-append
                  (omega (
                    arith,
                    simp length-append at a.size,
                    simp length-append at r.size,
                    w.place e,
                    p.text.at,
                  ));
              made = rw (unlisted_append, at) (made_join 9 (put_qual (and_of (number_of list) a.tree))
                  (put_qual (unary_of (number_of list) r.tree)) _ _ _ _ xs ys zs vs x y z v a.made
                  (made_from y q.at z r.made) p);
              runs = λ o l i. next o l i ∙ rw p.text.at (r.runs o (both l a.tree a.spaces) i);
            };
        failed = λ f o l i. next o l i
            ∙ rw p.text.at (m.failed (sym p.text.ok ∙ f) o (both l a.tree a.spaces) i);
      }

-- those joined by `or` so far: the last operand, and what stands before it
pub record Choosing (s list : Bytes) (left : ℕ) (xs : List ℕ) (x : Standing) (ys : List ℕ) (y : Standing) : Type 0 where
  pub tree : Or
  pub pend : Pend
  pub last : Unary
  pub spaces : Bytes
  pub whole : or_to pend last ≡ tree
  pub size : x.at + length (spell_or tree ++ spaces) ≡ y.at
  pub made : MadeQual list (or_of (number_of list) tree) (or_names tree x.at) xs x ys y
  pub runs : (o : Open) → room_of o ≡ left
      → run (drop x.at s) (enter o) ≡ proceed s y.at (unary_byte o pend last spaces (byte_at s y.at))
  pub stops : eqb (byte_at s y.at) 97 ≡ false

pub record OrGot (s list : Bytes) (left : ℕ) (xs : List ℕ) (x : Standing) (ys : List ℕ) (y : Standing) : Type 0 where
  pub reached : Reached s x.at ys y
  pub read : y.ok ≡ true → Choosing s list left xs x ys y
  pub failed : y.ok ≡ false → OrFails s left x.at y.at

-- the first side of `or`
pub or_first : (s list : Bytes) (left : ℕ) (xs : List ℕ) (x : Standing) (ys : List ℕ) (y : Standing)
    → AndMet s list left xs x ys y → OrGot s list left xs x ys y
unfolding wrap or_of or_names spell_or
or_first s list left xs x ys y m =
    record {
      reached = m.reached;
      read = λ e. let r = m.read e in let k = r.parts nothing in record {
        tree = alone r.tree;
        pend = r.pend nothing;
        last = r.last;
        spaces = r.spaces;
        whole = λ j. wrap (k.0 j) (k.1 j);
        size = r.size;
        made = r.made;
        runs = λ o i. r.runs o nothing i;
        stops = m.stops e;
      };
      failed = λ e o i. m.failed e o nothing i;
    }

module _ (s list : Bytes) (left : ℕ) (xs : List ℕ) (x : Standing) (ys : List ℕ) (y : Standing)
    (ok : y.ok ≡ true) (q : Standing) (w : WordMet s y q 2 after_or) where
  -- `or` is not read to its end
  pub or_refused : q.ok ≡ false → OrGot s list left xs x ys y → OrMet s list left xs x ys q
  or_refused e got =
      let a = got.read ok in
      record {
        reached = word_reached s y q 2 after_or w x.at ys got.reached;
        read = λ f. clash q.ok f e;
        failed = λ _ o i. a.runs o i ∙ w.failed e o a.pend a.last a.spaces;
      }

  -- the next operand was refused
  pub or_stopped : (zs : List ℕ) (z : Standing) → q.ok ≡ true → AndMet s list left ys q zs z → z.ok ≡ false
      → OrGot s list left xs x ys y → OrMet s list left xs x zs z
  unfolding wrap
  or_stopped zs z e n f got =
      let a = got.read ok in
      let l = either a.tree a.spaces in
      let m = subst (λ (r : Standing). AndMet s list left ys r zs z) (word_moved s y q 2 after_or w e) n in
      let next : (o : Open) → room_of o ≡ left
      → run (drop x.at s) (enter o) ≡ run (drop q.at s) (need (inside o (plain l)) first begin []) =
      λ o i. a.runs o i ∙ w.read e o a.pend a.last a.spaces
      ∙ ap (λ (t : Or). run (drop q.at s) (need (inside o (plain (either t a.spaces))) first begin []))
      a.whole in
      record {
        reached = record {
          from = omega (arith, got.reached.from, w.between.from, m.reached.from);
          fits = m.reached.fits;
          sized = m.reached.sized;
        };
        read = λ g. clash z.ok g f;
        failed = λ _ o i. next o i ∙ m.failed f o l i;
      }

  -- one more operand
  pub or_more : (zs : List ℕ) (z : Standing) (vs : List ℕ) (v : Standing) → q.ok ≡ true
      → AndMet s list left ys q zs z
      → PutMet (row 10 y.row z.row 0) (capped (suc (max y.nesting z.nesting))) zs z vs v
      → OrGot s list left xs x ys y → OrGot s list left xs x vs v
  unfolding wrap or_of or_names spell_or put_qual nest_qual
  or_more zs z vs v e n p got =
      let a = got.read ok in
      let l = either a.tree a.spaces in
      let m = subst (λ (r : Standing). AndMet s list left ys r zs z) (word_moved s y q 2 after_or w e) n in
      let next : (o : Open) → room_of o ≡ left
      → run (drop x.at s) (enter o) ≡ run (drop q.at s) (need (inside o (plain l)) first begin []) =
      λ o i. a.runs o i ∙ w.read e o a.pend a.last a.spaces
      ∙ ap (λ (t : Or). run (drop q.at s) (need (inside o (plain (either t a.spaces))) first begin []))
      a.whole in
      record {
        reached = record {
          from = omega (arith, got.reached.from, w.between.from, m.reached.from, p.text.at);
          fits = rw p.text.at m.reached.fits;
          sized = p.sized;
        };
        read = λ f. let g = sym p.text.ok ∙ f in let r = m.read g in let k = r.parts l in
            let at : x.at + length (spell_or a.tree ++ (a.spaces ++ (111 ∷ 114 ∷ []))) ≡ q.at =
            simp length-append (omega (arith, simp length-append at a.size, w.place e)) in
            record {
              tree = disj a.tree a.spaces r.tree;
              pend = r.pend l;
              last = r.last;
              spaces = r.spaces;
              whole = λ j. wrap (k.0 j) (k.1 j);
              size = simp length-append
                  (omega (
                    arith,
                    simp length-append at a.size,
                    simp length-append at r.size,
                    w.place e,
                    p.text.at,
                  ));
              made = rw (unlisted_append, at) (made_join 10 (put_qual (or_of (number_of list) a.tree))
                  (put_qual (and_of (number_of list) r.tree)) _ _ _ _ xs ys zs vs x y z v a.made
                  (made_from y q.at z r.made) p);
              runs = λ o i. next o i ∙ rw p.text.at (r.runs o l i);
              stops = rw p.text.at (m.stops g);
            };
        failed = λ f o i. next o i ∙ rw p.text.at (m.failed (sym p.text.ok ∙ f) o l i);
      }

-- no `or` follows: the byte there closes the expression
pub or_ends : (s list : Bytes) (left : ℕ) (xs : List ℕ) (x : Standing) (ys : List ℕ) (y : Standing)
    → (y.ok ≡ true → eqb (byte_at s y.at) 111 ≡ false) → OrGot s list left xs x ys y → OrMet s list left xs x ys y
unfolding unary_byte
or_ends s list left xs x ys y stop got =
    record {
      reached = got.reached;
      read = λ e. let a = got.read e in record {
        tree = a.tree;
        spaces = a.spaces;
        size = a.size;
        made = a.made;
        runs = λ o i. a.runs o i ∙ rw (a.stops, stop e, a.whole) refl;
      };
      failed = got.failed;
    }
