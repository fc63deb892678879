-- One law for each answer of read_text.
use Prim.Native.Nat.{ℕ, suc, ◌-◌, ◌<◌, ◌≤◌, min}
use mathlib.Core.Path.{◌≡◌, refl, sym, ap, subst, ◌∙◌}
use mathlib.Core.Bool.{true, false}
use mathlib.Core.List.{List, []}
use mathlib.Core.Option.{none, some}
use native.Mathlib.Omega.{arith}
use borrow.Author.Clash.{clash}
use Rattle.std.proofs.lemmas.Bool.{le-leb, lt-leb}
use lib.Dec.{leb}
use lib.ListN.{length, drop, length-drop, drop_of_length-le}
use lib.Seq.{drop-cons}
use Rattle.xpath.specs.Term as term
use Rattle.terms.specs.Row.{Row, max_rows, table_with}
use Rattle.selector_grammar.specs.Bytes.{Bytes}
use Rattle.selector_grammar.specs.Words.{number_of}
use Rattle.selector_grammar.specs.Denotes.{unlisted, union_names, union_of, put_path, nest_path}
use Rattle.selector_grammar.specs.private.Reader.{top, initial, union_byte, follow, room, run, outcome, good, bad}
use Rattle.selector_grammar.specs.Answer.{Reply, reply, Answers}
use Rattle.selector_grammar.specs.private.ReaderAnswer.{reply_to_term, reply_to_names, reply_to_reading, reply_to}
use Rattle.selector_grammar.proofs.Answered.{given}
use Rattle.selector_grammar.proofs.Longer.{answer_longer, refused_stays}
use Rattle.std.specs.Prelude.{Some, None, Result, Ok, Err}
use Rattle.selector_readings.specs.declared.Reading.{Reading}
use Rattle.common.specs.declared.refusal.Refusal.{Refusal}
use Rattle.common.specs.represent.Refusal.{refusal_number, refusal_value}
use Rattle.common.specs.declared.refusal.Refusal.TheVariants.{OutsideGrammar}
use Rattle.common.proofs.Refusals.{refusal_some}
use Rattle.common.proofs.Results.{Mapped, mapped_ok, mapped_err}
use Rattle.selector_heads.specs.private.Head.{callable, place_of}
use Rattle.selector_readings.specs.private.Build.{Standing, stands, ended, refused_at, Sized, Holds, first_of}
use Rattle.selector_readings.specs.private.Build.{nothing_read}
use Rattle.selector_reader.specs.Promises.{held_rows, TextRead}
use Rattle.selector_reader.specs.private.Readers.{after_union, union_at_top, refusal_of, end_of, UnionRead, UnionMet}
use Rattle.selector_reader.specs.private.Readers.{TextMet}
use Rattle.common.specs.Lists.{joined as numbers_of}
use Rattle.selector_readings.proofs.Built.{table_count}
use Rattle.selector_reader.proofs.Left.{left_table}

-- the reading `r` of the union that the text begins with, and each test as a fact
module _ (s list : Bytes) (xs : List ℕ) (count : ℕ) (z : Sized xs count) (ys : List ℕ) (x : Standing)
    (begins : x ≡ nothing_read count) (r : Result Reading ℕ) (m : UnionMet s list 32 xs x ys (ended r)) where
  abbrev held : List Row
  held = held_rows xs count

  union_by : (q : Result Reading ℕ) → r ≡ q → UnionMet s list 32 xs (nothing_read count) ys (ended q)
  union_by q is = rw (begins, is) at m

  -- a refusal is the book's, and leaves the count
  refused_as : (y : Standing) → UnionMet s list 32 xs (nothing_read count) ys y → (n v : ℕ) → (n ≡ 0 → ⊥)
      → (reply_to list s held).number ≡ n → (reply_to list s held).value ≡ v
      → TextMet s list xs count ys (refusal_of n v count)
  refused_as y u n v h e f =
      record {
        number = sym e;
        value = sym f;
        sized = record { size = u.reached.sized.size; bound = z.bound };
        accepted = λ g. absurd (h g);
        beyond = λ g. absurd (h g);
      }

  -- the place is that of the run's end
  outside_at : (y : Standing) → UnionMet s list 32 xs (nothing_read count) ys y
      → run s initial ≡ bad (length s - y.at) → TextMet s list xs count ys (refusal_of 18 y.at count)
  unfolding reply_to reply_to_reading
  outside_at y u e =
      refused_as y u 18 y.at (λ h. omega (arith, h)) (rw e refl) (rw e (omega (arith, u.reached.fits)))

  -- the union was refused
  pub text_failed : (e : Refusal) → Mapped OutsideGrammar r (Err e) → TextMet s list xs count ys (end_of count (Err e))
  unfolding callable room
  text_failed e is =
      let (to, same, gives) = mapped_err OutsideGrammar r e is in
      let union = union_by (Err to) same in
      rw gives (outside_at (refused_at to) union (union.failed refl top refl (λ k. clash false k refl)))

  -- it was read
  module _ (got : Reading) (is : Mapped OutsideGrammar r (Ok got)) where
    abbrev y : Standing
    y = stands got

    union : UnionMet s list 32 xs (nothing_read count) ys y
    union = union_by (Ok got) (mapped_ok OutsideGrammar r got is)

    abbrev read : UnionRead s list 32 xs (nothing_read count) ys y
    read = union.read refl

    pub text_longer : got.at < length s → TextMet s list xs count ys (refusal_of 18 got.at count)
    unfolding after_union union_byte follow room
    text_longer h =
        let q : suc (length (drop (suc y.at) s)) ≡ length s - y.at = omega (arith, length-drop (suc y.at) s) in
        outside_at y union (read.runs top refl ∙ rw (drop-cons s y.at 0, q) refl)

    module _ (h : length s ≤ got.at) where
      abbrev path : term.Path
      path = union_of (number_of list) read.tree

      -- the whole text is a union: its names decide next
      whole : reply_to list s held ≡ reply_to_names (unlisted (number_of list) (union_names read.tree 0)) path held
      unfolding reply_to reply_to_reading after_union union_at_top outcome room
      whole =
          let g : run s initial ≡ good (record { tree = read.tree; rest = read.spaces }) =
          read.runs top refl ∙ rw (drop_of_length-le s {i = y.at} h) refl in
          rw g refl

      -- the first unlisted name is the tree's
      names_told : y.missing ≡ unlisted (number_of list) (union_names read.tree 0)
      unfolding first_of
      names_told = read.made.names

      -- a name is not listed
      pub text_unlisted : (place : ℕ) → got.missing ≡ Some place
          → TextMet s list xs count ys (refusal_of 19 place count)
      unfolding reply_to_names
      text_unlisted place f =
          let g : unlisted (number_of list) (union_names read.tree 0) ≡ some place = sym names_told ∙ ap place_of f in
          let a : reply_to list s held ≡ reply 19 place held = whole ∙ rw g refl in
          refused_as y union 19 place (λ i. omega (arith, i)) (ap (λ (r : Reply). r.number) a)
          (ap (λ (r : Reply). r.value) a)

      module _ (f : got.missing ≡ None) where
        all_listed : reply_to list s held ≡ reply_to_term path held
        unfolding reply_to_names
        all_listed =
            let g : unlisted (number_of list) (union_names read.tree 0) ≡ none = sym names_told ∙ ap place_of f in
            whole ∙ rw g refl

        -- the term is nested too deep
        pub text_deep : 32 < got.nesting → TextMet s list xs count ys (refusal_of 3 0 count)
        unfolding reply_to_term
        text_deep i =
            let g : leb (nest_path path) 32 ≡ false =
            lt-leb (nest_path path) 32 (omega (arith, i, read.made.nest)) in
            let a : reply_to list s held ≡ reply 3 0 held = all_listed ∙ rw g refl in
            refused_as y union 3 0 (λ j. omega (arith, j)) (ap (λ (r : Reply). r.number) a)
            (ap (λ (r : Reply). r.value) a)

        module _ (i : got.nesting ≤ 32) where
          shallow : leb (nest_path path) 32 ≡ true
          shallow = le-leb (nest_path path) 32 (omega (arith, i, read.made.nest))

          -- the rows put are those of the term
          holds : Holds (put_path path held).rows ys y.count y.fits
          holds = read.made.puts.held held record { rows = λ _. refl; over = λ g. clash true refl g }

          -- the rows don't fit
          pub text_full : got.fits ≡ false → TextMet s list xs count ys (refusal_of 11 0 count)
          unfolding reply_to_term
          text_full g =
              let k : leb (length (put_path path held).rows) max_rows ≡ false =
              lt-leb (length (put_path path held).rows) max_rows (holds.over g) in
              let a : reply_to list s held ≡ reply 11 0 held = all_listed ∙ rw (shallow, k) refl in
              refused_as y union 11 0 (λ j. omega (arith, j)) (ap (λ (r : Reply). r.number) a)
              (ap (λ (r : Reply). r.value) a)

          -- accepted: the term's row, and all its rows
          pub text_held : got.fits ≡ true → TextMet s list xs count ys (end_of count (Ok got))
          unfolding reply_to_term
          text_held g =
              let rows : held_rows ys y.count ≡ (put_path path held).rows = holds.rows g in
              let size : length (put_path path held).rows ≡ y.count =
              sym (ap length rows) ∙ table_count ys y.count union.reached.sized in
              let k : leb (length (put_path path held).rows) max_rows ≡ true =
              le-leb (length (put_path path held).rows) max_rows (omega (arith, size, union.reached.sized.bound)) in
              let a : reply_to list s held ≡ reply 0 (put_path path held).at (put_path path held).rows =
              all_listed ∙ rw (shallow, k) refl in
              record {
                number = sym (ap (λ (r : Reply). r.number) a);
                value = read.made.puts.at held record { rows = λ _. refl; over = λ j. clash true refl j } g
                    ∙ sym (ap (λ (r : Reply). r.value) a);
                sized = union.reached.sized;
                accepted = λ _. rows ∙ sym (ap (λ (r : Reply). r.rows) a);
                beyond = λ _. read.made.puts.beyond g;
              }

-- the table that is left: the rows of an accepted text stand in it, and nothing else has changed
module _ (s list : Bytes) (xs : List ℕ) (count : ℕ) (n : ℕ) (few : n ≡ min count max_rows) (z : Sized xs n)
    (ys : List ℕ) (a : Result Reading Refusal) (m : TextMet s list xs n ys (end_of n a)) where
  abbrev rows : List Row
  rows = held_rows xs n

  told : Answers list s rows (end_of n a).number (end_of n a).value (reply_to list s rows).rows
  told =
      subst (λ (k : ℕ). Answers list s rows k (end_of n a).value (reply_to list s rows).rows) (sym m.number)
      (subst (λ (k : ℕ). Answers list s rows (reply_to list s rows).number k (reply_to list s rows).rows)
      (sym m.value) (given list s rows))

  pub read_refused : (e : Refusal) → a ≡ Err e → TextRead list s xs (min count max_rows) xs (Err e)
  unfolding table_with numbers_of
  read_refused e f =
      let all : length rows ≡ n = table_count xs n z in
      let here : Answers list s rows (refusal_number e) (refusal_value e) (reply_to list s rows).rows =
      subst (λ (r : Result Reading Refusal). Answers list s rows (end_of n r).number (end_of n r).value
      (reply_to list s rows).rows) f told in
      let same : (reply_to list s rows).rows ≡ rows = refused_stays list s rows _ _ _ here (refusal_some e) in
      let none : drop n rows ≡ [] = drop_of_length-le rows {i = n} (omega (arith, all)) in
      subst (λ (k : ℕ). TextRead list s xs k xs (Err e)) few
      record {
        after = rows;
        answers = subst (λ (q : List Row). Answers list s rows (refusal_number e) (refusal_value e) q) same here;
        rows = rw none refl;
        count = sym all;
        refused = refl;
      }

  pub read_accepted : (r : Reading) → a ≡ Ok r
      → TextRead list s xs (min count max_rows) ys (Ok (record { row = r.row; count = r.count }))
  read_accepted r f =
      let met = subst (λ (q : Result Reading Refusal). TextMet s list xs n ys (end_of n q)) f m in
      let here : Answers list s rows 0 r.row (reply_to list s rows).rows =
      subst (λ (q : Result Reading Refusal). Answers list s rows (end_of n q).number (end_of n q).value
      (reply_to list s rows).rows) f told in
      let left = met.accepted refl in
      let (new, grown) = answer_longer list s rows _ _ _ here in
      subst
      (λ (k : ℕ). TextRead list s xs k ys (Ok (record { row = r.row; count = r.count }))) few
      record {
        after = (reply_to list s rows).rows;
        answers = here;
        rows = left_table xs ys n r.count (reply_to list s rows).rows new z met.sized left grown (met.beyond refl);
        count = sym (table_count ys r.count met.sized) ∙ ap length left;
        refused = tt;
      }
