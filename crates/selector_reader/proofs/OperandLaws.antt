-- One law for each way through read_operand.
use Prim.Native.Nat.{ℕ, suc, ◌+◌, ◌-◌, ◌<◌, ◌≤◌, max}
use mathlib.Core.Path.{◌≡◌, refl, sym, ap, ◌∙◌, subst}
use mathlib.Core.Bool.{Bool, true, false}
use mathlib.Core.List.{List, [], ◌∷◌, ◌++◌}
use mathlib.Core.Option.{none, some}
use mathlib.Core.Logic.{◌⊎◌, inl, inr}
use native.Mathlib.Omega.{arith}
use borrow.Author.Clash.{clash}
use native.Mathlib.Decide.{dec_lt}
use Rattle.std.proofs.lemmas.Bool.{eqb-true, ne_eqb}
use lib.Dec.{eqb}
use lib.ListN.{length, drop, length-append, length-drop, drop_of_length-le}
use lib.Seq.{drop-cons}
use Rattle.terms.specs.Row.{row}
use Rattle.lines.specs.Ascii.{ascii}
use Rattle.lines.specs.Line.{same_bytes}
use Rattle.selector_grammar.specs.Bytes.{Bytes, is_space, is_start, not_word, true_word, false_word}
use Rattle.selector_grammar.specs.Words.{number_of, find, next, types, is_some, is_type}
use Rattle.selector_grammar.specs.Grammar.{implied, called, test, Union, Unary, paths, group, negation, constant, Or}
use Rattle.selector_grammar.specs.Grammar.{spell_unary, spell_bool}
use Rattle.selector_grammar.specs.Denotes.{unary_of, union_of, or_of, constant_of, unary_names, unlisted, put}
use Rattle.selector_grammar.specs.Denotes.{put_path, put_qual, nest_path, nest_qual}
use Rattle.selector_grammar.specs.private.Reader.{State, need, after, const_open, closed, inside, Open, bracket, negate}
use Rattle.selector_grammar.specs.private.Reader.{grouped}
use Rattle.selector_grammar.specs.private.Reader.{first, begin, Pend, step, finish, follow, run, outcome, bad, room}
use Rattle.selector_grammar.specs.private.Reader.{room_of, enter, shut, need_byte, lead_byte, group_byte, after_byte}
use Rattle.selector_grammar.specs.private.Reader.{paren_byte_next}
use Rattle.selector_grammar.specs.private.Reader.{call_byte, union_byte, unary_byte}
use Rattle.selector_heads.specs.declared.Opens.{Opens}
use Rattle.selector_heads.specs.declared.Opens.TheVariants as Opening
use Rattle.selector_words.specs.private.Scan.{byte_at, Passed}
use Rattle.selector_heads.specs.private.Head.{NoCall, CallAt, OperandMet, proceed}
use Rattle.selector_readings.specs.private.Build.{Standing, capped, moved_to, refused_at, Sized, Made, PutMet, Grown}
use Rattle.selector_readings.specs.private.Build.{some_of_put}
use Rattle.selector_readings.specs.private.Passing.{ConstPut, NegatePut}
use Rattle.selector_reader.specs.private.Readers.{after_union, union_at_top, MadeQual, NoOperand, UnionMet, UnaryMet}
use Rattle.selector_words.proofs.Scanned.{past, head_drop}
use Rattle.selector_heads.proofs.Ran.{on_here, on_pass, on_stop, over, need_over, closed_over}
use Rattle.selector_heads.proofs.Headed.{byte_there, passed_length, passed_to, on_fail, same_split}
use Rattle.selector_readings.proofs.Built.{made_row, made_over, made_from}
use Rattle.selector_reader.proofs.StepLaws.{has_room, Enclosed}

-- whitespace ends at one place
passed_one : (s : Bytes) (at i j : ℕ) → Passed is_space s at i → Passed is_space s at j → j ≡ i
passed_one s at i j p q =
    let e = same_split is_space p.bytes (drop i s) q.bytes (drop j s) p.all q.all
    (rw (head_drop s i) p.stops) (rw (head_drop s j) q.stops) (sym p.split ∙ q.split) in
    omega (arith, ap length e.0, passed_length is_space s at i p, passed_length is_space s at j q, p.from, q.from)

-- an operand can't end with the text
shut_zero : (o : Open) (e : Or) (w : Bytes) → shut o e w 0 ≡ none
unfolding shut
shut_zero (bracket c g l t v) e w = refl
shut_zero (negate o p v y) e w = refl
shut_zero (grouped o p v) e w = refl

-- nor can the byte 0, which stands for the end
unary_zero : (o : Open) (p : Pend) (u : Unary) (w : Bytes) → unary_byte o p u w 0 ≡ none
unfolding unary_byte
unary_zero o p u w = shut_zero o _ w

module _ (s : Bytes) (at : ℕ) (o : Open) (p : Pend) (w : Bytes) where
  at_end : (u : Unary) → length s ≤ at → bad 0 ≡ proceed s at (unary_byte o p u w (byte_at s at))
  unfolding proceed follow
  at_end u h =
      let z : length s - at ≡ 0 = omega (arith, h) in
      sym (rw (past s at h, unary_zero o p u w, z) refl)

  -- after a call or a group comes what follows an operand
  closed_ends : (u : Unary) → is_space (byte_at s at) ≡ false
      → run (drop at s) (closed o p u w) ≡ proceed s at (unary_byte o p u w (byte_at s at))
  unfolding step run finish outcome
  closed_ends u e = go (dec_lt at (length s))
    where
      go : Dec (at < length s) → run (drop at s) (closed o p u w) ≡ proceed s at (unary_byte o p u w (byte_at s at))
      go (yes i) = on_here s at (closed o p u w) i ∙ rw e refl
      go (no i) =
          let h : length s ≤ at = omega (arith, i) in
          rw (drop_of_length-le s {i = at} h) (at_end u h)

  -- and so after paths
  union_ended : (u : Union) → after_union (inside o p) u w (drop at s)
      ≡ proceed s at (unary_byte o p (paths u) w (byte_at s at))
  unfolding after_union union_at_top union_byte outcome proceed
  union_ended u = go (dec_lt at (length s))
    where
      go : Dec (at < length s)
          → after_union (inside o p) u w (drop at s) ≡ proceed s at (unary_byte o p (paths u) w (byte_at s at))
      go (yes i) =
          let q : suc (length (drop (suc at) s)) ≡ length s - at = omega (arith, length-drop (suc at) s) in
          rw (drop-cons s at 0, q) refl
      go (no i) =
          let h : length s ≤ at = omega (arith, i) in
          rw (drop_of_length-le s {i = at} h) (at_end (paths u) h)

-- the operand begins at `to`, after whitespace
module _ (s list : Bytes) (left : ℕ) (xs : List ℕ) (x : Standing) (to : ℕ) (q : Passed is_space s x.at to) where
  -- paths: some node is selected
  pub unary_paths : (ys : List ℕ) (y : Standing) (zs : List ℕ) (z : Standing) → NoCall s to × (byte_at s to ≡ 40 → ⊥)
      → UnionMet s list left xs x ys y → Grown some_of_put (λ n. suc (suc (max n 1))) ys y zs z
      → UnaryMet s list left xs x zs z
  unfolding room unary_of unary_names spell_unary put_qual put_path nest_qual nest_path
  unary_paths ys y zs z n m g =
      let none_begins : (o : Open) (p : Pend) → NoOperand s x.at (inside o p) first =
      λ o p _ i v. subst (λ (k : ℕ). NoCall s k × (byte_at s k ≡ 40 → ⊥)) (sym (passed_one s x.at to i q v)) n in
      record {
        reached = record {
          from = omega (arith, m.reached.from, g.text.at);
          fits = rw g.text.at m.reached.fits;
          sized = g.sized;
        };
        read = λ e. let r = m.read (sym g.text.ok ∙ e) in record {
          tree = paths r.tree;
          spaces = r.spaces;
          size = rw g.text.at r.size;
          made = g.made (put_path (union_of (number_of list) r.tree)) _ _ xs x r.made;
          runs = λ o p i. r.runs (inside o p) i ∙ rw g.text.at (union_ended s y.at o p r.spaces r.tree);
        };
        failed = λ e o p i. rw g.text.at (m.failed (sym g.text.ok ∙ e) (inside o p) i (none_begins o p));
      }

  pub paths_refused : (ys : List ℕ) (y : Standing) → NoCall s to × (byte_at s to ≡ 40 → ⊥)
      → UnionMet s list left xs x ys y → y.ok ≡ false → UnaryMet s list left xs x ys y
  unfolding room
  paths_refused ys y n m e =
      let none_begins : (o : Open) (p : Pend) → NoOperand s x.at (inside o p) first =
      λ o p _ i v. subst (λ (k : ℕ). NoCall s k × (byte_at s k ≡ 40 → ⊥)) (sym (passed_one s x.at to i q v)) n in
      record {
        reached = m.reached;
        read = λ f. clash y.ok f e;
        failed = λ _ o p i. m.failed e (inside o p) i (none_begins o p);
      }

  -- `(`
  module _ (b : byte_at s to ≡ 40) where
    pub group_full : left ≡ 0 → Sized xs x.count → UnaryMet s list left xs x xs (refused_at to)
    unfolding step need_byte lead_byte group_byte is_start is_space
    group_full h z =
        record {
          reached = record {
            from = q.from;
            fits = q.fits;
            sized = record { size = z.size; bound = omega arith };
          };
          read = λ e. clash false e refl;
          failed = λ _ o p i. need_over s x.at to q (inside o p) first begin
              ∙ on_fail s to (need (inside o p) first begin q.bytes) (byte_there s to 40 refl b)
              (rw (b, i ∙ h) refl);
        }

    module _ (h : 0 < left) where
      group_opens : (o : Open) (p : Pend) → room_of o ≡ left
          → run (drop x.at s) (need (inside o p) first begin [])
          ≡ run (drop (to + 1) s) (enter (grouped o p q.bytes))
      unfolding step need_byte lead_byte group_byte is_start is_space
      group_opens o p i =
          need_over s x.at to q (inside o p) first begin
          ∙ on_pass s to (need (inside o p) first begin q.bytes) (enter (grouped o p q.bytes))
          (byte_there s to 40 refl b) (rw (b, has_room (room_of o) left i h) refl)

      -- an expression in `( )`
      pub unary_group : (ys : List ℕ) (y : Standing) → Enclosed s list (left - 1) 41 xs (moved_to x (to + 1)) ys y
          → UnaryMet s list left xs x ys y
      unfolding room_of shut step unary_of unary_names spell_unary
      unary_group ys y m =
          record {
            reached = record {
              from = omega (arith, q.from, m.reached.from);
              fits = m.reached.fits;
              sized = m.reached.sized;
            };
            read = λ e. let t = m.read e in
                let at : x.at + length (q.bytes ++ (40 ∷ [])) ≡ to + 1 =
                simp length-append (omega (arith, passed_to is_space s x.at to q)) in
                record {
                  tree = group q.bytes t.tree t.inner;
                  spaces = t.spaces;
                  size =
                      simp length-append
                      (omega (arith, simp length-append at t.size, passed_to is_space s x.at to q));
                  made = rw at (made_from x (to + 1) y t.made);
                  runs = λ o p i. group_opens o p i
                      ∙ t.runs (grouped o p q.bytes) (ap (λ (n : ℕ). n - 1) i)
                      (closed o p (group q.bytes t.tree t.inner)) refl (λ w c j. rw j refl)
                      ∙ closed_ends s y.at o p t.spaces (group q.bytes t.tree t.inner) t.space;
                };
            failed = λ e o p i. group_opens o p i
                ∙ m.failed e (grouped o p q.bytes) (ap (λ (n : ℕ). n - 1) i) (λ t w n j. rw j refl);
          }

  -- `not`, `true` or `false`, and `(` at `paren`
  module _ (paren : ℕ) (word : Bytes) (a : CallAt s to paren word) (no_type : is_type word ≡ false) where
    paren_there : paren < length s
    paren_there = byte_there s paren 40 refl a.byte

    -- the word is read as a name first
    call_runs : (o : Open) (p : Pend) → run (drop x.at s) (need (inside o p) first begin [])
        ≡ run (drop paren s) (after (inside o p) first begin (test implied (called q.bytes word)) a.spaces)
    call_runs o p = need_over s x.at to q (inside o p) first begin ∙ a.runs (inside o p) first begin q.bytes

    -- the `(` opens what the word calls
    call_opens : (o : Open) (p : Pend) (st : State)
        → call_byte (inside o p) first begin implied q.bytes word a.spaces ≡ some st
        → run (drop x.at s) (need (inside o p) first begin []) ≡ run (drop (paren + 1) s) st
    unfolding step after_byte paren_byte_next is_space
    call_opens o p st e =
        call_runs o p
        ∙ on_pass s paren (after (inside o p) first begin (test implied (called q.bytes word)) a.spaces) st
        paren_there
        (rw (a.byte, no_type, e) refl)

    -- or can't follow it
    call_none : (o : Open) (p : Pend) → call_byte (inside o p) first begin implied q.bytes word a.spaces ≡ none
        → run (drop x.at s) (need (inside o p) first begin []) ≡ bad (length s - paren)
    unfolding step after_byte paren_byte_next is_space
    call_none o p e =
        call_runs o p
        ∙ on_fail s paren (after (inside o p) first begin (test implied (called q.bytes word)) a.spaces)
        paren_there
        (rw (a.byte, no_type, e) refl)

-- these words are no node types
not_type : is_type not_word ≡ false
unfolding is_some find next types same_bytes ascii
not_type = refl

bool_type : (k : Bool) → is_type (spell_bool k) ≡ false
unfolding is_some find next types same_bytes spell_bool ascii
bool_type true = refl
bool_type false = refl

-- `true ( )` and `false ( )`: what their `(` opens, their row and their term
const_call : (o : Open) (p : Pend) (w v : Bytes) (k : Bool)
    → call_byte (inside o p) first begin implied w (spell_bool k) v ≡ some (const_open o p k w v [])
unfolding call_byte same_bytes spell_bool ascii
const_call o p w v true = refl
const_call o p w v false = refl

abbrev const_kind : Bool → ℕ
const_kind true = 6
const_kind false = 7

const_made : (list : Bytes) (k : Bool) (xs : List ℕ) (x : Standing) (ys : List ℕ) (y : Standing)
    → Made (λ rs. put rs (row (const_kind k) 0 0 0)) 1 none xs x ys y → MadeQual list (constant_of k) [] xs x ys y
unfolding constant_of put_qual nest_qual unlisted
const_made list true xs x ys y m = m
const_made list false xs x ys y m = m

module _ (s list : Bytes) (left : ℕ) (xs : List ℕ) (x : Standing) (to : ℕ) (q : Passed is_space s x.at to)
    (paren : ℕ) where
  -- `not (`
  module _ (a : CallAt s to paren not_word) where
    pub not_full : left ≡ 0 → Sized xs x.count → UnaryMet s list left xs x xs (refused_at paren)
    unfolding call_byte same_bytes ascii
    not_full h z =
        let i = paren_there s list left xs x to q paren not_word a not_type in
        record {
          reached = record {
            from = omega (arith, q.from, a.size);
            fits = omega (arith, i);
            sized = record { size = z.size; bound = omega arith };
          };
          read = λ e. clash false e refl;
          failed = λ _ o p i. call_none s list left xs x to q paren not_word a not_type o p (rw (i ∙ h) refl);
        }

    module _ (h : 0 < left) where
      not_opens : (o : Open) (p : Pend) → room_of o ≡ left → run (drop x.at s) (need (inside o p) first begin [])
          ≡ run (drop (paren + 1) s) (enter (negate o p q.bytes a.spaces))
      unfolding call_byte same_bytes ascii
      not_opens o p i =
          call_opens s list left xs x to q paren not_word a not_type o p (enter (negate o p q.bytes a.spaces))
          (rw (has_room (room_of o) left i h) refl)

      pub not_refused : (ys : List ℕ) (y : Standing)
          → Enclosed s list (left - 1) 41 xs (moved_to x (paren + 1)) ys y → y.ok ≡ false
          → UnaryMet s list left xs x ys y
      unfolding room_of shut
      not_refused ys y m e =
          record {
            reached = record {
              from = omega (arith, q.from, a.size, m.reached.from);
              fits = m.reached.fits;
              sized = m.reached.sized;
            };
            read = λ f. clash y.ok f e;
            failed = λ _ o k i. not_opens o k i ∙ m.failed e (negate o k q.bytes a.spaces) (ap (λ (n : ℕ). n - 1) i)
                (λ t w n j. rw j refl);
          }

      -- the row of `not` over the expression
      pub unary_not : (ys : List ℕ) (y : Standing) (zs : List ℕ) (z : Standing)
          → Enclosed s list (left - 1) 41 xs (moved_to x (paren + 1)) ys y
          → PutMet (row 8 y.row 0 0) (capped (suc y.nesting)) ys y zs z → UnaryMet s list left xs x zs z
      unfolding room_of shut step unary_of unary_names spell_unary put_qual nest_qual ascii
      unary_not ys y zs z m p =
          let there = passed_to is_space s x.at to q in
          record {
            reached = record {
              from = omega (arith, q.from, a.size, m.reached.from, p.text.at);
              fits = rw p.text.at m.reached.fits;
              sized = p.sized;
            };
            read = λ e. let t = m.read (sym p.text.ok ∙ e) in
                let u = negation q.bytes a.spaces t.tree t.inner in
                let at : x.at + length (q.bytes ++ (not_word ++ (a.spaces ++ (40 ∷ [])))) ≡ paren + 1 =
                simp length-append (omega (arith, there, a.size)) in
                record {
                  tree = u;
                  spaces = t.spaces;
                  size = simp length-append
                      (omega (arith, simp length-append at t.size, there, a.size, p.text.at));
                  made = rw at (made_over 8 (put_qual (or_of (number_of list) t.tree)) _ _ xs ys zs x y z
                      (made_from x (paren + 1) y t.made) p);
                  runs = λ o k i. not_opens o k i
                      ∙ t.runs (negate o k q.bytes a.spaces) (ap (λ (n : ℕ). n - 1) i) (closed o k u) refl
                      (λ w c j. rw j refl)
                      ∙ rw p.text.at (closed_ends s y.at o k t.spaces u t.space);
                };
            failed = λ e o k i. not_opens o k i ∙ rw p.text.at (m.failed (sym p.text.ok ∙ e)
                (negate o k q.bytes a.spaces) (ap (λ (n : ℕ). n - 1) i) (λ t w n j. rw j refl));
          }

  -- `true (` and `false (`
  module _ (k : Bool) (a : CallAt s to paren (spell_bool k)) where
    const_opens : (o : Open) (p : Pend) → run (drop x.at s) (need (inside o p) first begin [])
        ≡ run (drop (paren + 1) s) (const_open o p k q.bytes a.spaces [])
    const_opens o p =
        call_opens s list left xs x to q paren (spell_bool k) a (bool_type k) o p
        (const_open o p k q.bytes a.spaces []) (const_call o p q.bytes a.spaces k)

    -- the whitespace in `( )`
    const_inner : (o : Open) (p : Pend) (inner : ℕ) (v : Passed is_space s (paren + 1) inner)
        → run (drop x.at s) (need (inside o p) first begin [])
        ≡ run (drop inner s) (const_open o p k q.bytes a.spaces v.bytes)
    unfolding step
    const_inner o p inner v =
        const_opens o p ∙ over is_space (const_open o p k q.bytes a.spaces) (λ w b e. rw e refl) s
        (paren + 1) inner v []

    module _ (ok : x.ok ≡ true) (ys : List ℕ) (y : Standing)
        (c : ConstPut s (const_kind k) xs (moved_to x (paren + 1)) ys y) where
      const_wrong : (byte_at s c.to ≡ 41 → ⊥) → UnaryMet s list left xs x ys y
      unfolding step finish
      const_wrong f =
          let shut = (c.wrong f).0 in
          let no : y.ok ≡ false = ap (λ (r : Standing). r.ok) shut in
          let at : y.at ≡ c.to = ap (λ (r : Standing). r.at) shut in
          let v = c.passed in
          record {
            reached = record {
              from = omega (arith, q.from, a.size, v.from, at);
              fits = rw at v.fits;
              sized = c.sized;
            };
            read = λ e. clash y.ok e no;
            failed = λ _ o p i. const_inner o p c.to v
                ∙ rw at (on_stop s c.to (const_open o p k q.bytes a.spaces v.bytes) v.fits
                (rw (v.stops, ne_eqb (byte_at s c.to) 41 f) refl) refl);
          }

      -- `)` is there: its row, and whitespace
      const_right : byte_at s c.to ≡ 41 → UnaryMet s list left xs x ys y
      unfolding step unary_of unary_names spell_unary is_space
      const_right f =
          let shut = c.right f in
          let end = shut.0 in
          let r : Passed is_space s (c.to + 1) end = shut.1 in
          let put = shut.2 in
          let fine : y.ok ≡ true = put.text.ok ∙ ok in
          let at : y.at ≡ end = put.text.at in
          let v = c.passed in
          let u = constant k q.bytes a.spaces v.bytes in
          record {
            reached = record {
              from = omega (arith, q.from, a.size, v.from, r.from, at);
              fits = rw at r.fits;
              sized = c.sized;
            };
            read = λ _. record {
              tree = u;
              spaces = r.bytes;
              size = simp length-append (omega (
                arith,
                passed_to is_space s x.at to q,
                a.size,
                at,
                passed_length is_space s (paren + 1) c.to v,
                passed_length is_space s (c.to + 1) end r,
                v.from,
                r.from,
              ));
              made = const_made list k xs x ys y
                  (made_from x end y (made_row (row (const_kind k) 0 0 0) 1 xs (moved_to x end) ys y put));
              runs = λ o p i. const_inner o p c.to v
                  ∙ on_pass s c.to (const_open o p k q.bytes a.spaces v.bytes) (closed o p u [])
                  (byte_there s c.to 41 refl f) (rw f refl)
                  ∙ closed_over s (c.to + 1) end r o p u
                  ∙ rw at (closed_ends s end o p r.bytes u r.stops);
            };
            failed = λ e. clash y.ok fine e;
          }

      -- by cases on the byte after the whitespace
      unary_constant : UnaryMet s list left xs x ys y
      unary_constant = go (eqb (byte_at s c.to) 41) refl
        where
          go : (b : Bool) → eqb (byte_at s c.to) 41 ≡ b → UnaryMet s list left xs x ys y
          go true e = const_right (eqb-true (byte_at s c.to) 41 e)
          go false e = const_wrong (λ f. clash true refl (rw f at e))

  -- the two by name
  pub unary_true : CallAt s to paren true_word → x.ok ≡ true → (ys : List ℕ) (y : Standing)
      → ConstPut s 6 xs (moved_to x (paren + 1)) ys y → UnaryMet s list left xs x ys y
  unfolding spell_bool
  unary_true a ok ys y c = unary_constant true a ok ys y c

  pub unary_false : CallAt s to paren false_word → x.ok ≡ true → (ys : List ℕ) (y : Standing)
      → ConstPut s 7 xs (moved_to x (paren + 1)) ys y → UnaryMet s list left xs x ys y
  unfolding spell_bool
  unary_false a ok ys y c = unary_constant false a ok ys y c

-- a group or a negation
abbrev pub Encloses : Opens → Type 0
Encloses k = (k ≡ Opening.Group) ⊎ (k ≡ Opening.Not)

module _ (s list : Bytes) (left : ℕ) (xs : List ℕ) (x : Standing) (to : ℕ) (q : Passed is_space s x.at to) where
  -- no level is left
  pub unary_full : (k : Opens) (paren : ℕ) → Encloses k → OperandMet s to k paren → left ≡ 0 → Sized xs x.count
      → UnaryMet s list left xs x xs (refused_at paren)
  unary_full k paren (inl e) m h z =
      let (b, there) = rw e at m in
      subst (λ (i : ℕ). UnaryMet s list left xs x xs (refused_at i)) (sym there)
      (group_full s list left xs x to q b h z)
  unary_full k paren (inr e) m h z = not_full s list left xs x to q paren (rw e at m) h z

  -- by cases: a group is what it holds, `not` puts one row more
  pub unary_enclosed : (k : Opens) (paren : ℕ) → Encloses k → OperandMet s to k paren → 0 < left
      → (ys : List ℕ) (y : Standing) (zs : List ℕ) (z : Standing)
      → Enclosed s list (left - 1) 41 xs (moved_to x (paren + 1)) ys y → NegatePut k ys y zs z
      → UnaryMet s list left xs x zs z
  unary_enclosed k paren (inl e) m h ys y zs z w p =
      let (b, there) = rw e at m in
      let (table, same) = rw e at p in
      subst (λ (r : Standing). UnaryMet s list left xs x zs r) (sym same)
      (subst (λ (us : List ℕ). UnaryMet s list left xs x us y) (sym table)
      (unary_group s list left xs x to q b h ys y
      (subst (λ (i : ℕ). Enclosed s list (left - 1) 41 xs (moved_to x (i + 1)) ys y) there w)))
  unary_enclosed k paren (inr e) m h ys y zs z w p =
      unary_not s list left xs x to q paren (rw e at m) h ys y zs z w (rw e at p)

  -- the expression or its `)` was refused
  pub enclosed_fails : (k : Opens) (paren : ℕ) → Encloses k → OperandMet s to k paren → 0 < left
      → (ys : List ℕ) (y : Standing) → Enclosed s list (left - 1) 41 xs (moved_to x (paren + 1)) ys y → y.ok ≡ false
      → UnaryMet s list left xs x ys y
  enclosed_fails k paren (inl e) m h ys y w f =
      let (b, there) = rw e at m in
      unary_group s list left xs x to q b h ys y
      (subst (λ (i : ℕ). Enclosed s list (left - 1) 41 xs (moved_to x (i + 1)) ys y) there w)
  enclosed_fails k paren (inr e) m h ys y w f = not_refused s list left xs x to q paren (rw e at m) h ys y w f
