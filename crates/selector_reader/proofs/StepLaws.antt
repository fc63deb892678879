-- One law for each way through read_predicate and read_step.
use Prim.Native.Nat.{ℕ, suc, ◌+◌, ◌-◌, ◌<◌, max}
use mathlib.Core.Path.{◌≡◌, refl, sym, ap, ◌∙◌, subst}
use mathlib.Core.Bool.{Bool, true, false, cond, ◌||◌}
use mathlib.Core.List.{List, [], ◌∷◌, ◌++◌}
use mathlib.Core.Option.{none, some}
use borrow.Author.Clash.{clash}
use mathlib.Core.Logic.{⊎_elim}
use native.Mathlib.Omega.{arith}
use native.Mathlib.Numerals.{add-one}
use Rattle.std.proofs.lemmas.Bool.{eqb-true, ne_eqb, or_cases}
use lib.Dec.{eqb, eqb_refl, ltb, lt→ltb}
use lib.ListN.{length, drop, length-append}
use Rattle.terms.specs.Row.{row}
use Rattle.selector_grammar.specs.Bytes.{Bytes, is_space}
use Rattle.selector_grammar.specs.Words.{number_of}
use Rattle.selector_grammar.specs.Grammar.{LocationStep, filter, Or, takes_predicate, spell_step, spell_or}
use Rattle.selector_grammar.specs.Denotes.{step_of, or_of, step_names, or_names, put_path, put_qual, nest_path}
use Rattle.selector_grammar.specs.private.Reader.{State, after, Ctx, Open, bracket, Alt, Lead, step, follow, run, bad}
use Rattle.selector_grammar.specs.private.Reader.{room, room_of, enter, shut, after_byte, paren_byte_next}
use Rattle.selector_grammar.specs.private.Reader.{colon_byte_next}
use Rattle.selector_grammar.proofs.Basics.{is_true}
use Rattle.std.specs.Prelude.{Ok, Err}
use Rattle.selector_heads.specs.declared.Head.{Head}
use Rattle.selector_words.specs.private.Scan.{byte_at, Passed}
use Rattle.selector_heads.specs.private.Head.{callable, NoCall, Due, HeadMet, proceed}
use Rattle.selector_readings.specs.private.Build.{Standing, capped, moved_to, refused_at, PutMet, HeadPut, only_in_step}
use Rattle.selector_readings.specs.private.Passing.{CloseMet}
use Rattle.selector_reader.specs.private.Readers.{MadeQual, Ready, Reached, PredicateMet, StepRead, StepFails, StepMet}
use Rattle.selector_reader.specs.private.Readers.{OrMet}
use Rattle.selector_words.proofs.Scanned.{there}
use Rattle.selector_heads.proofs.Ran.{on_pass, over}
use Rattle.selector_heads.proofs.Headed.{byte_there, passed_length, on_fail}
use Rattle.selector_readings.proofs.Built.{unlisted_append, made_from, made_to, made_join}

-- there is room for one more level
pub has_room : (n left : ℕ) → n ≡ left → 0 < left → ltb 0 n ≡ true
has_room n left e h = is_true (ltb 0 n) (lt→ltb 0 n (omega arith))

-- an expression that was opened at x, up to the byte b that closes it, and whitespace
pub record EnclosedRead (s list : Bytes) (left b : ℕ) (xs : List ℕ) (x : Standing) (ys : List ℕ) (y : Standing)
    : Type 0 where
  pub tree : Or
  pub inner : Bytes
  pub spaces : Bytes
  pub size : x.at + length (spell_or tree ++ (inner ++ spaces)) + 1 ≡ y.at
  pub made : MadeQual list (or_of (number_of list) tree) (or_names tree x.at) xs x ys y
  pub runs : (o : Open) → room_of o ≡ left → (f : Bytes → State) → shut o tree inner b ≡ some (f [])
      → ((w : Bytes) (c : ℕ) → is_space c ≡ true → step (f w) c ≡ some (f (w ++ (c ∷ []))))
      → run (drop x.at s) (enter o) ≡ run (drop y.at s) (f spaces)
  pub space : is_space (byte_at s y.at) ≡ false

pub record Enclosed (s list : Bytes) (left b : ℕ) (xs : List ℕ) (x : Standing) (ys : List ℕ) (y : Standing)
    : Type 0 where
  pub reached : Reached s x.at ys y
  pub read : y.ok ≡ true → EnclosedRead s list left b xs x ys y
  pub failed : y.ok ≡ false → (o : Open) → room_of o ≡ left
      → ((e : Or) (w : Bytes) (k : ℕ) → eqb k b ≡ false → shut o e w k ≡ none)
      → run (drop x.at s) (enter o) ≡ bad (length s - y.at)

-- the expression was refused
pub enclosed_refused : (s list : Bytes) (left b : ℕ) (xs : List ℕ) (x : Standing) (ys : List ℕ) (y : Standing)
    → OrMet s list left xs x ys y → y.ok ≡ false → Enclosed s list left b xs x ys y
enclosed_refused s list left b xs x ys y m e =
    record { reached = m.reached; read = λ f. clash y.ok f e; failed = λ _ o i _. m.failed e o i }

module _ (s list : Bytes) (left b : ℕ) (xs : List ℕ) (x : Standing) (ys : List ℕ) (y z : Standing)
    (m : OrMet s list left xs x ys y) (e : y.ok ≡ true) (h : CloseMet s y b z) where
  enclosed_wrong : (byte_at s y.at ≡ b → ⊥) → Enclosed s list left b xs x ys z
  unfolding proceed follow
  enclosed_wrong f =
      let r = m.read e in
      subst (λ (q : Standing). Enclosed s list left b xs x ys q) (sym (h.wrong f)) record {
        reached = record {
          from = m.reached.from;
          fits = m.reached.fits;
          sized = record { size = m.reached.sized.size; bound = omega arith };
        };
        read = λ g. clash false g refl;
        failed = λ _ o i n. r.runs o i ∙ rw (n r.tree r.spaces (byte_at s y.at) (ne_eqb _ b f)) refl;
      }

  -- the closing byte is there
  enclosed_right : byte_at s y.at ≡ b → Enclosed s list left b xs x ys z
  unfolding proceed follow
  enclosed_right f =
      let r = m.read e in
      let c = h.right f in
      let to = c.0 in
      let q : Passed is_space s (y.at + 1) to = c.2 in
      subst (λ (v : Standing). Enclosed s list left b xs x ys v) (sym c.1) record {
        reached = record {
          from = omega (arith, m.reached.from, q.from);
          fits = q.fits;
          sized = m.reached.sized;
        };
        read = λ _. record {
          tree = r.tree;
          inner = r.spaces;
          spaces = q.bytes;
          size = simp length-append (omega (
            arith,
            simp length-append at r.size,
            passed_length is_space s (y.at + 1) to q,
            q.from,
          ));
          made = made_to x y to r.made;
          runs = λ o i st j k. r.runs o i ∙ rw (f, j, ← add-one) (over is_space st k s (y.at + 1) to q []);
          space = q.stops;
        };
        failed = λ g. clash y.ok e g;
      }

  -- the closing byte is another one, or it is there
  pub enclosed : Enclosed s list left b xs x ys z
  enclosed = go (eqb (byte_at s y.at) b) refl
    where
      go : (q : Bool) → eqb (byte_at s y.at) b ≡ q → Enclosed s list left b xs x ys z
      go true f = enclosed_right (eqb-true (byte_at s y.at) b f)
      go false f = enclosed_wrong (λ g. clash (eqb b b) (is_true (eqb b b) (eqb_refl b)) (rw g at f))

-- read_predicate
module _ (s list : Bytes) (left : ℕ) (xs : List ℕ) (x : Standing) (r : Ready s xs x) (b : byte_at s x.at ≡ 91) where
  bracket_there : x.at < length s
  bracket_there = byte_there s x.at 91 refl b

  -- no level is left
  pub predicate_full : left ≡ 0 → PredicateMet s list left xs x xs (refused_at x.at)
  unfolding step after_byte is_space
  predicate_full h =
      record {
        reached = record {
          from = omega arith;
          fits = r.fits;
          sized = record { size = r.sized.size; bound = omega arith };
        };
        further = λ e. clash false e refl;
        read = λ e. clash false e refl;
        failed = λ _ c g l t w i k. on_fail s x.at (after c g l t w) bracket_there (rw (b, k, i ∙ h) refl);
      }

  module _ (h : 0 < left) where
    bracket_opens : (c : Ctx) (g : Alt) (l : Lead) (t : LocationStep) (w : Bytes) → room c ≡ left
        → takes_predicate t ≡ true
        → run (drop x.at s) (after c g l t w) ≡ run (drop (x.at + 1) s) (enter (bracket c g l t w))
    unfolding step after_byte is_space
    bracket_opens c g l t w i k =
        on_pass s x.at (after c g l t w) (enter (bracket c g l t w)) bracket_there
        (rw (b, k, has_room (room c) left i h) refl)

    -- the expression or its `]` was refused
    pub predicate_refused : (ys : List ℕ) (y : Standing) → Enclosed s list (left - 1) 93 xs (moved_to x (x.at + 1)) ys y
        → y.ok ≡ false → PredicateMet s list left xs x ys y
    unfolding room_of shut
    predicate_refused ys y m e =
        record {
          reached = record { from = omega (arith, m.reached.from); fits = m.reached.fits; sized = m.reached.sized };
          further = λ f. clash y.ok f e;
          read = λ f. clash y.ok f e;
          failed = λ _ c g l u w i k. bracket_opens c g l u w i k
              ∙ m.failed e (bracket c g l u w) (ap (λ (n : ℕ). n - 1) i) (λ o v n j. rw j refl);
        }

    -- the expression in `[ ]`, and a row over the step and it
    pub predicate_joined : (ys : List ℕ) (y : Standing) (zs : List ℕ) (z : Standing)
        → Enclosed s list (left - 1) 93 xs (moved_to x (x.at + 1)) ys y
        → PutMet (row 5 x.row y.row 0) (capped (suc (max x.nesting y.nesting))) ys y zs z
        → PredicateMet s list left xs x zs z
    unfolding room_of shut step after_byte
    predicate_joined ys y zs z m p =
        record {
          reached = record {
            from = omega (arith, m.reached.from, p.text.at);
            fits = rw p.text.at m.reached.fits;
            sized = p.sized;
          };
          further = λ _. omega (arith, m.reached.from, p.text.at);
          read = λ e. let t = m.read (sym p.text.ok ∙ e) in record {
            tree = t.tree;
            inner = t.inner;
            spaces = t.spaces;
            size = omega (arith, t.size, p.text.at);
            runs = λ c g l u w i k. bracket_opens c g l u w i k ∙ rw p.text.at (t.runs (bracket c g l u w)
                (ap (λ (n : ℕ). n - 1) i) (after c g l (filter u w t.tree t.inner)) refl (λ v c j. rw j refl));
            made = λ f n o vs v a. made_join 5 f
                (put_qual (or_of (number_of list) t.tree)) n _ o _ vs xs ys zs v x y z a
                (made_from x (x.at + 1) y t.made) p;
            space = rw p.text.at t.space;
          };
          failed = λ e c g l u w i k. bracket_opens c g l u w i k
              ∙ rw p.text.at (m.failed (sym p.text.ok ∙ e)
              (bracket c g l u w) (ap (λ (n : ℕ). n - 1) i) (λ o v n j. rw j refl));
        }

-- the step so far: what may not follow it, and whether a predicate may
pub record Stepping (s list : Bytes) (left : ℕ) (filters : Bool)
    (xs : List ℕ) (x : Standing) (ys : List ℕ) (y : Standing) : Type 0 where
  pub tree : Bytes → LocationStep
  pub spaces : Bytes
  pub read : StepRead s list left tree spaces xs x ys y
  pub paren : (c : Ctx) (g : Alt) (l : Lead) (w : Bytes) → (callable c g l ≡ true → NoCall s x.at)
      → byte_at s y.at ≡ 40 → paren_byte_next c g l (tree w) spaces ≡ none
  pub colon : (c : Ctx) (g : Alt) (l : Lead) (w : Bytes) → byte_at s y.at ≡ 58
      → colon_byte_next c g l (tree w) spaces ≡ none
  pub takes : (w : Bytes) → takes_predicate (tree w) ≡ filters

pub record StepGot (s list : Bytes) (left : ℕ) (filters : Bool)
    (xs : List ℕ) (x : Standing) (ys : List ℕ) (y : Standing) : Type 0 where
  pub reached : Reached s x.at ys y
  pub read : y.ok ≡ true → Stepping s list left filters xs x ys y
  pub failed : y.ok ≡ false → StepFails s left x.at y.at

-- no head was read
pub step_refused : (s list : Bytes) (left : ℕ) (xs : List ℕ) (x : Standing) (i : ℕ) → Ready s xs x
    → HeadMet s list x.at (Err i) → StepMet s list left xs x xs (refused_at i)
step_refused s list left xs x i r m =
    record {
      reached = record {
        from = m.between.from;
        fits = m.between.fits;
        sized = record { size = r.sized.size; bound = omega arith };
      };
      read = λ e. clash false e refl;
      stops = λ e. clash false e refl;
      failed = λ _ c g l w _ d. m.failed c g l w d;
    }

-- the head of a step
pub step_head : (s list : Bytes) (left : ℕ) (xs : List ℕ) (x : Standing) (ys : List ℕ) (y : Standing) (h : Head)
    (f : Bool) → h.filters ≡ f → Ready s xs x → HeadMet s list x.at (Ok h) → HeadPut xs x h ys y
    → StepGot s list left f xs x ys y
unfolding put_path nest_path
step_head s list left xs x ys y h f filters r m p =
    let ok : y.ok ≡ true = p.ok ∙ r.ok in
    let t = m.read in
    record {
      reached = record {
        from = omega (arith, m.between.from, p.at);
        fits = rw p.at m.between.fits;
        sized = p.sized;
      };
      read = λ e. record {
        tree = t.tree;
        spaces = t.spaces;
        read = record {
          size = λ w. rw p.at (t.size w);
          runs = λ c g l w i. rw p.at (t.runs c g l w);
          made = λ w i j. rw (t.term w, t.names w i j) p.made;
          space = rw p.at t.stops;
        };
        paren = λ c g l w n b. t.paren c g l w n (rw p.at at b);
        colon = λ c g l w b. t.colon c g l w (rw p.at at b);
        takes = λ w. t.takes w ∙ filters;
      };
      failed = λ e. clash y.ok ok e;
    }

-- one more predicate
pub step_filter : (s list : Bytes) (left : ℕ) (xs : List ℕ) (x : Standing) (ys : List ℕ) (y : Standing)
    (zs : List ℕ) (z : Standing) → y.ok ≡ true → PredicateMet s list left ys y zs z
    → StepGot s list left true xs x ys y → StepGot s list left true xs x zs z
unfolding spell_step step_of step_names put_path nest_path takes_predicate paren_byte_next colon_byte_next
step_filter s list left xs x ys y zs z ok m got =
    let a = got.read ok in
    let num = number_of list in
    record {
      reached = record {
        from = omega (arith, got.reached.from, m.reached.from);
        fits = m.reached.fits;
        sized = m.reached.sized;
      };
      read = λ e. let q = m.read e in record {
        tree = λ w. filter (a.tree w) a.spaces q.tree q.inner;
        spaces = q.spaces;
        read = record {
          size = λ w. simp length-append (omega (
            arith,
            simp length-append at (a.read.size w),
            simp length-append at q.size,
          ));
          runs = λ c g l w i. a.read.runs c g l w i ∙ q.runs c g l (a.tree w) a.spaces i (a.takes w);
          made = λ w i j.
              let at : i + length (spell_step (a.tree w) ++ (a.spaces ++ (91 ∷ []))) ≡ y.at + 1 =
              simp length-append (omega (arith, simp length-append at (a.read.size w), j)) in
              rw (unlisted_append, at) (q.made (put_path (step_of num (a.tree w))) _ _ xs x (a.read.made w i j));
          space = q.space;
        };
        paren = λ c g l w n b. refl;
        colon = λ c g l w b. refl;
        takes = λ w. refl;
      };
      failed = λ e c g l w i d. a.read.runs c g l w i ∙ m.failed e c g l (a.tree w) a.spaces i (a.takes w);
    }

-- the step was refused after its head
pub step_stopped : (s list : Bytes) (left : ℕ) (f : Bool) (xs : List ℕ) (x : Standing) (ys : List ℕ) (y : Standing)
    → y.ok ≡ false → StepGot s list left f xs x ys y → StepMet s list left xs x ys y
step_stopped s list left f xs x ys y e got =
    record {
      reached = got.reached;
      read = λ g. clash y.ok g e;
      stops = λ g. clash y.ok g e;
      failed = got.failed;
    }

-- a step ends where nothing follows that only a step could take
module _ (s list : Bytes) (left : ℕ) (filters : Bool) (xs : List ℕ) (x : Standing) (ys : List ℕ) (y : Standing)
    (got : StepGot s list left filters xs x ys y)
    (stop : filters ≡ true → y.ok ≡ true → eqb (byte_at s y.at) 91 ≡ false) where
  refused_byte : (a : Stepping s list left filters xs x ys y) → y.ok ≡ true
      → only_in_step (byte_at s y.at) ≡ true → (c : Ctx) (g : Alt) (l : Lead) (w : Bytes) → Due s x.at c g l w
      → step (after c g l (a.tree w) a.spaces) (byte_at s y.at) ≡ none
  unfolding only_in_step step after_byte is_space
  refused_byte a ok e c g l w d =
      ⊎_elim (λ h. let b = eqb-true (byte_at s y.at) 40 h in rw (b, a.paren c g l w d.plain b) refl)
      (λ h. ⊎_elim (λ h. let b = eqb-true (byte_at s y.at) 58 h in rw (b, a.colon c g l w b) refl)
      (λ h. let b = eqb-true (byte_at s y.at) 91 h in bracketed b filters refl)
      (or_cases (eqb (byte_at s y.at) 58) (eqb (byte_at s y.at) 91) h))
      (or_cases (eqb (byte_at s y.at) 40) (eqb (byte_at s y.at) 58 || eqb (byte_at s y.at) 91) e)
    where
      bracketed : byte_at s y.at ≡ 91 → (f : Bool) → filters ≡ f
          → step (after c g l (a.tree w) a.spaces) (byte_at s y.at) ≡ none
      bracketed b true f = clash true refl (rw b at (stop f ok))
      bracketed b false f = rw (b, a.takes w, f) refl

  -- such a byte is in the text
  refused_there : only_in_step (byte_at s y.at) ≡ true → y.at < length s
  unfolding only_in_step
  refused_there e = there only_in_step s y.at refl e

  -- by cases: refused here, or read
  pub step_ends : y.ok ≡ true
      → StepMet s list left xs x ys (cond (only_in_step (byte_at s y.at)) (refused_at y.at) y)
  step_ends e = go (only_in_step (byte_at s y.at)) refl
    where
      go : (q : Bool) → only_in_step (byte_at s y.at) ≡ q → StepMet s list left xs x ys (cond q (refused_at y.at) y)
      go false f = record {
        reached = got.reached;
        read = λ g. let a = got.read g in (a.tree, a.spaces, a.read);
        stops = λ _. f;
        failed = got.failed;
      }
      go true f = record {
        reached = record {
          from = got.reached.from;
          fits = got.reached.fits;
          sized = record { size = got.reached.sized.size; bound = omega arith };
        };
        read = λ g. clash false g refl;
        stops = λ g. clash false g refl;
        failed = λ _ c g l w i d. let a = got.read e in
            a.read.runs c g l w i ∙ on_fail s y.at (after c g l (a.tree w) a.spaces) (refused_there f)
            (refused_byte a e f c g l w d);
      }
