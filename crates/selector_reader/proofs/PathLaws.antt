-- One law for each way through read_path and read_union.
use Prim.Native.Nat.{ℕ, suc, ◌+◌, ◌<◌, ◌≤◌, max}
use mathlib.Core.Path.{◌≡◌, refl, sym, ap, ◌∙◌, subst}
use mathlib.Core.Bool.{Bool, true, false, ◌||◌}
use mathlib.Core.List.{List, [], ◌∷◌, ◌++◌}
use mathlib.Core.Option.{none}
use native.Mathlib.Omega.{arith}
use borrow.Author.Clash.{clash}
use native.Mathlib.Numerals.{add-one}
use Rattle.std.proofs.lemmas.Bool.{eqb-true, ne_eqb, or_parts}
use lib.Dec.{eqb}
use lib.ListN.{length, get_or, drop, length-append}
use lib.Seq.{drop-cons}
use Rattle.xpath.specs.Term as term
use Rattle.terms.specs.Row.{row}
use Rattle.selector_grammar.specs.Bytes.{Bytes, is_space, is_start}
use Rattle.selector_grammar.specs.Words.{number_of}
use Rattle.selector_grammar.specs.Grammar.{LocationStep, Rel, slash, slashes, Path, root, Union}
use Rattle.selector_grammar.specs.Grammar.{Unary, paths, spell_step, spell_rel, spell_path, spell_union}
use Rattle.selector_grammar.specs.Denotes.{Named, every_below, step_of, rel_of, rel_after, path_of, union_of}
use Rattle.selector_grammar.specs.Denotes.{step_names}
use Rattle.selector_grammar.specs.Denotes.{rel_names, path_names, union_names, unlisted, put_path, nest_path}
use Rattle.selector_grammar.specs.private.Reader.{need, root1, slash1, after, Ctx, top, inside, Open, bracket, negate}
use Rattle.selector_grammar.specs.private.Reader.{grouped, Pend, Alt, first, more, Lead, start, after1, after2, begin}
use Rattle.selector_grammar.specs.private.Reader.{Prefix}
use Rattle.selector_grammar.specs.private.Reader.{bare, at_root, at_any, prefix_of, join, with_prefix, path_to}
use Rattle.selector_grammar.specs.private.Reader.{join_alt}
use Rattle.selector_grammar.specs.private.Reader.{step, follow}
use Rattle.selector_grammar.specs.private.Reader.{finish, run, room, shut, need_byte, lead_byte, lead_end, group_byte}
use Rattle.selector_grammar.specs.private.Reader.{after_byte, path_byte, union_byte, unary_byte, at_top}
use Rattle.selector_words.specs.private.Scan.{byte_at, Passed, begins_step}
use Rattle.selector_heads.specs.private.Head.{callable, Due}
use Rattle.selector_readings.specs.private.Build.{Standing, capped, moved_to, refused_at, PutMet, Grown, below_of}
use Rattle.selector_readings.specs.private.Build.{only_in_step}
use Rattle.selector_readings.specs.private.Passing.{FirstPut, SlashPut, BeginPut, Starting, start_of, root_start}
use Rattle.selector_reader.specs.private.Readers.{after_path, after_union, union_at_top, MadePath, Ready, Reached}
use Rattle.selector_reader.specs.private.Readers.{StepMet}
use Rattle.selector_reader.specs.private.Readers.{NoOperand, PathFails, PathMet, UnionFails, UnionMet}
use Rattle.selector_words.proofs.Scanned.{head_drop}
use Rattle.selector_heads.proofs.Ran.{on_pass, need_over}
use Rattle.selector_heads.proofs.Headed.{byte_there, passed_length, passed_to, on_fail}
use Rattle.selector_readings.proofs.Worded.{root_step, root_slash, root_alone}
use Rattle.selector_readings.proofs.Built.{unlisted_append, made_row, made_from, made_to, made_join}

-- only an operand's first step may be a call
unfoldable is_begin : Lead → Bool
is_begin (start bare) = true
is_begin (start (at_root w)) = false
is_begin (start (at_any w)) = false
is_begin (after1 x r w) = false
is_begin (after2 x r w) = false

-- by cases on what stands before the step
not_callable : (c : Ctx) (g : Alt) (l : Lead) → is_begin l ≡ false → callable c g l ≡ false
unfolding callable is_begin
not_callable top g l e = refl
not_callable (inside o p) (more u w) l e = refl
not_callable (inside o p) first (start bare) e = clash true refl e
not_callable (inside o p) first (start (at_root w)) e = refl
not_callable (inside o p) first (start (at_any w)) e = refl
not_callable (inside o p) first (after1 x r w) e = refl
not_callable (inside o p) first (after2 x r w) e = refl

-- nor a path after `|`
pub more_not_callable : (c : Ctx) (u : Union) (w : Bytes) → callable c (more u w) begin ≡ false
unfolding callable
more_not_callable top u w = refl
more_not_callable (inside o p) u w = refl

-- the path so far, up to its last step
pub record Pathing (s list : Bytes) (left : ℕ) (xs : List ℕ) (x : Standing) (ys : List ℕ) (y : Standing) : Type 0 where
  pub lead : Lead
  pub last : LocationStep
  pub spaces : Bytes
  pub size : x.at + length (spell_path (path_to lead last) ++ spaces) ≡ y.at
  pub made : MadePath list (path_of (number_of list) (path_to lead last))
      (path_names (path_to lead last) x.at) xs x ys y
  pub runs : (c : Ctx) (g : Alt) → room c ≡ left
      → run (drop x.at s) (need c g begin []) ≡ run (drop y.at s) (after c g lead last spaces)
  pub space : is_space (byte_at s y.at) ≡ false
  pub stops : only_in_step (byte_at s y.at) ≡ false

pub record PathGot (s list : Bytes) (left : ℕ) (xs : List ℕ) (x : Standing) (ys : List ℕ) (y : Standing) : Type 0 where
  pub reached : Reached s x.at ys y
  pub read : y.ok ≡ true → Pathing s list left xs x ys y
  pub failed : y.ok ≡ false → PathFails s left x.at y.at

-- what stands before a step in its path: a term, its names, and `/` or `//`; the step's whitespace begins at `place`
pub record Leads (s list : Bytes) (left : ℕ) (xs : List ℕ) (x : Standing) (ys : List ℕ) (y : Standing) : Type 0 where
  pub lead : Lead
  pub spaces : Bytes
  pub path : term.Path
  pub names : List Named
  pub place : ℕ
  pub there : place + length spaces ≡ y.at
  pub from : x.at ≤ place
  pub made : MadePath list path names xs x ys y
  pub runs : (c : Ctx) (g : Alt) → room c ≡ left
      → run (drop x.at s) (need c g begin []) ≡ run (drop y.at s) (need c g lead spaces)
  pub due : (c : Ctx) (g : Alt) → Due s y.at c g lead spaces
  pub denotes : (t : LocationStep) → path_of (number_of list) (path_to lead t)
      ≡ term.Composition path (step_of (number_of list) t)
  pub named : (t : LocationStep) → path_names (path_to lead t) x.at ≡ names ++ step_names t place
  pub size : (t : LocationStep) → x.at + length (spell_path (path_to lead t)) ≡ place + length (spell_step t)

-- a step after what leads to it
pub path_joined : (s list : Bytes) (left : ℕ) (xs : List ℕ) (x : Standing) (ys : List ℕ) (y : Standing)
    (zs : List ℕ) (z : Standing) (vs : List ℕ) (v : Standing) → Leads s list left xs x ys y
    → StepMet s list left ys y zs z
    → PutMet (row 4 y.row z.row 0) (capped (suc (max y.nesting z.nesting))) zs z vs v
    → PathGot s list left xs x vs v
unfolding put_path nest_path
path_joined s list left xs x ys y zs z vs v l m p =
    record {
      reached = record {
        from = omega (arith, l.from, l.there, m.reached.from, p.text.at);
        fits = rw p.text.at m.reached.fits;
        sized = p.sized;
      };
      read = λ e.
          let ok : z.ok ≡ true = sym p.text.ok ∙ e in
          let r = m.read ok in
          let t = r.0 l.spaces in
          let h = r.2 in
          record {
            lead = l.lead;
            last = t;
            spaces = r.1;
            size = simp length-append (omega (
              arith,
              l.size t,
              simp length-append at (h.size l.spaces),
              l.there,
              p.text.at,
            ));
            made = rw (l.denotes t, l.named t, unlisted_append) (made_join 4 (put_path l.path)
                (put_path (step_of (number_of list) t)) _ _ _ _ xs ys zs vs x y z v l.made
                (h.made l.spaces l.place l.there) p);
            runs = λ c g i. l.runs c g i ∙ rw p.text.at (h.runs c g l.lead l.spaces i);
            space = rw p.text.at h.space;
            stops = rw p.text.at (m.stops ok);
          };
      failed = λ e c g i _. l.runs c g i
          ∙ rw p.text.at (m.failed (sym p.text.ok ∙ e) c g l.lead l.spaces i
          (l.due c g));
    }

-- the step was refused
pub path_refused : (s list : Bytes) (left : ℕ) (xs : List ℕ) (x : Standing) (ys : List ℕ) (y : Standing)
    (zs : List ℕ) (z : Standing) → Leads s list left xs x ys y → StepMet s list left ys y zs z → z.ok ≡ false
    → PathMet s list left xs x zs z
path_refused s list left xs x ys y zs z l m e =
    record {
      reached = record {
        from = omega (arith, l.from, l.there, m.reached.from);
        fits = m.reached.fits;
        sized = m.reached.sized;
      };
      read = λ f. clash z.ok f e;
      failed = λ _ c g i _. l.runs c g i ∙ m.failed e c g l.lead l.spaces i (l.due c g);
    }

-- the first step of a path without `/` before it
module _ (s list : Bytes) (left : ℕ) (xs : List ℕ) (x : Standing) (to : ℕ) (q : Passed is_space s x.at to)
    (b : byte_at s to ≡ 47 → ⊥) where
  group_none : (c : Ctx) (g : Alt) → NoOperand s x.at c g → group_byte c g q.bytes (byte_at s to) ≡ none
  unfolding group_byte callable
  group_none top g n = refl
  group_none (inside o p) (more u w) n = refl
  group_none (inside o p) first n = rw (ne_eqb (byte_at s to) 40 (n refl to q).1) refl

  -- so neither `/` nor `(` is due
  bare_due : (c : Ctx) (g : Alt) → NoOperand s x.at c g → Due s to c g begin q.bytes
  unfolding lead_byte lead_end
  bare_due c g n =
      record {
        plain = λ k. (n k to q).0;
        lead = λ _. (rw (ne_eqb (byte_at s to) 47 b) (group_none c g n), refl);
      }

  pub path_bare : (zs : List ℕ) (z : Standing) → StepMet s list left xs (moved_to x to) zs z
      → PathGot s list left xs x zs z
  unfolding path_of rel_of path_names rel_names spell_path spell_rel prefix_of join with_prefix
  path_bare zs z m =
      let there = passed_to is_space s x.at to q in
      record {
        reached = record {
          from = omega (arith, q.from, m.reached.from);
          fits = m.reached.fits;
          sized = m.reached.sized;
        };
        read = λ e. let r = m.read e in let h = r.2 in record {
          lead = begin;
          last = r.0 q.bytes;
          spaces = r.1;
          size = omega (arith, h.size q.bytes, there);
          made = made_from x to z (h.made q.bytes x.at there);
          runs = λ c g i. need_over s x.at to q c g begin ∙ h.runs c g begin q.bytes i;
          space = h.space;
          stops = m.stops e;
        };
        failed = λ e c g i n. need_over s x.at to q c g begin
            ∙ m.failed e c g begin q.bytes i (bare_due c g n);
      }

-- neither holds
-- `/` and `//` at the beginning
root_ends : (t : Bytes) (c : Ctx) (g : Alt) (w : Bytes) → eqb (get_or t 0 0) 47 ≡ false
    → run t (root1 c g w) ≡ run t (need c g (start (at_root w)) [])
unfolding run finish step lead_end
root_ends [] c g w h = refl
root_ends (b ∷ t) c g w h = rw h refl

-- no `/` can follow a path that is only `/`
shut_slash : (o : Open) (p : Pend) (u : Unary) (w : Bytes) → unary_byte o p u w 47 ≡ none
unfolding unary_byte shut
shut_slash (bracket c g l t v) p u w = refl
shut_slash (negate o m v y) p u w = refl
shut_slash (grouped o m v) p u w = refl

slash_none : (c : Ctx) (u : Union) (w : Bytes) → union_byte c u w 47 ≡ none
unfolding union_byte
slash_none top u w = refl
slash_none (inside o p) u w = shut_slash o p (paths u) w

-- after `/` alone comes what follows a path
root_after : (t : Bytes) (c : Ctx) (g : Alt) (w v : Bytes) → begins_step (get_or t 0 0) ≡ false
    → is_space (get_or t 0 0) ≡ false
    → run t (need c g (start (at_root w)) v) ≡ after_path c g (root w) v t
unfolding run finish step need_byte lead_byte lead_end after_path begins_step
root_after [] c g w v h k = refl
root_after (b ∷ t) c g w v h k =
    let i = or_parts (is_start b) (eqb b 42 || (eqb b 64 || eqb b 46)) h in
    let j = or_parts (eqb b 42) (eqb b 64 || eqb b 46) i.1 in
    let l = or_parts (eqb b 64) (eqb b 46) j.1 in
    rw (i.0, k, j.0, l.0, l.1) refl

module _ (s list : Bytes) (left : ℕ) (xs : List ℕ) (x : Standing) (to : ℕ) (q : Passed is_space s x.at to)
    (b : byte_at s to ≡ 47) where
  slash_there : to < length s
  slash_there = byte_there s to 47 refl b

  -- the first `/`
  slash_opens : (c : Ctx) (g : Alt) → run (drop x.at s) (need c g begin [])
      ≡ run (drop (to + 1) s) (root1 c g q.bytes)
  unfolding step need_byte lead_byte is_start is_space
  slash_opens c g =
      need_over s x.at to q c g begin
      ∙ on_pass s to (need c g begin q.bytes) (root1 c g q.bytes) slash_there (rw b refl)

  module _ (d : byte_at s (to + 1) ≡ 47 → ⊥) (ys : List ℕ) (y : Standing) (end : ℕ)
      (p : PutMet (row 1 0 0 0) 1 xs (moved_to x to) ys y) (v : Passed is_space s (to + 1) end) where
    root_runs : (c : Ctx) (g : Alt)
        → run (drop x.at s) (need c g begin [])
        ≡ run (drop end s) (need c g (start (at_root q.bytes)) v.bytes)
    root_runs c g =
        slash_opens c g
        ∙ root_ends (drop (to + 1) s) c g q.bytes (rw (head_drop s (to + 1)) (ne_eqb (byte_at s (to + 1)) 47 d))
        ∙ need_over s (to + 1) end v c g (start (at_root q.bytes))

    -- its row
    root_made : MadePath list term.Root [] xs x ys (moved_to y end)
    unfolding put_path nest_path unlisted
    root_made = made_to x y end (made_from x to y (made_row (row 1 0 0 0) 1 xs (moved_to x to) ys y p))

    -- a step after `/`
    pub leads_root : begins_step (byte_at s end) ≡ true → Leads s list left xs x ys (moved_to y end)
    unfolding path_of rel_after path_names rel_names spell_path spell_rel prefix_of join with_prefix is_begin
    leads_root e =
        let at : x.at + length (q.bytes ++ (47 ∷ [])) ≡ to + 1 =
        simp length-append (omega (arith, passed_to is_space s x.at to q)) in
        record {
          lead = start (at_root q.bytes);
          spaces = v.bytes;
          path = term.Root;
          names = [];
          place = to + 1;
          there = omega (arith, passed_length is_space s (to + 1) end v, v.from);
          from = omega (arith, q.from);
          made = root_made;
          runs = λ c g i. root_runs c g;
          due = λ c g. record {
            plain = λ k. clash (callable c g (start (at_root q.bytes))) k
                (not_callable c g (start (at_root q.bytes)) refl);
            lead = λ f. clash (begins_step (byte_at s end)) e f;
          };
          denotes = λ t. refl;
          named = λ t. rw at refl;
          size = λ t. simp length-append (omega (arith, passed_to is_space s x.at to q));
        }

    -- `/` alone
    module _ (e : begins_step (byte_at s end) ≡ false) where
      pub path_second : byte_at s end ≡ 47 → PathMet s list left xs x ys (refused_at end)
      unfolding step need_byte lead_byte is_start is_space path_byte
      path_second f =
          record {
            reached = record {
              from = omega (arith, q.from, v.from);
              fits = v.fits;
              sized = record { size = p.sized.size; bound = omega arith };
            };
            read = λ g. clash false g refl;
            failed = λ _ c g i n. root_runs c g
                ∙ on_fail s end (need c g (start (at_root q.bytes)) v.bytes) (byte_there s end 47 refl f)
                (rw f (slash_none c (join_alt g (root q.bytes)) v.bytes));
          }

      pub path_root : (byte_at s end ≡ 47 → ⊥) → y.ok ≡ true → PathMet s list left xs x ys (moved_to y end)
      unfolding path_of path_names spell_path unlisted
      path_root f ok =
          record {
            reached = record { from = omega (arith, q.from, v.from); fits = v.fits; sized = p.sized };
            read = λ _. record {
              tree = root q.bytes;
              spaces = v.bytes;
              size = simp length-append
                  (omega (arith, passed_to is_space s x.at to q, passed_length is_space s (to + 1) end v, v.from));
              made = root_made;
              runs = λ c g i. root_runs c g ∙ root_after (drop end s) c g q.bytes v.bytes
                  (rw (head_drop s end) e) (rw (head_drop s end) v.stops);
            };
            failed = λ g. clash y.ok ok g;
          }

  module _ (d : byte_at s (to + 1) ≡ 47) (ys zs : List ℕ) (y z : Standing) (end : ℕ)
      (p : PutMet (row 1 0 0 0) 1 xs (moved_to x to) ys y) (m : Grown below_of (λ n. suc (max n 1)) ys y zs z)
      (v : Passed is_space s (to + 1 + 1) end) where
    pub leads_any : Leads s list left xs x zs (moved_to z end)
    unfolding path_of rel_after path_names rel_names spell_path spell_rel prefix_of join with_prefix is_begin
        put_path nest_path
        unlisted step lead_byte lead_end
    leads_any =
        let at : x.at + length (q.bytes ++ (47 ∷ 47 ∷ [])) ≡ to + 2 =
        simp length-append (omega (arith, passed_to is_space s x.at to q)) in
        let lead = start (at_any q.bytes) in
        record {
          lead = lead;
          spaces = v.bytes;
          path = term.Composition term.Root every_below;
          names = [];
          place = to + 2;
          there = omega (arith, passed_length is_space s (to + 1 + 1) end v, v.from);
          from = omega (arith, q.from);
          made = made_to x z end (m.made (put_path term.Root) 1 none xs x
              (made_from x to y (made_row (row 1 0 0 0) 1 xs (moved_to x to) ys y p)));
          runs = λ c g i. slash_opens c g
              ∙ on_pass s (to + 1) (root1 c g q.bytes) (need c g lead []) (byte_there s (to + 1) 47 refl d)
              (rw d refl)
              ∙ need_over s (to + 1 + 1) end v c g lead;
          due = λ c g. record {
            plain = λ k. clash (callable c g lead) k (not_callable c g lead refl);
            lead = λ _. (refl, refl);
          };
          denotes = λ t. refl;
          named = λ t. rw at refl;
          size = λ t. simp length-append (omega (arith, passed_to is_space s x.at to q));
        }

-- `/` and `//` after a path
slash_ends : (t : Bytes) (c : Ctx) (g : Alt) (x : Prefix) (r : Rel) (w : Bytes) → eqb (get_or t 0 0) 47 ≡ false
    → run t (slash1 c g x r w) ≡ run t (need c g (after1 x r w) [])
unfolding run finish step lead_end
slash_ends [] c g x r w h = refl
slash_ends (b ∷ t) c g x r w h = rw h refl

-- names at equal places
same_names : (t : LocationStep) (ns : List Named) (i j : ℕ) → i ≡ j → ns ++ step_names t i ≡ ns ++ step_names t j
same_names t ns i j e = ap (λ (k : ℕ). ns ++ step_names t k) e

-- a step after a path: its term, its names, its spelling
module _ (num : Bytes → ℕ) (r : Rel) (w : Bytes) (t : LocationStep) where
  slash_denotes : (x : Prefix) → path_of num (with_prefix x (slash r w t))
      ≡ term.Composition (path_of num (with_prefix x r)) (step_of num t)
  unfolding path_of rel_of rel_after with_prefix
  slash_denotes bare = refl
  slash_denotes (at_root v) = refl
  slash_denotes (at_any v) = refl

  slashes_denotes : (x : Prefix) → path_of num (with_prefix x (slashes r w t))
      ≡ term.Composition (term.Composition (path_of num (with_prefix x r)) every_below) (step_of num t)
  unfolding path_of rel_of rel_after with_prefix
  slashes_denotes bare = refl
  slashes_denotes (at_root v) = refl
  slashes_denotes (at_any v) = refl

  slash_size : (x : Prefix) → length (spell_path (with_prefix x (slash r w t)))
      ≡ length (spell_path (with_prefix x r) ++ w) + 1 + length (spell_step t)
  unfolding spell_path spell_rel with_prefix
  slash_size bare = simp length-append (omega arith)
  slash_size (at_root v) = simp length-append (omega arith)
  slash_size (at_any v) = simp length-append (omega arith)

  slashes_size : (x : Prefix) → length (spell_path (with_prefix x (slashes r w t)))
      ≡ length (spell_path (with_prefix x r) ++ w) + 2 + length (spell_step t)
  unfolding spell_path spell_rel with_prefix
  slashes_size bare = simp length-append (omega arith)
  slashes_size (at_root v) = simp length-append (omega arith)
  slashes_size (at_any v) = simp length-append (omega arith)

  slash_named : (x : Prefix) (i j : ℕ) → i + length (spell_path (with_prefix x r) ++ w) + 1 ≡ j
      → path_names (with_prefix x (slash r w t)) i ≡ path_names (with_prefix x r) i ++ step_names t j
  unfolding spell_path spell_rel with_prefix path_names rel_names
  slash_named bare i j e =
      same_names t (rel_names r i) _ j (simp length-append (omega (arith, simp length-append at e)))
  slash_named (at_root v) i j e =
      same_names t (rel_names r (i + length (v ++ (47 ∷ [])))) _ j
      (simp length-append (omega (arith, simp length-append at e)))
  slash_named (at_any v) i j e =
      same_names t (rel_names r (i + length (v ++ (47 ∷ 47 ∷ [])))) _ j
      (simp length-append (omega (arith, simp length-append at e)))

  slashes_named : (x : Prefix) (i j : ℕ) → i + length (spell_path (with_prefix x r) ++ w) + 2 ≡ j
      → path_names (with_prefix x (slashes r w t)) i ≡ path_names (with_prefix x r) i ++ step_names t j
  unfolding spell_path spell_rel with_prefix path_names rel_names
  slashes_named bare i j e =
      same_names t (rel_names r i) _ j (simp length-append (omega (arith, simp length-append at e)))
  slashes_named (at_root v) i j e =
      same_names t (rel_names r (i + length (v ++ (47 ∷ [])))) _ j
      (simp length-append (omega (arith, simp length-append at e)))
  slashes_named (at_any v) i j e =
      same_names t (rel_names r (i + length (v ++ (47 ∷ 47 ∷ [])))) _ j
      (simp length-append (omega (arith, simp length-append at e)))

module _ (s list : Bytes) (left : ℕ) (xs : List ℕ) (x : Standing) (ys : List ℕ) (y : Standing)
    (a : Pathing s list left xs x ys y) (b : byte_at s y.at ≡ 47) where
  abbrev num : Bytes → ℕ
  num = number_of list

  abbrev prefix : Prefix
  prefix = prefix_of a.lead

  abbrev rel : Rel
  rel = join a.lead a.last

  -- the `/` after the path
  slash_pass : (c : Ctx) (g : Alt) → room c ≡ left
      → run (drop x.at s) (need c g begin []) ≡ run (drop (y.at + 1) s) (slash1 c g prefix rel a.spaces)
  unfolding step after_byte is_space
  slash_pass c g i =
      a.runs c g i
      ∙ on_pass s y.at (after c g a.lead a.last a.spaces) (slash1 c g prefix rel a.spaces)
      (byte_there s y.at 47 refl b) (rw b refl)

  -- one `/`: the path itself
  leads_one : (byte_at s (y.at + 1) ≡ 47 → ⊥) → (to : ℕ) → Passed is_space s (y.at + 1) to
      → Leads s list left xs x ys (moved_to y to)
  unfolding prefix_of join is_begin lead_byte lead_end
  leads_one d to q =
      let lead = after1 prefix rel a.spaces in
      record {
        lead = lead;
        spaces = q.bytes;
        path = path_of num (path_to a.lead a.last);
        names = path_names (path_to a.lead a.last) x.at;
        place = y.at + 1;
        there = omega (arith, passed_length is_space s (y.at + 1) to q, q.from);
        from = omega (arith, a.size);
        made = made_to x y to a.made;
        runs = λ c g i. slash_pass c g i
            ∙ slash_ends (drop (y.at + 1) s) c g prefix rel a.spaces
            (rw (head_drop s (y.at + 1)) (ne_eqb (byte_at s (y.at + 1)) 47 d))
            ∙ need_over s (y.at + 1) to q c g lead;
        due = λ c g. record {
          plain = λ k. clash (callable c g lead) k (not_callable c g lead refl);
          lead = λ _. (refl, refl);
        };
        denotes = λ t. slash_denotes num rel a.spaces t prefix;
        named = λ t. slash_named num rel a.spaces t prefix x.at (y.at + 1) (omega (arith, a.size));
        size = λ t. omega (arith, slash_size num rel a.spaces t prefix, a.size);
      }

  -- two: descendant-or-self::node() below it
  leads_two : byte_at s (y.at + 1) ≡ 47 → (to : ℕ) (zs : List ℕ) (z : Standing) → Passed is_space s (y.at + 1 + 1) to
      → Grown below_of (λ n. suc (max n 1)) ys y zs z → Leads s list left xs x zs (moved_to z to)
  unfolding prefix_of join is_begin lead_byte lead_end step put_path nest_path
  leads_two d to zs z q m =
      let lead = after2 prefix rel a.spaces in
      record {
        lead = lead;
        spaces = q.bytes;
        path = term.Composition (path_of num (path_to a.lead a.last)) every_below;
        names = path_names (path_to a.lead a.last) x.at;
        place = y.at + 2;
        there = omega (arith, passed_length is_space s (y.at + 1 + 1) to q, q.from);
        from = omega (arith, a.size);
        made = made_to x z to (m.made (put_path (path_of num (path_to a.lead a.last))) _ _ xs x a.made);
        runs = λ c g i. slash_pass c g i
            ∙ on_pass s (y.at + 1) (slash1 c g prefix rel a.spaces) (need c g lead [])
            (byte_there s (y.at + 1) 47 refl d) (rw d refl)
            ∙ need_over s (y.at + 1 + 1) to q c g lead;
        due = λ c g. record {
          plain = λ k. clash (callable c g lead) k (not_callable c g lead refl);
          lead = λ _. (refl, refl);
        };
        denotes = λ t. slashes_denotes num rel a.spaces t prefix;
        named = λ t. slashes_named num rel a.spaces t prefix x.at (y.at + 2) (omega (arith, a.size));
        size = λ t. omega (arith, slashes_size num rel a.spaces t prefix, a.size);
      }

  -- by cases on the next byte
  pub leads_slash : (zs : List ℕ) (z : Standing) → SlashPut s ys y zs z → Leads s list left xs x zs z
  leads_slash zs z p = go (eqb (byte_at s (y.at + 1)) 47) refl
    where
      go : (k : Bool) → eqb (byte_at s (y.at + 1)) 47 ≡ k → Leads s list left xs x zs z
      go true e =
          let d = eqb-true (byte_at s (y.at + 1)) 47 e in
          let q = p.two d in
          subst (λ (r : Standing). Leads s list left xs x zs r) (sym q.4)
          (leads_two d q.0 zs q.1 q.2 q.3)
      go false e =
          let d : byte_at s (y.at + 1) ≡ 47 → ⊥ = λ f. clash true refl (rw f at e) in
          let q = p.one d in
          subst (λ (r : Standing). Leads s list left xs x zs r) (sym q.3)
          (subst (λ (us : List ℕ). Leads s list left xs x us (moved_to y q.0)) (sym q.2)
          (leads_one d q.0 q.1))

-- one more step after `/` or `//`
pub path_more : (s list : Bytes) (left : ℕ) (xs : List ℕ) (x : Standing) (ys : List ℕ) (y : Standing)
    (zs : List ℕ) (z : Standing) (us : List ℕ) (u : Standing) (vs : List ℕ) (v : Standing)
    → y.ok ≡ true → byte_at s y.at ≡ 47 → SlashPut s ys y zs z → StepMet s list left zs z us u
    → PutMet (row 4 z.row u.row 0) (capped (suc (max z.nesting u.nesting))) us u vs v
    → PathGot s list left xs x ys y → PathGot s list left xs x vs v
path_more s list left xs x ys y zs z us u vs v ok b p m j got =
    let l = leads_slash s list left xs x ys y (got.read ok) b zs z p in
    path_joined s list left xs x zs z us u vs v l m j

pub more_refused : (s list : Bytes) (left : ℕ) (xs : List ℕ) (x : Standing) (ys : List ℕ) (y : Standing)
    (zs : List ℕ) (z : Standing) (us : List ℕ) (u : Standing)
    → y.ok ≡ true → byte_at s y.at ≡ 47 → SlashPut s ys y zs z → StepMet s list left zs z us u → u.ok ≡ false
    → PathGot s list left xs x ys y → PathMet s list left xs x us u
more_refused s list left xs x ys y zs z us u ok b p m e got =
    path_refused s list left xs x zs z us u (leads_slash s list left xs x ys y (got.read ok) b zs z p) m e

-- a path ends where no `/` follows
after_path_lem : (t : Bytes) (c : Ctx) (g : Alt) (l : Lead) (x : LocationStep) (w : Bytes)
    → is_space (get_or t 0 0) ≡ false
    → eqb (get_or t 0 0) 47 ≡ false → only_in_step (get_or t 0 0) ≡ false
    → run t (after c g l x w) ≡ after_path c g (path_to l x) w t
unfolding run finish step after_byte after_path only_in_step
after_path_lem [] c g l x w h k e = refl
after_path_lem (b ∷ t) c g l x w h k e =
    let u = or_parts (eqb b 40) (eqb b 58 || eqb b 91) e in
    let v = or_parts (eqb b 58) (eqb b 91) u.1 in
    rw (h, k, v.1, u.0, v.0) refl

pub path_ends : (s list : Bytes) (left : ℕ) (xs : List ℕ) (x : Standing) (ys : List ℕ) (y : Standing)
    → (y.ok ≡ true → eqb (byte_at s y.at) 47 ≡ false) → PathGot s list left xs x ys y
    → PathMet s list left xs x ys y
path_ends s list left xs x ys y stop got =
    record {
      reached = got.reached;
      read = λ e. let a = got.read e in record {
        tree = path_to a.lead a.last;
        spaces = a.spaces;
        size = a.size;
        made = a.made;
        runs = λ c g i. a.runs c g i ∙ after_path_lem (drop y.at s) c g a.lead a.last a.spaces
            (rw (head_drop s y.at) a.space) (rw (head_drop s y.at) (stop e))
            (rw (head_drop s y.at) a.stops);
      };
      failed = got.failed;
    }

-- a path's beginning: what its first step makes of it, or what it is alone
pub record Begun (s list : Bytes) (left : ℕ) (xs : List ℕ) (x : Standing) (ys : List ℕ) (y : Starting) : Type 0 where
  pub ready : y.steps ≡ true → Ready s ys y.lead
  pub space : y.steps ≡ true → is_space (byte_at s y.lead.at) ≡ false
  pub first : y.steps ≡ true → (zs : List ℕ) (z : Standing) (vs : List ℕ) (v : Standing)
      → StepMet s list left ys y.lead zs z → FirstPut y.rooted y.lead z zs vs v
      → PathGot s list left xs x vs v
  pub refused : y.steps ≡ true → (zs : List ℕ) (z : Standing) → StepMet s list left ys y.lead zs z → z.ok ≡ false
      → PathMet s list left xs x zs z
  pub alone : y.steps ≡ false → PathMet s list left xs x ys y.lead

module _ (s list : Bytes) (left : ℕ) (xs : List ℕ) (x : Standing) (r : Ready s xs x) where
  begun_bare : (to : ℕ) → Passed is_space s x.at to → (byte_at s to ≡ 47 → ⊥)
      → Begun s list left xs x xs (start_of (moved_to x to) false true)
  begun_bare to q b =
      record {
        ready = λ _. record { ok = r.ok; fits = q.fits; sized = r.sized };
        space = λ _. q.stops;
        first = λ _ zs z vs v m f. let e = f.stays refl in
            subst (λ (u : Standing). PathGot s list left xs x vs u) (sym e.1)
            (subst (λ (us : List ℕ). PathGot s list left xs x us z) (sym e.0)
            (path_bare s list left xs x to q b zs z m));
        refused = λ _ zs z m e. path_ends s list left xs x zs z (λ f. clash z.ok f e)
            (path_bare s list left xs x to q b zs z m);
        alone = λ e. clash true refl e;
      }

  -- `/` or `//`, and a step
  begun_step : (ys : List ℕ) (y : Standing) → Ready s ys y → is_space (byte_at s y.at) ≡ false
      → Leads s list left xs x ys y → Begun s list left xs x ys (start_of y true true)
  begun_step ys y i e l =
      record {
        ready = λ _. i;
        space = λ _. e;
        first = λ _ zs z vs v m f. path_joined s list left xs x ys y zs z vs v l m (f.joins refl);
        refused = λ _ zs z m f. path_refused s list left xs x ys y zs z l m f;
        alone = λ f. clash true refl f;
      }

  -- `/` alone, or refused
  begun_alone : (ys : List ℕ) (y : Standing) → PathMet s list left xs x ys y
      → Begun s list left xs x ys (start_of y true false)
  begun_alone ys y m =
      record {
        ready = λ e. clash false e refl;
        space = λ e. clash false e refl;
        first = λ e. clash false e refl;
        refused = λ e. clash false e refl;
        alone = λ _. m;
      }

  -- by cases on the byte after `/` and whitespace
  begun_root : (to : ℕ) → Passed is_space s x.at to → byte_at s to ≡ 47 → (byte_at s (to + 1) ≡ 47 → ⊥)
      → (ys : List ℕ) (y : Standing) (end : ℕ) → PutMet (row 1 0 0 0) 1 xs (moved_to x to) ys y
      → Passed is_space s (to + 1) end → Begun s list left xs x ys (root_start s (moved_to y end))
  begun_root to q b d ys y end p v = go (begins_step (byte_at s end)) refl (eqb (byte_at s end) 47) refl
    where
      ok : y.ok ≡ true
      ok = p.text.ok ∙ r.ok

      from_it : (z : Starting) → z ≡ root_start s (moved_to y end) → Begun s list left xs x ys z
          → Begun s list left xs x ys (root_start s (moved_to y end))
      from_it z e m = subst (λ (u : Starting). Begun s list left xs x ys u) e m

      go : (k : Bool) → begins_step (byte_at s end) ≡ k → (n : Bool) → eqb (byte_at s end) 47 ≡ n
          → Begun s list left xs x ys (root_start s (moved_to y end))
      go true e n f =
          from_it (start_of (moved_to y end) true true) (root_step s (moved_to y end) e)
          (begun_step ys (moved_to y end) record { ok = ok; fits = v.fits; sized = p.sized } v.stops
          (leads_root s list left xs x to q b d ys y end p v e))
      go false e true f =
          let g = eqb-true (byte_at s end) 47 f in
          from_it (start_of (refused_at end) true false) (root_slash s (moved_to y end) e g)
          (begun_alone ys (refused_at end) (path_second s list left xs x to q b d ys y end p v e g))
      go false e false f =
          let g : byte_at s end ≡ 47 → ⊥ = λ h. clash true refl (rw h at f) in
          from_it (start_of (moved_to y end) true false) (root_alone s (moved_to y end) e g)
          (begun_alone ys (moved_to y end) (path_root s list left xs x to q b d ys y end p v e g ok))

  -- no `/`, one, or two
  pub begun : (ys : List ℕ) (y : Starting) → BeginPut s xs x ys y → Begun s list left xs x ys y
  begun ys y p = go (eqb (byte_at s p.to) 47) refl (eqb (byte_at s (p.to + 1)) 47) refl
    where
      from_it : (z : Starting) → y ≡ z → Begun s list left xs x ys z → Begun s list left xs x ys y
      from_it z e m = subst (λ (u : Starting). Begun s list left xs x ys u) (sym e) m

      go : (k : Bool) → eqb (byte_at s p.to) 47 ≡ k → (n : Bool) → eqb (byte_at s (p.to + 1)) 47 ≡ n
          → Begun s list left xs x ys y
      go false e n f =
          let b : byte_at s p.to ≡ 47 → ⊥ = λ h. clash true refl (rw h at e) in
          let c = p.bare b in
          from_it (start_of (moved_to x p.to) false true) c.1
          (subst (λ (us : List ℕ). Begun s list left xs x us (start_of (moved_to x p.to) false true)) (sym c.0)
          (begun_bare p.to p.passed b))
      go true e false f =
          let b = eqb-true (byte_at s p.to) 47 e in
          let d : byte_at s (p.to + 1) ≡ 47 → ⊥ = λ h. clash true refl (rw h at f) in
          let c = p.root b d in
          from_it (root_start s (moved_to c.0 c.1)) c.4
          (begun_root p.to p.passed b d ys c.0 c.1 c.2 c.3)
      go true e true f =
          let b = eqb-true (byte_at s p.to) 47 e in
          let d = eqb-true (byte_at s (p.to + 1)) 47 f in
          let c = p.any b d in
          let z = moved_to c.1 c.3 in
          let put = c.4 in
          let grown = c.5 in
          from_it (start_of z true true) c.7
          (begun_step ys z
          record { ok = grown.text.ok ∙ put.text.ok ∙ r.ok; fits = c.6.fits; sized = grown.sized }
          c.6.stops
          (leads_any s list left xs x p.to p.passed b d c.2 ys c.0 c.1 c.3 put grown c.6))

-- paths joined by `|`: the last one, and what stands before it
pub record Uniting (s list : Bytes) (left : ℕ) (xs : List ℕ) (x : Standing) (ys : List ℕ) (y : Standing) : Type 0 where
  pub alt : Alt
  pub last : Path
  pub spaces : Bytes
  pub size : x.at + length (spell_union (join_alt alt last) ++ spaces) ≡ y.at
  pub made : MadePath list (union_of (number_of list) (join_alt alt last))
      (union_names (join_alt alt last) x.at) xs x ys y
  pub runs : (c : Ctx) → room c ≡ left
      → run (drop x.at s) (need c first begin []) ≡ after_path c alt last spaces (drop y.at s)

pub record UnionGot (s list : Bytes) (left : ℕ) (xs : List ℕ) (x : Standing) (ys : List ℕ) (y : Standing) : Type 0 where
  pub reached : Reached s x.at ys y
  pub read : y.ok ≡ true → Uniting s list left xs x ys y
  pub failed : y.ok ≡ false → UnionFails s left x.at y.at

-- the first path
pub union_first : (s list : Bytes) (left : ℕ) (xs : List ℕ) (x : Standing) (ys : List ℕ) (y : Standing)
    → PathMet s list left xs x ys y → UnionGot s list left xs x ys y
unfolding join_alt union_of union_names spell_union
union_first s list left xs x ys y m =
    record {
      reached = m.reached;
      read = λ e. let r = m.read e in record {
        alt = first;
        last = r.tree;
        spaces = r.spaces;
        size = r.size;
        made = r.made;
        runs = λ c i. r.runs c first i;
      };
      failed = λ e c i n. m.failed e c first i n;
    }

-- one more path after a `|`
pub union_more : (s list : Bytes) (left : ℕ) (xs : List ℕ) (x : Standing) (ys : List ℕ) (y : Standing)
    (zs : List ℕ) (z : Standing) (vs : List ℕ) (v : Standing) → y.ok ≡ true → byte_at s y.at ≡ 124
    → PathMet s list left ys (moved_to y (y.at + 1)) zs z
    → PutMet (row 3 y.row z.row 0) (capped (suc (max y.nesting z.nesting))) zs z vs v
    → UnionGot s list left xs x ys y → UnionGot s list left xs x vs v
unfolding join_alt union_of union_names spell_union put_path nest_path after_path path_byte follow
union_more s list left xs x ys y zs z vs v ok b m p got =
    let a = got.read ok in
    let u = join_alt a.alt a.last in
    let next : (c : Ctx) → room c ≡ left → run (drop x.at s) (need c first begin [])
    ≡ run (drop (y.at + 1) s) (need c (more u a.spaces) begin []) =
    λ c i. a.runs c i ∙ rw (drop-cons s y.at 0 (byte_there s y.at 124 refl b), b, add-one) refl in
    record {
      reached = record {
        from = omega (arith, got.reached.from, m.reached.from, p.text.at);
        fits = rw p.text.at m.reached.fits;
        sized = p.sized;
      };
      read = λ e. let r = m.read (sym p.text.ok ∙ e) in
          let at : x.at + length (spell_union u ++ (a.spaces ++ (124 ∷ []))) ≡ y.at + 1 =
          simp length-append (omega (arith, simp length-append at a.size)) in
          record {
            alt = more u a.spaces;
            last = r.tree;
            spaces = r.spaces;
            size = simp length-append (omega (
              arith,
              simp length-append at a.size,
              simp length-append at r.size,
              p.text.at,
            ));
            made = rw (unlisted_append, at) (made_join 3 (put_path (union_of (number_of list) u))
                (put_path (path_of (number_of list) r.tree)) _ _ _ _ xs ys zs vs x y z v a.made
                (made_from y (y.at + 1) z r.made) p);
            runs = λ c i. next c i ∙ rw p.text.at (r.runs c (more u a.spaces) i);
          };
      failed = λ e c i n. next c i ∙ rw p.text.at (m.failed (sym p.text.ok ∙ e) c (more u a.spaces) i
          (λ k. clash (callable c (more u a.spaces) begin) k (more_not_callable c u a.spaces)));
    }

-- the path after a `|` was refused
pub union_refused : (s list : Bytes) (left : ℕ) (xs : List ℕ) (x : Standing) (ys : List ℕ) (y : Standing)
    (zs : List ℕ) (z : Standing) → y.ok ≡ true → byte_at s y.at ≡ 124
    → PathMet s list left ys (moved_to y (y.at + 1)) zs z → z.ok ≡ false
    → UnionGot s list left xs x ys y → UnionMet s list left xs x zs z
unfolding after_path path_byte follow
union_refused s list left xs x ys y zs z ok b m e got =
    let a = got.read ok in
    let u = join_alt a.alt a.last in
    let next : (c : Ctx) → room c ≡ left → run (drop x.at s) (need c first begin [])
    ≡ run (drop (y.at + 1) s) (need c (more u a.spaces) begin []) =
    λ c i. a.runs c i ∙ rw (drop-cons s y.at 0 (byte_there s y.at 124 refl b), b, add-one) refl in
    record {
      reached = record {
        from = omega (arith, got.reached.from, m.reached.from);
        fits = m.reached.fits;
        sized = m.reached.sized;
      };
      read = λ f. clash z.ok f e;
      failed = λ _ c i n. next c i ∙ m.failed e c (more u a.spaces) i
          (λ k. clash (callable c (more u a.spaces) begin) k (more_not_callable c u a.spaces));
    }

-- a union ends where no `|` follows
after_union_lem : (t : Bytes) (c : Ctx) (g : Alt) (p : Path) (w : Bytes) → eqb (get_or t 0 0) 124 ≡ false
    → after_path c g p w t ≡ after_union c (join_alt g p) w t
unfolding after_path after_union at_top union_at_top path_byte
after_union_lem [] top g p w e = refl
after_union_lem [] (inside o k) g p w e = refl
after_union_lem (b ∷ t) c g p w e = rw e refl

pub union_ends : (s list : Bytes) (left : ℕ) (xs : List ℕ) (x : Standing) (ys : List ℕ) (y : Standing)
    → (y.ok ≡ true → eqb (byte_at s y.at) 124 ≡ false) → UnionGot s list left xs x ys y
    → UnionMet s list left xs x ys y
union_ends s list left xs x ys y stop got =
    record {
      reached = got.reached;
      read = λ e. let a = got.read e in record {
        tree = join_alt a.alt a.last;
        spaces = a.spaces;
        size = a.size;
        made = a.made;
        runs = λ c i. a.runs c i ∙ after_union_lem (drop y.at s) c a.alt a.last a.spaces
            (rw (head_drop s y.at) (stop e));
      };
      failed = got.failed;
    }
