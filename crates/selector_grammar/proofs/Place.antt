-- The reader accepts just the texts of the grammar, with their trees, and stops at the first byte that can't continue.
use Prim.Native.Nat.{ℕ, suc, ◌+◌, ◌-◌, ◌<◌, ◌≤◌}
use mathlib.Core.Path.{◌≡◌, refl, sym, ap, ◌∙◌, subst}
use mathlib.Core.Bool.{true}
use mathlib.Core.List.{[], ◌∷◌, ◌++◌, append_assoc, append-nil}
use mathlib.Core.Option.{Option, none, some}
use native.Mathlib.Omega.{arith}
use Rattle.std.proofs.lemmas.Bool.{and_parts}
use Rattle.common.specs.Lists.{all_of}
use Rattle.selector_grammar.specs.Bytes.{Bytes, is_space, is_start, is_name, is_quote}
use Rattle.selector_grammar.specs.Grammar.{Axis, implied, axis, any, called, kind, target, LocationStep}
use Rattle.selector_grammar.specs.Grammar.{dot, dots, test, filter, Rel, one, slash, slashes, Path, relative, root}
use Rattle.selector_grammar.specs.Grammar.{rooted, anywhere, Union, single, union, Unary, paths, group, negation}
use Rattle.selector_grammar.specs.Grammar.{constant, Or, spell_axis, spell_test}
use Rattle.selector_grammar.specs.Grammar.{spell_step, spell_path, spell_union}
use Rattle.selector_grammar.specs.Grammar.{Spaces, FineStep, FinePath}
use Rattle.selector_grammar.specs.Grammar.{Spells, Viable, Outside}
use Rattle.selector_grammar.specs.private.Reader.{State, Next, need, root1, slash1, dot1, name, colon, testing}
use Rattle.selector_grammar.specs.private.Reader.{type_open}
use Rattle.selector_grammar.specs.private.Reader.{quote, quoted, unquoted, after, const_open, closed, keyword, k_a}
use Rattle.selector_grammar.specs.private.Reader.{k_an, k_and, k_o, k_or, Ctx, top, inside, Open, bracket, negate}
use Rattle.selector_grammar.specs.private.Reader.{grouped}
use Rattle.selector_grammar.specs.private.Reader.{Prefix, bare, at_root, at_any, Lead, start, after1, after2, Alt}
use Rattle.selector_grammar.specs.private.Reader.{first}
use Rattle.selector_grammar.specs.private.Reader.{more, either, Pend, plain, both, prefix_of, join}
use Rattle.selector_grammar.specs.private.Reader.{with_prefix, path_to, join_alt, left_of, and_to, or_to, room}
use Rattle.selector_grammar.specs.private.Reader.{begin, step, walk, follow, need_byte, shut, unary_byte, union_byte}
use Rattle.selector_grammar.specs.private.Reader.{path_byte, after_byte}
use Rattle.selector_grammar.specs.private.Reader.{keyword_byte, finish, at_top, lead_end, Text, run, outcome, Outcome}
use Rattle.selector_grammar.specs.private.Reader.{good}
use Rattle.selector_grammar.specs.private.Reader.{bad, initial}
use lib.ListN.{length, take, drop, take-append-drop, length-append}
use lib.Seq.{take_at, take-take}
use Rattle.selector_grammar.proofs.Basics.{space_name, space_start, walk_byte, walk_join}
use Rattle.selector_grammar.proofs.Forward.{end_step, end_rel, end_path, end_union}
use Rattle.selector_grammar.proofs.Forward.{read_union, after_spaces, root_spaces, space_dot}
use Rattle.selector_grammar.proofs.Forward.{space_slash, quote_name, quote_self}
use Rattle.selector_grammar.proofs.Back.{told, before, told_ctx, told_alt, told_lead, told_prefix, FineState}
use Rattle.selector_grammar.proofs.Back.{FineAlt, FineLead, step_read, path_told, alt_told}
use Rattle.selector_grammar.proofs.Back.{path_fine, alt_fine}

-- a state from which some bytes lead to the end of a text
pub record Completed (st : State) : Type 0 where
  pub rest : Bytes
  pub last : State
  pub text : Text
  pub walks : walk rest st ≡ some last
  pub ends : finish last ≡ some text

then : (st x : State) (b : ℕ) → step st b ≡ some x → Completed x → Completed st
then st x b e c = record {
  rest = b ∷ c.rest;
  last = c.last;
  text = c.text;
  walks = walk_byte st x _ b c.rest e c.walks;
  ends = c.ends;
}

mutual
  unfolding finish at_top walk step after_byte path_byte union_byte unary_byte shut is_space is_start is_name

  fin_after : (c : Ctx) (g : Alt) (l : Lead) (s : LocationStep) (w : Bytes) → Completed (after c g l s w)
  fin_after top g l s w = record { rest = []; last = after top g l s w; text = _; walks = refl; ends = refl }
  fin_after (inside x p) g l s w =
      fin_open x (after (inside x p) g l s w) (or_to p (paths (join_alt g (path_to l s)))) w refl refl

  fin_open : (x : Open) (st : State) (e : Or) (w : Bytes) → step st 93 ≡ shut x e w 93 → step st 41 ≡ shut x e w 41
      → Completed st
  fin_open (bracket c g l s v) st e w h i =
      then st (after c g l (filter s v e w) []) 93 h (fin_after c g l (filter s v e w) [])
  fin_open (negate x p v u) st e w h i =
      then st (closed x p (negation v u e w) []) 41 i
      (fin_open x (closed x p (negation v u e w) []) (or_to p (negation v u e w)) [] refl refl)
  fin_open (grouped x p v) st e w h i =
      then st (closed x p (group v e w) []) 41 i
      (fin_open x (closed x p (group v e w) []) (or_to p (group v e w)) [] refl refl)

fin_name : (c : Ctx) (g : Alt) (l : Lead) (a : Axis) (w n : Bytes) → Completed (name c g l a w n)
unfolding finish at_top walk step after_byte path_byte union_byte unary_byte shut is_space is_start is_name
fin_name top g l a w n = record { rest = []; last = name top g l a w n; text = _; walks = refl; ends = refl }
fin_name (inside x p) g l a w n =
    fin_open x (name (inside x p) g l a w n)
    (or_to p (paths (join_alt g (path_to l (test a (called w n)))))) [] refl refl

fin_need : (c : Ctx) (g : Alt) (l : Lead) (w : Bytes) → Completed (need c g l w)
unfolding step need_byte is_start
fin_need c g l w = then (need c g l w) (name c g l implied w (120 ∷ [])) 120 refl
    (fin_name c g l implied w (120 ∷ []))

fin_and : (x : Open) (p : Pend) (u : Unary) (w : Bytes) → Completed (keyword x p u w k_and)
unfolding step keyword_byte need_byte is_name is_start is_space
fin_and x p u w = then (keyword x p u w k_and)
    (need (inside x (both (left_of p) (and_to p u) w)) first begin (32 ∷ [])) 32 refl (fin_need _ _ _ _)

fin_or : (x : Open) (p : Pend) (u : Unary) (w : Bytes) → Completed (keyword x p u w k_or)
unfolding step keyword_byte need_byte is_name is_start is_space
fin_or x p u w = then (keyword x p u w k_or)
    (need (inside x (plain (either (or_to p u) w))) first begin (32 ∷ [])) 32 refl (fin_need _ _ _ _)

fin_test : (c : Ctx) (g : Alt) (l : Lead) (a : Axis) (w : Bytes) → Completed (testing c g l a w)
unfolding step is_start
fin_test c g l a w = then (testing c g l a w) (name c g l a w (120 ∷ [])) 120 refl (fin_name c g l a w (120 ∷ []))

fin_dot : (c : Ctx) (g : Alt) (l : Lead) (w : Bytes) → Completed (dot1 c g l w)
unfolding finish at_top walk step after_byte path_byte union_byte unary_byte shut is_space is_start is_name
fin_dot top g l w = record { rest = []; last = dot1 top g l w; text = _; walks = refl; ends = refl }
fin_dot (inside x p) g l w =
    fin_open x (dot1 (inside x p) g l w) (or_to p (paths (join_alt g (path_to l (dot w))))) [] refl refl

fin_unquoted : (c : Ctx) (g : Alt) (l : Lead) (a : Axis) (w v u : Bytes) (q : ℕ) (m y : Bytes)
    → Completed (unquoted c g l a w v u q m y)
unfolding step is_space
fin_unquoted c g l a w v u q m y =
    then (unquoted c g l a w v u q m y) (after c g l (test a (target w v u q m y)) []) 41 refl (fin_after _ _ _ _ _)

fin_quoted : (c : Ctx) (g : Alt) (l : Lead) (a : Axis) (w v u : Bytes) (q : ℕ) (m : Bytes) → is_quote q ≡ true
    → Completed (quoted c g l a w v u q m)
unfolding step
fin_quoted c g l a w v u q m h =
    then (quoted c g l a w v u q m) (unquoted c g l a w v u q m []) q (rw (quote_name q h, quote_self q h) refl)
    (fin_unquoted _ _ _ _ _ _ _ _ _ _)

fin_quote : (c : Ctx) (g : Alt) (l : Lead) (a : Axis) (w v u : Bytes) (q : ℕ) → is_quote q ≡ true
    → Completed (quote c g l a w v u q)
unfolding step is_start
fin_quote c g l a w v u q h =
    then (quote c g l a w v u q) (quoted c g l a w v u q (120 ∷ [])) 120 refl (fin_quoted _ _ _ _ _ _ _ _ _ h)

-- from every state some bytes lead to the end of a text
pub complete : (st : State) → FineState st → Completed st
unfolding step keyword_byte need_byte is_name is_start is_space unary_byte
complete (need c g l w) f = fin_need c g l w
complete (root1 c g w) f =
    then (root1 c g w) (name c g (start (at_root w)) implied [] (120 ∷ [])) 120 refl (fin_name _ _ _ _ _ _)
complete (slash1 c g x r w) f =
    then (slash1 c g x r w) (name c g (after1 x r w) implied [] (120 ∷ [])) 120 refl (fin_name _ _ _ _ _ _)
complete (dot1 c g l w) f = fin_dot c g l w
complete (name c g l a w n) f = fin_name c g l a w n
complete (colon c g l w n v) f = then (colon c g l w n v) (testing c g l (axis w n v) []) 58 refl (fin_test _ _ _ _ _)
complete (testing c g l a w) f = fin_test c g l a w
complete (type_open c g l a w n v u) f =
    then (type_open c g l a w n v u) (after c g l (test a (kind w n v u)) []) 41 refl (fin_after _ _ _ _ _)
complete (quote c g l a w v u q) f = fin_quote c g l a w v u q f.6
complete (quoted c g l a w v u q m) f = fin_quoted c g l a w v u q m f.6
complete (unquoted c g l a w v u q m y) f = fin_unquoted c g l a w v u q m y
complete (after c g l s w) f = fin_after c g l s w
complete (const_open x p k w v u) f =
    then (const_open x p k w v u) (closed x p (constant k w v u) []) 41 refl
    (fin_open x (closed x p (constant k w v u) []) (or_to p (constant k w v u)) [] refl refl)
complete (closed x p u w) f = fin_open x (closed x p u w) (or_to p u) w refl refl
complete (keyword x p u w k_and) f = fin_and x p u w
complete (keyword x p u w k_an) f = then (keyword x p u w k_an) (keyword x p u w k_and) 100 refl (fin_and x p u w)
complete (keyword x p u w k_a) f =
    then (keyword x p u w k_a) (keyword x p u w k_an) 110 refl
    (then (keyword x p u w k_an) (keyword x p u w k_and) 100 refl (fin_and x p u w))
complete (keyword x p u w k_or) f = fin_or x p u w
complete (keyword x p u w k_o) f = then (keyword x p u w k_o) (keyword x p u w k_or) 114 refl (fin_or x p u w)

no_text : (y : Text) → ◌≡◌ {A = Option Text} none (some y) → ⊥
no_text y e = let q : ◌≡◌ {A = ℕ} 0 1 = cc in omega arith

-- one byte, and many
pub fine_step : (st x : State) (b : ℕ) → step st b ≡ some x → FineState st → (told x ≡ told st ++ (b ∷ []))
    × FineState x
fine_step st x b e f = rw e at (step_read st b f)

pub fine_walk : (t : Bytes) (st x : State) → walk t st ≡ some x → FineState st → (told x ≡ told st ++ t) × FineState x
unfolding walk follow
fine_walk [] st x e f = let h : st ≡ x = cc in (rw (append-nil, h), rw h at f)
fine_walk (b ∷ t) st x e f = go (step st b) refl (λ v h g. fine_walk t v x h g)
  where
    go : (n : Next) → step st b ≡ n
        → ((v : State) → walk t v ≡ some x → FineState v → (told x ≡ told v ++ t) × FineState x)
        → (told x ≡ told st ++ (b ∷ t)) × FineState x
    go none h k = let z : ◌≡◌ {A = Next} none (some x) = rw h at e in let q : ◌≡◌ {A = ℕ} 0 1 =
        cc in absurd (omega arith)
    go (some v) h k =
        let g = fine_step st v b h f in
        let r = k v (rw h at e) g.1 in
        (r.0 ∙ (rw (g.0, append_assoc) refl), r.1)

-- the end of a text
pub record Ended (t : Bytes) (st : State) (y : Text) : Type 0 where
  pub last : State
  pub walks : walk t st ≡ some last
  pub ends : finish last ≡ some y

abbrev pub text_of : Union → Bytes → Text
text_of u w = record { tree = u; rest = w }

top_spells : (g : Alt) (p : Path) (w t : Bytes) → FineAlt g 32 → FinePath p 32 → Spaces w → t
    ≡ told_alt g ++ (spell_path p ++ w) → Spells t (join_alt g p)
top_spells g p w t hg hp hw e =
    record {
      after = w;
      spaces = hw;
      fine = alt_fine g p 32 hg hp;
      spelt = e
          ∙ (rw (alt_told g p, append_assoc) refl);
    }

step_list : (g l s w p : Bytes) → p ≡ l ++ s → (g ++ l) ++ (s ++ w) ≡ g ++ (p ++ w)
step_list g l s w p e = rw e (simp append_assoc)

top_step : (g : Alt) (l : Lead) (s : LocationStep) (w t : Bytes) → FineAlt g 32 → FineLead l 32 → FineStep s 32
    → Spaces w → t ≡ (told_alt g ++ told_lead l) ++ (spell_step s ++ w) → Spells t (join_alt g (path_to l s))
top_step g l s w t hg hl hs hw e =
    top_spells g (path_to l s) w t hg (path_fine l s 32 hl hs) hw
    (e ∙ step_list (told_alt g) (told_lead l) (spell_step s) w (spell_path (path_to l s)) (path_told l s))

pub finish_spells : (st : State) (y : Text) → finish st ≡ some y → FineState st → Spells (told st) y.tree
unfolding finish at_top lead_end told before told_ctx room spell_step spell_test all_of spell_path told_lead told_prefix
finish_spells (after top g l s w) y e f =
    let z : text_of (join_alt g (path_to l s)) w ≡ y = cc in
    rw (← z) (top_step g l s w _ f.0.1 f.0.2 f.2 f.3 refl)
finish_spells (name top g l a w n) y e f =
    let z : text_of (join_alt g (path_to l (test a (called w n)))) [] ≡ y = cc in
    rw (← z) (top_step g l (test a (called w n)) [] _ f.0.1 f.0.2 (f.2, (f.3, f.4)) refl
    (ap (λ (t : Bytes). (told_alt g ++ told_lead l) ++ t) (sym (append-nil (spell_axis a ++ (w ++ n))))))
finish_spells (dot1 top g l w) y e f =
    let z : text_of (join_alt g (path_to l (dot w))) [] ≡ y = cc in
    rw (← z) (top_step g l (dot w) [] _ f.0.1 f.0.2 f.2 refl
    (ap (λ (t : Bytes). (told_alt g ++ told_lead l) ++ t) (sym (append-nil (w ++ (46 ∷ []))))))
finish_spells (root1 top g w) y e f =
    let z : text_of (join_alt g (root w)) [] ≡ y = cc in
    rw (← z) (top_spells g (root w) [] _ f.0.1 f.2 refl
    (rw (append-nil (w ++ (47 ∷ [])), append-nil (told_alt g)) refl))
finish_spells (need top g (start (at_root v)) w) y e f =
    let z : text_of (join_alt g (root v)) w ≡ y = cc in
    rw (← z) (top_spells g (root v) w _ f.0.1 f.0.2 f.2 (append_assoc (told_alt g) (v ++ (47 ∷ [])) w))
finish_spells (need (inside x p) g (start (at_root v)) w) y e f = absurd (no_text y e)
finish_spells (need c g (start bare) w) y e f = absurd (no_text y e)
finish_spells (need c g (start (at_any v)) w) y e f = absurd (no_text y e)
finish_spells (need c g (after1 x r v) w) y e f = absurd (no_text y e)
finish_spells (need c g (after2 x r v) w) y e f = absurd (no_text y e)
finish_spells (root1 (inside x p) g w) y e f = absurd (no_text y e)
finish_spells (dot1 (inside x p) g l w) y e f = absurd (no_text y e)
finish_spells (name (inside x p) g l a w n) y e f = absurd (no_text y e)
finish_spells (after (inside x p) g l s w) y e f = absurd (no_text y e)
finish_spells (slash1 c g x r w) y e f = absurd (no_text y e)
finish_spells (colon c g l w n v) y e f = absurd (no_text y e)
finish_spells (testing c g l a w) y e f = absurd (no_text y e)
finish_spells (type_open c g l a w n v u) y e f = absurd (no_text y e)
finish_spells (quote c g l a w v u q) y e f = absurd (no_text y e)
finish_spells (quoted c g l a w v u q m) y e f = absurd (no_text y e)
finish_spells (unquoted c g l a w v u q m z) y e f = absurd (no_text y e)
finish_spells (const_open x p k w v u) y e f = absurd (no_text y e)
finish_spells (closed x p u w) y e f = absurd (no_text y e)
finish_spells (keyword x p u w k) y e f = absurd (no_text y e)

-- a text of the grammar is accepted with its tree
end_step_lem : (g : Alt) (l : Lead) (s : LocationStep) (w : Bytes) → Spaces w
    → Ended w (end_step top g l s) (text_of (join_alt g (path_to l s)) w)
unfolding end_step walk finish at_top all_of step after_byte
end_step_lem g l (dots v) w h =
    record {
      last = after top g l (dots v) w;
      walks = rw append-nil at (after_spaces top g l (dots v) [] w [] h);
      ends = refl;
    }
end_step_lem g l (test a (any v)) w h =
    record {
      last = after top g l (test a (any v)) w;
      walks = rw append-nil at (after_spaces top g l (test a (any v)) [] w [] h);
      ends = refl;
    }
end_step_lem g l (test a (kind v n u z)) w h =
    record {
      last = after top g l (test a (kind v n u z)) w;
      walks = rw append-nil at (after_spaces top g l (test a (kind v n u z)) [] w [] h);
      ends = refl;
    }
end_step_lem g l (test a (target v n u q m z)) w h =
    record {
      last = after top g l (test a (target v n u q m z)) w;
      walks = rw append-nil at (after_spaces top g l (test a (target v n u q m z)) [] w [] h);
      ends = refl;
    }
end_step_lem g l (filter s v e u) w h =
    record {
      last = after top g l (filter s v e u) w;
      walks = rw append-nil at (after_spaces top g l (filter s v e u) [] w [] h);
      ends = refl;
    }
end_step_lem g l (dot v) [] h = record { last = dot1 top g l v; walks = refl; ends = refl }
end_step_lem g l (dot v) (c ∷ w) h =
    let u = and_parts (is_space c) (all_of is_space w) h in
    record {
      last = after top g l (dot v) (c ∷ w);
      walks = walk_byte (dot1 top g l v) (after top g l (dot v) (c ∷ [])) _ c w (rw (space_dot c u.0, u.0))
          (rw append-nil at (after_spaces top g l (dot v) (c ∷ []) w [] u.1));
      ends = refl;
    }
end_step_lem g l (test a (called v n)) [] h = record { last = name top g l a v n; walks = refl; ends = refl }
end_step_lem g l (test a (called v n)) (c ∷ w) h =
    let u = and_parts (is_space c) (all_of is_space w) h in
    record {
      last = after top g l (test a (called v n)) (c ∷ w);
      walks = walk_byte (name top g l a v n) (after top g l (test a (called v n)) (c ∷ [])) _ c w
          (rw (space_name c u.0, u.0))
          (rw append-nil at (after_spaces top g l (test a (called v n)) (c ∷ []) w [] u.1));
      ends = refl;
    }

end_root : (g : Alt) (v w : Bytes) → Spaces w → Ended w (root1 top g v) (text_of (join_alt g (root v)) w)
unfolding walk finish at_top lead_end all_of step need_byte
end_root g v [] h = record { last = root1 top g v; walks = refl; ends = refl }
end_root g v (c ∷ w) h =
    let u = and_parts (is_space c) (all_of is_space w) h in
    record {
      last = need top g (start (at_root v)) (c ∷ w);
      walks = walk_byte (root1 top g v) (need top g (start (at_root v)) (c ∷ [])) _ c w
          (rw (space_slash c u.0, space_start c u.0, u.0))
          (rw append-nil at (root_spaces top g v (c ∷ []) w [] u.1));
      ends = refl;
    }

end_rel_lem : (g : Alt) (x : Prefix) (r : Rel) (w : Bytes) → Spaces w
    → Ended w (end_rel top g x r) (text_of (join_alt g (with_prefix x r)) w)
unfolding end_rel join prefix_of
end_rel_lem g x (one s) w h = end_step_lem g (start x) s w h
end_rel_lem g x (slash r v s) w h = end_step_lem g (after1 x r v) s w h
end_rel_lem g x (slashes r v s) w h = end_step_lem g (after2 x r v) s w h

end_path_lem : (g : Alt) (p : Path) (w : Bytes) → Spaces w → Ended w (end_path top g p) (text_of (join_alt g p) w)
unfolding end_path with_prefix
end_path_lem g (relative r) w h = end_rel_lem g bare r w h
end_path_lem g (root v) w h = end_root g v w h
end_path_lem g (rooted v r) w h = end_rel_lem g (at_root v) r w h
end_path_lem g (anywhere v r) w h = end_rel_lem g (at_any v) r w h

end_union_lem : (u : Union) (w : Bytes) → Spaces w → Ended w (end_union top u) (text_of u w)
unfolding end_union join_alt
end_union_lem (single p) w h = end_path_lem first p w h
end_union_lem (union u v p) w h = end_path_lem (more u v) p w h

pub accepted : (t : Bytes) (u : Union) (h : Spells t u) → Ended t initial (text_of u h.after)
unfolding room
accepted t u h =
    let g = end_union_lem u h.after h.spaces in
    record {
      last = g.last;
      walks = rw h.spelt
          (walk_join (spell_union u) h.after initial (end_union top u) _ (read_union u top h.fine) g.walks);
      ends = g.ends;
    }

-- run and walk
run_walk : (t : Bytes) (st x : State) → walk t st ≡ some x → run t st ≡ outcome (finish x)
unfolding walk run follow
run_walk [] st x e = let h : st ≡ x = cc in rw h
run_walk (b ∷ t) st x e = go (step st b) refl (λ v h. run_walk t v x h)
  where
    go : (n : Next) → step st b ≡ n → ((v : State) → walk t v ≡ some x → run t v ≡ outcome (finish x))
        → run (b ∷ t) st ≡ outcome (finish x)
    go none h k = let z : ◌≡◌ {A = Next} none (some x) = rw h at e in let q : ◌≡◌ {A = ℕ} 0 1 =
        cc in absurd (omega arith)
    go (some v) h k = rw h (k v (rw h at e))

pub complete_run : (t : Bytes) (r : Union) (h : Spells t r) → run t initial ≡ good (text_of r h.after)
unfolding outcome
complete_run t r h = let g = accepted t r h in run_walk t initial g.last g.walks ∙ rw g.ends

abbrev Stuck : State → Bytes → Type 0
Stuck st [] = finish st ≡ none
Stuck st (b ∷ t) = step st b ≡ none

pub record Stopped (t : Bytes) (st : State) (n : ℕ) : Type 0 where
  pub read : Bytes
  pub left : Bytes
  pub at : State
  pub split : t ≡ read ++ left
  pub walks : walk read st ≡ some at
  pub size : length left ≡ n
  pub stuck : Stuck at left

abbrev Ran : Bytes → State → Outcome → Type 0
Ran t st (good y) = Ended t st y
Ran t st (bad n) = Stopped t st n

more_ran : (b : ℕ) (t : Bytes) (st v : State) → step st b ≡ some v → (y : Outcome) → Ran t v y → Ran (b ∷ t) st y
more_ran b t st v e (good y) r = record { last = r.last; walks = walk_byte st v _ b t e r.walks; ends = r.ends }
more_ran b t st v e (bad n) r =
    record {
      read = b ∷ r.read;
      left = r.left;
      at = r.at;
      split = ap (λ s. b ∷ s) r.split;
      walks = walk_byte st v _ b r.read e r.walks;
      size = r.size;
      stuck = r.stuck;
    }

pub ran : (t : Bytes) (st : State) → Ran t st (run t st)
unfolding run walk follow outcome
ran [] st = go (finish st) refl
  where
    go : (y : Option Text) → finish st ≡ y → Ran [] st (outcome y)
    go none e = record { read = []; left = []; at = st; split = refl; walks = refl; size = refl; stuck = e }
    go (some y) e = record { last = st; walks = refl; ends = e }
ran (b ∷ t) st = go (step st b) refl (λ v. ran t v)
  where
    go : (n : Next) → step st b ≡ n → ((v : State) → Ran t v (run t v))
        → Ran (b ∷ t) st (follow n (bad (suc (length t))) (λ x. run t x))
    go none e k = record { read = []; left = b ∷ t; at = st; split = refl; walks = refl; size = refl; stuck = e }
    go (some v) e k = more_ran b t st v e (run t v) (k v)

initial_fine : FineState initial
unfolding all_of
initial_fine = ((tt, tt, tt), tt, refl)

pub told_walk : (t : Bytes) (x : State) → walk t initial ≡ some x → (told x ≡ t) × FineState x
unfolding told before told_ctx told_alt told_lead told_prefix
told_walk t x e = fine_walk t initial x e initial_fine

-- an accepted text is one of the grammar, with that tree
pub ended_spells : (t : Bytes) (y : Text) → Ended t initial y → Spells t y.tree
ended_spells t y h =
    let g = told_walk t h.last h.walks in
    subst (λ (u : Bytes). Spells u y.tree) g.0 (finish_spells h.last y h.ends g.1)

pub sound_run : (t : Bytes) (y : Text) → run t initial ≡ good y → Spells t y.tree
sound_run t y e = ended_spells t y (rw e at (ran t initial))

not_good : (t : Bytes) (y : Text) (n : ℕ) → run t initial ≡ good y → run t initial ≡ bad n → ⊥
not_good t y n e f = let q : ◌≡◌ {A = ℕ} 0 1 = cc in omega arith

stuck_walk : (s : Bytes) (b : ℕ) (v t : Bytes) (x : State) (y : State) → t ≡ s ++ (b ∷ v) → walk s initial ≡ some x
    → step x b ≡ none → walk t initial ≡ some y → ⊥
unfolding walk follow
stuck_walk s b v t x y i e f g =
    let h : walk (s ++ (b ∷ v)) initial ≡ some y = rw i at g in
    let z : walk (s ++ (b ∷ v)) initial ≡ none = walk_join s (b ∷ v) initial x none e (rw f refl) in
    let q : ◌≡◌ {A = ℕ} 0 1 = cc in omega arith

len : (t s u : Bytes) → t ≡ s ++ u → length t ≡ length s + length u
len t s u h = ap length h ∙ length-append s u

viable_at : (s : Bytes) (x : State) → walk s initial ≡ some x → Viable s
viable_at s x w =
    let c = complete x (told_walk s x w).1 in
    record {
      rest = c.rest;
      tree = c.text.tree;
      spells = ended_spells (s ++ c.rest) c.text
          (record { last = c.last; walks = walk_join s c.rest initial x _ w c.walks; ends = c.ends });
    }

no_more : (t s u : Bytes) (b : ℕ) (x : State) → t ≡ s ++ (b ∷ u) → walk s initial ≡ some x → step x b ≡ none
    → Viable (take (suc (length s)) t) → ⊥
no_more t s u b x h w k v =
    let q : t ≡ (s ++ (b ∷ [])) ++ u = h ∙ rw append_assoc refl in
    let z : take (suc (length s)) t ≡ s ++ (b ∷ []) =
    rw q (take_at (s ++ (b ∷ [])) u (suc (length s)) (length-append s (b ∷ []) ∙ omega arith)) in
    let g : Spells ((s ++ (b ∷ [])) ++ v.rest) v.tree = rw z at v.spells in
    let y = accepted ((s ++ (b ∷ [])) ++ v.rest) v.tree g in
    stuck_walk s b v.rest ((s ++ (b ∷ [])) ++ v.rest) x y.last (rw append_assoc refl) w k y.walks

-- a refused text is outside the grammar, and the place is that of the first byte that can't continue
place_of_lem : (t : Bytes) (n : ℕ) → run t initial ≡ bad n → (s u : Bytes) (x : State) → t ≡ s ++ u → walk s initial
    ≡ some x → length u ≡ n → Stuck x u → Outside t (length s)
place_of_lem t n e s [] x h w z k =
    record {
      within = omega (arith, len t s [] h);
      viable = rw (h, take_at s [] (length s) refl) (viable_at s x w);
      ends = λ i v. absurd (omega (arith, i, len t s [] h));
      outside = λ r g. not_good t _ n (complete_run t r g) e;
    }
place_of_lem t n e s (b ∷ u) x h w z k =
    record {
      within = omega (arith, len t s (b ∷ u) h);
      viable = rw (h, take_at s (b ∷ u) (length s) refl) (viable_at s x w);
      ends = λ i v. no_more t s u b x h w k v;
      outside = λ r g. not_good t _ n (complete_run t r g) e;
    }

pub bad_outside : (t : Bytes) (n : ℕ) → run t initial ≡ bad n → Outside t (length t - n)
bad_outside t n e =
    let r : Stopped t initial n = rw e at (ran t initial) in
    let z : length t ≡ length r.read + length r.left = ap length r.split
    ∙ length-append r.read r.left in
    let q : length r.read ≡ length t - n = omega (arith, z, r.size) in
    rw (← q) (place_of_lem t n e r.read r.left r.at r.split r.walks r.size r.stuck)

-- a text has one tree, and a text outside has one place
pub one_tree : (t : Bytes) (r q : Union) → Spells t r → Spells t q → r ≡ q
one_tree t r q h k =
    let e = complete_run t r h in
    let f = complete_run t q k in
    let z : text_of r h.after ≡ text_of q k.after = cc in
    ap (λ (y : Text). y.tree) z

prefix_viable : (s u : Bytes) → Viable (s ++ u) → Viable s
prefix_viable s u v =
    record {
      rest = u ++ v.rest;
      tree = v.tree;
      spells = subst (λ (t : Bytes). Spells t v.tree) (append_assoc s u v.rest) v.spells;
    }

shorter : (t : Bytes) (i j : ℕ) → i ≤ j → Viable (take j t) → Viable (take i t)
shorter t i j h v =
    subst (λ (u : Bytes). Viable u) (take-take i j t h)
    (prefix_viable (take i (take j t)) (drop i (take j t))
    (subst (λ (u : Bytes). Viable u) (sym (take-append-drop i (take j t))) v))

not_before : (t : Bytes) (i j : ℕ) → Outside t i → Outside t j → ¬ (i < j)
not_before t i j h k l = h.ends (omega (arith, l, k.within)) (shorter t (suc i) j l k.viable)

pub one_place : (t : Bytes) (i j : ℕ) → Outside t i → Outside t j → i ≡ j
one_place t i j h k = omega (arith, not_before t i j h k, not_before t j i k h)
