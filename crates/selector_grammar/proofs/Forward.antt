-- A text of the grammar is read to its end.
use Prim.Native.Nat.{ℕ, ◌<◌}
use mathlib.Core.Path.{◌≡◌, refl, sym, ◌∙◌}
use mathlib.Core.Bool.{Bool, true, false, not, ◌&&◌, ◌||◌}
use mathlib.Core.List.{List, [], ◌∷◌, ◌++◌, append_assoc, append-nil}
use mathlib.Core.Option.{Option, none, some}
use mathlib.Core.Logic.{◌⊎◌, inl, inr, ⊎_elim}
use Rattle.std.proofs.lemmas.Bool.{and_from, and_parts, eqb-true, false_from_ne_true, false≢true, lt-ltb, not-true}
use Rattle.std.proofs.lemmas.Bool.{or_cases, or_right}
use lib.Dec.{eqb, ltb}
use Rattle.lines.specs.Ascii.{ascii}
use Rattle.lines.specs.Line.{same_bytes}
use Rattle.common.specs.Lists.{all_of}
use Rattle.selector_grammar.specs.Bytes.{Bytes, is_space, is_start, is_name, is_quote, is_word, nonempty}
use Rattle.selector_grammar.specs.Bytes.{apart, not_word, true_word, false_word}
use Rattle.selector_grammar.specs.Words.{find, next, axes, types, is_some, is_axis, is_type, instruction_word}
use Rattle.selector_grammar.specs.Grammar.{Axis, implied, attribute, axis, Test, any, called, kind, target}
use Rattle.selector_grammar.specs.Grammar.{LocationStep}
use Rattle.selector_grammar.specs.Grammar.{dot, dots, test, filter, Rel, one, slash, slashes, Path, relative, root}
use Rattle.selector_grammar.specs.Grammar.{rooted, anywhere, Union, single, union, Unary, paths, group, negation}
use Rattle.selector_grammar.specs.Grammar.{constant, And, operand, conj, Or, alone, disj, spell_axis, spell_test}
use Rattle.selector_grammar.specs.Grammar.{spell_step, spell_rel, spell_path, spell_union, spell_unary, spell_and}
use Rattle.selector_grammar.specs.Grammar.{spell_or, spell_bool, Last, last_test, last_step}
use Rattle.selector_grammar.specs.Grammar.{last_rel, last_path, last_union, last_unary, last_and, last_or, may_follow}
use Rattle.selector_grammar.specs.Grammar.{takes_predicate, Spaces, FineAxis, FineTest, FineStep, FineRel, FinePath}
use Rattle.selector_grammar.specs.Grammar.{FineUnion, FineUnary, FineAnd, FineOr}
use Rattle.selector_grammar.specs.private.Reader.{State, Next, need, root1, slash1, dot1, name, testing, type_open}
use Rattle.selector_grammar.specs.private.Reader.{quote, quoted, unquoted, after, const_open, closed, keyword}
use Rattle.selector_grammar.specs.private.Reader.{k_and, k_or, Ctx, inside, Open, bracket, negate, grouped}
use Rattle.selector_grammar.specs.private.Reader.{Prefix, bare, at_root, at_any, Lead, start, after1, after2, Alt}
use Rattle.selector_grammar.specs.private.Reader.{first}
use Rattle.selector_grammar.specs.private.Reader.{more, Left, nothing, either, Pend, plain, both, prefix_of, join}
use Rattle.selector_grammar.specs.private.Reader.{with_prefix, join_alt, wrap, left_of, and_to, or_to, room, room_of}
use Rattle.selector_grammar.specs.private.Reader.{begin, enter, step, walk, follow, need_byte, shut, unary_byte}
use Rattle.selector_grammar.specs.private.Reader.{union_byte}
use Rattle.selector_grammar.specs.private.Reader.{path_byte, group_byte, lead_byte, call_byte, paren_byte_next}
use Rattle.selector_grammar.specs.private.Reader.{colon_byte_next}
use Rattle.selector_grammar.specs.private.Reader.{after_byte}
use Rattle.selector_grammar.specs.private.Reader.{keyword_byte}
use Rattle.lines.proofs.SameBytes.{same_bytes_lem}
use Rattle.selector_grammar.proofs.Basics.{space_cases}
use Rattle.selector_grammar.proofs.Basics.{space_name, space_start, start_name, walk_byte, walk_next, walk_join}
use Rattle.selector_grammar.proofs.Basics.{collect}

-- where the reader stands after a tree's last byte
unfoldable pub end_step : Ctx → Alt → Lead → LocationStep → State
end_step c g l (dot w) = dot1 c g l w
end_step c g l (dots w) = after c g l (dots w) []
end_step c g l (test a (any w)) = after c g l (test a (any w)) []
end_step c g l (test a (called w n)) = name c g l a w n
end_step c g l (test a (kind w n v u)) = after c g l (test a (kind w n v u)) []
end_step c g l (test a (target w v u q m y)) = after c g l (test a (target w v u q m y)) []
end_step c g l (filter s w e v) = after c g l (filter s w e v) []

unfoldable pub end_rel : Ctx → Alt → Prefix → Rel → State
end_rel c g x (one s) = end_step c g (start x) s
end_rel c g x (slash r w s) = end_step c g (after1 x r w) s
end_rel c g x (slashes r w s) = end_step c g (after2 x r w) s

unfoldable pub end_path : Ctx → Alt → Path → State
end_path c g (relative r) = end_rel c g bare r
end_path c g (root w) = root1 c g w
end_path c g (rooted w r) = end_rel c g (at_root w) r
end_path c g (anywhere w r) = end_rel c g (at_any w) r

unfoldable pub end_union : Ctx → Union → State
end_union c (single p) = end_path c first p
end_union c (union u w p) = end_path c (more u w) p

unfoldable pub end_unary : Open → Pend → Unary → State
end_unary x p (paths u) = end_union (inside x p) u
end_unary x p (group w e v) = closed x p (group w e v) []
end_unary x p (negation w v e u) = closed x p (negation w v e u) []
end_unary x p (constant b w v u) = closed x p (constant b w v u) []

unfoldable pub end_and : Open → Left → And → State
end_and x l (operand u) = end_unary x (plain l) u
end_and x l (conj c w u) = end_unary x (both l c w) u

unfoldable pub end_or : Open → Or → State
end_or x (alone c) = end_and x nothing c
end_or x (disj e w c) = end_and x (either e w) c

-- whitespace that a state collects
need_spaces : (c : Ctx) (g : Alt) (l : Lead) (v t : Bytes) → Spaces v → walk (v ++ t) (need c g l [])
    ≡ walk t (need c g l v)
unfolding step need_byte
need_spaces c g l v t h = collect is_space (need c g l) (λ w b e. rw (space_start b e, e)) v [] t h

pub after_spaces : (c : Ctx) (g : Alt) (l : Lead) (s : LocationStep) (w v t : Bytes) → Spaces v
    → walk (v ++ t) (after c g l s w) ≡ walk t (after c g l s (w ++ v))
unfolding step after_byte
after_spaces c g l s w v t h = collect is_space (after c g l s) (λ w b e. rw e) v w t h

closed_spaces : (x : Open) (p : Pend) (u : Unary) (v t : Bytes) → Spaces v → walk (v ++ t) (closed x p u [])
    ≡ walk t (closed x p u v)
unfolding step
closed_spaces x p u v t h = collect is_space (closed x p u) (λ w b e. rw e) v [] t h

testing_spaces : (c : Ctx) (g : Alt) (l : Lead) (a : Axis) (v t : Bytes) → Spaces v
    → walk (v ++ t) (testing c g l a []) ≡ walk t (testing c g l a v)
unfolding step
testing_spaces c g l a v t h = collect is_space (testing c g l a) (λ w b e. rw (space_start b e, e)) v [] t h

type_spaces : (c : Ctx) (g : Alt) (l : Lead) (a : Axis) (w n v u t : Bytes) → Spaces u
    → walk (u ++ t) (type_open c g l a w n v []) ≡ walk t (type_open c g l a w n v u)
unfolding step
type_spaces c g l a w n v u t h = collect is_space (type_open c g l a w n v) (λ y b e. rw e) u [] t h

const_spaces : (x : Open) (p : Pend) (k : Bool) (w v u t : Bytes) → Spaces u → walk (u ++ t) (const_open x p k w v [])
    ≡ walk t (const_open x p k w v u)
unfolding step
const_spaces x p k w v u t h = collect is_space (const_open x p k w v) (λ y b e. rw e) u [] t h

unquoted_spaces : (c : Ctx) (g : Alt) (l : Lead) (a : Axis) (w v u : Bytes) (q : ℕ) (m y t : Bytes) → Spaces y
    → walk (y ++ t) (unquoted c g l a w v u q m []) ≡ walk t (unquoted c g l a w v u q m y)
unfolding step
unquoted_spaces c g l a w v u q m y t h = collect is_space (unquoted c g l a w v u q m) (λ x b e. rw e) y [] t h

quoted_bytes : (c : Ctx) (g : Alt) (l : Lead) (a : Axis) (w v u : Bytes) (q : ℕ) (n m t : Bytes) → all_of is_name m
    ≡ true → walk (m ++ t) (quoted c g l a w v u q n) ≡ walk t (quoted c g l a w v u q (n ++ m))
unfolding step
quoted_bytes c g l a w v u q n m t h = collect is_name (quoted c g l a w v u q) (λ x b e. rw e) m n t h

-- a quote is no byte of a name, no whitespace and no `)`
pub quote_cases : (P : ℕ → Type 0) (q : ℕ) → is_quote q ≡ true → P 39 → P 34 → P q
unfolding is_quote
quote_cases P q h x y =
    ⊎_elim (λ e. rw (eqb-true q 39 e) x) (λ e. rw (eqb-true q 34 e) y) (or_cases (eqb q 39) (eqb q 34) h)

pub quote_name : (q : ℕ) → is_quote q ≡ true → is_name q ≡ false
unfolding is_name is_start
quote_name q h = quote_cases (λ c. is_name c ≡ false) q h refl refl

quote_space : (q : ℕ) → is_quote q ≡ true → is_space q ≡ false
unfolding is_space
quote_space q h = quote_cases (λ c. is_space c ≡ false) q h refl refl

quote_close : (q : ℕ) → is_quote q ≡ true → eqb q 41 ≡ false
quote_close q h = quote_cases (λ c. eqb c 41 ≡ false) q h refl refl

pub quote_self : (q : ℕ) → is_quote q ≡ true → eqb q q ≡ true
quote_self q h = quote_cases (λ c. eqb c c ≡ true) q h refl refl

name_bytes : (c : Ctx) (g : Alt) (l : Lead) (a : Axis) (w n v t : Bytes) → all_of is_name v ≡ true
    → walk (v ++ t) (name c g l a w n) ≡ walk t (name c g l a w (n ++ v))
unfolding step
name_bytes c g l a w n v t h = collect is_name (name c g l a w) (λ u b e. rw e) v n t h

-- a name, where an operand or a test is due
need_name : (c : Ctx) (g : Alt) (l : Lead) (w n t : Bytes) → Spaces w → is_word n ≡ true
    → walk (w ++ (n ++ t)) (need c g l []) ≡ walk t (name c g l implied w n)
unfolding is_word step need_byte
need_name c g l w [] t h i = absurd (false≢true i)
need_name c g l w (b ∷ n) t h i =
    let u = and_parts (is_start b) (all_of is_name n) i in
    need_spaces c g l w (b ∷ (n ++ t)) h
    ∙ walk_byte (need c g l w) (name c g l implied w (b ∷ [])) _ b (n ++ t) (rw u.0)
    (name_bytes c g l implied w (b ∷ []) n t u.1)

testing_name : (c : Ctx) (g : Alt) (l : Lead) (a : Axis) (w n t : Bytes) → Spaces w → is_word n ≡ true
    → walk (w ++ (n ++ t)) (testing c g l a []) ≡ walk t (name c g l a w n)
unfolding is_word step
testing_name c g l a w [] t h i = absurd (false≢true i)
testing_name c g l a w (b ∷ n) t h i =
    let u = and_parts (is_start b) (all_of is_name n) i in
    testing_spaces c g l a w (b ∷ (n ++ t)) h
    ∙ walk_byte (testing c g l a w) (name c g l a w (b ∷ [])) _ b (n ++ t) (rw u.0)
    (name_bytes c g l a w (b ∷ []) n t u.1)

-- a byte that would lengthen the step's last token
unfoldable touches : LocationStep → ℕ → Bool
touches (dot w) b = eqb b 46
touches (dots w) b = false
touches (test a (any w)) b = false
touches (test a (called w n)) b = is_name b
touches (test a (kind w n v u)) b = false
touches (test a (target w v u q m y)) b = false
touches (filter s w e v) b = false

pub space_dot : (b : ℕ) → is_space b ≡ true → eqb b 46 ≡ false
space_dot b t = space_cases (λ c. eqb c 46 ≡ false) b t refl refl refl refl

free : (c : Bool) → (not c || false) ≡ true → c ≡ false
free true h = absurd (false≢true h)
free false h = refl

step_then : (c : Ctx) (g : Alt) (l : Lead) (s : LocationStep) (w : Bytes) (b : ℕ) (t : Bytes) (y : Next) → Spaces w
    → (not (touches s b) || nonempty w) ≡ true
    → follow (after_byte c g l s w b) none (λ x. walk t x) ≡ y → walk (w ++ (b ∷ t)) (end_step c g l s) ≡ y
unfolding touches nonempty end_step step all_of after_byte
step_then c g l (dots v) w b t y h i j = after_spaces c g l (dots v) [] w (b ∷ t) h ∙ walk_next _ _ _ b t refl j
step_then c g l (test a (any v)) w b t y h i j = after_spaces c g l (test a (any v)) [] w (b ∷ t) h
    ∙ walk_next _ _ _ b t refl j
step_then c g l (test a (kind v n u z)) w b t y h i j = after_spaces c g l (test a (kind v n u z)) [] w (b ∷ t) h
    ∙ walk_next _ _ _ b t refl j
step_then c g l (test a (target v n u q m z)) w b t y h i j =
    after_spaces c g l (test a (target v n u q m z)) [] w (b ∷ t) h ∙ walk_next _ _ _ b t refl j
step_then c g l (filter s v e u) w b t y h i j = after_spaces c g l (filter s v e u) [] w (b ∷ t) h
    ∙ walk_next _ _ _ b t refl j
step_then c g l (dot v) [] b t y h i j =
    walk_next (dot1 c g l v) (after_byte c g l (dot v) [] b) y b t (rw (free (eqb b 46) i)) j
step_then c g l (dot v) (d ∷ w) b t y h i j =
    let u = and_parts (is_space d) (all_of is_space w) h in
    walk_byte (dot1 c g l v) (after c g l (dot v) (d ∷ [])) y d (w ++ (b ∷ t)) (rw (space_dot d u.0, u.0))
    (after_spaces c g l (dot v) (d ∷ []) w (b ∷ t) u.1 ∙ walk_next _ _ _ b t refl j)
step_then c g l (test a (called v n)) [] b t y h i j =
    walk_next (name c g l a v n) (after_byte c g l (test a (called v n)) [] b) y b t (rw (free (is_name b) i)) j
step_then c g l (test a (called v n)) (d ∷ w) b t y h i j =
    let u = and_parts (is_space d) (all_of is_space w) h in
    walk_byte (name c g l a v n) (after c g l (test a (called v n)) (d ∷ [])) y d (w ++ (b ∷ t))
    (rw (space_name d u.0, u.0))
    (after_spaces c g l (test a (called v n)) (d ∷ []) w (b ∷ t) u.1 ∙ walk_next _ _ _ b t refl j)

-- the parts of a path's steps
unfoldable pub lead_to : Prefix → Rel → Lead
lead_to x (one s) = start x
lead_to x (slash r w s) = after1 x r w
lead_to x (slashes r w s) = after2 x r w

unfoldable pub last_of : Rel → LocationStep
last_of (one s) = s
last_of (slash r w s) = s
last_of (slashes r w s) = s

pub lead_prefix : (x : Prefix) (r : Rel) → prefix_of (lead_to x r) ≡ x
unfolding prefix_of lead_to
lead_prefix x (one s) = refl
lead_prefix x (slash r w s) = refl
lead_prefix x (slashes r w s) = refl

pub lead_join : (x : Prefix) (r : Rel) → join (lead_to x r) (last_of r) ≡ r
unfolding join lead_to last_of
lead_join x (one s) = refl
lead_join x (slash r w s) = refl
lead_join x (slashes r w s) = refl

-- the byte b does not lengthen the last token
abbrev Fits : Last → Bytes → ℕ → Type 0
Fits k w b = (is_name b ≡ false) ⊎ (may_follow k w ≡ true)

fits_step : (s : LocationStep) (w : Bytes) (b : ℕ) → Fits (last_step s) w b → eqb b 46 ≡ false
    → (not (touches s b) || nonempty w) ≡ true
unfolding touches last_step last_test may_follow
fits_step (dot v) w b f e = rw e refl
fits_step (dots v) w b f e = refl
fits_step (test a (any v)) w b f e = refl
fits_step (test a (called v n)) w b f e = ⊎_elim (λ h. rw h refl) (λ h. or_right (not (is_name b)) (nonempty w) h) f
fits_step (test a (kind v n u z)) w b f e = refl
fits_step (test a (target v n u q m z)) w b f e = refl
fits_step (filter s v x u) w b f e = refl

rel_then : (c : Ctx) (g : Alt) (x : Prefix) (r : Rel) (w : Bytes) (b : ℕ) (t : Bytes) (y : Next) → Spaces w
    → Fits (last_rel r) w b → eqb b 46 ≡ false
    → follow (after_byte c g (lead_to x r) (last_of r) w b) none (λ x. walk t x) ≡ y
    → walk (w ++ (b ∷ t)) (end_rel c g x r) ≡ y
unfolding end_rel lead_to last_of last_rel
rel_then c g x (one s) w b t y h f e j = step_then c g (start x) s w b t y h (fits_step s w b f e) j
rel_then c g x (slash r v s) w b t y h f e j = step_then c g (after1 x r v) s w b t y h (fits_step s w b f e) j
rel_then c g x (slashes r v s) w b t y h f e j = step_then c g (after2 x r v) s w b t y h (fits_step s w b f e) j

-- a byte that can only follow a whole path
pub record Mark (b : ℕ) : Type 0 where
  pub space : is_space b ≡ false
  pub slash : eqb b 47 ≡ false
  pub bracket : eqb b 91 ≡ false
  pub paren : eqb b 40 ≡ false
  pub colon : eqb b 58 ≡ false
  pub star : eqb b 42 ≡ false
  pub at : eqb b 64 ≡ false
  pub dot : eqb b 46 ≡ false

name_start : (b : ℕ) → is_name b ≡ false → is_start b ≡ false
name_start b h = false_from_ne_true (is_start b) (λ e. absurd (false≢true (sym h ∙ start_name b e)))

pub space_slash : (b : ℕ) → is_space b ≡ true → eqb b 47 ≡ false
space_slash b t = space_cases (λ c. eqb c 47 ≡ false) b t refl refl refl refl

pub root_spaces : (c : Ctx) (g : Alt) (v w u t : Bytes) → Spaces u → walk (u ++ t) (need c g (start (at_root v)) w)
    ≡ walk t (need c g (start (at_root v)) (w ++ u))
unfolding step need_byte
root_spaces c g v w u t h = collect is_space (need c g (start (at_root v))) (λ w b e. rw (space_start b e, e)) u w t h

root_then : (c : Ctx) (g : Alt) (v w : Bytes) (b : ℕ) (t : Bytes) (y : Next) → Mark b → Spaces w → is_name b ≡ false
    → follow (path_byte c g (root v) w b) none (λ x. walk t x) ≡ y → walk (w ++ (b ∷ t)) (root1 c g v) ≡ y
unfolding step need_byte lead_byte all_of
root_then c g v [] b t y m h f j =
    walk_next (root1 c g v) _ y b t (rw (m.slash, name_start b f, m.space, m.star, m.at, m.dot) refl) j
root_then c g v (d ∷ w) b t y m h f j =
    let u = and_parts (is_space d) (all_of is_space w) h in
    walk_byte (root1 c g v) (need c g (start (at_root v)) (d ∷ [])) y d (w ++ (b ∷ t))
    (rw (space_slash d u.0, space_start d u.0, u.0) refl)
    (root_spaces c g v (d ∷ []) w (b ∷ t) u.1
    ∙ walk_next (need c g (start (at_root v)) (d ∷ w)) _ y b t
    (rw (name_start b f, m.space, m.star, m.at, m.dot) refl) j)

steps_then : (c : Ctx) (g : Alt) (x : Prefix) (r : Rel) (w : Bytes) (b : ℕ) (t : Bytes) (y : Next) → Mark b → Spaces w
    → Fits (last_rel r) w b
    → follow (path_byte c g (with_prefix x r) w b) none (λ x. walk t x) ≡ y → walk (w ++ (b ∷ t)) (end_rel c g x r) ≡ y
unfolding after_byte
steps_then c g x r w b t y m h f j =
    rel_then c g x r w b t y h f m.dot
    (rw (m.space, m.slash, m.bracket, m.paren, m.colon, lead_prefix, lead_join) j)

path_then : (c : Ctx) (g : Alt) (p : Path) (w : Bytes) (b : ℕ) (t : Bytes) (y : Next) → Mark b → Spaces w
    → Fits (last_path p) w b
    → follow (path_byte c g p w b) none (λ x. walk t x) ≡ y → walk (w ++ (b ∷ t)) (end_path c g p) ≡ y
unfolding end_path with_prefix last_path may_follow
path_then c g (relative r) w b t y m h f j = steps_then c g bare r w b t y m h f j
path_then c g (root v) w b t y m h f j = root_then c g v w b t y m h (⊎_elim (λ i. i) (λ i. absurd (false≢true i)) f) j
path_then c g (rooted v r) w b t y m h f j = steps_then c g (at_root v) r w b t y m h f j
path_then c g (anywhere v r) w b t y m h f j = steps_then c g (at_any v) r w b t y m h f j

-- after a union: `|`, or another byte
union_bar : (c : Ctx) (u : Union) (w : Bytes) (t : Bytes) (y : Next) → Spaces w → walk t (need c (more u w) begin [])
    ≡ y → walk (w ++ (124 ∷ t)) (end_union c u) ≡ y
unfolding end_union path_byte join_alt follow is_space is_name is_start
union_bar c (single p) w t y h j =
    path_then c first p w 124 t y
    (record {
      space = refl;
      slash = refl;
      bracket = refl;
      paren = refl;
      colon = refl;
      star = refl;
      at = refl;
      dot = refl;
    }) h (inl refl) j
union_bar c (union u v p) w t y h j =
    path_then c (more u v) p w 124 t y
    (record {
      space = refl;
      slash = refl;
      bracket = refl;
      paren = refl;
      colon = refl;
      star = refl;
      at = refl;
      dot = refl;
    }) h (inl refl) j

union_then : (c : Ctx) (u : Union) (w : Bytes) (b : ℕ) (t : Bytes) (y : Next) → Mark b → eqb b 124 ≡ false → Spaces w
    → Fits (last_union u) w b
    → follow (union_byte c u w b) none (λ x. walk t x) ≡ y → walk (w ++ (b ∷ t)) (end_union c u) ≡ y
unfolding end_union path_byte join_alt last_union
union_then c (single p) w b t y m n h f j = path_then c first p w b t y m h f (rw n j)
union_then c (union u v p) w b t y m n h f j = path_then c (more u v) p w b t y m h f (rw n j)

unary_then : (x : Open) (p : Pend) (u : Unary) (w : Bytes) (b : ℕ) (t : Bytes) (y : Next) → Mark b → eqb b 124 ≡ false
    → Spaces w → Fits (last_unary u) w b
    → follow (unary_byte x p u w b) none (λ x. walk t x) ≡ y → walk (w ++ (b ∷ t)) (end_unary x p u) ≡ y
unfolding end_unary union_byte last_unary step
unary_then x p (paths u) w b t y m n h f j = union_then (inside x p) u w b t y m n h f j
unary_then x p (group v e z) w b t y m n h f j = closed_spaces x p (group v e z) w (b ∷ t) h
    ∙ walk_next _ _ _ b t (rw m.space) j
unary_then x p (negation v e z q) w b t y m n h f j = closed_spaces x p (negation v e z q) w (b ∷ t) h
    ∙ walk_next _ _ _ b t (rw m.space) j
unary_then x p (constant k v z q) w b t y m n h f j = closed_spaces x p (constant k v z q) w (b ∷ t) h
    ∙ walk_next _ _ _ b t (rw m.space) j

-- the operator names
kw_and : (x : Open) (p : Pend) (u : Unary) (w t : Bytes) → apart t ≡ true → walk t (keyword x p u w k_and)
    ≡ walk t (need (inside x (both (left_of p) (and_to p u) w)) first begin [])
unfolding apart step keyword_byte walk
kw_and x p u w [] h = absurd (false≢true h)
kw_and x p u w (b ∷ t) h = rw (not-true (is_name b) h)

kw_or : (x : Open) (p : Pend) (u : Unary) (w t : Bytes) → apart t ≡ true → walk t (keyword x p u w k_or)
    ≡ walk t (need (inside x (plain (either (or_to p u) w))) first begin [])
unfolding apart step keyword_byte walk
kw_or x p u w [] h = absurd (false≢true h)
kw_or x p u w (b ∷ t) h = rw (not-true (is_name b) h)

abbrev Clear : Last → Bytes → Bytes → Type 0
Clear k w t = (may_follow k w ≡ true) × (apart t ≡ true)

unary_and : (x : Open) (p : Pend) (u : Unary) (w t : Bytes) → Spaces w → Clear (last_unary u) w t
    → walk (w ++ (97 ∷ 110 ∷ 100 ∷ t)) (end_unary x p u)
    ≡ walk t (need (inside x (both (left_of p) (and_to p u) w)) first begin [])
unfolding is_space unary_byte walk follow step keyword_byte
unary_and x p u w t h i =
    unary_then x p u w 97 (110 ∷ 100 ∷ t) _
    (record {
      space = refl;
      slash = refl;
      bracket = refl;
      paren = refl;
      colon = refl;
      star = refl;
      at = refl;
      dot = refl;
    }) refl h (inr i.0) (kw_and x p u w t i.1)

unary_or : (x : Open) (p : Pend) (u : Unary) (w t : Bytes) → Spaces w → Clear (last_unary u) w t
    → walk (w ++ (111 ∷ 114 ∷ t)) (end_unary x p u)
    ≡ walk t (need (inside x (plain (either (or_to p u) w))) first begin [])
unfolding is_space unary_byte walk follow step keyword_byte
unary_or x p u w t h i =
    unary_then x p u w 111 (114 ∷ t) _
    (record {
      space = refl;
      slash = refl;
      bracket = refl;
      paren = refl;
      colon = refl;
      star = refl;
      at = refl;
      dot = refl;
    }) refl h (inr i.0) (kw_or x p u w t i.1)

and_and : (x : Open) (l : Left) (c : And) (w t : Bytes) → Spaces w → Clear (last_and c) w t
    → walk (w ++ (97 ∷ 110 ∷ 100 ∷ t)) (end_and x l c) ≡ walk t (need (inside x (both l c w)) first begin [])
unfolding last_and end_and left_of and_to
and_and x l (operand u) w t h i = unary_and x (plain l) u w t h i
and_and x l (conj c v u) w t h i = unary_and x (both l c v) u w t h i

and_or : (x : Open) (l : Left) (c : And) (w t : Bytes) → Spaces w → Clear (last_and c) w t
    → walk (w ++ (111 ∷ 114 ∷ t)) (end_and x l c)
    ≡ walk t (need (inside x (plain (either (wrap l c) w))) first begin [])
unfolding last_and end_and left_of and_to
and_or x l (operand u) w t h i = unary_or x (plain l) u w t h i
and_or x l (conj c v u) w t h i = unary_or x (both l c v) u w t h i

or_or : (x : Open) (e : Or) (w t : Bytes) → Spaces w → Clear (last_or e) w t
    → walk (w ++ (111 ∷ 114 ∷ t)) (end_or x e) ≡ walk t (need (inside x (plain (either e w))) first begin [])
unfolding last_or end_or wrap
or_or x (alone c) w t h i = and_or x nothing c w t h i
or_or x (disj e v c) w t h i = and_or x (either e v) c w t h i

-- a closing byte
pub record Closes (b : ℕ) : Type 0 where
  pub mark : Mark b
  pub bar : eqb b 124 ≡ false
  pub name : is_name b ≡ false
  pub a : eqb b 97 ≡ false
  pub o : eqb b 111 ≡ false

module _ (x : Open) (w : Bytes) (b : ℕ) (t : Bytes) (y : Next) (m : Closes b) (h : Spaces w) where
  unary_shut : (p : Pend) (u : Unary) → follow (shut x (or_to p u) w b) none (λ x. walk t x) ≡ y
      → walk (w ++ (b ∷ t)) (end_unary x p u) ≡ y
  unfolding unary_byte
  unary_shut p u j = unary_then x p u w b t y m.mark m.bar h (inl m.name) (rw (m.a, m.o) j)

  and_shut : (l : Left) (c : And) → follow (shut x (wrap l c) w b) none (λ x. walk t x) ≡ y
      → walk (w ++ (b ∷ t)) (end_and x l c) ≡ y
  unfolding end_and left_of and_to
  and_shut l (operand u) j = unary_shut (plain l) u j
  and_shut l (conj c v u) j = unary_shut (both l c v) u j

  or_shut : (e : Or) → follow (shut x e w b) none (λ x. walk t x) ≡ y → walk (w ++ (b ∷ t)) (end_or x e) ≡ y
  unfolding end_or wrap
  or_shut (alone c) j = and_shut nothing c j
  or_shut (disj e v c) j = and_shut (either e v) c j

pub closes93 : Closes 93
unfolding is_space is_name is_start
closes93 = record {
  mark = record
      { space = refl; slash = refl; bracket = refl; paren = refl; colon = refl; star = refl; at = refl; dot = refl };
  bar = refl;
  name = refl;
  a = refl;
  o = refl;
}

pub closes41 : Closes 41
unfolding is_space is_name is_start
closes41 = record {
  mark = record
      { space = refl; slash = refl; bracket = refl; paren = refl; colon = refl; star = refl; at = refl; dot = refl };
  bar = refl;
  name = refl;
  a = refl;
  o = refl;
}

-- words of the lists are names
unfoldable all_words : List Bytes → Bool
all_words [] = true
all_words (m ∷ ms) = is_word m && all_words ms

some_next : (i : Option ℕ) → is_some (next i) ≡ true → is_some i ≡ true
unfolding is_some next
some_next none h = h
some_next (some i) h = refl

found_word : (n : Bytes) (ms : List Bytes) → all_words ms ≡ true → is_some (find n ms) ≡ true → is_word n ≡ true
unfolding all_words find is_some
found_word n [] h e = absurd (false≢true e)
found_word n (m ∷ ms) h e = go (same_bytes n m) refl (found_word n ms (and_parts (is_word m) (all_words ms) h).1)
  where
    go : (c : Bool) → same_bytes n m ≡ c → (is_some (find n ms) ≡ true → is_word n ≡ true) → is_word n ≡ true
    go true i k = rw (same_bytes_lem n m i) (and_parts (is_word m) (all_words ms) h).0
    go false i k = k (some_next (find n ms) (rw i at e))

axis_word : (n : Bytes) → is_axis n ≡ true → is_word n ≡ true
unfolding all_words axes is_word is_start is_name all_of
axis_word n h = found_word n axes refl h

type_word : (n : Bytes) → is_type n ≡ true → is_word n ≡ true
unfolding all_words types is_word is_start is_name all_of
type_word n h = found_word n types refl h

-- tests
module _ (c : Ctx) (g : Alt) (l : Lead) where
  test_kind : (a : Axis) (w n v u : Bytes) → is_type n ≡ true → Spaces v → Spaces u
      → walk (v ++ (40 ∷ (u ++ (41 ∷ [])))) (name c g l a w n) ≡ some (after c g l (test a (kind w n v u)) [])
  unfolding is_space is_name is_start after_byte paren_byte_next step walk follow touches end_step
  test_kind a w n v u i h k =
      step_then c g l (test a (called w n)) v 40 (u ++ (41 ∷ [])) _ h refl
      (rw i (type_spaces c g l a w n v u (41 ∷ []) k))

  -- the target in its quotes, and `)`
  quoted_target : (a : Axis) (w v u : Bytes) (q : ℕ) (m y : Bytes) → is_quote q ≡ true → is_word m ≡ true → Spaces y
      → walk (m ++ (q ∷ (y ++ (41 ∷ [])))) (quote c g l a w v u q)
      ≡ some (after c g l (test a (target w v u q m y)) [])
  unfolding is_word step is_space walk follow
  quoted_target a w v u q [] y h i k = absurd (false≢true i)
  quoted_target a w v u q (b ∷ m) y h i k =
      let z = and_parts (is_start b) (all_of is_name m) i in
      walk_byte (quote c g l a w v u q) (quoted c g l a w v u q (b ∷ [])) _ b (m ++ (q ∷ (y ++ (41 ∷ []))))
      (rw z.0)
      (quoted_bytes c g l a w v u q (b ∷ []) m (q ∷ (y ++ (41 ∷ []))) z.1
      ∙ walk_byte (quoted c g l a w v u q (b ∷ m)) (unquoted c g l a w v u q (b ∷ m) []) _ q (y ++ (41 ∷ []))
      (rw (quote_name q h, quote_self q h) refl)
      (unquoted_spaces c g l a w v u q (b ∷ m) y (41 ∷ []) k))

  instruction_word_lem : is_word instruction_word ≡ true
  unfolding is_word is_start is_name all_of instruction_word
  instruction_word_lem = refl

  test_target : (a : Axis) (w v u : Bytes) (q : ℕ) (m y : Bytes) → Spaces v → Spaces u → is_quote q ≡ true → is_word m
      ≡ true → Spaces y
      → walk (v ++ (40 ∷ (u ++ (q ∷ (m ++ (q ∷ (y ++ (41 ∷ [])))))))) (name c g l a w instruction_word)
      ≡ some (after c g l (test a (target w v u q m y)) [])
  unfolding is_space is_name is_start after_byte paren_byte_next step walk follow touches end_step find next types
      is_some same_bytes
      instruction_word
  test_target a w v u q m y h k j n z =
      step_then c g l (test a (called w instruction_word)) v 40 (u ++ (q ∷ (m ++ (q ∷ (y ++ (41 ∷ [])))))) _ h refl
      (type_spaces c g l a w instruction_word v u (q ∷ (m ++ (q ∷ (y ++ (41 ∷ []))))) k
      ∙ walk_byte (type_open c g l a w instruction_word v u) (quote c g l a w v u q) _ q (m ++ (q ∷ (y ++ (41 ∷ []))))
      (rw (quote_space q j, quote_close q j, j) refl)
      (quoted_target a w v u q m y j n z))

  need_test : (t : Test) → FineTest t → walk (spell_test t) (need c g l []) ≡ some (end_step c g l (test implied t))
  unfolding spell_test end_step step need_byte is_start is_space walk follow
  need_test (any w) h = need_spaces c g l w (42 ∷ []) h
  need_test (called w n) h = rw append-nil at (need_name c g l w n [] h.0 h.1)
  need_test (kind w n v u) h = need_name c g l w n _ h.0 (type_word n h.1)
      ∙ test_kind implied w n v u h.1 h.2 h.3
  need_test (target w v u q m y) h = need_name c g l w instruction_word _ h.0 instruction_word_lem
      ∙ test_target implied w v u q m y h.1 h.2 h.3 h.4 h.5

  testing_test : (a : Axis) (t : Test) → FineTest t → walk (spell_test t) (testing c g l a [])
      ≡ some (end_step c g l (test a t))
  unfolding spell_test end_step step is_start is_space walk follow
  testing_test a (any w) h = testing_spaces c g l a w (42 ∷ []) h
  testing_test a (called w n) h = rw append-nil at (testing_name c g l a w n [] h.0 h.1)
  testing_test a (kind w n v u) h = testing_name c g l a w n _ h.0 (type_word n h.1)
      ∙ test_kind a w n v u h.1 h.2 h.3
  testing_test a (target w v u q m y) h = testing_name c g l a w instruction_word _ h.0 instruction_word_lem
      ∙ test_target a w v u q m y h.1 h.2 h.3 h.4 h.5

  read_axis : (a : Axis) (t : Test) → FineAxis a → FineTest t → walk (spell_axis a ++ spell_test t) (need c g l [])
      ≡ some (end_step c g l (test a t))
  unfolding spell_axis step need_byte is_start is_space is_name walk follow after_byte colon_byte_next touches end_step
  read_axis implied t h i = need_test t i
  read_axis (attribute w) t h i =
      rw append_assoc (need_spaces c g l w (64 ∷ spell_test t) h ∙ testing_test (attribute w) t i)
  read_axis (axis w n v) t h i =
      simp append_assoc (need_name c g l w n (v ++ (58 ∷ 58 ∷ spell_test t)) h.0 (axis_word n h.1)
      ∙ step_then c g l (test implied (called w n)) v 58 (58 ∷ spell_test t) _ h.2 refl
      (rw h.1 (testing_test (axis w n v) t i)))

-- a step does not begin with `/`
unfoldable leads : Bytes → Bool
leads [] = false
leads (b ∷ t) = not (eqb b 47)

leads_more : (s t : Bytes) → leads s ≡ true → leads (s ++ t) ≡ true
unfolding leads
leads_more [] t h = absurd (false≢true h)
leads_more (b ∷ s) t h = h

leads_spaces : (w t : Bytes) → Spaces w → leads t ≡ true → leads (w ++ t) ≡ true
unfolding leads all_of
leads_spaces [] t h i = i
leads_spaces (b ∷ w) t h i = rw (space_slash b (and_parts (is_space b) (all_of is_space w) h).0) refl

start_slash : (b : ℕ) → is_start b ≡ true → eqb b 47 ≡ false
unfolding is_start
start_slash b h = false_from_ne_true (eqb b 47) (λ e. absurd (false≢true (rw (eqb-true b 47 e) at h)))

leads_word : (n : Bytes) → is_word n ≡ true → leads n ≡ true
unfolding leads is_word
leads_word [] h = absurd (false≢true h)
leads_word (b ∷ n) h = rw (start_slash b (and_parts (is_start b) (all_of is_name n) h).0) refl

instruction_leads : (t : Bytes) → leads (instruction_word ++ t) ≡ true
unfolding leads instruction_word
instruction_leads t = refl

test_leads : (t : Test) → FineTest t → leads (spell_test t) ≡ true
unfolding spell_test leads
test_leads (any w) h = leads_spaces w (42 ∷ []) h refl
test_leads (called w n) h = leads_spaces w n h.0 (leads_word n h.1)
test_leads (kind w n v u) h = leads_spaces w _ h.0 (leads_more n _ (leads_word n (type_word n h.1)))
test_leads (target w v u q m y) h = leads_spaces w _ h.0 (instruction_leads _)

axis_leads : (a : Axis) (t : Test) → FineAxis a → FineTest t → leads (spell_axis a ++ spell_test t) ≡ true
unfolding spell_axis leads
axis_leads implied t h i = test_leads t i
axis_leads (attribute w) t h i = leads_more (w ++ (64 ∷ [])) _ (leads_spaces w (64 ∷ []) h refl)
axis_leads (axis w n v) t h i =
    leads_more (w ++ (n ++ (v ++ (58 ∷ 58 ∷ [])))) _
    (leads_spaces w _ h.0 (leads_more n _ (leads_word n (axis_word n h.1))))

step_leads : (s : LocationStep) (d : ℕ) → FineStep s d → leads (spell_step s) ≡ true
unfolding spell_step leads
step_leads (dot w) d h = leads_spaces w (46 ∷ []) h refl
step_leads (dots w) d h = leads_spaces w (46 ∷ 46 ∷ []) h refl
step_leads (test a t) d h = axis_leads a t h.0 h.1
step_leads (filter s w e v) d h = leads_more (spell_step s) _ (step_leads s d h.0)

rel_leads : (r : Rel) (d : ℕ) → FineRel r d → leads (spell_rel r) ≡ true
unfolding spell_rel
rel_leads (one s) d h = step_leads s d h
rel_leads (slash r w s) d h = leads_more (spell_rel r) _ (rel_leads r d h.0)
rel_leads (slashes r w s) d h = leads_more (spell_rel r) _ (rel_leads r d h.0)

slash_need : (c : Ctx) (g : Alt) (x : Prefix) (r : Rel) (w t : Bytes) → leads t ≡ true → walk t (slash1 c g x r w)
    ≡ walk t (need c g (after1 x r w) [])
unfolding leads walk step
slash_need c g x r w [] h = absurd (false≢true h)
slash_need c g x r w (b ∷ t) h = rw (not-true (eqb b 47) h)

root_need : (c : Ctx) (g : Alt) (w t : Bytes) → leads t ≡ true → walk t (root1 c g w)
    ≡ walk t (need c g (start (at_root w)) [])
unfolding leads walk step
root_need c g w [] h = absurd (false≢true h)
root_need c g w (b ∷ t) h = rw (not-true (eqb b 47) h)

-- a slash after a path's steps
rel_slash : (c : Ctx) (g : Alt) (x : Prefix) (r : Rel) (w t : Bytes) (y : Next) → Spaces w → walk t (slash1 c g x r w)
    ≡ y → walk (w ++ (47 ∷ t)) (end_rel c g x r) ≡ y
unfolding after_byte is_space is_name is_start follow
rel_slash c g x r w t y h j = rel_then c g x r w 47 t y h (inl refl) refl (rw (lead_prefix, lead_join) j)

may_take : (s : LocationStep) (d : ℕ) → takes_predicate s ≡ true → 0 < d → (takes_predicate s && ltb 0 d) ≡ true
may_take s d h i = and_from (takes_predicate s) (ltb 0 d) h (lt-ltb 0 d i)

fits_bracket : (s : LocationStep) (w : Bytes) → (not (touches s 91) || nonempty w) ≡ true
unfolding is_name is_start
fits_bracket s w = fits_step s w 91 (inl refl) refl

mutual
  unfolding spell_step spell_rel spell_path spell_union spell_unary spell_and spell_or spell_bool end_step end_rel
      end_path
      end_union end_unary end_and end_or is_name is_start is_space after_byte paren_byte_next call_byte lead_byte
      group_byte walk
      follow step shut room room_of need_byte same_bytes touches find next types is_some ascii

  pub read_step : (s : LocationStep) (c : Ctx) (g : Alt) (l : Lead) → FineStep s (room c)
      → walk (spell_step s) (need c g l []) ≡ some (end_step c g l s)
  read_step (dot w) c g l h = need_spaces c g l w (46 ∷ []) h
  read_step (dots w) c g l h = need_spaces c g l w (46 ∷ 46 ∷ []) h
  read_step (test a t) c g l h = read_axis c g l a t h.0 h.1
  read_step (filter s w e v) c g l h =
      walk_join (spell_step s) _ (need c g l []) (end_step c g l s) _ (read_step s c g l h.0)
      (step_then c g l s w 91 (spell_or e ++ (v ++ (93 ∷ []))) _ h.2 (fits_bracket s w)
      (rw (may_take s (room c) h.1 h.3)
      (walk_join (spell_or e) _ (enter (bracket c g l s w)) (end_or (bracket c g l s w) e) _
      (read_or e (bracket c g l s w) h.4)
      (or_shut (bracket c g l s w) v 93 [] _ closes93 h.5 e refl))))

  pub read_rel : (r : Rel) (c : Ctx) (g : Alt) (x : Prefix) → FineRel r (room c)
      → walk (spell_rel r) (need c g (start x) []) ≡ some (end_rel c g x r)
  read_rel (one s) c g x h = read_step s c g (start x) h
  read_rel (slash r w s) c g x h =
      walk_join (spell_rel r) _ (need c g (start x) []) (end_rel c g x r) _ (read_rel r c g x h.0)
      (rel_slash c g x r w (spell_step s) _ h.1
      (slash_need c g x r w (spell_step s) (step_leads s (room c) h.2) ∙ read_step s c g (after1 x r w) h.2))
  read_rel (slashes r w s) c g x h =
      walk_join (spell_rel r) _ (need c g (start x) []) (end_rel c g x r) _ (read_rel r c g x h.0)
      (rel_slash c g x r w (47 ∷ spell_step s) _ h.1 (read_step s c g (after2 x r w) h.2))

  pub read_path_lem : (p : Path) (c : Ctx) (g : Alt) → FinePath p (room c) → walk (spell_path p) (need c g begin [])
      ≡ some (end_path c g p)
  read_path_lem (relative r) c g h = read_rel r c g bare h
  read_path_lem (root w) c g h = need_spaces c g begin w (47 ∷ []) h
  read_path_lem (rooted w r) c g h = need_spaces c g begin w (47 ∷ spell_rel r) h.0
      ∙ (root_need c g w (spell_rel r) (rel_leads r (room c) h.1) ∙ read_rel r c g (at_root w) h.1)
  read_path_lem (anywhere w r) c g h = need_spaces c g begin w (47 ∷ 47 ∷ spell_rel r) h.0
      ∙ read_rel r c g (at_any w) h.1

  pub read_union : (u : Union) (c : Ctx) → FineUnion u (room c) → walk (spell_union u) (need c first begin [])
      ≡ some (end_union c u)
  read_union (single p) c h = read_path_lem p c first h
  read_union (union u w p) c h =
      walk_join (spell_union u) _ (need c first begin []) (end_union c u) _ (read_union u c h.0)
      (union_bar c u w (spell_path p) _ h.1 (read_path_lem p c (more u w) h.2))

  pub read_unary : (u : Unary) (x : Open) (p : Pend) → FineUnary u (room_of x)
      → walk (spell_unary u) (need (inside x p) first begin []) ≡ some (end_unary x p u)
  read_unary (paths u) x p h = read_union u (inside x p) h
  read_unary (group w e v) x p h =
      need_spaces (inside x p) first begin w (40 ∷ (spell_or e ++ (v ++ (41 ∷ [])))) h.0
      ∙ rw (lt-ltb 0 (room_of x) h.1)
      (walk_join (spell_or e) _ (enter (grouped x p w)) (end_or (grouped x p w) e) _ (read_or e (grouped x p w) h.2)
      (or_shut (grouped x p w) v 41 [] _ closes41 h.3 e refl))
  read_unary (negation w v e u) x p h =
      need_spaces (inside x p) first begin w (110 ∷ 111 ∷ 116 ∷ (v ++ (40 ∷ (spell_or e ++ (u ++ (41 ∷ [])))))) h.0
      ∙ step_then (inside x p) first begin (test implied (called w not_word)) v 40 (spell_or e ++ (u ++ (41 ∷ []))) _
      h.1 refl
      (rw (lt-ltb 0 (room_of x) h.2)
      (walk_join (spell_or e) _ (enter (negate x p w v)) (end_or (negate x p w v) e) _
      (read_or e (negate x p w v) h.3)
      (or_shut (negate x p w v) u 41 [] _ closes41 h.4 e refl)))
  read_unary (constant true w v u) x p h =
      need_spaces (inside x p) first begin w (true_word ++ (v ++ (40 ∷ (u ++ (41 ∷ []))))) h.0
      ∙ step_then (inside x p) first begin (test implied (called w true_word)) v 40 (u ++ (41 ∷ [])) _ h.1 refl
      (const_spaces x p true w v u (41 ∷ []) h.2)
  read_unary (constant false w v u) x p h =
      need_spaces (inside x p) first begin w (false_word ++ (v ++ (40 ∷ (u ++ (41 ∷ []))))) h.0
      ∙ step_then (inside x p) first begin (test implied (called w false_word)) v 40 (u ++ (41 ∷ [])) _ h.1 refl
      (const_spaces x p false w v u (41 ∷ []) h.2)

  pub read_and : (a : And) (x : Open) (l : Left) → FineAnd a (room_of x)
      → walk (spell_and a) (need (inside x (plain l)) first begin []) ≡ some (end_and x l a)
  read_and (operand u) x l h = read_unary u x (plain l) h
  read_and (conj a w u) x l h =
      walk_join (spell_and a) _ _ (end_and x l a) _ (read_and a x l h.0)
      (and_and x l a w (spell_unary u) h.1 (h.3, h.4) ∙ read_unary u x (both l a w) h.2)

  pub read_or : (z : Or) (x : Open) → FineOr z (room_of x) → walk (spell_or z) (enter x) ≡ some (end_or x z)
  read_or (alone a) x h = read_and a x nothing h
  read_or (disj z w a) x h =
      walk_join (spell_or z) _ _ (end_or x z) _ (read_or z x h.0)
      (or_or x z w (spell_and a) h.1 (h.3, h.4) ∙ read_and a x (either z w) h.2)
