-- What a state has read: its bytes are those of its trees, and the trees are fine.
use Prim.Native.Nat.{ℕ, ◌<◌}
use mathlib.Core.Path.{◌≡◌, refl, sym, ap, ◌∙◌, subst}
use mathlib.Core.Bool.{Bool, true, false, ◌&&◌}
use mathlib.Core.List.{[], ◌∷◌, ◌++◌, append_assoc, append-nil}
use mathlib.Core.Option.{none, some}
use Rattle.std.proofs.lemmas.Bool.{and_from, and_parts, eqb-true, false≢true, ltb-true}
use lib.Dec.{eqb, ltb}
use Rattle.lines.specs.Ascii.{ascii}
use Rattle.lines.specs.Line.{same_bytes}
use Rattle.common.specs.Lists.{all_of}
use Rattle.selector_grammar.specs.Bytes.{Bytes, is_space, is_start, is_name, is_quote, is_word, nonempty}
use Rattle.selector_grammar.specs.Bytes.{apart, not_word, true_word, false_word}
use Rattle.selector_grammar.specs.Words.{is_axis, is_type, instruction_word}
use Rattle.selector_grammar.specs.Grammar.{Axis, implied, attribute, axis, any, called, kind, target, LocationStep}
use Rattle.selector_grammar.specs.Grammar.{dot, dots, test, filter, Rel, Path, root}
use Rattle.selector_grammar.specs.Grammar.{Union, Unary, paths, group, negation}
use Rattle.selector_grammar.specs.Grammar.{And, Or, spell_axis, spell_test}
use Rattle.selector_grammar.specs.Grammar.{spell_step, spell_rel, spell_path, spell_union, spell_unary, spell_and}
use Rattle.selector_grammar.specs.Grammar.{spell_or, spell_bool, Last, word, other, last_test, last_step}
use Rattle.selector_grammar.specs.Grammar.{last_rel, last_path, last_union, last_unary, last_and, last_or, may_follow}
use Rattle.selector_grammar.specs.Grammar.{takes_predicate, Spaces, FineAxis, FineStep, FineRel, FinePath}
use Rattle.selector_grammar.specs.Grammar.{FineUnion, FineUnary, FineAnd, FineOr}
use Rattle.selector_grammar.specs.private.Reader.{State, Next, need, root1, slash1, dot1, name, colon, testing}
use Rattle.selector_grammar.specs.private.Reader.{type_open}
use Rattle.selector_grammar.specs.private.Reader.{quote, quoted, unquoted, after, const_open, closed, keyword, Keyword}
use Rattle.selector_grammar.specs.private.Reader.{k_a}
use Rattle.selector_grammar.specs.private.Reader.{k_an, k_and, k_o, k_or, Ctx, top, inside, Open, bracket, negate}
use Rattle.selector_grammar.specs.private.Reader.{grouped}
use Rattle.selector_grammar.specs.private.Reader.{Prefix, bare, at_root, at_any, Lead, start, after1, after2, Alt}
use Rattle.selector_grammar.specs.private.Reader.{first}
use Rattle.selector_grammar.specs.private.Reader.{more, Left, nothing, either, Pend, plain, both, prefix_of, join}
use Rattle.selector_grammar.specs.private.Reader.{with_prefix, path_to, join_alt, wrap, left_of, and_to, or_to, room}
use Rattle.selector_grammar.specs.private.Reader.{room_of}
use Rattle.selector_grammar.specs.private.Reader.{begin, enter, step, need_byte, shut, unary_byte, union_byte}
use Rattle.selector_grammar.specs.private.Reader.{path_byte, group_byte, lead_byte, call_byte, paren_byte_next}
use Rattle.selector_grammar.specs.private.Reader.{colon_byte_next}
use Rattle.selector_grammar.specs.private.Reader.{after_byte}
use Rattle.selector_grammar.specs.private.Reader.{keyword_byte}
use Rattle.lines.proofs.SameBytes.{same_bytes_lem}
use Rattle.selector_grammar.proofs.Basics.{branch}

unfoldable pub told_prefix : Prefix → Bytes
told_prefix bare = []
told_prefix (at_root w) = w ++ (47 ∷ [])
told_prefix (at_any w) = w ++ (47 ∷ 47 ∷ [])

unfoldable pub told_lead : Lead → Bytes
told_lead (start x) = told_prefix x
told_lead (after1 x r w) = told_prefix x ++ (spell_rel r ++ (w ++ (47 ∷ [])))
told_lead (after2 x r w) = told_prefix x ++ (spell_rel r ++ (w ++ (47 ∷ 47 ∷ [])))

unfoldable pub told_alt : Alt → Bytes
told_alt first = []
told_alt (more u w) = spell_union u ++ (w ++ (124 ∷ []))

unfoldable pub told_left : Left → Bytes
told_left nothing = []
told_left (either e w) = spell_or e ++ (w ++ (111 ∷ 114 ∷ []))

unfoldable pub told_pend : Pend → Bytes
told_pend (plain l) = told_left l
told_pend (both l c w) = told_left l ++ (spell_and c ++ (w ++ (97 ∷ 110 ∷ 100 ∷ [])))

unfoldable mutual
  pub told_ctx : Ctx → Bytes
  told_ctx top = []
  told_ctx (inside x p) = told_open x ++ told_pend p

  pub told_open : Open → Bytes
  told_open (bracket c g l s w) = told_ctx c ++ (told_alt g ++ (told_lead l ++ (spell_step s ++ (w ++ (91 ∷ [])))))
  told_open (negate x p w v) = told_open x ++ (told_pend p ++ (w ++ (110 ∷ 111 ∷ 116 ∷ (v ++ (40 ∷ [])))))
  told_open (grouped x p w) = told_open x ++ (told_pend p ++ (w ++ (40 ∷ [])))

unfoldable pub told_word : Keyword → Bytes
told_word k_a = 97 ∷ []
told_word k_an = 97 ∷ 110 ∷ []
told_word k_and = 97 ∷ 110 ∷ 100 ∷ []
told_word k_o = 111 ∷ []
told_word k_or = 111 ∷ 114 ∷ []

-- what stands before a step
unfoldable pub before : Ctx → Alt → Lead → Bytes
before c g l = told_ctx c ++ (told_alt g ++ told_lead l)

unfoldable pub told : State → Bytes
told (need c g l w) = before c g l ++ w
told (root1 c g w) = before c g begin ++ (w ++ (47 ∷ []))
told (slash1 c g x r w) = before c g (start x) ++ (spell_rel r ++ (w ++ (47 ∷ [])))
told (dot1 c g l w) = before c g l ++ (w ++ (46 ∷ []))
told (name c g l a w n) = before c g l ++ (spell_axis a ++ (w ++ n))
told (colon c g l w n v) = before c g l ++ (w ++ (n ++ (v ++ (58 ∷ []))))
told (testing c g l a w) = before c g l ++ (spell_axis a ++ w)
told (type_open c g l a w n v u) = before c g l ++ (spell_axis a ++ (w ++ (n ++ (v ++ (40 ∷ u)))))
told (quote c g l a w v u q) =
    before c g l ++ (spell_axis a ++ (w ++ (instruction_word ++ (v ++ (40 ∷ (u ++ (q ∷ [])))))))
told (quoted c g l a w v u q m) =
    before c g l ++ (spell_axis a ++ (w ++ (instruction_word ++ (v ++ (40 ∷ (u ++ (q ∷ m)))))))
told (unquoted c g l a w v u q m y) =
    before c g l ++ (spell_axis a ++ (w ++ (instruction_word ++ (v ++ (40 ∷ (u ++ (q ∷ (m ++ (q ∷ y)))))))))
told (after c g l s w) = before c g l ++ (spell_step s ++ w)
told (const_open x p k w v u) = told_open x ++ (told_pend p ++ (w ++ (spell_bool k ++ (v ++ (40 ∷ u)))))
told (closed x p u w) = told_open x ++ (told_pend p ++ (spell_unary u ++ w))
told (keyword x p u w k) = told_open x ++ (told_pend p ++ (spell_unary u ++ (w ++ told_word k)))

abbrev pub FinePrefix : Prefix → Type 0
FinePrefix bare = Unit {0}
FinePrefix (at_root w) = Spaces w
FinePrefix (at_any w) = Spaces w

abbrev pub FineLead : Lead → ℕ → Type 0
FineLead (start x) d = FinePrefix x
FineLead (after1 x r w) d = FinePrefix x × FineRel r d × Spaces w
FineLead (after2 x r w) d = FinePrefix x × FineRel r d × Spaces w

abbrev pub FineAlt : Alt → ℕ → Type 0
FineAlt first d = Unit {0}
FineAlt (more u w) d = FineUnion u d × Spaces w

abbrev pub FineLeft : Left → ℕ → Type 0
FineLeft nothing d = Unit {0}
FineLeft (either e w) d = FineOr e d × Spaces w × (may_follow (last_or e) w ≡ true)

abbrev pub FinePend : Pend → ℕ → Type 0
FinePend (plain l) d = FineLeft l d
FinePend (both l c w) d = FineLeft l d × FineAnd c d × Spaces w × (may_follow (last_and c) w ≡ true)

-- the operand after an operator name does not begin with a byte of a name
abbrev pub ClearLeft : Left → Bytes → Type 0
ClearLeft nothing t = Unit {0}
ClearLeft (either e w) t = apart t ≡ true

abbrev pub ClearPend : Pend → Bytes → Type 0
ClearPend (plain l) t = ClearLeft l t
ClearPend (both l c w) t = (apart t ≡ true) × ClearLeft l (spell_and c)

abbrev pub ClearCtx : Ctx → Bytes → Type 0
ClearCtx top t = Unit {0}
ClearCtx (inside x p) t = ClearPend p t

abbrev pub Clr : Ctx → Alt → Lead → Bytes → Type 0
Clr c g l t = ClearCtx c ((told_alt g ++ told_lead l) ++ t)

abbrev mutual
  pub FineCtx : Ctx → Type 0
  FineCtx top = Unit {0}
  FineCtx (inside x p) = FineOpen x × FinePend p (room_of x)

  pub FineOpen : Open → Type 0
  FineOpen (bracket c g l s w) = FineCtx c × FineAlt g (room c) × FineLead l (room c) × Clr c g l (spell_step s)
      × FineStep s (room c) × (takes_predicate s ≡ true) × Spaces w × (0 < room c)
  FineOpen (negate x p w v) = FineOpen x × FinePend p (room_of x) × ClearPend p (w ++ not_word) × Spaces w × Spaces v
      × (0 < room_of x)
  FineOpen (grouped x p w) = FineOpen x × FinePend p (room_of x) × ClearPend p (w ++ (40 ∷ [])) × Spaces w
      × (0 < room_of x)

abbrev pub FineAt : Ctx → Alt → Lead → Type 0
FineAt c g l = FineCtx c × FineAlt g (room c) × FineLead l (room c)

abbrev pub FineState : State → Type 0
FineState (need c g l w) = FineAt c g l × Clr c g l w × Spaces w
FineState (root1 c g w) = FineAt c g begin × Clr c g begin (w ++ (47 ∷ [])) × Spaces w
FineState (slash1 c g x r w) = FineAt c g (start x) × Clr c g (start x) (spell_rel r) × FineRel r (room c) × Spaces w
FineState (dot1 c g l w) = FineAt c g l × Clr c g l (w ++ (46 ∷ [])) × Spaces w
FineState (name c g l a w n) = FineAt c g l × Clr c g l (spell_axis a ++ (w ++ n)) × FineAxis a × Spaces w
    × (is_word n ≡ true)
FineState (colon c g l w n v) = FineAt c g l × Clr c g l (w ++ n) × Spaces w × (is_axis n ≡ true) × Spaces v
FineState (testing c g l a w) = FineAt c g l × Clr c g l (spell_axis a ++ w) × FineAxis a × Spaces w
FineState (type_open c g l a w n v u) = FineAt c g l × Clr c g l (spell_axis a ++ (w ++ n)) × FineAxis a × Spaces w
    × (is_type n ≡ true) × Spaces v × Spaces u
FineState (quote c g l a w v u q) = FineAt c g l × Clr c g l (spell_axis a ++ (w ++ instruction_word)) × FineAxis a
    × Spaces w × Spaces v × Spaces u × (is_quote q ≡ true)
FineState (quoted c g l a w v u q m) = FineAt c g l × Clr c g l (spell_axis a ++ (w ++ instruction_word)) × FineAxis a
    × Spaces w × Spaces v × Spaces u × (is_quote q ≡ true) × (is_word m ≡ true)
FineState (unquoted c g l a w v u q m y) = FineAt c g l × Clr c g l (spell_axis a ++ (w ++ instruction_word))
    × FineAxis a × Spaces w × Spaces v × Spaces u × (is_quote q ≡ true) × (is_word m ≡ true) × Spaces y
FineState (after c g l s w) = FineAt c g l × Clr c g l (spell_step s) × FineStep s (room c) × Spaces w
    × (may_follow (last_step s) w ≡ true)
FineState (const_open x p k w v u) = FineOpen x × FinePend p (room_of x) × ClearPend p (w ++ spell_bool k) × Spaces w
    × Spaces v × Spaces u
FineState (closed x p u w) = FineOpen x × FinePend p (room_of x) × ClearPend p (spell_unary u) × FineUnary u (room_of x)
    × Spaces w × (last_unary u ≡ other)
FineState (keyword x p u w k) = FineOpen x × FinePend p (room_of x) × ClearPend p (spell_unary u)
    × FineUnary u (room_of x) × Spaces w × (may_follow (last_unary u) w ≡ true)

-- a next state, if there is one, tells t and is fine
abbrev pub FineTold : Bytes → Next → Type 0
FineTold t none = Unit {0}
FineTold t (some st) = (told st ≡ t) × FineState st

pub snoc : (p : ℕ → Bool) (w : Bytes) (b : ℕ) → all_of p w ≡ true → p b ≡ true → all_of p (w ++ (b ∷ [])) ≡ true
unfolding all_of
snoc p [] b h e = rw e
snoc p (c ∷ w) b h e = let u =
    and_parts (p c) (all_of p w) h in and_from (p c) (all_of p (w ++ (b ∷ []))) u.0 (snoc p w b u.1 e)

word_snoc : (w : Bytes) (b : ℕ) → is_word w ≡ true → is_name b ≡ true → is_word (w ++ (b ∷ [])) ≡ true
unfolding is_word
word_snoc [] b h e = absurd (false≢true h)
word_snoc (c ∷ w) b h e = let u =
    and_parts (is_start c) (all_of is_name w) h in and_from (is_start c) (all_of is_name (w ++ (b ∷ []))) u.0
    (snoc is_name w b u.1 e)

full : (w : Bytes) (b : ℕ) → nonempty (w ++ (b ∷ [])) ≡ true
unfolding nonempty
full [] b = refl
full (c ∷ w) b = refl

more_apart : (t s : Bytes) → apart t ≡ true → apart (t ++ s) ≡ true
unfolding apart
more_apart [] s h = absurd (false≢true h)
more_apart (b ∷ t) s h = h

more_left : (l : Left) (t s : Bytes) → ClearLeft l t → ClearLeft l (t ++ s)
more_left nothing t s h = tt
more_left (either e w) t s h = more_apart t s h

more_pend : (p : Pend) (t s : Bytes) → ClearPend p t → ClearPend p (t ++ s)
more_pend (plain l) t s h = more_left l t s h
more_pend (both l c w) t s h = (more_apart t s h.0, h.1)

more_ctx : (c : Ctx) (t s : Bytes) → ClearCtx c t → ClearCtx c (t ++ s)
more_ctx top t s h = tt
more_ctx (inside x p) t s h = more_pend p t s h

-- the clearance grows with the text
more_clr : (c : Ctx) (g : Alt) (l : Lead) (t s : Bytes) → Clr c g l t → Clr c g l (t ++ s)
more_clr c g l t s h = rw append_assoc at (more_ctx c ((told_alt g ++ told_lead l) ++ t) s h)

prefix_told : (x : Prefix) (r : Rel) → spell_path (with_prefix x r) ≡ told_prefix x ++ spell_rel r
unfolding spell_path with_prefix told_prefix
prefix_told bare r = refl
prefix_told (at_root w) r = simp append_assoc
prefix_told (at_any w) r = simp append_assoc

join_told : (l : Lead) (s : LocationStep) → told_prefix (prefix_of l) ++ spell_rel (join l s) ≡ told_lead l
    ++ spell_step s
unfolding told_lead join spell_rel prefix_of
join_told (start x) s = refl
join_told (after1 x r w) s = simp append_assoc
join_told (after2 x r w) s = simp append_assoc

pub path_told : (l : Lead) (s : LocationStep) → spell_path (path_to l s) ≡ told_lead l ++ spell_step s
path_told l s = prefix_told (prefix_of l) (join l s) ∙ join_told l s

pub alt_told : (g : Alt) (p : Path) → spell_union (join_alt g p) ≡ told_alt g ++ spell_path p
unfolding spell_union join_alt told_alt
alt_told first p = refl
alt_told (more u w) p = simp append_assoc

join_fine : (l : Lead) (s : LocationStep) (d : ℕ) → FineLead l d → FineStep s d → FineRel (join l s) d
unfolding join
join_fine (start x) s d h i = i
join_fine (after1 x r w) s d h i = (h.1, h.2, i)
join_fine (after2 x r w) s d h i = (h.1, h.2, i)

lead_prefix_fine : (l : Lead) (d : ℕ) → FineLead l d → FinePrefix (prefix_of l)
unfolding prefix_of
lead_prefix_fine (start x) d h = h
lead_prefix_fine (after1 x r w) d h = h.0
lead_prefix_fine (after2 x r w) d h = h.0

prefix_fine : (x : Prefix) (r : Rel) (d : ℕ) → FinePrefix x → FineRel r d → FinePath (with_prefix x r) d
unfolding with_prefix
prefix_fine bare r d h i = i
prefix_fine (at_root w) r d h i = (h, i)
prefix_fine (at_any w) r d h i = (h, i)

pub path_fine : (l : Lead) (s : LocationStep) (d : ℕ) → FineLead l d → FineStep s d → FinePath (path_to l s) d
path_fine l s d h i = prefix_fine (prefix_of l) (join l s) d (lead_prefix_fine l d h) (join_fine l s d h i)

pub alt_fine : (g : Alt) (p : Path) (d : ℕ) → FineAlt g d → FinePath p d → FineUnion (join_alt g p) d
unfolding join_alt
alt_fine first p d h i = i
alt_fine (more u w) p d h i = (h.0, h.1, i)

join_last : (l : Lead) (s : LocationStep) → last_rel (join l s) ≡ last_step s
unfolding join last_rel
join_last (start x) s = refl
join_last (after1 x r w) s = refl
join_last (after2 x r w) s = refl

prefix_last : (x : Prefix) (r : Rel) → last_path (with_prefix x r) ≡ last_rel r
unfolding with_prefix last_path
prefix_last bare r = refl
prefix_last (at_root w) r = refl
prefix_last (at_any w) r = refl

path_last : (l : Lead) (s : LocationStep) → last_path (path_to l s) ≡ last_step s
path_last l s = prefix_last (prefix_of l) (join l s) ∙ join_last l s

alt_last : (g : Alt) (p : Path) → last_union (join_alt g p) ≡ last_path p
unfolding join_alt last_union
alt_last first p = refl
alt_last (more u w) p = refl

and_told : (p : Pend) (u : Unary) → told_left (left_of p) ++ spell_and (and_to p u) ≡ told_pend p ++ spell_unary u
unfolding told_pend left_of and_to spell_and
and_told (plain l) u = refl
and_told (both l c w) u = simp append_assoc

wrap_told : (l : Left) (c : And) → spell_or (wrap l c) ≡ told_left l ++ spell_and c
unfolding told_left wrap spell_or
wrap_told nothing c = refl
wrap_told (either e w) c = simp append_assoc

or_told : (p : Pend) (u : Unary) → spell_or (or_to p u) ≡ told_pend p ++ spell_unary u
or_told p u = wrap_told (left_of p) (and_to p u) ∙ and_told p u

and_fine : (p : Pend) (u : Unary) (d : ℕ) → FinePend p d → FineUnary u d → ClearPend p (spell_unary u)
    → FineAnd (and_to p u) d
unfolding and_to
and_fine (plain l) u d h i j = i
and_fine (both l c w) u d h i j = (h.1, h.2, i, h.3, j.0)

left_fine : (p : Pend) (d : ℕ) → FinePend p d → FineLeft (left_of p) d
unfolding left_of
left_fine (plain l) d h = h
left_fine (both l c w) d h = h.0

left_clear : (p : Pend) (u : Unary) → ClearPend p (spell_unary u) → ClearLeft (left_of p) (spell_and (and_to p u))
unfolding left_of and_to spell_and
left_clear (plain l) u h = h
left_clear (both l c w) u h = more_left l (spell_and c) _ h.1

wrap_fine : (l : Left) (c : And) (d : ℕ) → FineLeft l d → FineAnd c d → ClearLeft l (spell_and c) → FineOr (wrap l c) d
unfolding wrap
wrap_fine nothing c d h i j = i
wrap_fine (either e w) c d h i j = (h.0, h.1, i, h.2, j)

or_fine : (p : Pend) (u : Unary) (d : ℕ) → FinePend p d → FineUnary u d → ClearPend p (spell_unary u)
    → FineOr (or_to p u) d
or_fine p u d h i j = wrap_fine (left_of p) (and_to p u) d (left_fine p d h) (and_fine p u d h i j) (left_clear p u j)

and_last : (p : Pend) (u : Unary) → last_and (and_to p u) ≡ last_unary u
unfolding and_to last_and
and_last (plain l) u = refl
and_last (both l c w) u = refl

or_last : (l : Left) (c : And) → last_or (wrap l c) ≡ last_and c
unfolding wrap last_or
or_last nothing c = refl
or_last (either e w) c = refl

-- where an operator name may begin
abbrev Gap : Last → Bytes → ℕ → Type 0
Gap k w b = (eqb b 97 ≡ true → may_follow k w ≡ true) × (eqb b 111 ≡ true → may_follow k w ≡ true)

gap_may : (k : Last) (w : Bytes) (b : ℕ) → may_follow k w ≡ true → Gap k w b
gap_may k w b h = (λ _. h, λ _. h)

gap_name : (k : Last) (w : Bytes) (b : ℕ) → is_name b ≡ false → Gap k w b
unfolding is_name is_start
gap_name k w b h = (
  λ e. absurd (false≢true (sym (rw (eqb-true b 97 e) at h))),
  λ e. absurd (false≢true (sym (rw (eqb-true b 111 e) at h))),
)

gap_start : (k : Last) (w : Bytes) (b : ℕ) → is_start b ≡ false → Gap k w b
unfolding is_start
gap_start k w b h = (
  λ e. absurd (false≢true (sym (rw (eqb-true b 97 e) at h))),
  λ e. absurd (false≢true (sym (rw (eqb-true b 111 e) at h))),
)

spell_filter : (s : LocationStep) (w : Bytes) (e : Or) (v : Bytes) → spell_step (filter s w e v)
    ≡ spell_step s ++ (w ++ (91 ∷ (spell_or e ++ (v ++ (93 ∷ [])))))
unfolding spell_step
spell_filter s w e v = refl

spell_negation : (w v : Bytes) (e : Or) (u : Bytes) → spell_unary (negation w v e u)
    ≡ w ++ (110 ∷ 111 ∷ 116 ∷ (v ++ (40 ∷ (spell_or e ++ (u ++ (41 ∷ []))))))
unfolding spell_unary ascii
spell_negation w v e u = refl

spell_group : (w : Bytes) (e : Or) (v : Bytes) → spell_unary (group w e v)
    ≡ w ++ (40 ∷ (spell_or e ++ (v ++ (41 ∷ []))))
unfolding spell_unary
spell_group w e v = refl

list_filter : (c g l s v e w : Bytes) → (c ++ (g ++ (l ++ (s ++ (v ++ (91 ∷ [])))))) ++ (e ++ (w ++ (93 ∷ [])))
    ≡ (c ++ (g ++ l)) ++ ((s ++ (v ++ (91 ∷ (e ++ (w ++ (93 ∷ [])))))) ++ [])
list_filter c g l s v e w = simp (append_assoc, append-nil)

list_negation : (x p w v e u : Bytes)
    → (x ++ (p ++ (w ++ (110 ∷ 111 ∷ 116 ∷ (v ++ (40 ∷ [])))))) ++ (e ++ (u ++ (41 ∷ [])))
    ≡ x ++ (p ++ ((w ++ (110 ∷ 111 ∷ 116 ∷ (v ++ (40 ∷ (e ++ (u ++ (41 ∷ []))))))) ++ []))
list_negation x p w v e u = simp (append_assoc, append-nil)

list_group : (x p w e u : Bytes) → (x ++ (p ++ (w ++ (40 ∷ [])))) ++ (e ++ (u ++ (41 ∷ [])))
    ≡ x ++ (p ++ ((w ++ (40 ∷ (e ++ (u ++ (41 ∷ []))))) ++ []))
list_group x p w e u = simp (append_assoc, append-nil)

clear_negation : (p : Pend) (w t : Bytes) → ClearPend p (w ++ not_word) → ClearPend p (w ++ (110 ∷ 111 ∷ 116 ∷ t))
unfolding ascii
clear_negation p w t h = rw append_assoc at (more_pend p (w ++ not_word) t h)

clear_group : (p : Pend) (w t : Bytes) → ClearPend p (w ++ (40 ∷ [])) → ClearPend p (w ++ (40 ∷ t))
clear_group p w t h = rw append_assoc at (more_pend p (w ++ (40 ∷ [])) t h)

shut_read : (x : Open) (e : Or) (w : Bytes) (b : ℕ) (t : Bytes) → told_open x ++ (spell_or e ++ (w ++ (b ∷ []))) ≡ t
    → FineOpen x → FineOr e (room_of x) → Spaces w → FineTold t (shut x e w b)
unfolding shut told before told_open room_of last_step last_unary may_follow all_of
shut_read (bracket c g l s v) e w b t h f he hw =
    branch (FineTold t) (eqb b 93) _ _
    (λ i. (
      rw spell_filter (sym (list_filter (told_ctx c) (told_alt g) (told_lead l) (spell_step s) v (spell_or e) w)
          ∙ (rw (eqb-true b 93 i) at h)),
      (
        (f.0, f.1, f.2),
        rw spell_filter (more_clr c g l (spell_step s) _ f.3),
        (f.4, f.5, f.6, f.7, he, hw),
        refl,
        refl,
      ),
    ))
    (λ _. tt)
shut_read (negate x p v u) e w b t h f he hw =
    branch (FineTold t) (eqb b 41) _ _
    (λ i. (
      rw spell_negation (sym (list_negation (told_open x) (told_pend p) v u (spell_or e) w)
          ∙ (rw (eqb-true b 41 i) at h)),
      (f.0, f.1, rw spell_negation (clear_negation p v _ f.2), (f.3, f.4, f.5, he, hw), refl, refl),
    ))
    (λ _. tt)
shut_read (grouped x p v) e w b t h f he hw =
    branch (FineTold t) (eqb b 41) _ _
    (λ i. (
      rw spell_group (sym (list_group (told_open x) (told_pend p) v (spell_or e) w) ∙ (rw (eqb-true b 41 i) at h)),
      (f.0, f.1, rw spell_group (clear_group p v _ f.2), (f.3, f.4, he, hw), refl, refl),
    ))
    (λ _. tt)

unary_read : (x : Open) (p : Pend) (u : Unary) (w : Bytes) (b : ℕ) (t : Bytes)
    → told_open x ++ (told_pend p ++ (spell_unary u ++ (w ++ (b ∷ [])))) ≡ t
    → FineOpen x → FinePend p (room_of x) → ClearPend p (spell_unary u) → FineUnary u (room_of x) → Spaces w
    → Gap (last_unary u) w b → FineTold t (unary_byte x p u w b)
unfolding unary_byte told told_word
unary_read x p u w b t h fx fp fc fu fw g =
    branch (FineTold t) (eqb b 97) _ _ (λ i. (rw (eqb-true b 97 i) at h, (fx, fp, fc, fu, fw, g.0 i)))
    (λ _. branch (FineTold t) (eqb b 111) _ _ (λ i. (rw (eqb-true b 111 i) at h, (fx, fp, fc, fu, fw, g.1 i)))
    (λ _. shut_read x (or_to p u) w b t (rw (or_told p u, append_assoc) h) fx (or_fine p u (room_of x) fp fu fc) fw))

union_read : (c : Ctx) (u : Union) (w : Bytes) (b : ℕ) (t : Bytes) → told_ctx c ++ (spell_union u ++ (w ++ (b ∷ [])))
    ≡ t
    → FineCtx c → ClearCtx c (spell_union u) → FineUnion u (room c) → Spaces w → Gap (last_union u) w b
    → FineTold t (union_byte c u w b)
unfolding union_byte told_ctx spell_unary last_unary room
union_read top u w b t h fc fl fu fw g = tt
union_read (inside x p) u w b t h fc fl fu fw g =
    unary_read x p (paths u) w b t (rw append_assoc at h) fc.0 fc.1 fl fu fw g

bar_told : (g : Alt) (p : Path) (w : Bytes) → told_alt (more (join_alt g p) w)
    ≡ (told_alt g ++ spell_path p) ++ (w ++ (124 ∷ []))
unfolding told_alt
bar_told g p w = ap (λ (t : Bytes). t ++ (w ++ (124 ∷ []))) (alt_told g p)

bar_list : (c g p w a t : Bytes) → a ≡ (g ++ p) ++ (w ++ (124 ∷ [])) → c ++ (g ++ (p ++ (w ++ (124 ∷ [])))) ≡ t
    → (c ++ (a ++ [])) ++ [] ≡ t
bar_list c g p w a t e h = rw e (simp (append_assoc, append-nil) h)

bar_clear : (c : Ctx) (g : Alt) (p : Path) (w : Bytes) → ClearCtx c (told_alt g ++ spell_path p)
    → ClearCtx c ((told_alt (more (join_alt g p) w) ++ []) ++ [])
bar_clear c g p w h =
    rw (append-nil (told_alt (more (join_alt g p) w) ++ []), append-nil (told_alt (more (join_alt g p) w)), bar_told)
    (more_ctx c (told_alt g ++ spell_path p) (w ++ (124 ∷ [])) h)

path_read : (c : Ctx) (g : Alt) (p : Path) (w : Bytes) (b : ℕ) (t : Bytes)
    → told_ctx c ++ (told_alt g ++ (spell_path p ++ (w ++ (b ∷ [])))) ≡ t
    → FineCtx c → FineAlt g (room c) → ClearCtx c (told_alt g ++ spell_path p) → FinePath p (room c) → Spaces w
    → Gap (last_path p) w b → FineTold t (path_byte c g p w b)
unfolding path_byte told before told_lead told_prefix all_of
path_read c g p w b t h fc fg fl fp fw k =
    let f : FineUnion (join_alt g p) (room c) = alt_fine g p (room c) fg fp in
    let l : ClearCtx c (spell_union (join_alt g p)) = rw alt_told fl in
    branch (FineTold t) (eqb b 124) _ _
    (λ i. (
      bar_list (told_ctx c) (told_alt g) (spell_path p) w (told_alt (more (join_alt g p) w)) t (bar_told g p w)
          (rw (eqb-true b 124 i) at h),
      ((fc, (f, fw), tt), bar_clear c g p w fl, refl),
    ))
    (λ _. union_read c (join_alt g p) w b t (rw (alt_told, append_assoc) h) fc l f fw (rw alt_last k))

enter_read : (t : Bytes) (x : Open) → told_open x ≡ t → FineOpen x → FineTold t (some (enter x))
unfolding told before told_ctx told_alt told_pend told_left told_lead told_prefix all_of
enter_read t x h f = (simp append-nil h, (((f, tt), tt, tt), tt, refl))

operand_list : (x p w t : Bytes) → ((x ++ p) ++ []) ++ w ≡ t → x ++ (p ++ w) ≡ t
operand_list x p w t h = simp (append_assoc, append-nil) at h

group_read : (c : Ctx) (g : Alt) (w : Bytes) (b : ℕ) (t : Bytes) → before c g begin ++ (w ++ (b ∷ [])) ≡ t → FineCtx c
    → Clr c g begin (w ++ (b ∷ [])) → Spaces w → FineTold t (group_byte c g w b)
unfolding group_byte before told_ctx told_alt told_lead told_prefix told_open
group_read top g w b t h fc fl fw = tt
group_read (inside x p) (more u v) w b t h fc fl fw = tt
group_read (inside x p) first w b t h fc fl fw =
    branch (FineTold t) (eqb b 40 && ltb 0 (room_of x)) _ _
    (λ i. let u = and_parts (eqb b 40) (ltb 0 (room_of x)) i in
    enter_read t (grouped x p w)
    (rw (eqb-true b 40 u.0) at (operand_list (told_open x) (told_pend p) (w ++ (b ∷ [])) t h))
    (fc.0, fc.1, rw (eqb-true b 40 u.0) at fl, fw, ltb-true 0 (room_of x) u.1))
    (λ _. tt)

less_apart : (t s : Bytes) → nonempty t ≡ true → apart (t ++ s) ≡ true → apart t ≡ true
unfolding apart nonempty
less_apart [] s h i = absurd (false≢true h)
less_apart (b ∷ t) s h i = i

less_left : (l : Left) (t s : Bytes) → nonempty t ≡ true → ClearLeft l (t ++ s) → ClearLeft l t
less_left nothing t s n h = tt
less_left (either e w) t s n h = less_apart t s n h

less_ctx : (c : Ctx) (t s : Bytes) → nonempty t ≡ true → ClearCtx c (t ++ s) → ClearCtx c t
less_ctx top t s n h = tt
less_ctx (inside x (plain l)) t s n h = less_left l t s n h
less_ctx (inside x (both l a w)) t s n h = (less_apart t s n h.0, h.1)

root_list : (c g v w t : Bytes) → (c ++ (g ++ (v ++ (47 ∷ [])))) ++ w ≡ t → c ++ (g ++ ((v ++ (47 ∷ [])) ++ w)) ≡ t
root_list c g v w t h = simp append_assoc (simp append_assoc at h)

root_read : (c : Ctx) (g : Alt) (v w : Bytes) (b : ℕ) (t : Bytes) → before c g (start (at_root v)) ++ (w ++ (b ∷ []))
    ≡ t → FineAt c g (start (at_root v)) → Clr c g (start (at_root v)) (w ++ (b ∷ [])) → Spaces w → is_start b ≡ false
    → FineTold t (path_byte c g (root v) w b)
unfolding before told_lead told_prefix spell_path
root_read c g v w b t h fa fl fw e =
    path_read c g (root v) w b t (root_list (told_ctx c) (told_alt g) v (w ++ (b ∷ [])) t h) fa.0 fa.1
    (less_ctx c (told_alt g ++ (v ++ (47 ∷ []))) (w ++ (b ∷ [])) (rw append_assoc at (full (told_alt g ++ v) 47)) fl)
    fa.2 fw (gap_start (last_path (root v)) w b e)

lead_read : (c : Ctx) (g : Alt) (l : Lead) (w : Bytes) (b : ℕ) (t : Bytes) → before c g l ++ (w ++ (b ∷ [])) ≡ t
    → FineAt c g l → Clr c g l (w ++ (b ∷ [])) → Spaces w → is_start b ≡ false → FineTold t (lead_byte c g l w b)
unfolding lead_byte told
lead_read c g (start bare) w b t h fa fl fw e =
    branch (FineTold t) (eqb b 47) _ _ (λ i. (rw (eqb-true b 47 i) at h, (fa, rw (eqb-true b 47 i) at fl, fw)))
    (λ _. group_read c g w b t h fa.0 fl fw)
lead_read c g (start (at_root v)) w b t h fa fl fw e = root_read c g v w b t h fa fl fw e
lead_read c g (start (at_any v)) w b t h fa fl fw e = tt
lead_read c g (after1 x r v) w b t h fa fl fw e = tt
lead_read c g (after2 x r v) w b t h fa fl fw e = tt

need_read : (c : Ctx) (g : Alt) (l : Lead) (w : Bytes) (b : ℕ) (t : Bytes) → before c g l ++ (w ++ (b ∷ [])) ≡ t
    → FineAt c g l → Clr c g l (w ++ (b ∷ [])) → Spaces w → FineTold t (need_byte c g l w b)
unfolding need_byte told is_word all_of spell_axis spell_step spell_test last_step last_test may_follow
need_read c g l w b t h fa fl fw =
    branch (FineTold t) (is_start b) _ _ (λ i. (h, (fa, fl, tt, fw, rw i)))
    (λ n. branch (FineTold t) (is_space b) _ _ (λ i. (h, (fa, fl, snoc is_space w b fw i)))
    (λ _. branch (FineTold t) (eqb b 42) _ _
    (λ i. (
      rw (append-nil (w ++ (42 ∷ []))) (rw (eqb-true b 42 i) at h),
      (fa, rw (eqb-true b 42 i) at fl, (tt, fw), refl, refl),
    ))
    (λ _. branch (FineTold t) (eqb b 64) _ _
    (λ i. (
      rw (append-nil (w ++ (64 ∷ []))) (rw (eqb-true b 64 i) at h),
      (fa, rw (append-nil (w ++ (64 ∷ []))) (rw (eqb-true b 64 i) at fl), fw, refl),
    ))
    (λ _. branch (FineTold t) (eqb b 46) _ _ (λ i. (rw (eqb-true b 46 i) at h, (fa, rw (eqb-true b 46 i) at fl, fw)))
    (λ _. lead_read c g l w b t h fa fl fw n)))))

-- a slash after a path's steps
slash_list : (c g p r l s w : Bytes) → p ++ r ≡ l ++ s → (c ++ (g ++ p)) ++ (r ++ w) ≡ (c ++ (g ++ l)) ++ (s ++ w)
slash_list c g p r l s w e =
    let y : (c ++ (g ++ p)) ++ (r ++ w) ≡ c ++ (g ++ ((p ++ r) ++ w)) = simp append_assoc in
    let z : c ++ (g ++ ((l ++ s) ++ w)) ≡ (c ++ (g ++ l)) ++ (s ++ w) = simp append_assoc in
    y ∙ (rw e z)

slash_same : (g p r l s : Bytes) → p ++ r ≡ l ++ s → (g ++ p) ++ r ≡ (g ++ l) ++ s
slash_same g p r l s e = append_assoc g p r ∙ (rw e (sym (append_assoc g l s)))

slash_clear : (c : Ctx) (g : Alt) (l : Lead) (s : LocationStep) → Clr c g l (spell_step s)
    → Clr c g (start (prefix_of l)) (spell_rel (join l s))
unfolding told_lead
slash_clear c g l s h =
    rw (slash_same (told_alt g) (told_prefix (prefix_of l)) (spell_rel (join l s)) (told_lead l) (spell_step s)
    (join_told l s)) h

may_more : (s : LocationStep) (w : Bytes) (b : ℕ) → may_follow (last_step s) (w ++ (b ∷ [])) ≡ true
unfolding last_step last_test may_follow
may_more (dot v) w b = refl
may_more (dots v) w b = refl
may_more (test a (any v)) w b = refl
may_more (test a (called v n)) w b = full w b
may_more (test a (kind v n u z)) w b = refl
may_more (test a (target v n u q m z)) w b = refl
may_more (filter s v e u) w b = refl

-- `(` after a name that begins an operand
call_read : (c : Ctx) (g : Alt) (l : Lead) (a : Axis) (w n v t : Bytes)
    → before c g l ++ (spell_axis a ++ (w ++ (n ++ (v ++ (40 ∷ []))))) ≡ t → FineAt c g l
    → Clr c g l (spell_axis a ++ (w ++ n)) → Spaces w → Spaces v
    → FineTold t (call_byte c g l a w n v)
unfolding call_byte before told_ctx told_alt told_lead told_prefix told_open spell_axis told spell_bool all_of ascii
call_read (inside x p) first (start bare) implied w n v t h fa fl fw fv =
    let k = operand_list (told_open x) (told_pend p) (w ++ (n ++ (v ++ (40 ∷ [])))) t h in
    branch (FineTold t) (same_bytes n not_word) _ _
    (λ i. branch (FineTold t) (ltb 0 (room_of x)) _ _
    (λ j. enter_read t (negate x p w v) (rw (same_bytes_lem n not_word i) at k)
    (fa.0.0, fa.0.1, rw (same_bytes_lem n not_word i) at fl, fw, fv, ltb-true 0 (room_of x) j)) (λ _. tt))
    (λ _. branch (FineTold t) (same_bytes n true_word) _ _
    (λ i. (
      rw (same_bytes_lem n true_word i) at k,
      (fa.0.0, fa.0.1, rw (same_bytes_lem n true_word i) at fl, fw, fv, refl),
    ))
    (λ _. branch (FineTold t) (same_bytes n false_word) _ _
    (λ i. (
      rw (same_bytes_lem n false_word i) at k,
      (fa.0.0, fa.0.1, rw (same_bytes_lem n false_word i) at fl, fw, fv, refl),
    ))
    (λ _. tt)))
call_read top g l a w n v t h fa fl fw fv = tt
call_read (inside x p) (more u y) l a w n v t h fa fl fw fv = tt
call_read (inside x p) first (start (at_root y)) a w n v t h fa fl fw fv = tt
call_read (inside x p) first (start (at_any y)) a w n v t h fa fl fw fv = tt
call_read (inside x p) first (after1 y r z) a w n v t h fa fl fw fv = tt
call_read (inside x p) first (after2 y r z) a w n v t h fa fl fw fv = tt
call_read (inside x p) first (start bare) (attribute y) w n v t h fa fl fw fv = tt
call_read (inside x p) first (start bare) (axis y m z) w n v t h fa fl fw fv = tt

paren_list : (k a w n v t : Bytes) (b : ℕ) → k ++ ((a ++ (w ++ n)) ++ (v ++ (b ∷ []))) ≡ t
    → k ++ (a ++ (w ++ (n ++ (v ++ (b ∷ []))))) ≡ t
paren_list k a w n v t b h = simp append_assoc at h

paren_read : (c : Ctx) (g : Alt) (l : Lead) (s : LocationStep) (v t : Bytes)
    → before c g l ++ (spell_step s ++ (v ++ (40 ∷ []))) ≡ t → FineAt c g l → Clr c g l (spell_step s)
    → FineStep s (room c) → Spaces v → FineTold t (paren_byte_next c g l s v)
unfolding paren_byte_next spell_step spell_test told all_of
paren_read c g l (test a (called w n)) v t h fa fl fs fv =
    branch (FineTold t) (is_type n) _ _
    (λ i. (paren_list (before c g l) (spell_axis a) w n v t 40 h, (fa, fl, fs.0, fs.1.0, i, fv, refl)))
    (λ _. call_read c g l a w n v t (paren_list (before c g l) (spell_axis a) w n v t 40 h) fa fl fs.1.0 fv)
paren_read c g l (test a (any w)) v t h fa fl fs fv = tt
paren_read c g l (test a (kind w n y u)) v t h fa fl fs fv = tt
paren_read c g l (test a (target w y u q m z)) v t h fa fl fs fv = tt
paren_read c g l (dot w) v t h fa fl fs fv = tt
paren_read c g l (dots w) v t h fa fl fs fv = tt
paren_read c g l (filter s w e u) v t h fa fl fs fv = tt

colon_read : (c : Ctx) (g : Alt) (l : Lead) (s : LocationStep) (v t : Bytes)
    → before c g l ++ (spell_step s ++ (v ++ (58 ∷ []))) ≡ t → FineAt c g l → Clr c g l (spell_step s)
    → FineStep s (room c) → Spaces v → FineTold t (colon_byte_next c g l s v)
unfolding colon_byte_next spell_step spell_test spell_axis told
colon_read c g l (test implied (called w n)) v t h fa fl fs fv =
    branch (FineTold t) (is_axis n) _ _ (λ i. (paren_list (before c g l) [] w n v t 58 h, (fa, fl, fs.1.0, i, fv)))
    (λ _. tt)
colon_read c g l (test implied (any w)) v t h fa fl fs fv = tt
colon_read c g l (test implied (kind w n y u)) v t h fa fl fs fv = tt
colon_read c g l (test implied (target w y u q m z)) v t h fa fl fs fv = tt
colon_read c g l (test (attribute y) z) v t h fa fl fs fv = tt
colon_read c g l (test (axis y m u) z) v t h fa fl fs fv = tt
colon_read c g l (dot w) v t h fa fl fs fv = tt
colon_read c g l (dots w) v t h fa fl fs fv = tt
colon_read c g l (filter s w e u) v t h fa fl fs fv = tt

flat_list : (c g l s w t : Bytes) → (c ++ (g ++ l)) ++ (s ++ w) ≡ t → c ++ (g ++ (l ++ (s ++ w))) ≡ t
flat_list c g l s w t h = simp append_assoc at h

path_list : (c g l s p w t : Bytes) → p ≡ l ++ s → (c ++ (g ++ l)) ++ (s ++ w) ≡ t → c ++ (g ++ (p ++ w)) ≡ t
path_list c g l s p w t e h = rw e (simp append_assoc (simp append_assoc at h))

path_clear : (c : Ctx) (g l s p : Bytes) → p ≡ l ++ s → ClearCtx c ((g ++ l) ++ s) → ClearCtx c (g ++ p)
path_clear c g l s p e h = rw e (rw append_assoc at h)

after_read : (c : Ctx) (g : Alt) (l : Lead) (s : LocationStep) (w : Bytes) (b : ℕ) (t : Bytes)
    → before c g l ++ (spell_step s ++ (w ++ (b ∷ []))) ≡ t → FineAt c g l → Clr c g l (spell_step s)
    → FineStep s (room c) → Spaces w
    → Gap (last_step s) w b → FineTold t (after_byte c g l s w b)
unfolding after_byte told told_open before told_lead
after_read c g l s w b t h fa fl fs fw k =
    branch (FineTold t) (is_space b) _ _ (λ i. (h, (fa, fl, fs, snoc is_space w b fw i, may_more s w b)))
    (λ _. branch (FineTold t) (eqb b 47) _ _
    (λ i. (
      slash_list (told_ctx c) (told_alt g) (told_prefix (prefix_of l)) (spell_rel (join l s)) (told_lead l)
          (spell_step s)
          (w ++ (47 ∷ [])) (join_told l s) ∙ (rw (eqb-true b 47 i) at h),
      (
        (fa.0, fa.1, lead_prefix_fine l (room c) fa.2),
        slash_clear c g l s fl,
        join_fine l s (room c) fa.2 fs,
        fw,
      ),
    ))
    (λ _. branch (FineTold t) (eqb b 91) _ _
    (λ i. branch (FineTold t) (takes_predicate s && ltb 0 (room c)) _ _
    (λ j. let u = and_parts (takes_predicate s) (ltb 0 (room c)) j in
    enter_read t (bracket c g l s w)
    (rw (eqb-true b 91 i) at (flat_list (told_ctx c) (told_alt g) (told_lead l) (spell_step s) (w ++ (b ∷ [])) t h))
    (fa.0, fa.1, fa.2, fl, fs, u.0, fw, ltb-true 0 (room c) u.1)) (λ _. tt))
    (λ _. branch (FineTold t) (eqb b 40) _ _ (λ i. paren_read c g l s w t (rw (eqb-true b 40 i) at h) fa fl fs fw)
    (λ _. branch (FineTold t) (eqb b 58) _ _ (λ i. colon_read c g l s w t (rw (eqb-true b 58 i) at h) fa fl fs fw)
    (λ _. path_read c g (path_to l s) w b t
    (path_list (told_ctx c) (told_alt g) (told_lead l) (spell_step s) (spell_path (path_to l s)) (w ++ (b ∷ [])) t
    (path_told l s) h) fa.0 fa.1
    (path_clear c (told_alt g) (told_lead l) (spell_step s) (spell_path (path_to l s)) (path_told l s) fl)
    (path_fine l s (room c) fa.2 fs) fw (rw path_last k))))))

seven : (x l c p u w k b : Bytes) → l ++ c ≡ p ++ u → ((x ++ (l ++ (c ++ (w ++ k)))) ++ []) ++ b
    ≡ x ++ (p ++ (u ++ (w ++ (k ++ b))))
seven x l c p u w k b e =
    let z : ((x ++ (l ++ (c ++ (w ++ k)))) ++ []) ++ b ≡ x ++ ((l ++ c) ++ (w ++ (k ++ b))) =
    simp (append_assoc, append-nil) in
    let y : x ++ ((p ++ u) ++ (w ++ (k ++ b))) ≡ x ++ (p ++ (u ++ (w ++ (k ++ b)))) = simp append_assoc in
    z ∙ (rw e y)

eight : (x c p u w k b : Bytes) → c ≡ p ++ u → ((x ++ (c ++ (w ++ k))) ++ []) ++ b
    ≡ x ++ (p ++ (u ++ (w ++ (k ++ b))))
eight x c p u w k b e = rw e (simp (append_assoc, append-nil))

word_read : (x : Open) (p : Pend) (u : Unary) (w : Bytes) (k : Keyword) (b : ℕ) (t : Bytes)
    → told_open x ++ (told_pend p ++ (spell_unary u ++ (w ++ (told_word k ++ (b ∷ []))))) ≡ t
    → FineState (keyword x p u w k) → FineTold t (keyword_byte x p u w k b)
unfolding keyword_byte told before told_word told_alt told_lead told_prefix told_ctx told_pend told_left room apart
    all_of
word_read x p u w k_a b t h f = branch (FineTold t) (eqb b 110) _ _ (λ i. (rw (eqb-true b 110 i) at h, f)) (λ _. tt)
word_read x p u w k_an b t h f = branch (FineTold t) (eqb b 100) _ _ (λ i. (rw (eqb-true b 100 i) at h, f)) (λ _. tt)
word_read x p u w k_o b t h f = branch (FineTold t) (eqb b 114) _ _ (λ i. (rw (eqb-true b 114 i) at h, f)) (λ _. tt)
word_read x p u w k_and b t h f =
    branch (FineTold t) (is_name b) _ _ (λ _. tt)
    (λ i. need_read (inside x (both (left_of p) (and_to p u) w)) first begin [] b t
    (seven (told_open x) (told_left (left_of p)) (spell_and (and_to p u)) (told_pend p) (spell_unary u) w
    (97 ∷ 110 ∷ 100 ∷ []) (b ∷ []) (and_told p u) ∙ h) (
      (f.0, (left_fine p (room_of x) f.1, and_fine p u (room_of x) f.1 f.3 f.2, f.4, rw and_last f.5)),
      tt,
      tt,
    )
    (rw i, left_clear p u f.2) refl)
word_read x p u w k_or b t h f =
    branch (FineTold t) (is_name b) _ _ (λ _. tt)
    (λ i. need_read (inside x (plain (either (or_to p u) w))) first begin [] b t
    (eight (told_open x) (spell_or (or_to p u)) (told_pend p) (spell_unary u) w (111 ∷ 114 ∷ []) (b ∷ []) (or_told p u)
    ∙ h)
    ((f.0, (or_fine p u (room_of x) f.1 f.3 f.2, f.4, rw (or_last, and_last) f.5)), tt, tt)
    (rw i) refl)

-- what stands before a step that `/` or `//` leads
root_clear : (c : Ctx) (g w b : Bytes) → ClearCtx c ((g ++ []) ++ (w ++ (47 ∷ [])))
    → ClearCtx c ((g ++ (w ++ (47 ∷ []))) ++ b)
root_clear c g w b h = more_ctx c (g ++ (w ++ (47 ∷ []))) b (rw append-nil at h)

any_clear : (c : Ctx) (g w : Bytes) → ClearCtx c ((g ++ []) ++ (w ++ (47 ∷ [])))
    → ClearCtx c ((g ++ (w ++ (47 ∷ 47 ∷ []))) ++ [])
any_clear c g w h =
    let e : ((g ++ []) ++ (w ++ (47 ∷ []))) ++ (47 ∷ []) ≡ (g ++ (w ++ (47 ∷ 47 ∷ []))) ++ [] =
    simp (append_assoc, append-nil) in
    subst (λ (t : Bytes). ClearCtx c t) e (more_ctx c ((g ++ []) ++ (w ++ (47 ∷ []))) (47 ∷ []) h)

steps_clear : (c : Ctx) (g p r w b : Bytes) → ClearCtx c ((g ++ p) ++ r) → ClearCtx c ((g ++ (p ++ (r ++ w))) ++ b)
steps_clear c g p r w b h =
    let e : ((g ++ p) ++ r) ++ (w ++ b) ≡ (g ++ (p ++ (r ++ w))) ++ b = simp append_assoc in
    subst (λ (t : Bytes). ClearCtx c t) e (more_ctx c ((g ++ p) ++ r) (w ++ b) h)

colon_clear : (c : Ctx) (g : Alt) (l : Lead) (w n v : Bytes) → Clr c g l (w ++ n)
    → Clr c g l ((w ++ (n ++ (v ++ (58 ∷ 58 ∷ [])))) ++ [])
colon_clear c g l w n v h =
    let e : (w ++ n) ++ (v ++ (58 ∷ 58 ∷ [])) ≡ (w ++ (n ++ (v ++ (58 ∷ 58 ∷ [])))) ++ [] =
    simp (append_assoc, append-nil) in
    subst (λ (t : Bytes). Clr c g l t) e (more_clr c g l (w ++ n) (v ++ (58 ∷ 58 ∷ [])) h)

clr_dots : (c : Ctx) (g : Alt) (l : Lead) (w : Bytes) → Clr c g l (w ++ (46 ∷ [])) → Clr c g l (w ++ (46 ∷ 46 ∷ []))
clr_dots c g l w h = subst (λ (t : Bytes). Clr c g l t) (append_assoc w (46 ∷ []) (46 ∷ []))
    (more_clr c g l (w ++ (46 ∷ [])) (46 ∷ []) h)

clr_name : (c : Ctx) (g : Alt) (l : Lead) (a w n b : Bytes) → Clr c g l (a ++ (w ++ n))
    → Clr c g l (a ++ (w ++ (n ++ b)))
clr_name c g l a w n b h =
    let e : (a ++ (w ++ n)) ++ b ≡ a ++ (w ++ (n ++ b)) = simp append_assoc in
    subst (λ (t : Bytes). Clr c g l t) e (more_clr c g l (a ++ (w ++ n)) b h)

clr_test : (c : Ctx) (g : Alt) (l : Lead) (a w b : Bytes) → Clr c g l (a ++ w) → Clr c g l (a ++ (w ++ b))
clr_test c g l a w b h = subst (λ (t : Bytes). Clr c g l t) (append_assoc a w b) (more_clr c g l (a ++ w) b h)

constant_clear : (p : Pend) (w n t : Bytes) → ClearPend p (w ++ n) → ClearPend p (w ++ (n ++ t))
constant_clear p w n t h = subst (λ (t : Bytes). ClearPend p t) (append_assoc w n t) (more_pend p (w ++ n) t h)

one_word : (b : ℕ) → is_start b ≡ true → is_word (b ∷ []) ≡ true
unfolding is_word all_of
one_word b h = rw h refl

may_other : (k : Last) (w : Bytes) → k ≡ other → may_follow k w ≡ true
unfolding may_follow
may_other k w h = rw h refl

-- each byte read
pub step_read : (st : State) (b : ℕ) → FineState st → FineTold (told st ++ (b ∷ [])) (step st b)
unfolding step told before told_lead told_prefix spell_step spell_axis spell_test last_step last_test last_unary
    may_follow
    all_of
step_read (need c g l w) b f =
    need_read c g l w b _ (simp append_assoc) f.0 (more_clr c g l w (b ∷ []) f.1) f.2
step_read (root1 c g w) b f =
    branch (FineTold _) (eqb b 47) _ _
    (λ i. (
      rw (eqb-true b 47 i) (simp (append_assoc, append-nil)),
      ((f.0.0, f.0.1, f.2), any_clear c (told_alt g) w f.1, refl),
    ))
    (λ _. need_read c g (start (at_root w)) [] b _ (simp (append_assoc, append-nil))
    (f.0.0, f.0.1, f.2) (root_clear c (told_alt g) w (b ∷ []) f.1) refl)
step_read (slash1 c g x r w) b f =
    branch (FineTold _) (eqb b 47) _ _
    (λ i. (
      rw (eqb-true b 47 i) (simp (append_assoc, append-nil)),
      (
        (f.0.0, f.0.1, (f.0.2, f.2, f.3)),
        steps_clear c (told_alt g) (told_prefix x) (spell_rel r) (w ++ (47 ∷ 47 ∷ [])) [] f.1,
        refl,
      ),
    ))
    (λ _. need_read c g (after1 x r w) [] b _
    (simp append_assoc)
    (f.0.0, f.0.1, (f.0.2, f.2, f.3))
    (steps_clear c (told_alt g) (told_prefix x) (spell_rel r) (w ++ (47 ∷ [])) (b ∷ []) f.1) refl)
step_read (dot1 c g l w) b f =
    branch (FineTold _) (eqb b 46) _ _
    (λ i. (rw (eqb-true b 46 i) (simp (append_assoc, append-nil)), (f.0, clr_dots c g l w f.1, f.2, refl, refl)))
    (λ _. after_read c g l (dot w) [] b _ (simp append_assoc) f.0 f.1 f.2 refl
    (gap_may other [] b refl))
step_read (name c g l a w n) b f =
    branch (FineTold _) (is_name b) _ _
    (λ i. (
      simp append_assoc,
      (f.0, clr_name c g l (spell_axis a) w n (b ∷ []) f.1, f.2, f.3, word_snoc n b f.4 i),
    ))
    (λ i. after_read c g l (test a (called w n)) [] b _ (simp append_assoc) f.0
    f.1 (f.2, (f.3, f.4)) refl (gap_name word [] b i))
step_read (colon c g l w n v) b f =
    branch (FineTold _) (eqb b 58) _ _
    (λ i. (
      rw (eqb-true b 58 i) (simp (append_assoc, append-nil)),
      (f.0, colon_clear c g l w n v f.1, (f.2, f.3, f.4), refl),
    )) (λ _. tt)
step_read (testing c g l a w) b f =
    branch (FineTold _) (is_start b) _ _
    (λ i. (
      simp append_assoc,
      (f.0, clr_test c g l (spell_axis a) w (b ∷ []) f.1, f.2, f.3, one_word b i),
    ))
    (λ _. branch (FineTold _) (is_space b) _ _
    (λ i. (
      simp append_assoc,
      (f.0, clr_test c g l (spell_axis a) w (b ∷ []) f.1, f.2, snoc is_space w b f.3 i),
    ))
    (λ _. branch (FineTold _) (eqb b 42) _ _
    (λ i. (
      rw (eqb-true b 42 i) (simp (append_assoc, append-nil)),
      (f.0, clr_test c g l (spell_axis a) w (42 ∷ []) f.1, (f.2, f.3), refl, refl),
    )) (λ _. tt)))
step_read (type_open c g l a w n v u) b f =
    branch (FineTold _) (is_space b) _ _
    (λ i. (
      simp append_assoc,
      (f.0, f.1, f.2, f.3, f.4, f.5, snoc is_space u b f.6 i),
    ))
    (λ _. branch (FineTold _) (eqb b 41) _ _
    (λ i. (
      rw (eqb-true b 41 i) (simp (append_assoc, append-nil)),
      (f.0, clr_name c g l (spell_axis a) w n _ f.1, (f.2, (f.3, f.4, f.5, f.6)), refl, refl),
    ))
    (λ _. branch (FineTold _) (is_quote b && same_bytes n instruction_word) _ _
    (λ i. let z = and_parts (is_quote b) (same_bytes n instruction_word) i in (
      rw (← same_bytes_lem n instruction_word z.1) (simp append_assoc),
      (f.0, rw (same_bytes_lem n instruction_word z.1) at f.1, f.2, f.3, f.5, f.6, z.0),
    )) (λ _. tt)))
step_read (quote c g l a w v u q) b f =
    branch (FineTold _) (is_start b) _ _
    (λ i. (
      simp append_assoc,
      (f.0, f.1, f.2, f.3, f.4, f.5, f.6, one_word b i),
    )) (λ _. tt)
step_read (quoted c g l a w v u q m) b f =
    branch (FineTold _) (is_name b) _ _
    (λ i. (
      simp append_assoc,
      (f.0, f.1, f.2, f.3, f.4, f.5, f.6, word_snoc m b f.7 i),
    ))
    (λ _. branch (FineTold _) (eqb b q) _ _
    (λ i. (
      rw (eqb-true b q i) (simp append_assoc),
      (f.0, f.1, f.2, f.3, f.4, f.5, f.6, f.7, refl),
    )) (λ _. tt))
step_read (unquoted c g l a w v u q m y) b f =
    branch (FineTold _) (is_space b) _ _
    (λ i. (
      simp append_assoc,
      (f.0, f.1, f.2, f.3, f.4, f.5, f.6, f.7, snoc is_space y b f.8 i),
    ))
    (λ _. branch (FineTold _) (eqb b 41) _ _
    (λ i. (
      rw (eqb-true b 41 i) (simp (append_assoc, append-nil)),
      (
        f.0,
        clr_name c g l (spell_axis a) w instruction_word _ f.1,
        (f.2, (f.3, f.4, f.5, f.6, f.7, f.8)),
        refl,
        refl,
      ),
    )) (λ _. tt))
step_read (after c g l s w) b f =
    after_read c g l s w b _ (simp append_assoc) f.0 f.1 f.2 f.3 (gap_may (last_step s) w b f.4)
step_read (const_open x p k w v u) b f =
    branch (FineTold _) (is_space b) _ _
    (λ i. (
      simp append_assoc,
      (f.0, f.1, f.2, f.3, f.4, snoc is_space u b f.5 i),
    ))
    (λ _. branch (FineTold _) (eqb b 41) _ _
    (λ i. (
      rw (eqb-true b 41 i) (simp (append_assoc, append-nil)),
      (f.0, f.1, constant_clear p w (spell_bool k) _ f.2, (f.3, f.4, f.5), refl, refl),
    )) (λ _. tt))
step_read (closed x p u w) b f =
    branch (FineTold _) (is_space b) _ _
    (λ i. (
      simp append_assoc,
      (f.0, f.1, f.2, f.3, snoc is_space w b f.4 i, f.5),
    ))
    (λ _. unary_read x p u w b _ (simp append_assoc) f.0 f.1
    f.2 f.3 f.4 (gap_may (last_unary u) w b (may_other (last_unary u) w f.5)))
step_read (keyword x p u w k) b f = word_read x p u w k b _ (simp append_assoc) f
