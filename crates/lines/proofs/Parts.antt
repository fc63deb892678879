-- The parts of the first line are read one by one: a space ends a part before others, the newline the last.
use Prim.Native.Nat.{ℕ, ◌≤◌}
use mathlib.Core.Path.{◌≡◌, refl, sym, ap, subst, ◌∙◌}
use mathlib.Core.Bool.{Bool, true, false, cond, not, ◌&&◌, false≢true}
use mathlib.Core.List.{List, [], ◌∷◌, ◌++◌, append_assoc}
use mathlib.Core.Logic.{◌⊎◌, inl, inr}
use mathlib.Core.Option.{Option, none, some, Option-elim, some-injective, none-ne-some}
use mathlib.Core.Option.{some-ne-none}
use native.Mathlib.Omega.{arith}
use Rattle.std.proofs.lemmas.Bool.{and_parts}
use lib.Dec.{leb, eqb}
use lib.ListN.{drop}
use borrow.Author.Tests.{ne_eqb}
use Rattle.common.specs.Lists.{all_of}
use Rattle.lines.specs.Line.{newline, space, Line, lines, parts}
use Rattle.lines.specs.Number.{digit0, is_digit, are_digits, is_decimal, append_digits, number_up_to}
use Rattle.lines.specs.private.NumbersRead.{number_before, number_cut, NumberMet, first_parts}
pub use Rattle.lines.specs.private.NumbersRead.{PartsMet}
use Rattle.lines.proofs.Cutting.{Free, free_append, free_left, cut_at, Cutting, whole, in_two, cutting}
use Rattle.lines.proofs.Cutting.{parts_whole, parts_at, lines_at, no_whole_line, no_next_line}

-- a text without a whole line, with a line of one part, or with a part before others
pub data FirstPart (xs : List ℕ) : Type 0 where
  no_line : Free newline xs → FirstPart xs
  only_part : (w r : List ℕ) → xs ≡ w ++ newline ∷ r → Free newline w → Free space w → FirstPart xs
  part_before : (w r : List ℕ) → xs ≡ w ++ space ∷ r → Free newline w → Free space w → FirstPart xs

pub first_part : (xs : List ℕ) → FirstPart xs
first_part xs = by_line (cutting newline xs)
  where
    by_space : (l r : List ℕ) → xs ≡ l ++ newline ∷ r → Free newline l → Cutting space l → FirstPart xs
    by_space l r t f (whole g n) = only_part l r t f g
    by_space l r t f (in_two w q u g) =
        part_before w (q ++ newline ∷ r) (t ∙ ap (λ m. m ++ newline ∷ r) u ∙ append_assoc w (space ∷ q) (newline ∷ r))
        (free_left newline w (space ∷ q) (subst (Free newline) u f)) g

    by_line : Cutting newline xs → FirstPart xs
    by_line (whole f n) = no_line f
    by_line (in_two l r t f) = by_space l r t f (cutting space l)

module _ {A : Type 0} (read : List (List ℕ) → Option A) (w r : List ℕ) (f : Free newline w) (g : Free space w) where
  pub before_newline : first_parts read (lines (w ++ newline ∷ r)) ≡ read (w ∷ [])
  unfolding first_parts
  before_newline = rw (lines_at w r f, parts_whole w g)

  pub before_space : first_parts read (lines (w ++ space ∷ r)) ≡ first_parts (λ ws. read (w ∷ ws)) (lines r)
  unfolding first_parts
  before_space = by_cut (cutting newline r)
    where
      by_cut : Cutting newline r → first_parts read (lines (w ++ space ∷ r))
          ≡ first_parts (λ ws. read (w ∷ ws)) (lines r)
      by_cut (whole h n) = no_whole_line read _ (free_append newline w (space ∷ r) f (refl, h))
          ∙ sym (no_whole_line (λ ws. read (w ∷ ws)) r h)
      by_cut (in_two l t e h) =
          let text : w ++ space ∷ r ≡ (w ++ space ∷ l) ++ newline ∷ t = ap (λ q. w ++ space ∷ q) e
          ∙ sym (append_assoc w (space ∷ l) (newline ∷ t)) in
          rw (
            ap lines text ∙ lines_at (w ++ space ∷ l) t (free_append newline w (space ∷ l) f (refl, h)),
            ap lines e ∙ lines_at l t h,
            parts_at w l g,
          )

pub next_behind : (w r : List ℕ) → Free newline w → drop 1 (lines (w ++ space ∷ r)) ≡ drop 1 (lines r)
next_behind w r f = by_cut (cutting newline r)
  where
    by_cut : Cutting newline r → drop 1 (lines (w ++ space ∷ r)) ≡ drop 1 (lines r)
    by_cut (whole h n) = no_next_line _ (free_append newline w (space ∷ r) f (refl, h)) ∙ sym (no_next_line r h)
    by_cut (in_two l t e h) =
        let text : w ++ space ∷ r ≡ (w ++ space ∷ l) ++ newline ∷ t = ap (λ q. w ++ space ∷ q) e
        ∙ sym (append_assoc w (space ∷ l) (newline ∷ t)) in
        rw (
          ap lines text ∙ lines_at (w ++ space ∷ l) t (free_append newline w (space ∷ l) f (refl, h)),
          ap lines e ∙ lines_at l t h,
        )

-- there is always a part
pub parts_some : (xs : List ℕ) → (w : List ℕ) × (ws : List (List ℕ)) × (parts xs ≡ w ∷ ws)
parts_some xs = by_cut (cutting space xs)
  where
    by_cut : Cutting space xs → (w : List ℕ) × (ws : List (List ℕ)) × (parts xs ≡ w ∷ ws)
    by_cut (whole f n) = (xs, [], parts_whole xs f)
    by_cut (in_two w r t f) = (w, parts r, ap parts t ∙ parts_at w r f)

pub first_none : {A : Type 0} (read : List (List ℕ) → Option A)
    → ((w : List ℕ) (ws : List (List ℕ)) → read (w ∷ ws) ≡ none) → (ls : List Line) → first_parts read ls ≡ none
unfolding first_parts
first_none {A} read h [] = refl
first_none {A} read h (l ∷ ls) = let (w, ws, e) = parts_some l.bytes in rw (e, h w ws) (by_end l.ended)
  where
    by_end : (b : Bool) → ◌≡◌ {A = Option A} (cond b none none) none
    by_end true = refl
    by_end false = refl

-- one more number before the others
abbrev pub prepended : ℕ → Option (List ℕ) → Option (List ℕ)
prepended v o = Option-elim o none (λ ns. some (v ∷ ns))

-- `read` takes a number up to `most`, and then what `others` takes
abbrev pub Reads : (most : ℕ) (read others : List (List ℕ) → Option (List ℕ)) → Type 0
Reads most read others = (w : List ℕ) (ws : List (List ℕ)) → read (w ∷ ws) ≡ Option-elim (number_up_to most w) none
    (λ v. prepended v (others ws))

-- what is made of the parts can be made of what the first line gives
pub first_mapped : {A B : Type 0} (f : Option A → Option B) → f none ≡ none → (mapped : List (List ℕ) → Option B)
    (read : List (List ℕ) → Option A)
    → ((ws : List (List ℕ)) → mapped ws ≡ f (read ws)) → (ls : List Line) → first_parts mapped ls
    ≡ f (first_parts read ls)
unfolding first_parts
first_mapped f z mapped read h [] = sym z
first_mapped f z mapped read h (l ∷ ls) = by_end l.ended
  where
    by_end : (b : Bool) → cond b (mapped (parts l.bytes)) none ≡ f (cond b (read (parts l.bytes)) none)
    by_end true = h (parts l.bytes)
    by_end false = sym z

decimal_digits : (w : List ℕ) → is_decimal w ≡ true → are_digits w ≡ true
unfolding is_decimal all_of
decimal_digits [] e = refl
decimal_digits (x ∷ []) e = rw e
decimal_digits (x ∷ y ∷ w) e =
    let (start, rest) = and_parts (is_digit x && not (eqb x digit0)) (are_digits (y ∷ w)) e in
    rw (and_parts (is_digit x) (not (eqb x digit0)) start).0 rest

digits_free : (e : ℕ) → is_digit e ≡ false → (w : List ℕ) → are_digits w ≡ true → Free e w
unfolding all_of
digits_free e n [] d = tt
digits_free e n (x ∷ w) d =
    let b = and_parts (is_digit x) (are_digits w) d in
    (ne_eqb x e (λ s. false≢true (sym n ∙ sym (ap is_digit s) ∙ b.0)), digits_free e n w b.1)

-- a number has neither a space nor a newline in it
number_free : (most e : ℕ) → is_digit e ≡ false → (w : List ℕ) (v : ℕ) → number_up_to most w ≡ some v → Free e w
number_free most e n w v s =
    digits_free e n w (decimal_digits w (by_test (is_decimal w) (leb (append_digits 0 w) most) s))
  where
    by_test : (a b : Bool) → cond (a && b) (some (append_digits 0 w)) none ≡ some v → a ≡ true
    by_test true b t = refl
    by_test false b t = absurd (none-ne-some _ t)

-- a part that is a number
module _ (most v : ℕ) (w r : List ℕ) (s : number_up_to most w ≡ some v) where
  pub no_newline_in : Free newline w
  unfolding is_digit
  no_newline_in = number_free most newline refl w v s

  no_space_in : Free space w
  unfolding is_digit
  no_space_in = number_free most space refl w v s

  module _ (read others : List (List ℕ) → Option (List ℕ)) (reads : Reads most read others) where
    pub number_before_space : first_parts read (lines (w ++ space ∷ r)) ≡ prepended v (first_parts others (lines r))
    unfolding Option-elim
    number_before_space =
        before_space read w r no_newline_in no_space_in
        ∙ first_mapped (prepended v) refl (λ ws. read (w ∷ ws)) others
        (λ ws. reads w ws ∙ ap (λ o. Option-elim o none (λ n. prepended n (others ws))) s) (lines r)

    pub number_before_newline : first_parts read (lines (w ++ newline ∷ r)) ≡ prepended v (others [])
    unfolding Option-elim
    number_before_newline =
        before_newline read w r no_newline_in no_space_in ∙ reads w []
        ∙ ap (λ o. Option-elim o none (λ n. prepended n (others []))) s

-- a number that the byte e ends
cut_number : (most e : ℕ) (w r : List ℕ) → Free e w → number_cut most e (w ++ e ∷ r) ≡ Option-elim
    (number_up_to most w) none (λ n. some (number_before n r))
unfolding number_cut Option-elim
cut_number most e w r f = rw (cut_at e w r f)

pub record Found (most e : ℕ) (xs : List ℕ) (v : ℕ) (rest : List ℕ) : Type 0 where
  pub bytes : List ℕ
  pub text : xs ≡ bytes ++ e ∷ rest
  pub is_number : number_up_to most bytes ≡ some v

pub number_found : (most e : ℕ) (xs : List ℕ) (v : ℕ) (rest : List ℕ) → some (number_before v rest)
    ≡ number_cut most e xs
    → Found most e xs v rest
unfolding number_cut Option-elim
number_found most e xs v rest s = by_cut (cutting e xs)
  where
    by_number : (w r : List ℕ) → xs ≡ w ++ e ∷ r → (o : Option ℕ) → number_up_to most w ≡ o
        → some (number_before v rest) ≡ Option-elim o none (λ n. some (number_before n r)) → Found most e xs v rest
    by_number w r t none n u = absurd (some-ne-none _ u)
    by_number w r t (some m) n u =
        let same = some-injective _ _ u in
        record {
          bytes = w;
          text = t ∙ ap (λ q. w ++ e ∷ q) (sym (ap (λ c. c.rest) same));
          is_number = n ∙ ap some (sym (ap (λ c. c.value) same));
        }

    by_cut : Cutting e xs → Found most e xs v rest
    by_cut (whole f n) = absurd (some-ne-none _ (s ∙ rw n))
    by_cut (in_two w r t f) =
        by_number w r t (number_up_to most w) refl (s ∙ ap (number_cut most e) t ∙ cut_number most e w r f)

-- a part that is no number
no_number : (o : Option ℕ) (r : List ℕ) → Option-elim o none (λ n. some (number_before n r)) ≡ none → o ≡ none
unfolding Option-elim
no_number none r e = refl
no_number (some v) r e = absurd (some-ne-none _ e)

-- nothing is read where no number is the last part, or others must follow, and no number is before others, or none may
-- follow
pub nothing_read : (most : ℕ) (read others : List (List ℕ) → Option (List ℕ)) → Reads most read others → (xs : List ℕ)
    → (number_cut most newline xs ≡ none) ⊎ (others [] ≡ none)
    → (number_cut most space xs ≡ none) ⊎ ((w : List ℕ) (ws : List (List ℕ)) → others (w ∷ ws) ≡ none)
    → first_parts read (lines xs) ≡ none
unfolding Option-elim
nothing_read most read others reads xs last before = by_part (first_part xs) last before
  where
    nothing : (w : List ℕ) (ws : List (List ℕ)) → number_up_to most w ≡ none → read (w ∷ ws) ≡ none
    nothing w ws n = reads w ws ∙ ap (λ o. Option-elim o none (λ v. prepended v (others ws))) n

    then_none : (w : List ℕ) (ws : List (List ℕ)) → others ws ≡ none → read (w ∷ ws) ≡ none
    then_none w ws n = reads w ws ∙ ap (λ o. Option-elim (number_up_to most w) none (λ v. prepended v o)) n
        ∙ by_number (number_up_to most w)
      where
        by_number : (o : Option ℕ) → Option-elim o none (λ v. prepended v none) ≡ none
        by_number none = refl
        by_number (some v) = refl

    by_part : FirstPart xs → (number_cut most newline xs ≡ none) ⊎ (others [] ≡ none)
        → (number_cut most space xs ≡ none) ⊎ ((w : List ℕ) (ws : List (List ℕ)) → others (w ∷ ws) ≡ none)
        → first_parts read (lines xs) ≡ none
    by_part (no_line f) l b = no_whole_line read xs f
    by_part (only_part w r t f g) (inl n) b =
        rw t (before_newline read w r f g)
        ∙ nothing w [] (no_number _ r (sym (cut_number most newline w r f) ∙ sym (ap (number_cut most newline) t)
        ∙ n))
    by_part (only_part w r t f g) (inr n) b = rw t (before_newline read w r f g) ∙ then_none w [] n
    by_part (part_before w r t f g) l (inl n) =
        rw t (before_space read w r f g)
        ∙ first_none (λ ws. read (w ∷ ws))
        (λ p ps. nothing w (p ∷ ps)
        (no_number _ r (sym (cut_number most space w r g) ∙ sym (ap (number_cut most space) t) ∙ n))) (lines r)
    by_part (part_before w r t f g) l (inr n) =
        rw t (before_space read w r f g) ∙ first_none (λ ws. read (w ∷ ws)) (λ p ps. then_none w (p ∷ ps) (n p ps))
        (lines r)

-- numbers before the others
abbrev pub appended : List ℕ → Option (List ℕ) → Option (List ℕ)
appended ns o = Option-elim o none (λ ms. some (ns ++ ms))

appended_none : (o : Option (List ℕ)) → o ≡ appended [] o
unfolding Option-elim
appended_none none = refl
appended_none (some ms) = refl

appended_one : (ns : List ℕ) (v : ℕ) (o : Option (List ℕ)) → appended ns (prepended v o) ≡ appended (ns ++ v ∷ []) o
unfolding Option-elim
appended_one ns v none = refl
appended_one ns v (some ms) = ap some (sym (append_assoc ns (v ∷ []) ms))

-- the line at `at` starts with the numbers ns, and goes on at `from` with what `those` takes
pub record GoesOn (read those : List (List ℕ) → Option (List ℕ)) (xs : List ℕ) (at from : ℕ) (ns : List ℕ) : Type 0
  where
    pub numbers : first_parts read (lines (drop at xs)) ≡ appended ns (first_parts those (lines (drop from xs)))
    pub next : drop 1 (lines (drop at xs)) ≡ drop 1 (lines (drop from xs))
    pub onward : at ≤ from

pub starts_there : (read : List (List ℕ) → Option (List ℕ)) (xs : List ℕ) (at : ℕ) → GoesOn read read xs at at []
starts_there read xs at = record { numbers = appended_none _; next = refl; onward = omega arith }

module _ (read those : List (List ℕ) → Option (List ℕ)) (xs : List ℕ) (at from : ℕ) (ns : List ℕ)
    (so_far : GoesOn read those xs at from ns) where
  -- nothing stands there
  pub nothing_more : none ≡ first_parts those (lines (drop from xs)) → none ≡ first_parts read (lines (drop at xs))
  unfolding Option-elim
  nothing_more e = sym (so_far.numbers ∙ ap (appended ns) (sym e))

  module _ (most : ℕ) (others : List (List ℕ) → Option (List ℕ)) (reads : Reads most those others) where
    -- one more number, which a space ends
    pub number_more : (v next : ℕ) → NumberMet most space xs from v next → GoesOn read others xs at next (ns ++ v ∷ [])
    number_more v next m =
        let found = number_found most space (drop from xs) v (drop next xs) m.number in
        record {
          numbers = so_far.numbers
              ∙ ap (appended ns) (ap (λ t. first_parts those (lines t)) found.text
              ∙ number_before_space most v found.bytes (drop next xs) found.is_number those others reads)
              ∙ appended_one ns v _;
          next = so_far.next ∙ ap (λ t. drop 1 (lines t)) found.text ∙ next_behind found.bytes (drop next xs)
              (no_newline_in most v found.bytes (drop next xs) found.is_number);
          onward = omega (arith, so_far.onward, m.right);
        }

    -- the last one, which the newline ends
    pub last_number : others [] ≡ some [] → (v next : ℕ) → NumberMet most newline xs from v next
        → PartsMet read xs at (ns ++ v ∷ []) next
    unfolding Option-elim
    last_number ends v next m =
        let found = number_found most newline (drop from xs) v (drop next xs) m.number in
        record {
          numbers = sym (so_far.numbers ∙ ap (appended ns) (ap (λ t. first_parts those (lines t)) found.text
              ∙ number_before_newline most v found.bytes (drop next xs) found.is_number those others reads
              ∙ ap (prepended v) ends));
          rest = sym (so_far.next ∙ ap (λ t. drop 1 (lines t)) found.text
              ∙ rw (lines_at found.bytes (drop next xs) (no_newline_in most v found.bytes (drop next xs)
              found.is_number)));
          right = (omega (arith, so_far.onward, m.right), m.right.1);
        }

    -- no number
    pub no_number_more : (number_cut most newline (drop from xs) ≡ none) ⊎ (others [] ≡ none)
        → (number_cut most space (drop from xs) ≡ none)
        ⊎ ((w : List ℕ) (ws : List (List ℕ)) → others (w ∷ ws) ≡ none)
        → none ≡ first_parts read (lines (drop at xs))
    no_number_more last before = nothing_more (sym (nothing_read most those others reads (drop from xs) last before))
