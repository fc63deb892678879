-- The ways through the matcher's functions, over the results of their calls.
use Prim.Native.Nat.{ℕ, ◌<◌, ◌≤◌}
use mathlib.Core.Path.{◌≡◌, refl, sym, ◌∙◌, ap, subst}
use mathlib.Core.Bool.{Bool, true, false, not, cond, ◌||◌, false≢true, and-false}
use mathlib.Core.List.{List, [], ◌∷◌, map}
use native.Mathlib.Omega.{arith}
use lib.Dec.{eqb}
use lib.ListN.{length, get_or, take, set, get_or-map}
use borrow.Author.Tests.{lt-ltb, eq-eqb}
use Rattle.std.specs.Prelude.{Option, None, Some}
use Rattle.std.specs.Option.{unwrap_or}
use Rattle.std.proofs.lemmas.List.{map-set}
use Rattle.std.proofs.lemmas.Bool.{false_from_ne_true}
use Rattle.terms.specs.Row.{Row, row_at}
use Rattle.std.proofs.lemmas.Bool.{and_parts}
use Rattle.matching.specs.declared.matcher.Letters.{Letters}
use Rattle.matching.specs.declared.matcher.Sides.{Sides as CodeSides}
use Rattle.matching.specs.declared.pattern.Claim.{Claim}
use Rattle.rules.specs.Instance.{meets}
use Rattle.common.specs.Lists.{all_of}
use Rattle.matching.specs.private.Pattern.{Pattern, number, letter, row_pattern, letter_count, ClaimPattern}
use Rattle.matching.specs.private.Pattern.{FormPattern}
use Rattle.matching.specs.private.RowYields.{Match, check, bind, suits, is_row, match, match_claim, match_claims}
use Rattle.matching.specs.represent.Sides.{Sides}
use Rattle.matching.specs.private.RowYields.{numbers_in, match_form, form_yields}
use Rattle.matching.specs.private.PatternTypes.{claim_of}
use Rattle.matching.specs.private.MatchTypes.{has_value, value_or_0, values_in, matched, Matches}
use Rattle.matching.specs.represent.Sides.{sides_in}
use Rattle.matching.proofs.ListOfTwo.{map_two}

-- a value that a letter has is the one that it gets
pub bind_way : (k v : ℕ) (l : Letters) {old : ℕ} → k < letter_count → old ≡ unwrap_or (get_or l.values k None) v
    → Matches (eqb old v) (record { values = set l.values k (Some v) }) (bind k v (matched l))
unfolding bind
bind_way k v l {old} h q =
    let answer : eqb old v ≡ (not (get_or (matched l).known k false) || eqb (get_or (values_in l) k 0) v) =
    rw (get_or-map has_value l.values k None, get_or-map value_or_0 l.values k None, q)
    (by (get_or l.values k None)) in
    record {
      answer = rw (lt-ltb k letter_count h) answer;
      letters = λ t. rw (
        map-set has_value l.values k (Some v),
        map-set value_or_0 l.values k (Some v),
        lt-ltb k letter_count h,
        ← answer,
        t,
      );
    }
  where
    by : (o : Option ℕ) → eqb (unwrap_or o v) v ≡ (not (has_value o) || eqb (value_or_0 o) v)
    by None = eq-eqb v v refl
    by (Some n) = refl

-- the letters stay as they are
pub checked : (l : Letters) (b : Bool) → Matches b l (check b (matched l))
unfolding check
checked l b = record {
  answer = refl;
  letters = λ t. ap (λ b. record {
    fits = b;
    known = (matched l).known;
    value =
        values_in l;
  }) (sym t);
}

-- what fits after a comparison fitted before it
pub record Keeps (f : Match → Match) : Type 0 where
  before : (m : Match) → (f m).fits ≡ true → m.fits ≡ true

checked_before : (b : Bool) (m : Match) → (check b m).fits ≡ true → m.fits ≡ true
unfolding check
checked_before b m h = (and_parts m.fits b h).0

row_before : (b : Bool) (m₁ m : Match) → (m₁.fits ≡ true → m.fits ≡ true) → (cond b m₁ (check false m)).fits ≡ true
    → m.fits ≡ true
row_before true m₁ m q h = q h
row_before false m₁ m q h = checked_before false m h

module _ (rs : List Row) where
  pub match_keeps : (x : Pattern) (v : ℕ) → Keeps (match rs x v)
  unfolding match bind
  match_keeps (number n) v = record { before = checked_before (eqb v n) }
  match_keeps (letter k) v =
      record { before = λ m h. checked_before (suits rs k v) m (and_parts (check (suits rs k v) m).fits _ h).0 }
  match_keeps (row_pattern kind x y z) v =
      let r : Row = row_at rs v in
      let f = match_keeps x r.a in
      let g = match_keeps y r.b in
      let k = match_keeps z r.c in
      record { before = λ m h. row_before (is_row rs kind v) _ m (λ e. f.before m (g.before _ (k.before _ e))) h }

  pub claim_keeps : (w : ClaimPattern) (s : Sides) → Keeps (match_claim rs w s)
  unfolding match_claim
  claim_keeps w s =
      let f = match_keeps w.left s.left in
      let g = match_keeps w.right s.right in
      record { before = λ m h. f.before m (g.before _ h) }

  pub claims_keep : (ws : List ClaimPattern) (ss : List Sides) → Keeps (match_claims rs ws ss)
  unfolding match_claims
  claims_keep [] [] = record { before = λ m h. h }
  claims_keep [] (s ∷ ss) = record { before = checked_before false }
  claims_keep (w ∷ ws) [] = record { before = checked_before false }
  claims_keep (w ∷ ws) (s ∷ ss) =
      let f = claim_keeps w s in
      let g = claims_keep ws ss in
      record { before = λ m h. f.before m (g.before _ h) }

-- a comparison after one that fits goes on from its letters; after one that doesn't, it doesn't fit
module _ {f : Match → Match} (keeps : Keeps f) {b : Bool} {l : Letters} {m : Match} (h : Matches b l m) where
  pub goes_on : b ≡ true → {r : Bool} {l' : Letters} → Matches r l' (f (matched l)) → Matches r l' (f m)
  goes_on e {r} {l'} g = subst (λ m. Matches r l' (f m)) (h.letters e) g

  pub stops : b ≡ false → Matches b l (f m)
  stops e =
      record {
        answer =
            e ∙ sym (false_from_ne_true (f m).fits (λ t. absurd (false≢true (sym e ∙ h.answer ∙ keeps.before m t))));
        letters = λ t. absurd (false≢true (sym e ∙ t));
      }

module _ (rs : List Row) where
  -- a letter: what it can stand for, and then what it stands for
  module _ (k v : ℕ) (l : Letters) {b : Bool} (p : b ≡ suits rs k v) where
    pub letter_way : b ≡ true → {r : Bool} {l' : Letters} → Matches r l' (bind k v (matched l))
        → Matches r l' (match rs (letter k) v (matched l))
    unfolding match check
    letter_way e q = rw (← p, e) q

    pub other_letter_way : b ≡ false → Matches b l (match rs (letter k) v (matched l))
    unfolding match check bind
    other_letter_way e = rw (← p, e) (record { answer = refl; letters = λ t. absurd (false≢true t) })

  -- a row: its kind, and then its fields, one after the other
  module _ (kind v : ℕ) (x y z : Pattern) (m : Match) where
    pub row_way : {r : Row} → (is_row rs kind v ≡ true) × (r ≡ row_at rs v)
        → match rs z r.c (match rs y r.b (match rs x r.a m)) ≡ match rs (row_pattern kind x y z) v m
    unfolding match
    row_way e = rw (e.0, ← e.1)

    pub other_row_way : is_row rs kind v ≡ false → check false m ≡ match rs (row_pattern kind x y z) v m
    unfolding match
    other_row_way f = rw f

-- a form's premises, as many as there are
module _ (rs : List Row) (ss : List CodeSides) (l : Letters) where
  abbrev premises_matched : List Claim → Match
  premises_matched ws =
      match_claims rs (map claim_of ws) (take (length (map claim_of ws)) (map sides_in ss)) (matched l)

  pub no_premise : (ws : List Claim) → length ws < 1 → Matches true l (premises_matched ws)
  unfolding match_claims
  no_premise [] h = record { answer = refl; letters = λ _. refl }
  no_premise (w ∷ ws) h = absurd (omega arith)

  module _ (s : CodeSides) (two : length ss ≡ 2) where
    abbrev first_matched : Claim → List Claim → Match
    first_matched d ws = match_claim rs (claim_of (get_or ws 0 d)) (sides_in (get_or ss 0 s)) (matched l)

    pub one_premise : (d : Claim) (ws : List Claim) → 1 ≤ length ws → length ws < 2 → {b : Bool} {l₁ : Letters}
        → Matches b l₁ (first_matched d ws) → Matches b l₁ (premises_matched ws)
    unfolding match_claims
    one_premise d [] g h m = absurd (omega arith)
    one_premise d (w ∷ []) g h m = rw (map_two sides_in s ss two) m
    one_premise d (w ∷ v ∷ ws) g h m = absurd (omega arith)

    pub two_premises : (d : Claim) (ws : List Claim) → 2 ≤ length ws → length ws < 3 → {b : Bool} {l₁ : Letters}
        → Matches b l₁ (first_matched d ws) → b ≡ true → {r : Bool} {l₂ : Letters}
        → Matches r l₂ (match_claim rs (claim_of (get_or ws 1 d)) (sides_in (get_or ss 1 s)) (matched l₁))
        → Matches r l₂ (premises_matched ws)
    unfolding match_claims
    two_premises d [] g h m e n = absurd (omega arith)
    two_premises d (w ∷ []) g h m e n = absurd (omega arith)
    two_premises d (w ∷ v ∷ []) g h m e n =
        rw (map_two sides_in s ss two) (goes_on (claim_keeps rs (claim_of v) (sides_in (get_or ss 1 s))) m e n)
    two_premises d (w ∷ v ∷ u ∷ ws) g h m e n = absurd (omega arith)

    pub first_fails : (d : Claim) (ws : List Claim) → 2 ≤ length ws → length ws < 3 → {b : Bool} {l₁ : Letters}
        → Matches b l₁ (first_matched d ws) → b ≡ false → Matches b l₁ (premises_matched ws)
    unfolding match_claims
    first_fails d [] g h m e = absurd (omega arith)
    first_fails d (w ∷ []) g h m e = absurd (omega arith)
    first_fails d (w ∷ v ∷ []) g h m e =
        rw (map_two sides_in s ss two) (stops (claim_keeps rs (claim_of v) (sides_in (get_or ss 1 s))) m e)
    first_fails d (w ∷ v ∷ u ∷ ws) g h m e = absurd (omega arith)

    pub more_premises : (ws : List Claim) → 3 ≤ length ws → Matches false l (premises_matched ws)
    unfolding match_claims check
    more_premises [] h = absurd (omega arith)
    more_premises (w ∷ []) h = absurd (omega arith)
    more_premises (w ∷ v ∷ []) h = absurd (omega arith)
    more_premises (w ∷ v ∷ u ∷ ws) h =
        rw (map_two sides_in s ss two) (record { answer = sym (and-false _); letters = λ t. absurd (false≢true t) })

-- the letters that fit a form's conclusion and premises, and its conditions
module _ (rs : List Row) (s : Sides) (ss : List Sides) (w : FormPattern) {b : Bool} {l : Letters}
    (h : Matches b l (match_form rs s ss w)) where
  pub form_fits : b ≡ true → {r : Bool} → r ≡ all_of (meets (numbers_in (values_in l))) w.conditions
      → r ≡ form_yields rs s ss w
  unfolding form_yields
  form_fits e p = rw (← h.letters e) p

  pub form_fails : b ≡ false → b ≡ form_yields rs s ss w
  unfolding form_yields
  form_fails e = rw (← h.answer, e)
