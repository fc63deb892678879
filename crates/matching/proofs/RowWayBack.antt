-- One level of the way back on row numbers, and the ways through the code that finds it.
use Prim.Native.Nat.{ℕ, zero, suc, ◌<◌, ◌≤◌}
use mathlib.Core.Path.{◌≡◌, refl, sym, ◌∙◌, ap, subst, subst₂}
use mathlib.Core.Bool.{Bool, true, false, ◌&&◌, false≢true, and-false}
use mathlib.Core.List.{List, [], ◌∷◌}
use mathlib.Core.Logic.{⊎_elim}
use Rattle.std.proofs.Common.{Option, Some, None}
use native.Mathlib.Omega.{arith}
use lib.Dec.{eqb, ltb}
use lib.ListN.{length, get_or, set, take, replicate, length-take, get_or-eq_default}
use lib.Seq.{get_or-take}
use borrow.Author.Tests.{lt-ltb, le-ltb}
use Rattle.common.specs.RowKinds.{step_row, union_row, composition_row, filter_row}
use Rattle.common.proofs.Reflect.{le_or_lt}
use Rattle.terms.specs.Row.{Row, no_row, row_at}
use Rattle.terms.proofs.Entries.{entries_take, entry_at_lem, entry_past}
use Rattle.terms.proofs.Noted.{note_there, nothing_noted, noted_more}
use Rattle.common.specs.declared.row_kind.RowKind.{RowKind}
use Rattle.common.specs.declared.row_kind.RowKind.TheVariants as Kinds
use Rattle.common.specs.represent.Numbers.{row_number}
use Rattle.matching.specs.declared.matcher.Sides.{Sides}
use Rattle.matching.specs.declared.way_back.Reversal.{Reversal}
use Rattle.matching.specs.declared.way_back.Reversal.TheVariants.{Never, Always, Operands}
use Rattle.matching.specs.private.MatchTypes.{reversed_by, Reverses}
use Rattle.matching.specs.private.RowWayBack.{back_in, is_step_back, is_filter_back, is_back_by}
use Rattle.matching.specs.private.RowWayBack.{back_after, backs}
use Rattle.matching.specs.private.RowWayBack.{is_back, Noted, BackFound}

-- the entries before i are those of smaller rows
back_before : (bs : List (ℕ → Bool)) (i p q : ℕ) → back_in (take i bs) p q ≡ (ltb p i && back_in bs p q)
back_before bs i p q = ⊎_elim later earlier (le_or_lt i p)
  where
    later : i ≤ p → back_in (take i bs) p q ≡ (ltb p i && back_in bs p q)
    later h =
        ap (λ (f : ℕ → Bool). f q) (get_or-eq_default (take i bs) (λ j. false) (omega (arith, length-take i bs)))
        ∙ rw (le-ltb p i h) refl

    earlier : p < i → back_in (take i bs) p q ≡ (ltb p i && back_in bs p q)
    earlier h = ap (λ (f : ℕ → Bool). f q) (get_or-take i bs p (λ j. false) h) ∙ rw (lt-ltb p i h) refl

-- the entry of a kind that is known
pub kind_is : (bs : List Bool) {k n : ℕ} → k ≡ n → get_or bs k false ≡ get_or bs n false
kind_is bs e = ap (λ k. get_or bs k false) e

-- where no operand has a way back, a step alone can have one
step_alone : (b₂ b₃ b₄ b₅ : Bool) (k : ℕ) →
    get_or (false ∷ false ∷ b₂ ∷ (b₃ && false) ∷ (b₄ && false) ∷ (b₅ && false) ∷ []) k false ≡ true → k ≡ 2
step_alone b₂ b₃ b₄ b₅ zero q = absurd (false≢true q)
step_alone b₂ b₃ b₄ b₅ (suc zero) q = absurd (false≢true q)
step_alone b₂ b₃ b₄ b₅ (suc (suc zero)) q = refl
step_alone b₂ b₃ b₄ b₅ (suc (suc (suc zero))) q = absurd (false≢true (sym (and-false b₃) ∙ q))
step_alone b₂ b₃ b₄ b₅ (suc (suc (suc (suc zero)))) q = absurd (false≢true (sym (and-false b₄) ∙ q))
step_alone b₂ b₃ b₄ b₅ (suc (suc (suc (suc (suc zero))))) q = absurd (false≢true (sym (and-false b₅) ∙ q))
step_alone b₂ b₃ b₄ b₅ (suc (suc (suc (suc (suc (suc k)))))) q = absurd (false≢true q)

module _ (rs : List Row) where
  -- the test for operands of row i
  abbrev pub operand_back : ℕ → ℕ → ℕ → Bool
  operand_back i p q = ltb p i && is_back rs p q

  past_level : (i j : ℕ) → length rs ≤ i → is_back rs i j ≡ is_back_by rs (operand_back i) (row_at rs i) (row_at rs j)
  unfolding is_back backs is_back_by
  past_level i j h =
      ap (λ (f : ℕ → Bool). f j) (entry_past (back_after rs) (λ j. false) rs i h)
      ∙ rw (get_or-eq_default rs no_row h) refl

  held_level : (i j : ℕ) → i < length rs → is_back rs i j ≡ is_back_by rs (operand_back i) (row_at rs i) (row_at rs j)
  unfolding is_back backs
  held_level i j h =
      ap (λ (f : ℕ → Bool). f j) (entry_at_lem (back_after rs) (λ j. false) rs i h)
      ∙ ap (λ bs. back_after rs bs (row_at rs i) j) (entries_take (back_after rs) i rs)
      ∙ ap (λ back. is_back_by rs back (row_at rs i) (row_at rs j)) (λ k p q. back_before (backs rs) i p q k)

  -- one level: the operands are smaller rows
  pub back_level : (i j : ℕ) → is_back rs i j ≡ is_back_by rs (operand_back i) (row_at rs i) (row_at rs j)
  back_level i j = ⊎_elim (past_level i j) (held_level i j) (le_or_lt (length rs) i)

  module _ (x y : Row) where
    -- a row of another kind has no way back
    pub no_way_back : (back : ℕ → ℕ → Bool) → ¬ (x.kind ≡ step_row) → ¬ (x.kind ≡ union_row)
        → ¬ (x.kind ≡ composition_row) → ¬ (x.kind ≡ filter_row) →
        is_back_by rs back x y ≡ false
    unfolding is_back_by
    no_way_back back n₂ n₃ n₄ n₅ = by _ _ _ _ x.kind n₂ n₃ n₄ n₅
      where
        by : (b₂ b₃ b₄ b₅ : Bool) (k : ℕ) → ¬ (k ≡ step_row) → ¬ (k ≡ union_row) → ¬ (k ≡ composition_row)
            → ¬ (k ≡ filter_row) →
            get_or (false ∷ false ∷ b₂ ∷ b₃ ∷ b₄ ∷ b₅ ∷ []) k false ≡ false
        by b₂ b₃ b₄ b₅ zero n₂ n₃ n₄ n₅ = refl
        by b₂ b₃ b₄ b₅ (suc zero) n₂ n₃ n₄ n₅ = refl
        by b₂ b₃ b₄ b₅ (suc (suc zero)) n₂ n₃ n₄ n₅ = absurd (n₂ refl)
        by b₂ b₃ b₄ b₅ (suc (suc (suc zero))) n₂ n₃ n₄ n₅ = absurd (n₃ refl)
        by b₂ b₃ b₄ b₅ (suc (suc (suc (suc zero)))) n₂ n₃ n₄ n₅ = absurd (n₄ refl)
        by b₂ b₃ b₄ b₅ (suc (suc (suc (suc (suc zero))))) n₂ n₃ n₄ n₅ = absurd (n₅ refl)
        by b₂ b₃ b₄ b₅ (suc (suc (suc (suc (suc (suc k)))))) n₂ n₃ n₄ n₅ = refl

    pub other_kind : (k : RowKind) → row_number k ≡ x.kind → ¬ (k ≡ Kinds.Union) → ¬ (k ≡ Kinds.Composition)
        → ¬ (k ≡ Kinds.Filter) → ¬ (k ≡ Kinds.Step) → (back : ℕ → ℕ → Bool) → is_back_by rs back x y ≡ false
    unfolding is_back_by
    other_kind Kinds.Void e u c f s back = rw (← e) refl
    other_kind Kinds.Root e u c f s back = rw (← e) refl
    other_kind Kinds.Step e u c f s back = absurd (s refl)
    other_kind Kinds.Union e u c f s back = absurd (u refl)
    other_kind Kinds.Composition e u c f s back = absurd (c refl)
    other_kind Kinds.Filter e u c f s back = absurd (f refl)
    other_kind Kinds.True e u c f s back = rw (← e) refl
    other_kind Kinds.False e u c f s back = rw (← e) refl
    other_kind Kinds.Not e u c f s back = rw (← e) refl
    other_kind Kinds.And e u c f s back = rw (← e) refl
    other_kind Kinds.Or e u c f s back = rw (← e) refl
    other_kind Kinds.Inclusion e u c f s back = rw (← e) refl

  -- The noted rows.

  pub note_keeps : (xs : List (Option ℕ)) (i j : ℕ) → Noted rs xs → is_back rs i j ≡ true
      → Noted rs (set xs i (Some j))
  unfolding Noted
  note_keeps xs i j s e = noted_more (λ i j. is_back rs i j ≡ true) xs i j s e

  pub none_noted : (k : ℕ) → Noted rs (replicate k None)
  unfolding Noted
  none_noted k i j q = nothing_noted k i j q

  pub is_noted : (xs : List (Option ℕ)) (i j : ℕ) → Noted rs xs → get_or xs i None ≡ Some j
      → BackFound rs i j true xs
  unfolding Noted
  is_noted xs i j s there = record { answer = sym (s i j there); noted = s; found_noted = λ q n l. there }

  -- r is what is seen of rows i and j
  abbrev pub Seen : ℕ → ℕ → Reversal → Type 0
  Seen i j r = Reverses rs (row_at rs i) (row_at rs j) r

  pub seen_of : (i j k m : ℕ) (x y : Row) (r : Reversal) → k ≡ i → x ≡ row_at rs k → m ≡ j → y ≡ row_at rs m →
      Reverses rs x y r → Seen i j r
  seen_of i j k m x y r e ex f ey seen =
      subst₂ (λ (x y : Row). Reverses rs x y r) (ex ∙ ap (row_at rs) e) (ey ∙ ap (row_at rs) f) seen

  -- The ways of the search, after what is seen of rows i and j.
  module _ (i j : ℕ) (r : Reversal) (seen : Seen i j r) (xs : List (Option ℕ)) (noted : Noted rs xs) where
    level : is_back rs i j ≡ reversed_by (operand_back i) r
    unfolding Reverses
    level = back_level i j ∙ seen (operand_back i)

    not_back : is_back rs i j ≡ false → BackFound rs i j false xs
    not_back e = record { answer = sym e; noted = noted; found_noted = λ q n l. absurd (false≢true q) }

    pub never : r ≡ Never → BackFound rs i j false xs
    never e = not_back (level ∙ rw e)

    -- what is a way back whatever its operands are is a step's
    always_step : r ≡ Always → (row_at rs i).kind ≡ step_row
    unfolding Reverses is_back_by
    always_step e =
        let y : Row = row_at rs j in
        let q : is_back_by rs (λ p q. false) (row_at rs i) y ≡ true = seen (λ p q. false) ∙ rw e in
        step_alone (is_step_back rs (row_at rs i) y) (eqb y.kind 3) (eqb y.kind 4) (is_filter_back rs (row_at rs i) y)
        (row_at rs i).kind q

    pub always : r ≡ Always → BackFound rs i j true xs
    always e =
        record {
          answer = sym (level ∙ rw e);
          noted = noted;
          found_noted = λ q n l. absurd (n (always_step e));
        }

    module _ (s t : Sides) (e : r ≡ Operands s t) {b : Bool}
        (q : b ≡ (operand_back i s.left s.right && operand_back i t.left t.right)) where
      operands : is_back rs i j ≡ b
      operands =
          let seen : reversed_by (operand_back i) r
          ≡ (operand_back i s.left s.right && operand_back i t.left t.right) = rw e in
          level ∙ seen ∙ sym q

      pub operand_fails : b ≡ false → BackFound rs i j b xs
      operand_fails f = rw f (not_back (operands ∙ f))

      pub both_found : b ≡ true → {ys : List (Option ℕ)} → ys ≡ set xs i (Some j) → BackFound rs i j b ys
      both_found f p =
          let is_back_lem : is_back rs i j ≡ true = operands ∙ f in
          record {
            answer = sym operands;
            noted = subst (Noted rs) (sym p) (note_keeps xs i j noted is_back_lem);
            found_noted = λ _ _ l. note_there xs i j p l;
          }
