-- A step that says that one row is contained in another: what the search for it finds, and what it says of paths.
use Prim.Native.Nat.{ℕ, zero, suc, ◌<◌}
use mathlib.Core.Path.{◌≡◌, refl, sym, subst, ◌∙◌}
use mathlib.Core.Bool.{Bool, true, false, cond}
use mathlib.Core.List.{[], ◌∷◌}
use mathlib.Core.Logic.{◌↔◌, inl, ⊎_elim}
use mathlib.Core.Option.{Option, none, some, Option-elim, none-ne-some, some-injective}
use native.Mathlib.Omega.{arith}
use lib.Dec.{T}
use lib.ListN.{length}
use Rattle.common.specs.Bounded.{first_below}
use Rattle.common.proofs.Reflect.{true_iff}
use Rattle.common.proofs.Search.{none_iff}
use Rattle.xpath.specs.Term.{Path}
use Rattle.terms.specs.Fields.{held_path}
use Rattle.terms.specs.Terms.{path_at}
use Rattle.calls.specs.Book.{Book}
use Rattle.calls.proofs.Reached.{HeldLaws}
use Rattle.replacement.specs.Covered.{is_replaced, step_saying}
use Rattle.replacement.specs.NoneLost.{Some, paths_of, StepSays}
use Rattle.replacement.proofs.ByTerms.{replaced_iff}

-- the number that a search finds passes
found_passes : (f : ℕ → Bool) (n k : ℕ) → first_below n f ≡ some k → f k ≡ true
unfolding first_below Option-elim
found_passes f zero k e = absurd (none-ne-some k e)
found_passes f (suc n) k e = by_found (first_below n f) refl e (found_passes f n k)
  where
    by_test : (t : Bool) → f n ≡ t → cond t (some n) none ≡ some k → f k ≡ true
    by_test true q z = subst (λ j. f j ≡ true) (some-injective n k z) q
    by_test false q z = absurd (none-ne-some k z)

    by_found : (o : Option ℕ) → first_below n f ≡ o → Option-elim o (cond (f n) (some n) none) some ≡ some k
        → (first_below n f ≡ some k → f k ≡ true) → f k ≡ true
    by_found none q z before = by_test (f n) refl z
    by_found (some m) q z before = before (q ∙ z)

module _ (b : Book) (old new : ℕ) where
  abbrev says_at : ℕ → Bool
  says_at k = is_replaced b (new ∷ []) old (suc k)

  -- what the search finds passes, and where it finds nothing, nothing does
  pub saying_found : (i : ℕ) → step_saying b old new ≡ i → ¬ (i ≡ 0) → T (is_replaced b (new ∷ []) old i)
  unfolding step_saying Option-elim
  saying_found i e some-step = by_found (first_below (length b.steps) says_at) refl e
    where
      by_found : (o : Option ℕ) → first_below (length b.steps) says_at ≡ o → Option-elim o 0 suc ≡ i
          → T (is_replaced b (new ∷ []) old i)
      by_found none q z = absurd (some-step (sym z))
      by_found (some k) q z =
          subst (λ j. T (is_replaced b (new ∷ []) old j)) z
          ((true_iff (says_at k)).1 (found_passes says_at (length b.steps) k q))

  pub saying_none : step_saying b old new ≡ 0 → (k : ℕ) → k < length b.steps
      → is_replaced b (new ∷ []) old (suc k) ≡ false
  unfolding step_saying Option-elim
  saying_none e = by_found (first_below (length b.steps) says_at) refl e
    where
      by_found : (o : Option ℕ) → first_below (length b.steps) says_at ≡ o → Option-elim o 0 suc ≡ 0
          → (k : ℕ) → k < length b.steps → says_at k ≡ false
      by_found none q z = (none_iff says_at (length b.steps)).0 q
      by_found (some j) q z = absurd (omega (arith, z))

-- a step says that row `old` is contained in row `new`, two held paths, just where it says so of their paths
module _ (b : Book) (laws : HeldLaws b.rows b.steps) (old new i : ℕ) (old-held : T (held_path b.rows old))
    (new-held : T (held_path b.rows new))
  where
    abbrev Says : Path → Type 0
    Says = StepSays b i (path_at b.rows old)

    one_path : paths_of b.rows (new ∷ []) ≡ path_at b.rows new ∷ []
    unfolding paths_of
    one_path = rw ((true_iff (held_path b.rows new)).0 new-held)

    pub says_iff : T (is_replaced b (new ∷ []) old i) ↔ StepSays b i (path_at b.rows old) (path_at b.rows new)
    says_iff = (
      λ t. ⊎_elim (λ x. x) (λ x. absurd x) (subst (Some Says) one_path ((replaced_iff b laws (new ∷ []) old i).0 t).1),
      λ x. (replaced_iff b laws (new ∷ []) old i).1 (old-held, subst (Some Says) (sym one_path) (inl x)),
    )
