-- Where the book's laws hold, a row is replaced by a step just where the step says so of their terms, since two held
-- paths that are the same term are one row.
use Prim.Native.Nat.{ℕ, ◌-◌, ◌≤◌}
use mathlib.Core.Path.{◌≡◌, refl, sym, ap, subst, ◌∙◌}
use mathlib.Core.Bool.{Bool, true, false, cond, ◌&&◌}
use mathlib.Core.List.{List, [], ◌∷◌}
use mathlib.Core.Logic.{◌↔◌, inl, inr, ⊎_elim}
use native.Mathlib.Omega.{arith}
use lib.Dec.{T, leb, ltb, eqb, leb→le}
use lib.ListN.{length}
use mir.Facts.{and_yes, yes_and, or_yes, eqb_yes, yes_eqb, yes_leb}
use Rattle.common.specs.Lists.{any_of}
use Rattle.common.proofs.Reflect.{eq_iff, yes_or, true_iff}
use Rattle.xpath.specs.Term.{Path}
use Rattle.terms.specs.Row.{Row, row_at}
use Rattle.terms.specs.Fields.{is_path, held_path}
use Rattle.terms.specs.Terms.{path_at}
use Rattle.rules.specs.Claim.{Containment}
use Rattle.matching.proofs.Letters.{held_path_lem, same_path}
use Rattle.matching.proofs.RowYields.{says_paths}
use Rattle.calls.specs.Book.{Step, Book}
use Rattle.calls.specs.StepCall.{same_sort, step_numbered, claim_of}
use Rattle.calls.proofs.Premises.{SidesHeld}
use Rattle.calls.proofs.Reached.{HeldLaws}
use Rattle.calls.proofs.ByTerms.{path_held, containment_sides}
use Rattle.replacement.specs.Covered.{is_held_step, is_in, is_replaced}
use Rattle.replacement.specs.NoneLost.{Some, paths_of, StepSays, ReplacedByTerms}

module _ (rs : List Row) (P : Path → Type 0) where
  skipped : (held : Bool) (p : Path) (ps : List Path) → Some P ps → Some P (cond held (p ∷ ps) ps)
  skipped true p ps s = inr s
  skipped false p ps s = s

  -- a number of the list that is a held path is among its paths
  path_among : (n : ℕ) → T (held_path rs n) → P (path_at rs n) → (ns : List ℕ) → T (is_in ns n)
      → Some P (paths_of rs ns)
  unfolding is_in any_of paths_of
  path_among n held x [] t = absurd t
  path_among n held x (m ∷ ns) t =
      ⊎_elim
      (λ u. let e : m ≡ n = eqb_yes u in
      subst (λ j. Some P (cond (held_path rs j) (path_at rs j ∷ paths_of rs ns) (paths_of rs ns))) (sym e)
      (rw ((true_iff (held_path rs n)).0 held) (inl x)))
      (λ u. skipped (held_path rs m) (path_at rs m) (paths_of rs ns) (path_among n held x ns u))
      (or_yes (eqb m n) (any_of (λ j. eqb j n) ns) t)

  -- and each of its paths is that of such a number
  abbrev Found : List ℕ → Type 0
  Found ns = (n : ℕ) × T (is_in ns n) × T (held_path rs n) × P (path_at rs n)

  found_later : (m : ℕ) (ns : List ℕ) → Found ns → Found (m ∷ ns)
  unfolding is_in any_of
  found_later m ns (n, is-in, held, x) = (n, yes_or (eqb m n) (any_of (λ j. eqb j n) ns) (inr is-in), held, x)

  -- the first of them is that of m, if m is a held path; the others are found in the rest
  found_first : (m : ℕ) (ns : List ℕ) → (Some P (paths_of rs ns) → Found ns) → (held : Bool) → held_path rs m ≡ held
      → Some P (cond held (path_at rs m ∷ paths_of rs ns) (paths_of rs ns)) → Found (m ∷ ns)
  unfolding is_in any_of
  found_first m ns later true e s =
      ⊎_elim
      (λ x. let is-in = yes_or (eqb m m) (any_of (λ j. eqb j m) ns) (inl ((eq_iff m m).1 refl)) in
      (m, is-in, (true_iff (held_path rs m)).1 e, x))
      (λ s. found_later m ns (later s))
      s
  found_first m ns later false e s = found_later m ns (later s)

  path_found : (ns : List ℕ) → Some P (paths_of rs ns) → Found ns
  unfolding paths_of
  path_found [] s = absurd s
  path_found (m ∷ ns) s = found_first m ns (path_found ns) (held_path rs m) refl s

module _ (rs : List Row) where
  -- a row of the same sort as a path is a path
  right_path : (p : Step) → SidesHeld rs p → T (held_path rs p.left) → T (held_path rs p.right)
  unfolding held_path same_sort
  right_path p held t =
      let left = (true_iff (is_path (row_at rs p.left))).0
      (and_yes (ltb p.left (length rs)) (is_path (row_at rs p.left)) t).1 in
      path_held rs p.right held.right (rw left at held.one_sort_lem)

module _ (b : Book) (laws : HeldLaws b.rows b.steps) (new : List ℕ) (old i : ℕ) where
  abbrev saying : Step
  saying = step_numbered b.steps i

  abbrev says_from : Bool
  says_from = eqb saying.left old && held_path b.rows old

  replaced_said : T (is_replaced b new old i) → ReplacedByTerms b new old i
  unfolding is_replaced is_held_step claim_of
  replaced_said t =
      let (is_held_lem, rest) = and_yes (is_held_step b.steps i) (says_from && is_in new saying.right) t in
      let (is-from, is-in) = and_yes says_from (is_in new saying.right) rest in
      let (is-left, path) = and_yes (eqb saying.left old) (held_path b.rows old) is-from in
      let (from_one, to_last) = and_yes (leb 1 i) (leb i (length b.steps)) is_held_lem in
      let lower : 1 ≤ i = leb→le 1 i from_one in
      let upper : i ≤ length b.steps = leb→le i (length b.steps) to_last in
      let same : saying.left ≡ old = eqb_yes is-left in
      let left : T (held_path b.rows saying.left) = rw same path in
      let sides : SidesHeld b.rows saying = laws.sides (i - 1) (omega arith) in (
        path,
        path_among b.rows (StepSays b i (path_at b.rows old)) saying.right
            (right_path b.rows saying sides left) (
              lower,
              upper,
              says_paths b.rows saying.left saying.right left
                  ∙ ap (λ n. Containment (path_at b.rows n) (path_at b.rows saying.right)) same,
            )
            new is-in,
      )

  said_replaced : ReplacedByTerms b new old i → T (is_replaced b new old i)
  unfolding is_replaced is_held_step claim_of
  said_replaced (path, some-new) =
      let (n, is-in, held, says) = path_found b.rows (StepSays b i (path_at b.rows old)) new some-new in
      let lower : 1 ≤ i = says.0 in
      let upper : i ≤ length b.steps = says.1 in
      let sides : SidesHeld b.rows saying = laws.sides (i - 1) (omega arith) in
      let (is-path, from, to) = containment_sides b.rows saying.left saying.right _ _ says.2 in
      let left = path_held b.rows saying.left sides.left is-path in
      let right = right_path b.rows saying sides left in
      let same_left : saying.left ≡ old =
      same_path laws.built saying.left old (held_path_lem b.rows saying.left left)
      (held_path_lem b.rows old path)
      from in
      let same_right : saying.right ≡ n =
      same_path laws.built saying.right n (held_path_lem b.rows saying.right right) (held_path_lem b.rows n held)
      to in
      yes_and (is_held_step b.steps i) (says_from && is_in new saying.right)
      (yes_and (leb 1 i) (leb i (length b.steps)) (yes_leb lower) (yes_leb upper))
      (yes_and says_from (is_in new saying.right)
      (yes_and (eqb saying.left old) (held_path b.rows old) (yes_eqb same_left) path)
      (rw same_right is-in))

  pub replaced_iff : T (is_replaced b new old i) ↔ ReplacedByTerms b new old i
  replaced_iff = (replaced_said, said_replaced)
