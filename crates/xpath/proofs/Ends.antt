-- The pass that closes the subtrees of a well-formed document where they end.
use Prim.Native.Nat.{ℕ, zero, suc, ◌-◌, ◌≤◌, ◌<◌}
use mathlib.Core.Path.{◌≡◌, refl, sym, subst, ◌∙◌}
use mathlib.Core.Bool.{◌&&◌}
use mathlib.Core.Logic.{◌⊎◌, ◌≢◌, inl, inr, ⊎_elim}
use mathlib.Core.List.{List}
use native.Mathlib.Omega.{arith}
use lib.Dec.{T, leb, ltb, ltb→lt, lt→ltb}
use lib.ListN.{length, get_or, set, replicate, length-set, length-replicate}
use lib.Seq.{get_or-set_same, get_or-set_other}
use mir.Facts.{and_yes, yes_and, leb_yes}
use Rattle.xpath.specs.Document.{Document, parent_at, is_ancestor, row_ok, well_formed}
use Rattle.common.specs.Bounded.{all_below}
use Rattle.xpath.specs.Climb.{above, parents_taken}
use Rattle.xpath.specs.represent.Check.{closed, closed_before, closed_in_turn}
use Rattle.xpath.specs.represent.Ends.{EndsAt, Ends, Filled}
use Rattle.common.proofs.Reflect.{tests_equal, eq_or_ne, le_or_lt}
use Rattle.xpath.proofs.Tree.{Ancestor, parent_is, ancestor_cases, ancestor_yes, row_facts}
use Rattle.xpath.proofs.Tree.{ancestor_smaller, yes_ancestor, subtree_contiguous}
use Rattle.xpath.proofs.Climbing.{count_least}
use Rattle.xpath.proofs.Facts.{AncestorOrSelf}
use Rattle.xpath.proofs.Order.{or_self_trans, ancestor_of_or_self, or_self_of_ancestor, or_self_le}

same_at : (n v x : ℕ) → x < n → get_or {A = ℕ} (replicate n v) x 0 ≡ v
same_at zero v x h = absurd (omega arith)
same_at (suc n) v zero h = refl
same_at (suc n) v (suc x) h = same_at n v x (omega arith)

pub filled_with : (n v : ℕ) → v ≤ n → Filled v (replicate n v)
filled_with n v l =
    record { room = omega (arith, length-replicate {A = ℕ} n v); all = λ x h. same_at n v x (omega arith) }

-- an ancestor-or-self of y that is not y is one of the parent of y
past_parent : {d : Document} {x y : ℕ} → x ≢ y → AncestorOrSelf d x y → AncestorOrSelf d x (parent_at d y)
past_parent ne (inl e) = absurd (ne e)
past_parent ne (inr a) = ⊎_elim (λ e. inl (sym e)) (λ b. inr b) (ancestor_cases a)

-- The pass has come to row `last`; `at` is that row or an ancestor of it, and all of its ancestors-or-selves that come
-- after `at` are closed. A row that is not closed has the number of rows for its end.
pub record Closing (d : Document) (last at : ℕ) (es : List ℕ) : Type 0 where
  pub room : length d ≤ length es
  pub inside : last < length d
  pub current : AncestorOrSelf d at last
  pub next : suc last < length d → AncestorOrSelf d (parent_at d (suc last)) at
  pub seen : (x : ℕ) → x ≤ last → (AncestorOrSelf d x at × (get_or es x 0 ≡ length d)) ⊎ EndsAt d x (get_or es x 0)
  pub rest : (x : ℕ) → last < x → x < length d → get_or es x 0 ≡ length d

module _ (d : Document) (w : T (well_formed d)) where
  -- a row's subtree ends after row k, which is in it or is the row itself, where the next row isn't
  ends_after : (x k : ℕ) → suc k ≤ length d → AncestorOrSelf d x k → (suc k < length d → ¬ (Ancestor d x (suc k))) →
      EndsAt d x (suc k)
  ends_after x k l o f =
      let h : x ≤ k = or_self_le d w (omega arith) o in
      record {
        after = omega arith;
        within = l;
        below = λ y m. tests_equal (is_ancestor d x y) (ltb x y && ltb y (suc k)) (
          λ t. let a = ancestor_yes d x y t in
              let g : x < y = ancestor_smaller d w m a in
              yes_and (ltb x y) (ltb y (suc k)) (lt→ltb x y g)
              (⊎_elim
              (λ p. let q : suc k < length d = omega arith in
              absurd (f q (subtree_contiguous d w x (suc k) y (omega arith) p m a)))
              (λ p. lt→ltb y (suc k) p)
              (le_or_lt (suc k) y)),
          λ t. let r = and_yes (ltb x y) (ltb y (suc k)) t in
              let g : x < y = ltb→lt x y r.0 in
              let p : y < suc k = ltb→lt y (suc k) r.1 in
              yes_ancestor d w x y m
              (⊎_elim
              (λ e. absurd (omega arith))
              (λ a. subtree_contiguous d w x y k g (omega arith) (omega arith) a)
              o),
        );
      }

  well_formed_positive : 0 < length d
  unfolding well_formed
  well_formed_positive = leb_yes (and_yes (leb 1 (length d)) (all_below (length d) (row_ok d)) w).0

  -- the parent of the next row is this row or an ancestor of it
  next_placed : (last : ℕ) → suc last < length d → AncestorOrSelf d (parent_at d (suc last)) last
  next_placed last l = (row_facts d w last l).0

  none_closed : (es : List ℕ) → Filled (length d) es → Closing d 0 0 es
  none_closed es f =
      record {
        room = f.room;
        inside = well_formed_positive;
        current = inl refl;
        next = next_placed 0;
        seen = λ x h. let l = well_formed_positive in inl (inl (omega arith), f.all x (omega arith));
        rest = λ x h l. f.all x (omega arith);
      }

  module _ (last at : ℕ) (es : List ℕ) (u : Closing d last at es) where
    at_le : at ≤ last
    at_le = or_self_le d w u.inside u.current

    -- the subtree of `at` ends before the next row, whose parent comes before `at`
    close_one : suc last < length d → parent_at d (suc last) < at →
        Closing d last (parent_at d at) (set es at (suc last))
    close_one l h =
        let k : at ≤ last = at_le in
        let up : Ancestor d (parent_at d at) at = parent_is {y = at} (omega arith) refl in
        let p : parent_at d (suc last) < length d = omega arith in
        let outside : ¬ (Ancestor d at (suc last)) = λ a.
        ⊎_elim (λ e. omega arith) (λ b. let g = ancestor_smaller d w p b in omega arith) (ancestor_cases a) in
        let inside : at < length es = omega (arith, u.room) in
        let e : get_or (set es at (suc last)) at 0 ≡ suc last = get_or-set_same es at (suc last) 0 inside in
        record {
          room = omega (arith, length-set es at (suc last), u.room);
          inside = u.inside;
          current = inr (ancestor_of_or_self up u.current);
          next = λ l. past_parent (λ e. omega arith) (u.next l);
          seen = λ x g. ⊎_elim
              (λ q. inr (subst (λ (z : ℕ). EndsAt d z (get_or (set es at (suc last)) z 0)) (sym q)
              (rw e (ends_after at last (omega arith) u.current (λ _. outside)))))
              (λ ne. let same = get_or-set_other es at x (suc last) 0 ne in
              ⊎_elim (λ o. inl (past_parent ne o.0, same ∙ o.1)) (λ r. inr (rw same r)) (u.seen x g))
              (eq_or_ne x at);
          rest = λ x g p. get_or-set_other es at x (suc last) 0 (λ q. omega arith) ∙ u.rest x g p;
        }

    -- the next row is a child of `at`
    next_row : suc last < length d → at ≤ parent_at d (suc last) → Closing d (suc last) (suc last) es
    next_row l h =
        let k : at ≤ last = at_le in
        let p : parent_at d (suc last) ≤ at = or_self_le d w (omega arith) (u.next l) in
        let e : parent_at d (suc last) ≡ at = omega arith in
        let up : Ancestor d at (suc last) = parent_is {y = suc last} (omega arith) e in
        record {
          room = u.room;
          inside = l;
          current = inl refl;
          next = next_placed (suc last);
          seen = λ x g. ⊎_elim
              (λ q. inl (inl q, u.rest x (omega arith) (omega arith)))
              (λ ne. ⊎_elim
              (λ o. inl (inr (or_self_of_ancestor o.0 up), o.1))
              (λ r. inr r)
              (u.seen x (omega arith)))
              (eq_or_ne x (suc last));
          rest = λ x g m. u.rest x (omega arith) m;
        }

    all_ends : length d ≤ suc last → (x : ℕ) → x < length d → EndsAt d x (get_or es x 0)
    all_ends l x h =
        let i : last < length d = u.inside in
        let n : suc last ≡ length d = omega arith in
        ⊎_elim
        (λ o. let inside = or_self_trans o.0 u.current in
        rw (o.1, ← n) (ends_after x last (omega arith) inside (λ g. absurd (omega arith))))
        (λ r. r)
        (u.seen x (omega arith))

    all_closed : length d ≤ suc last → Ends d es
    all_closed l = record { room = u.room; row = all_ends l }

  -- the climb toward the next row's parent leaves only rows whose subtrees end before that row
  close_left : (last : ℕ) (es : List ℕ) → Closing d last last es → suc last < length d → (k : ℕ) →
      k ≤ parents_taken d (parent_at d (suc last)) last →
      Closing d last (above d k last) (closed d last (suc last) k es)
  unfolding above closed
  close_left last es u l zero h = u
  close_left last es u l (suc k) h =
      let least = count_least d w (parent_at d (suc last)) last u.inside in
      let c = close_left last es u l k (omega arith) in
      close_one last (above d k last) _ c l (least.earlier k (omega arith))

  close_before : (last : ℕ) (es : List ℕ) → Closing d last last es → suc last < length d →
      Closing d (suc last) (suc last) (closed_before d (suc last) es)
  unfolding closed_before
  close_before last es u l =
      let least = count_least d w (parent_at d (suc last)) last u.inside in
      let c = close_left last es u l (parents_taken d (parent_at d (suc last)) last) (omega arith) in
      next_row last _ _ c l least.ends

  close_in_turn : (es : List ℕ) → Filled (length d) es → (last : ℕ) → last < length d →
      Closing d last last (closed_in_turn d (suc last) es)
  unfolding closed_in_turn closed_before
  close_in_turn es f zero l = none_closed es f
  close_in_turn es f (suc last) l = close_before last _ (close_in_turn es f last (omega arith)) l

  -- the pass finds the end of each subtree
  pub ends_found : (es : List ℕ) → Filled (length d) es → Ends d (closed_in_turn d (length d) es)
  ends_found es f =
      let l = well_formed_positive in
      let e : suc (length d - 1) ≡ length d = omega arith in
      subst (λ (n : ℕ). Ends d (closed_in_turn d n es)) e
      (all_closed (length d - 1) _ _ (close_in_turn es f (length d - 1) (omega arith)) (omega arith))
