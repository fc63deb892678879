-- The lines of a tally, one by one, and the uses with those of a session's steps.
use Prim.Native.Nat.{ℕ, zero, suc, ◌+◌, ◌≤◌, ◌<◌}
use mathlib.Core.Path.{◌≡◌, refl, sym, ap, subst, ◌∙◌}
use mathlib.Core.List.{List, [], ◌∷◌, map}
use mathlib.Core.Logic.{⊎_elim}
use native.Mathlib.Omega.{arith}
use denote.Param.Members.{Mut, Called}
use lib.ListN.{length, get_or, set, length-append, length-set, get_or-append}
use lib.Seq.{get_or_at, ext_get_or, get_or-set_same, get_or-set_other}
use Rattle.common.proofs.Reflect.{below_suc, eq_or_ne}
use Rattle.rules.specs.Yields.{max_rule}
use Rattle.calls.specs.Book.{Step}
use Rattle.calls.specs.Uses.{uses_of}
use Rattle.tallies.specs.Count.{entry, rule_entries, entries_by}
use Rattle.std.specs.Array.{IsFromFnResultFrom, IsFromFnResult}
use Rattle.std.proofs.lemmas.List.{length-map, get_or-map}
use Rattle.tallies.specs.declared.TallyLine.{TallyLine}
use Rattle.tallies.specs.declared.TallyLine.TheVariants.{Rule, Total}
use Rattle.tallies.specs.represent.Tally.{plus, plus_each, column_of, entry_of, no_entry, LineIs}
use Rattle.tallies.proofs.Each.{each_length, each_at, plus_length, plus_at}

rule_entries_length : (r : ℕ) (ns : List ℕ) → length (rule_entries r ns) ≡ length ns
unfolding rule_entries
rule_entries_length r [] = refl
rule_entries_length r (n ∷ ns) = ap suc (rule_entries_length (suc r) ns)

rule_entries_at : (r : ℕ) (ns : List ℕ) (j : ℕ) → j < length ns
    → get_or (rule_entries r ns) j no_entry ≡ entry (r + j) (get_or ns j 0)
unfolding rule_entries
rule_entries_at r [] j h = absurd (omega arith)
rule_entries_at r (n ∷ ns) zero h = let e : r ≡ r + 0 = omega arith in ap (λ k. entry k n) e
rule_entries_at r (n ∷ ns) (suc j) h =
    let e : suc r + j ≡ r + suc j = omega arith in
    rule_entries_at (suc r) ns j (omega arith) ∙ ap (λ k. entry k (get_or ns j 0)) e

lines_length : (us : List ℕ) (n : ℕ) → length us ≡ max_rule → length (entries_by us n) ≡ max_rule + 1
unfolding entries_by
lines_length us n size =
    omega (arith, length-append (rule_entries 1 us) (entry 0 n ∷ []), rule_entries_length 1 us)

-- a line of a rule, and the last line
module _ (us : List ℕ) (n k : ℕ) (size : length us ≡ max_rule) where
  pub rule_line : k < max_rule → LineIs (entries_by us n) k (Rule (k + 1) (get_or us k 0))
  unfolding entries_by
  rule_line h within =
      let place : k + 1 ≡ 1 + k = omega arith in
      let inside : k < length (rule_entries 1 us) = omega (arith, rule_entries_length 1 us) in
      ap (λ r. entry r (get_or us k 0)) place
      ∙ sym (get_or-append (rule_entries 1 us) (entry 0 n ∷ []) no_entry k inside
      ∙ rule_entries_at 1 us k (omega arith))

  pub total_line : max_rule ≤ k → LineIs (entries_by us n) k (Total n)
  unfolding entries_by
  total_line h within =
      let last : max_rule ≡ k = omega (arith, lines_length) in
      sym (get_or_at (rule_entries 1 us) (entry 0 n) [] no_entry k (rule_entries_length 1 us ∙ size ∙ last))

-- all of them
pub all_lines : (us : List ℕ) (n : ℕ) → length us ≡ max_rule → (ls : List TallyLine) → length ls ≡ max_rule + 1
    → ((k : ℕ) → k < max_rule + 1 → LineIs (entries_by us n) k (get_or ls k (Total 0)))
    → map entry_of ls ≡ entries_by us n
all_lines us n size ls long each =
    ext_get_or no_entry (map entry_of ls) (entries_by us n)
    (length-map ls entry_of ∙ long ∙ sym (lines_length us n size))
    (λ k h. let inside : k < length ls = omega (arith, length-map ls entry_of) in
    get_or-map entry_of ls k (Total 0) no_entry inside
    ∙ each k (omega arith) (omega (arith, lines_length us n size)))

-- what holds of each call of a function that stays as it is holds of each element that it makes
module _ {F B : Type 0} (g : Mut F (ℕ × Unit {0}) B) (P : ℕ → B → Type 0) (f : F)
    (called : (i : ℕ) (y : B) (q : F) → Called g f (i, tt) y q → P i y × (q ≡ f))
  where
    each_made : (n i : ℕ) (ys : List B) (s : F) → s ≡ f → IsFromFnResultFrom g s ys i n
        → (k : ℕ) (d : B) → i ≤ k → k < i + n → P k (get_or ys k d)
    each_made zero i ys s e made k d l h = absurd (omega arith)
    each_made (suc n) i ys s e (q, y, is, call, rest) k d l h =
        let one = called i y q (subst (λ (z : F). Called g z (i, tt) y q) e call) in
        ⊎_elim
        (λ same. subst (λ m. P m (get_or ys m d)) (sym same) (subst (P i) (sym (is.1 d)) one.0))
        (λ other. each_made n (i + 1) ys q one.1 rest k d (omega arith) (omega arith))
        (eq_or_ne k i)

    pub all_made : (n : ℕ) (ys : List B) → IsFromFnResult g f ys n → (k : ℕ) (d : B) → k < n → P k (get_or ys k d)
    all_made n ys made k d h = each_made n 0 ys f refl made.each k d (omega arith) (omega arith)

-- the first i of the uses us have those of the steps ps added, and are now vs
pub record AddedTo (us : List ℕ) (ps : List Step) (i : ℕ) (vs : List ℕ) : Type 0 where
  pub first : length us ≡ max_rule
  pub size : length vs ≡ max_rule
  pub done : (j : ℕ) → j < i → get_or vs j 0 ≡ plus (get_or us j 0) (uses_of (j + 1) ps)
  pub left : (j : ℕ) → i ≤ j → get_or vs j 0 ≡ get_or us j 0

module _ (us : List ℕ) (ps : List Step) where
  pub none_added : length us ≡ max_rule → AddedTo us ps 0 us
  none_added size = record { first = size; size = size; done = λ j h. absurd (omega arith); left = λ j h. refl }

  pub one_added : (i : ℕ) (vs : List ℕ) (v : ℕ) → AddedTo us ps i vs → i < max_rule
      → v ≡ plus (get_or vs i 0) (uses_of (i + 1) ps)
      → AddedTo us ps (i + 1) (set vs i v)
  one_added i vs v m h e =
      let here = ap (λ n. plus n (uses_of (i + 1) ps)) (m.left i (omega arith)) in
      record {
        first = m.first;
        size = length-set vs i v ∙ m.size;
        done = λ j l. ⊎_elim
            (λ q. rw q (get_or-set_same vs i v 0 (omega (arith, m.size)) ∙ e ∙ here))
            (λ g. let other : ¬ (j ≡ i) = λ q. omega arith in get_or-set_other vs i j v 0 other ∙ m.done j g)
            (below_suc (let g : j < suc i = omega arith in g));
        left = λ j l. let other : ¬ (j ≡ i) = λ q. omega arith in
            get_or-set_other vs i j v 0 other ∙ m.left j (omega arith);
      }

  pub all_added : (i : ℕ) (vs : List ℕ) → AddedTo us ps i vs → max_rule ≤ i → vs ≡ plus_each us (column_of ps)
  unfolding column_of
  all_added i vs m h =
      let column : length (column_of ps) ≡ max_rule = each_length 1 max_rule (λ r. uses_of r ps) in
      let same : length us ≡ length (column_of ps) = m.first ∙ sym column in
      ext_get_or 0 vs (plus_each us (column_of ps)) (m.size ∙ sym (plus_length us (column_of ps) same ∙ m.first))
      (λ j l. let inside : j < max_rule = omega (arith, m.size) in
      let rule : 1 + j ≡ j + 1 = omega arith in
      m.done j (omega arith)
      ∙ ap (plus (get_or us j 0)) (sym (each_at 1 max_rule (λ r. uses_of r ps) j inside ∙ ap (λ r. uses_of r ps) rule))
      ∙ sym (plus_at us (column_of ps) j same (omega (arith, m.first))))
