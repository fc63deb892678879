-- The lines of the tally after files.
use Prim.Native.Nat.{ℕ, ◌+◌, ◌≤◌}
use mathlib.Core.Path.{◌≡◌, refl, ap, ◌∙◌}
use mathlib.Core.Bool.{Bool, true, false, cond}
use mathlib.Core.List.{List, [], ◌∷◌}
use native.Mathlib.Omega.{arith}
use lib.ListN.{length}
use Rattle.rules.specs.Yields.{max_rule}
use Rattle.calls.specs.Book.{Step}
use Rattle.calls.specs.Uses.{uses_of}
use Rattle.session.specs.View.{view}
use Rattle.session.specs.Reading.{reading}
use Rattle.tallies.specs.declared.Tally.{Tally}
use Rattle.tallies.specs.NameList.{max_files}
use Rattle.tallies.specs.Count.{File, is_accepted, counted_steps, uses, total, each_rule, entries_by, entries}
use Rattle.tallies.specs.represent.Tally.{max_count, plus, plus_each, column_of, fresh_tally, with_steps, with_file}
use Rattle.tallies.specs.represent.Tally.{with_files, entries_of}
use Rattle.tallies.proofs.Each.{each_same, each_zero, each_plus, plus_fits}
use Rattle.tallies.proofs.AddsUp.{uses_below, total_few}

-- a tally that has u r for each rule r, and the total n
pub record Has (t : Tally) (u : ℕ → ℕ) (n : ℕ) : Type 0 where
  pub uses : t.uses ≡ each_rule u
  pub total : t.total ≡ n

-- as many steps more don't pass the largest count
record Room (u : ℕ → ℕ) (n : ℕ) (v : ℕ → ℕ) (m : ℕ) : Type 0 where
  pub uses : (r : ℕ) → u r + v r ≤ max_count
  pub total : n + m ≤ max_count

steps_added : (t : Tally) (u : ℕ → ℕ) (n : ℕ) (ps : List Step) → Has t u n → Room u n (λ r. uses_of r ps) (length ps)
    → Has (with_steps t ps) (λ r. u r + uses_of r ps) (n + length ps)
unfolding with_steps column_of
steps_added t u n ps has room =
    record {
      uses = ap (λ us. plus_each us (each_rule (λ r. uses_of r ps))) has.uses
          ∙ each_plus 1 max_rule u (λ r. uses_of r ps)
          ∙ each_same 1 max_rule _ _ (λ r. plus_fits (u r) (uses_of r ps) (room.uses r));
      total = ap (λ m. plus m (length ps)) has.total ∙ plus_fits n (length ps) room.total;
    }

nothing_added : (t : Tally) (u : ℕ → ℕ) (n : ℕ) → Has t u n → Has t (λ r. u r + 0) (n + 0)
nothing_added t u n has =
    record {
      uses = has.uses ∙ each_same 1 max_rule _ _ (λ r. let e : u r ≡ u r + 0 = omega arith in e);
      total = has.total ∙ omega arith;
    }

file_added : (t : Tally) (u : ℕ → ℕ) (n : ℕ) (f : File) → Has t u n
    → Room u n (λ r. uses_of r (counted_steps f)) (length (counted_steps f))
    → Has (with_file t f) (λ r. u r + uses_of r (counted_steps f)) (n + length (counted_steps f))
unfolding with_file counted_steps uses_of
file_added t u n f has room = by_test (is_accepted f) room
  where
    held : List Step
    held = (view (reading f.bytes).session).steps

    by_test : (b : Bool) → Room u n (λ r. uses_of r (cond b held [])) (length (cond b held []))
        → Has (cond b (with_steps t held) t) (λ r. u r + uses_of r (cond b held [])) (n + length (cond b held []))
    by_test true room = steps_added t u n held has room
    by_test false room = nothing_added t u n has

files_added : (t : Tally) (u : ℕ → ℕ) (n : ℕ) (fs : List File) → Has t u n → Room u n (λ r. uses r fs) (total fs)
    → Has (with_files t fs) (λ r. u r + uses r fs) (n + total fs)
unfolding with_files uses total
files_added t u n [] has room = nothing_added t u n has
files_added t u n (f ∷ fs) has room =
    let v : ℕ → ℕ = λ r. uses_of r (counted_steps f) in
    let m = length (counted_steps f) in
    let one = file_added t u n f has
    (record { uses = λ r. omega (arith, room.uses r); total = omega (arith, room.total) }) in
    let all = files_added (with_file t f) (λ r. u r + v r) (n + m) fs one
    (record { uses = λ r. omega (arith, room.uses r); total = omega (arith, room.total) }) in
    let one_sum : (r : ℕ) → (u r + v r) + uses r fs ≡ u r + (v r + uses r fs) = λ r. omega arith in
    record {
      uses = all.uses ∙ each_same 1 max_rule _ _ one_sum;
      total = all.total ∙ omega arith;
    }

fresh_has : Has fresh_tally (λ r. 0) 0
unfolding fresh_tally
fresh_has = record { uses = each_zero 1 max_rule; total = refl }

pub lines_are : (fs : List File) → length fs ≤ max_files → entries_of (with_files fresh_tally fs) ≡ entries fs
unfolding entries
lines_are fs few =
    let bound : total fs ≤ max_count = omega (arith, total_few fs) in
    let all = files_added fresh_tally (λ r. 0) 0 fs fresh_has
    (record { uses = λ r. omega (arith, uses_below r fs); total = omega arith }) in
    let column = all.uses ∙ each_same 1 max_rule _ _ (λ r. let e : 0 + uses r fs ≡ uses r fs = omega arith in e) in
    let steps : (with_files fresh_tally fs).total ≡ total fs = omega (arith, all.total) in
    λ i. entries_by (column i) (steps i)
