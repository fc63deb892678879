-- A tally with one file more.
use Prim.Native.Nat.{ℕ, ◌≤◌, ◌<◌}
use mathlib.Core.Path.{◌≡◌, refl, sym, ap, ◌∙◌}
use mathlib.Core.Bool.{Bool, true, false, cond, not, ◌&&◌}
use mathlib.Core.List.{List, []}
use lib.Dec.{leb}
use lib.ListN.{length}
use borrow.Author.Tests.{le-leb, lt-leb}
use Rattle.std.specs.Prelude.{is_ok}
use Rattle.calls.specs.Book.{accepted}
use Rattle.session.specs.represent.Results.{ReadResult}
use Rattle.session.specs.View.{view}
use Rattle.session.specs.Reading.{reading}
use Rattle.session.specs.ReadCall.{ReadMet}
use Rattle.tallies.specs.declared.Tally.{Tally}
use Rattle.common.specs.Limits.{max_bytes}
use Rattle.tallies.specs.Count.{File, file, is_accepted}
use Rattle.tallies.specs.represent.Tally.{tally, plus, plus_each, column_of, with_steps, with_file}

-- a file that is accepted or not leaves the one or the other tally
by_accepted : (t : Tally) (f : File) (b : Bool) → is_accepted f ≡ b
    → cond b (with_steps t (view (reading f.bytes).session).steps) t ≡ with_file t f
unfolding with_file
by_accepted t f b e = ap (λ (b : Bool). cond b (with_steps t (view (reading f.bytes).session).steps) t) (sym e)

by_tests : (failed : Bool) (bytes : List ℕ) (a b c : Bool)
    → failed ≡ a → leb (length bytes) max_bytes ≡ b → accepted (reading bytes).answer ≡ c
    → is_accepted (file failed bytes) ≡ (not a && b && c)
unfolding is_accepted
by_tests failed bytes a b c is-a is_b is_c = λ i. not (is-a i) && is_b i && is_c i

pub failed_left : (t : Tally) → t ≡ with_file t (file true [])
failed_left t = by_accepted t (file true []) false (by_tests true [] true _ _ refl refl refl)

module _ (t : Tally) (bytes : List ℕ) where
  pub long_left : max_bytes < length bytes → t ≡ with_file t (file false bytes)
  long_left h =
      by_accepted t (file false bytes) false
      (by_tests false bytes false false _ refl (lt-leb (length bytes) max_bytes h) refl)

  module _ (short : length bytes ≤ max_bytes) (r : ReadResult) (met : ReadMet bytes r) (b : Bool)
      (failed : is_ok r.answer ≡ not b)
    where
      counted_if : (c : Bool) → b ≡ c
          → cond (not c) (with_steps t (view (reading bytes).session).steps) t ≡ with_file t (file false bytes)
      counted_if c e =
          by_accepted t (file false bytes) (not c)
          (by_tests false bytes false true (not c) refl (le-leb (length bytes) max_bytes short)
          (sym met.variant ∙ failed ∙ ap not e))

      pub refused_left : b ≡ true → t ≡ with_file t (file false bytes)
      refused_left = counted_if true

      pub file_counted : b ≡ false → (us : List ℕ) (total : ℕ)
          → us ≡ plus_each t.uses (column_of (view r.session).steps)
          → total ≡ plus t.total (length (view r.session).steps)
          → tally us total ≡ with_file t (file false bytes)
      unfolding with_steps
      file_counted e us total is_us is-total =
          let column = is_us ∙ ap (λ s. plus_each t.uses (column_of (view s).steps)) met.session in
          let steps = is-total ∙ ap (λ s. plus t.total (length (view s).steps)) met.session in
          (λ i. tally (column i) (steps i)) ∙ counted_if false e
