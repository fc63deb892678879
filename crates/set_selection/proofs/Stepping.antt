-- Steps from sets, by the walk and the test.
use Prim.Native.Nat.{ℕ, suc, ◌≤◌, ◌<◌}
use mathlib.Core.Path.{◌≡◌, refl, sym, ap, ◌∙◌}
use mathlib.Core.Bool.{Bool, true, false, ◌&&◌, and-false}
use mathlib.Core.List.{List}
use native.Mathlib.Omega.{arith}
use lib.Dec.{ltb}
use lib.ListN.{length, get_or, replicate, length-replicate}
use borrow.Author.Tests.{lt-ltb}
use Rattle.std.specs.Prelude.{Some, None}
use Rattle.xpath.specs.Document.{Document, kind_at, name_at}
use Rattle.xpath.specs.Axis.{on_axis, passes}
use Rattle.xpath.specs.Term.{AxisStep}
use Rattle.xpath.specs.Meaning.{selects}
use Rattle.xpath.specs.private.Tests.{fits, Asks}
use Rattle.xpath.specs.declared.node_tests.StepTest.{StepTest}
use Rattle.set_selection.specs.Sets.{marked, Image, Pointwise}
use Rattle.documents.specs.Columns.{rows_of, Sound}
use Rattle.set_selection.proofs.Images.{image_cong, image_then, image_kept, image_none, no_marks_made}
use Rattle.documents.proofs.Fields.{rows_kind, rows_name}
use Rattle.set_selection.proofs.Relations.{size}

and_turned : (a b : Bool) → (a && b) ≡ (b && a)
and_turned true true = refl
and_turned true false = refl
and_turned false true = refl
and_turned false false = refl

module _ (ks ps ns es : List ℕ) (s : Sound ks ps ns es) (a t c : ℕ) (m : List Bool) (l : length m ≡ length ks) where
  fits_is : (test : StepTest) → Asks a t c (Some test) → (y : ℕ) →
      fits test (get_or ks y 0) (get_or ns y 0) ≡ passes a t c (rows_of ks ps ns) y
  fits_is test asks y =
      ap (λ (k : ℕ). fits test k (get_or ns y 0)) (sym (rows_kind ks ps ns s.parents_size s.names_size y))
      ∙ ap (λ (n : ℕ). fits test (kind_at (rows_of ks ps ns) y) n)
      (sym (rows_name ks ps ns s.parents_size s.names_size y))
      ∙ asks (rows_of ks ps ns) y

  pub stepped : (test : StepTest) → Asks a t c (Some test) → {walked out : List Bool} →
      Image (on_axis a (rows_of ks ps ns)) m walked →
      Pointwise walked out (λ y v. v && fits test (get_or ks y 0) (get_or ns y 0)) →
      Image (selects (rows_of ks ps ns) (AxisStep a t c)) m out
  unfolding selects
  stepped test asks u p =
      image_cong (image_then (λ y. fits test (get_or ks y 0) (get_or ns y 0)) u p)
      (λ x y h k. rw (lt-ltb y (length (rows_of ks ps ns)) (omega (arith, size ks ps ns es s, l, k)))
      (ap (λ (b : Bool). on_axis a (rows_of ks ps ns) x y && b) (fits_is test asks y)))

  pub stepped_back : (test : StepTest) → Asks a t c (Some test) → {kept out : List Bool} →
      Pointwise m kept (λ y v. v && fits test (get_or ks y 0) (get_or ns y 0)) →
      Image (λ x y. on_axis a (rows_of ks ps ns) y x) kept out →
      Image (λ x y. selects (rows_of ks ps ns) (AxisStep a t c) y x) m out
  unfolding selects
  stepped_back test asks p u =
      image_cong (image_kept (λ y. fits test (get_or ks y 0) (get_or ns y 0)) p u)
      (λ x y h k. and_turned (fits test (get_or ks x 0) (get_or ns x 0)) (on_axis a (rows_of ks ps ns) y x)
      ∙ rw (lt-ltb x (length (rows_of ks ps ns)) (omega (arith, size ks ps ns es s, l, h)))
      (ap (λ (b : Bool). on_axis a (rows_of ks ps ns) y x && b) (fits_is test asks x)))

  -- nothing is on the axis, or nothing passes the test
  step_none : ((x y : ℕ) → (on_axis a (rows_of ks ps ns) x y && passes a t c (rows_of ks ps ns) y) ≡ false) →
      (x y : ℕ) → selects (rows_of ks ps ns) (AxisStep a t c) x y ≡ false
  unfolding selects
  step_none f x y =
      ap (λ (b : Bool). ltb y (length (rows_of ks ps ns)) && b) (f x y) ∙ and-false (ltb y (length (rows_of ks ps ns)))

  pub stepped_none : ((x y : ℕ) → (on_axis a (rows_of ks ps ns) x y && passes a t c (rows_of ks ps ns) y) ≡ false) →
      (n : ℕ) → n ≡ length m → (out : List Bool) → out ≡ replicate n false →
      Image (selects (rows_of ks ps ns) (AxisStep a t c)) m out
  stepped_none f n e out o =
      rw o (image_none _ m (replicate n false) (no_marks_made n) (length-replicate {A = Bool} n false ∙ e)
      (λ x y h k. step_none f x y))

  pub back_none : ((x y : ℕ) → (on_axis a (rows_of ks ps ns) x y && passes a t c (rows_of ks ps ns) y) ≡ false) →
      (n : ℕ) → n ≡ length m → (out : List Bool) → out ≡ replicate n false →
      Image (λ x y. selects (rows_of ks ps ns) (AxisStep a t c) y x) m out
  back_none f n e out o =
      rw o (image_none _ m (replicate n false) (no_marks_made n) (length-replicate {A = Bool} n false ∙ e)
      (λ x y h k. step_none f y x))

pub past_axis : (a t c : ℕ) (d : Document) (x y : ℕ) → false ≡ on_axis a d x y →
    (on_axis a d x y && passes a t c d y) ≡ false
past_axis a t c d x y e = ap (λ (b : Bool). b && passes a t c d y) (sym e)

pub past_test : (a t c : ℕ) (d : Document) (x y : ℕ) → false ≡ passes a t c d y →
    (on_axis a d x y && passes a t c d y) ≡ false
past_test a t c d x y e = ap (λ (b : Bool). on_axis a d x y && b) (sym e) ∙ and-false (on_axis a d x y)
