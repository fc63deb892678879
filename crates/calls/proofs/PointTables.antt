-- The points of a list of numbers, the place of a name, and numbers that are cleared.
use Prim.Native.Nat.{ℕ, ◌+◌, ◌*◌, ◌/◌, ◌≤◌, min}
use mathlib.Core.Path.{◌≡◌, refl, sym, ap, ◌∙◌}
use mathlib.Core.Bool.{Bool, true, false, cond}
use mathlib.Core.List.{List, [], ◌∷◌}
use native.Mathlib.Omega.{arith}
use lib.Dec.{eqb, leb}
use lib.ListN.{length, get_or, take, drop, length-take, length-map}
use Rattle.std.specs.Prelude.{◌<◌, Option, Some, None}
use Rattle.std.specs.List.{find, enumerate_from}
use Rattle.std.proofs.Common.{map, add-one}
use Rattle.std.proofs.lemmas.Bool.{le-leb}
use Rattle.std.specs.Simd.{first_chunks}
use Rattle.common.proofs.Chunks.{by_width, count_by_width}
use Rattle.calls.specs.Book.{max_points}
use Rattle.calls.specs.declared.points.PointCounts.{PointCounts}
use Rattle.calls.specs.PointCall.{place_of}
use Rattle.calls.specs.represent.Points.{counts_in, counts_of, counts_names, no_counts, point_width}
use Rattle.calls.specs.represent.Points.{first_point_numbers}
use Rattle.calls.specs.represent.Points.{first_points, PointFound}

-- a list has a first point where it has three numbers
one_point : (xs : List ℕ)
    → counts_of xs ≡ cond (leb 3 (length xs)) (counts_in (take 3 xs) ∷ counts_of (drop 3 xs)) []
unfolding counts_of
one_point [] = refl
one_point (n ∷ []) = refl
one_point (n ∷ r ∷ []) = refl
one_point (n ∷ r ∷ p ∷ xs) = rw (le-leb 3 (length (n ∷ r ∷ p ∷ xs)) (omega arith))

pub points_lent : (xs : List ℕ) → length (counts_of xs) ≡ length xs / 3
points_lent xs = count_by_width 3 counts_in counts_of one_point (length xs / 3) xs (omega arith) (omega arith)

-- the points are the numbers three by three
pub points_by_three : (n : ℕ) (xs : List ℕ) → n ≡ length xs / 3 → map counts_in (first_chunks 3 n xs) ≡ counts_of xs
points_by_three n xs e = by_width 3 counts_in counts_of one_point n xs (omega arith) (omega arith)

-- the first points are no more than the limit
pub few_points : (k : ℕ) (xs : List ℕ) → length (first_points k xs) ≤ max_points
few_points k xs =
    omega (arith, length-take (point_width * min k max_points) xs, points_lent (first_point_numbers k xs))

-- the place of a name
pub place_le : (names : List ℕ) (n : ℕ) → place_of names n ≤ length names
unfolding place_of
place_le [] n = omega arith
place_le (x ∷ xs) n = by_test (eqb x n) (place_le xs n)
  where
    by_test : (b : Bool) → place_of xs n ≤ length xs → cond b 0 (place_of xs n + 1) ≤ length (x ∷ xs)
    by_test true h = omega arith
    by_test false h = omega arith

pub names_count : (xs : List ℕ) → length (counts_names (counts_of xs)) ≡ length (counts_of xs)
names_count xs = length-map (counts_of xs) (λ c. c.name)

-- what a search for a point gives whose first one has the place n
abbrev FoundFrom : (n : ℕ) → Option (ℕ × PointCounts) → List PointCounts → (place : ℕ) → Type 0
FoundFrom n None cs place = place ≡ length cs
FoundFrom n (Some found) cs place = (found.0 ≡ n + place) × (found.1 ≡ get_or cs place no_counts) × (place < length cs)

found_from : (name n : ℕ) (cs : List PointCounts)
    → FoundFrom n (find (λ p. eqb p.1.name name) (enumerate_from n cs)) cs (place_of (counts_names cs) name)
unfolding place_of
found_from name n [] = refl
found_from name n (c ∷ cs) =
    by_test (eqb c.name name) (find (λ p. eqb p.1.name name) (enumerate_from (n + 1) cs)) (found_from name (n + 1) cs)
  where
    by_test : (b : Bool) (o : Option (ℕ × PointCounts)) → FoundFrom (n + 1) o cs (place_of (counts_names cs) name)
        → FoundFrom n (cond b (Some (n, c)) o) (c ∷ cs) (cond b 0 (place_of (counts_names cs) name + 1))
    by_test true o h = (omega arith, refl, omega arith)
    by_test false None h = omega (arith, h)
    by_test false (Some found) h = (
      omega (arith, h.0),
      h.1 ∙ sym (ap (λ i. get_or (c ∷ cs) i no_counts) (add-one (place_of (counts_names cs) name))),
      omega (arith, h.2),
    )

-- the first of the points with their places whose name it is
pub point_found : (cs : List PointCounts) (name : ℕ)
    → PointFound (find (λ p. eqb p.1.name name) (enumerate_from 0 cs)) cs name
point_found cs name = by_case (find (λ p. eqb p.1.name name) (enumerate_from 0 cs)) (found_from name 0 cs)
  where
    by_case : (o : Option (ℕ × PointCounts)) → FoundFrom 0 o cs (place_of (counts_names cs) name) → PointFound o cs name
    by_case None h = h
    by_case (Some found) h = (omega (arith, h.0), h.1, omega (arith, h.0, h.2))
