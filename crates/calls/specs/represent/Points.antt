-- A session's points: of each its name, and how many rows and steps were held.
use Rattle.std.specs.Prelude.{ℕ, ◌-◌, ◌*◌, ◌<◌, ◌≡◌, min, List, [], ◌∷◌, ◌++◌, map, length, get_or, take, replicate}
use Rattle.std.specs.Prelude.{Option, Some, None, Result, Ok, Err}
use Rattle.common.specs.declared.refusal.Refusal.{Refusal}
use Rattle.calls.specs.declared.points.PointCounts.{PointCounts}
use Rattle.calls.specs.Book.{max_points, answer}
use Rattle.calls.specs.PointCall.{place_of, return_answer}
use Rattle.calls.specs.represent.Answers.{refusal_answer}

-- how many numbers a point has
abbrev pub point_width : ℕ
point_width = 3

abbrev pub counts : (name rows steps : ℕ) → PointCounts
counts n r p = record { name = n; rows = r; steps = p }

abbrev pub no_counts : PointCounts
no_counts = counts 0 0 0

-- the points of a list of numbers, three a point, without an incomplete last point
unfoldable pub counts_of : List ℕ → List PointCounts
counts_of [] = []
counts_of (n ∷ []) = []
counts_of (n ∷ r ∷ []) = []
counts_of (n ∷ r ∷ p ∷ xs) = counts n r p ∷ counts_of xs

-- three numbers as a point
abbrev pub counts_in : List ℕ → PointCounts
counts_in xs = counts (get_or xs 0 0) (get_or xs 1 0) (get_or xs 2 0)

-- the numbers of a point, in order
abbrev pub counts_numbers : PointCounts → List ℕ
counts_numbers c = c.name ∷ c.rows ∷ c.steps ∷ []

abbrev pub counts_names : List PointCounts → List ℕ
counts_names cs = map (λ c. c.name) cs

-- the point of the name n among points; zeros where there is none
abbrev pub point_named : List PointCounts → (n : ℕ) → PointCounts
point_named cs n = get_or cs (place_of (counts_names cs) n) no_counts

-- o is the first point of the name n among points, with its place, counted from 0; none where no point has that name
abbrev pub PointFound : Option (ℕ × PointCounts) → List PointCounts → (n : ℕ) → Type 0
PointFound None cs n = place_of (counts_names cs) n ≡ length cs
PointFound (Some found) cs n = (found.0 ≡ place_of (counts_names cs) n) × (found.1 ≡ point_named cs n)
    × (found.0 < length cs)

-- what a return to the point of the name n gives: the first point of that name with its place, counted from 0, or the
-- call's refusal
abbrev pub ReturnFound : Result (ℕ × PointCounts) Refusal → List PointCounts → (n : ℕ) → Type 0
ReturnFound (Ok found) cs n = (found.0 ≡ place_of (counts_names cs) n) × (found.1 ≡ point_named cs n)
    × (answer 0 0 ≡ return_answer (counts_names cs) n)
ReturnFound (Err r) cs n = refusal_answer r ≡ return_answer (counts_names cs) n

-- how many points a count says are held: one above the limit is read as the limit
abbrev pub points_counted : ℕ → ℕ
points_counted k = min k max_points

-- the numbers of the first k points, and these points
abbrev pub first_point_numbers : (k : ℕ) → List ℕ → List ℕ
first_point_numbers k xs = take (point_width * points_counted k) xs

abbrev pub first_points : (k : ℕ) → List ℕ → List PointCounts
first_points k xs = counts_of (first_point_numbers k xs)

-- the numbers with zeros from place k on
abbrev pub cleared : (k : ℕ) → List ℕ → List ℕ
cleared k xs = take k xs ++ replicate (length xs - k) 0
