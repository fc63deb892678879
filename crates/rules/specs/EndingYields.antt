-- Rule 10, whose second premise ends in `*` or in node(): what it yields with either ending.
use Rattle.std.specs.Prelude.{ℕ, ◌&&◌, [], ◌∷◌, T, leb}
use Rattle.common.specs.Axes.{descendant, preceding}
use Rattle.xpath.specs.Term.{Path, AxisStep, Composition}
use Rattle.rules.specs.Claim.{Containment}
use Rattle.rules.specs.Instance.{Test}
use Rattle.rules.specs.Yields.{Yields}

-- for all paths u, v, axes x, y and tests n, m with their names, y from 3 to 10: rule 10 yields u/x::n <= v/y::m
-- from x::n <= y::m and u <= v/y::t, where t is a test without a name
abbrev pub EndingYields : ℕ → Type 0
EndingYields t =
    (u v : Path) (x y : ℕ) (n m : Test) → T (leb descendant y && leb y preceding) →
    Yields 10
    (Containment (Composition u (AxisStep x n.test n.name)) (Composition v (AxisStep y m.test m.name)))
    (Containment (AxisStep x n.test n.name) (AxisStep y m.test m.name) ∷ Containment u
    (Composition v (AxisStep y t 0)) ∷ [])
