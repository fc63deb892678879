-- Terms: paths and qualifiers.
use Rattle.std.specs.Prelude.{ℕ}

mutual
  -- void, root, axis::test (a step of a path), p|q, p/q, p[f]; the name is 0 where the test takes none
  pub data Path : Type 0 where
    Void Root : Path
    AxisStep : (axis test name : ℕ) → Path
    Union Composition : Path → Path → Path
    Filter : Path → Qualifier → Path
    deriving Discrete as Path-discrete

  -- true, false, not f, f and g, f or g, p in q (the inclusion test)
  pub data Qualifier : Type 0 where
    True False : Qualifier
    Not : Qualifier → Qualifier
    And Or : Qualifier → Qualifier → Qualifier
    In : Path → Path → Qualifier
    deriving Discrete as Qualifier-discrete

-- "some p"
abbrev pub some_of : Path → Qualifier
some_of p = Not (In p Void)
