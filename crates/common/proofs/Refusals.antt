-- What holds of every refusal.
use mathlib.Core.Path.{◌≡◌}
use native.Mathlib.Omega.{arith}
use Rattle.common.specs.declared.refusal.Refusal.{Refusal}
use Rattle.common.specs.declared.refusal.Refusal.TheVariants as Cases
use Rattle.common.specs.represent.Refusal.{refusal_number}

-- a refusal has a number
pub refusal_some : (r : Refusal) → ¬ (refusal_number r ≡ 0)
refusal_some Cases.BadKind h = omega (arith, h)
refusal_some (Cases.BadField n) h = omega (arith, h)
refusal_some Cases.TooDeep h = omega (arith, h)
refusal_some Cases.NoRule h = omega (arith, h)
refusal_some (Cases.BadSide n) h = omega (arith, h)
refusal_some (Cases.BadPremise n) h = omega (arith, h)
refusal_some Cases.NotYielded h = omega (arith, h)
refusal_some (Cases.BadDocument n) h = omega (arith, h)
refusal_some (Cases.BadArgument n) h = omega (arith, h)
refusal_some Cases.WrongForm h = omega (arith, h)
refusal_some Cases.TermsFull h = omega (arith, h)
refusal_some (Cases.AlreadyHeld n) h = omega (arith, h)
refusal_some Cases.StepsFull h = omega (arith, h)
refusal_some Cases.ShortMarks h = omega (arith, h)
refusal_some Cases.LimitPassed h = omega (arith, h)
refusal_some (Cases.ShortBuffer n) h = omega (arith, h)
refusal_some (Cases.BadName n) h = omega (arith, h)
refusal_some (Cases.OutsideGrammar n) h = omega (arith, h)
refusal_some (Cases.UnlistedName n) h = omega (arith, h)
refusal_some (Cases.BadPoint n) h = omega (arith, h)
refusal_some Cases.PointsFull h = omega (arith, h)
refusal_some (Cases.NotNext n) h = omega (arith, h)
refusal_some (Cases.BadRecord n) h = omega (arith, h)
refusal_some Cases.FullOrInUse h = omega (arith, h)
refusal_some Cases.BadLists h = omega (arith, h)
refusal_some (Cases.NotCovered n) h = omega (arith, h)
refusal_some (Cases.NoRecord n) h = omega (arith, h)
