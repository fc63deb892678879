-- Whether a rule yields a step is decided.
use Rattle.std.specs.Prelude.{ℕ, List}
use Rattle.rules.specs.Claim.{Claim}
use Rattle.rules.specs.Yields.{Yields}
use Rattle.rules.specs.private.RuleFits.{rule_fits, yielded_yes, yes_yielded, decided}

-- rule n yields a step that says c, from premises that say cs, or it doesn't
unfoldable pub yields_dec : (n : ℕ) (c : Claim) (cs : List Claim) → Dec (Yields n c cs)
yields_dec n c cs = decided (rule_fits n c cs) (yielded_yes n c cs) (yes_yielded n c cs)
