-- What passes test 6, an instruction's target, on every list of nodes.
use Prim.Native.Nat.{ℕ, ◌≤◌}
use mathlib.Core.Path.{◌≡◌}
use native.Mathlib.Omega.{arith}
use lib.Dec.{T}
use Rattle.common.specs.NodeKinds.{instruction_kind}
use Rattle.common.specs.NodeTests.{target_test}
use Rattle.xpath.specs.Document.{Document, kind_at, name_at}
use Rattle.xpath.specs.Axis.{passes}
use Rattle.common.proofs.Reflect.{facts}

-- what passes is an instruction, and its name is the target, which is from 1
pub has_target : (a c : ℕ) (d : Document) (y : ℕ) → T (passes a target_test c d y) →
    (kind_at d y ≡ instruction_kind) × (1 ≤ c) × (name_at d y ≡ c)
unfolding passes
has_target a c d y t = let r = simp facts at t in (r.0.0, r.0.1, r.1)

-- every such instruction passes
pub target_passes : (a c : ℕ) (d : Document) (y : ℕ) → kind_at d y ≡ instruction_kind → 1 ≤ c → name_at d y ≡ c →
    T (passes a target_test c d y)
unfolding passes
target_passes a c d y k l n = simp facts ((k, l), n)

-- one without a target passes for no c
pub without_target : (a c : ℕ) (d : Document) (y : ℕ) → name_at d y ≡ 0 → ¬ (T (passes a target_test c d y))
without_target a c d y e t = let (k, l, n) = has_target a c d y t in omega arith
