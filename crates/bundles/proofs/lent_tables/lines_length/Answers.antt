-- `lines_length` meets its contract.
use Prim.Native.Nat.{◌+◌}
use mathlib.Core.Path.{◌≡◌, sym, ◌∙◌}
use native.Mathlib.Omega.{arith}
use Rattle.std.proofs.Common.{rules, sum_by}
use lib.ListN.{length}
use Rattle.lines.specs.Written.{decimal}
use Rattle.bundles.specs.private.TablesPut.{numbers_length}
use Rattle.bundles.proofs.LentTables.{numbers_sum, numbers_short}
use Rattle.bundles.proofs.lent_tables.lines_length.Goals as goal

pub returns : goal.returns
returns c =
    let ns = c.args.numbers.now in
    let told : c.sum.result ≡ sum_by (λ n. length (decimal n) + 1) ns = search rules in
    let all : c.sum.result ≡ numbers_length ns = told ∙ sym (numbers_sum ns) in
    (all, omega (arith, numbers_short ns (λ k. omega (arith, c.type_inv.numbers k))))
