-- `write_bundle` meets its contract: the buffer is left as the writer has it.
use mathlib.Core.Path.{ap, ◌∙◌}
use native.Mathlib.Omega.{arith}
use lib.ListN.{length}
use Rattle.std.proofs.Common.{rules}
use Rattle.bundles.proofs.Putting.{put_at_start}
use Rattle.bundles.proofs.write_bundle.Goals as goal

pub append_bundle-requires : goal.append_bundle-requires
append_bundle-requires c =
    let start = c.at_start-writer.ensures.start in
    omega (arith, c.requires, ap length start.0, start.1)

pub returns : goal.returns
returns c =
    let start = c.at_start-writer.ensures.start in
    search rules ∙ put_at_start c.requires (rw (start.0, start.1) at c.append_bundle.ensures.put)
