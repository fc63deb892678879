-- Each call of `then` within has less depth; those of `cut` and of `fuse` by it less than its own.
use Rattle.std.proofs.Common.{◌+◌, ◌*◌}
use Rattle.shortening.proofs.shorten.Shortening.+shorten.Given as goal

abbrev pub decreases-then : goal.decreases-then
decreases-then l = 3 * l.depth

abbrev pub decreases-cut : goal.decreases-cut
decreases-cut l = 3 * l.depth + 2

abbrev pub decreases-fuse : goal.decreases-fuse
decreases-fuse l = 3 * l.depth + 1
