-- Each call of `places` within has less depth; that of `places_from` by it has the same.
use Rattle.std.proofs.Common.{◌+◌, ◌*◌}
use Rattle.searching.proofs.search.Search.+places.Given as goal

abbrev pub decreases-places : goal.decreases-places
decreases-places l = 2 * l.depth + 1

abbrev pub decreases-places_from : goal.decreases-places_from
decreases-places_from l = 2 * l.depth
