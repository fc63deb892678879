-- Each call within has less depth.
use Rattle.searching.proofs.search.Search.+each.Given as goal

abbrev pub decreases-each : goal.decreases-each
decreases-each l = l.depth
