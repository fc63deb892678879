-- Each call within has less depth.
use Rattle.searching.proofs.search.Search.+contradiction.Given as goal

abbrev pub decreases-contradiction : goal.decreases-contradiction
decreases-contradiction l = l.depth
