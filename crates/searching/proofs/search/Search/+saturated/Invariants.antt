-- Each call within has less depth.
use Rattle.searching.proofs.search.Search.+saturated.Given as goal

abbrev pub decreases-saturated : goal.decreases-saturated
decreases-saturated l = l.depth
