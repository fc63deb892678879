-- Each call within has less depth.
use Rattle.searching.proofs.search.Search.+grouped.Given as goal

abbrev pub decreases-grouped : goal.decreases-grouped
decreases-grouped l = l.depth
