-- Each call within has less depth.
use Rattle.searching.proofs.search.Search.+into_union.Given as goal

abbrev pub decreases-into_union : goal.decreases-into_union
decreases-into_union l = l.depth
