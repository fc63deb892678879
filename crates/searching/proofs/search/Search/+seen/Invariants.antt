-- Each call within has less depth.
use Rattle.searching.proofs.search.Search.+seen.Given as goal

abbrev pub decreases-seen : goal.decreases-seen
decreases-seen l = l.depth
