-- Each call within has less depth.
use Rattle.search_terms.proofs.store.Store.+scatter_in.Given as goal

abbrev pub decreases-scatter_in : goal.decreases-scatter_in
decreases-scatter_in l = l.depth
