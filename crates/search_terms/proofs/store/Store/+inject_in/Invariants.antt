-- Each call within has less depth.
use Rattle.search_terms.proofs.store.Store.+inject_in.Given as goal

abbrev pub decreases-inject_in : goal.decreases-inject_in
decreases-inject_in l = l.depth
