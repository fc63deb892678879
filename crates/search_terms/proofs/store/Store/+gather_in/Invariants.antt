-- Each call within has less depth.
use Rattle.search_terms.proofs.store.Store.+gather_in.Given as goal

abbrev pub decreases-gather_in : goal.decreases-gather_in
decreases-gather_in l = l.depth
