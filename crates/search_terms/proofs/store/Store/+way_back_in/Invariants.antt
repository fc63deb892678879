-- Each call within has less depth.
use Rattle.search_terms.proofs.store.Store.+way_back_in.Given as goal

abbrev pub decreases-way_back_in : goal.decreases-way_back_in
decreases-way_back_in l = l.depth
