-- Each call within has less depth.
use Rattle.search_terms.proofs.store.Store.+extract_in.Given as goal

abbrev pub decreases-extract_in : goal.decreases-extract_in
decreases-extract_in l = l.depth
