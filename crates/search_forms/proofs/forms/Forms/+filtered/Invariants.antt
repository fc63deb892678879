-- Each call within has less depth.
use Rattle.search_forms.proofs.forms.Forms.+filtered.Given as goal

abbrev pub decreases-filtered : goal.decreases-filtered
decreases-filtered l = l.depth
