-- Each call within has less depth.
use Rattle.search_forms.proofs.forms.Forms.+negated.Given as goal

abbrev pub decreases-negated : goal.decreases-negated
decreases-negated l = l.depth
