-- Each call within has less depth.
use Rattle.search_forms.proofs.forms.Forms.+emptied.Given as goal

abbrev pub decreases-emptied : goal.decreases-emptied
decreases-emptied l = l.depth
