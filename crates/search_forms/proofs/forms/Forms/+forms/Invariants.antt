-- Each call within has less depth.
use Rattle.search_forms.proofs.forms.Forms.+forms.Given as goal

abbrev pub decreases-joined : goal.decreases-joined
decreases-joined l = l.depth

abbrev pub decreases-form_within : goal.decreases-form_within
decreases-form_within l = l.depth
