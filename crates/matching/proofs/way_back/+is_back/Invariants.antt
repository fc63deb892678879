-- `is_back` meets its contract: a measure, the row that is reversed, and the ways of RowWayBack.antt.
use Rattle.matching.proofs.way_back.+is_back.Given as goal

abbrev pub decreases-is_back : goal.decreases-is_back
decreases-is_back l = l.i
