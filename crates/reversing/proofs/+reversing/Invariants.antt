-- What falls from call to call: the row that is reversed, and a row's parts before the row.
use Prim.Native.Nat.{◌+◌, ◌*◌}
use Rattle.reversing.proofs.+reversing.Given as goal

abbrev pub decreases-put_part : goal.decreases-put_part
decreases-put_part l = 2 * l.i

abbrev pub decreases-put_back : goal.decreases-put_back
decreases-put_back l = 2 * l.i + 1
