-- `line_end` meets its contract.
use mathlib.Core.Path.{ap, ◌∙◌}
use lib.Dec.{eqb}
use lib.ListN.{length}
use Rattle.std.specs.Prelude.{unwrap_or}
use Rattle.lines.specs.Line.{newline}
use Rattle.lines.proofs.First.{first_or_length}
use Rattle.lines.proofs.FirstLine.{first_ends}
use Rattle.lines.proofs.line_end.Goals as goal

pub returns : goal.returns
returns c =
    let rest = c.rest-rest.result.now in
    let size = c.unwrap_or.ensures ∙ ap (λ r. unwrap_or r (length rest)) c.find.ensures
    ∙ first_or_length (λ x. eqb x newline) rest ∙ first_ends rest in
    rw (← c.rest-rest.ensures, size)
