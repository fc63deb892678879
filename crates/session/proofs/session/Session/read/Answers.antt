-- `Session::read` meets its contract.
use mathlib.Core.Path.{ap, ◌∙◌}
use Rattle.session.specs.private.Parts.{refused_by}
use Rattle.session.proofs.ReadMade.{read_met}
use Rattle.session.proofs.session.Session.read.Goals as goal

pub returns-in-Ok-clause-met : goal.returns-in-Ok-clause-met
returns-in-Ok-clause-met c =
    let told = rw (← c.self-3.view_is) at c.in-Ok.ensures.told in
    rw (← c.self-3.view_is) (read_met _ _ told)

pub returns-in-Err-clause-met : goal.returns-in-Err-clause-met
returns-in-Err-clause-met c =
    let e = c.in-Err.refused in
    let fresh = c.self-in-Err.view_is ∙ c.new-in-Err.ensures in
    read_met _ _ (ap (λ s. record { answer = (refused_by e).answer; session = s }) fresh ∙ c.in-Err.ensures.told)
