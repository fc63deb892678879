-- The premises are the rows of both steps named.
use mathlib.Core.Path.{◌≡◌, ◌∙◌}
use borrow.Author.Rules.{rules}
use borrow.Author.Tests.{tests}
use Rattle.matching.specs.represent.Sides.{sides_in}
use Rattle.matching.proofs.ListOfTwo.{map_two}
use Rattle.calls.specs.StepCall.{premises_of, step_numbered}
use Rattle.calls.specs.represent.Tables.{steps_of}
use Rattle.calls.specs.Promises.{sides_of, row_yielded}
use Rattle.calls.proofs.Yielded.{sides_taken}
use Rattle.call_answers.proofs.step.is_yielded.Goals as goal

pub returns : goal.returns
unfolding row_yielded premises_of sides_of
returns c =
    let a = c.args in
    let ps = steps_of a.held.steps.now in
    let mapped = c.map-premises.ensures.items in
    let (q, i, s, i-is, s-is, called, rest) = mapped.each in
    let (r, j, t, j-is, t-is, called', z) = rest in
    let first : sides_in s ≡ sides_of (step_numbered ps i) = search (rules, tests) in
    let second : sides_in t ≡ sides_of (step_numbered ps j) = search (rules, tests) in
    let both = map_two sides_in s c.map-premises.result mapped.long in
    let done = c.yields.ensures in (
      done.0
          ∙ rw (both, s-is.1 s, t-is.1 s, first, second, ← i-is.0, ← j-is.0, sides_taken),
      done.1,
    )
