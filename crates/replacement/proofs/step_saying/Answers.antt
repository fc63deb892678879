-- `step_saying` meets its contract: the first step that passes the test says so.
use mathlib.Core.Path.{sym, ◌∙◌}
use native.Mathlib.Omega.{arith}
use lib.ListN.{length}
use Rattle.std.proofs.Common.{◌≡◌, rules, position, tests}
use Rattle.std.proofs.lemmas.Iterator.{YieldsList-from_slice}
use Rattle.std.proofs.lemmas.Iterator.Search.{position_from_yields_List}
use Rattle.common.specs.Bounded.{first_below}
use Rattle.calls.specs.represent.Tables.{book_held}
use Rattle.replacement.specs.private.Places.{IndexIs}
use Rattle.replacement.proofs.Saying.{has_rows, says_at, unheld, said_found, said_first, none_said}
use Rattle.replacement.proofs.step_saying.Goals as goal
use Rattle.replacement.proofs.step_saying.Goals.{After-position}

pub returns-then-not-is_held_path : goal.returns-then-not-is_held_path
returns-then-not-is_held_path c = unheld _ _ _ (sym c.is_held_path.ensures ∙ c.if-not-is_held_path.true)

-- the search's result is the first step that says so
searched : (c : After-position) → let b = book_held c.args.held in
    IndexIs c.position.result (first_below (length b.steps) (says_at b c.args.old c.args.new))
searched c =
    let a = c.args in
    let b = book_held a.held in
    let ps = c.whole_steps.result.now in
    let first : c.position.result ≡ position (has_rows b a.old a.new) ps =
    position_from_yields_List (has_rows b a.old a.new) _ _ c.position.result c.position.ensures.ran
    (YieldsList-from_slice _ c.iter.ensures.rest) (λ x b q k. search (rules, tests)) in
    rw first
    (said_found b a.old a.new (sym c.is_held_path.ensures ∙ c.if-not-is_held_path.false) ps c.whole_steps.ensures)

pub returns-in_err-place : goal.returns-in_err-place
returns-in_err-place c =
    let a = c.args in
    let found = searched (goal.at.returns-in_err-place c).After-position in
    rw c.from_residual.ensures (none_said (book_held a.held) a.old a.new (rw c.in_err-place.was at found))

pub returns : goal.returns
returns c =
    let a = c.args in
    let found = searched (goal.at.returns c).After-position in
    (said_first (book_held a.held) a.old a.new _ (rw c.in_ok-place.was at found), omega arith)
