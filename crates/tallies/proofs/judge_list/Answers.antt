-- `judge_list` meets its contract: the first line that passes the test is the first refused one.
use Rattle.std.proofs.Common.{◌≡◌, ◌≤◌, ◌<◌, ℕ, true, false, rules, tests, arith}
use Rattle.std.specs.Prelude.{MatchOption}
use Rattle.std.proofs.lemmas.Iterator.{first_from_Range}
use Rattle.tallies.specs.NameList.{is_bad_name}
use Rattle.tallies.proofs.Listed.{line_refused, all_taken}
use Rattle.tallies.proofs.judge_list.Goals as goal
use Rattle.tallies.proofs.judge_list.Goals.{After-find}

-- the search's result is the first line that passes the test
searched : (c : After-find) → let bad = is_bad_name c.args.opened.now in
    MatchOption c.find.result ((j : ℕ) → 0 ≤ j → j < c.count.result → bad j ≡ false)
    (λ k. (0 ≤ k) × (k < c.count.result) × (bad k ≡ true) × ((j : ℕ) → 0 ≤ j → j < k → bad j ≡ false))
searched c =
    let bad = is_bad_name c.args.opened.now in
    first_from_Range _ _ _ c.find.result (λ k. bad k ≡ true) (λ k. bad k ≡ false) c.find.ensures.ran
    (λ x q k. search (rules, tests)) (λ x q k. (search rules, search (rules, tests)))

pub overflow_add-result : goal.overflow_add-result
overflow_add-result c =
    let found = rw c.in-Some.is at (searched (goal.at.overflow_add-result c).After-find) in
    omega (arith, found.1, c.count.type_inv)

pub returns-in-Some : goal.returns-in-Some
returns-in-Some c =
    let found = rw c.in-Some.is at (searched (goal.at.returns-in-Some c).After-find) in
    line_refused c.args.list.now c.args.opened.now _ c.count.ensures c.in-Some.k found.1 found.2 found.3

pub returns-in-None : goal.returns-in-None
returns-in-None c =
    let found = rw c.in-None.is at (searched (goal.at.returns-in-None c).After-find) in
    all_taken c.args.list.now c.args.opened.now _ c.count.ensures found
