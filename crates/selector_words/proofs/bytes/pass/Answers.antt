-- `pass` meets its contract: the first byte that fails the test is at the first such place.
use mathlib.Core.Bool.{not}
use mathlib.Core.Path.{ap, ◌∙◌}
use lib.ListN.{length}
use Prim.Native.Nat.{◌+◌}
use Rattle.std.specs.Prelude.{unwrap_or}
use Rattle.std.proofs.Common.{◌≡◌, rules, position, tests}
use Rattle.std.proofs.lemmas.Iterator.{YieldsList-from_slice}
use Rattle.std.proofs.lemmas.Iterator.Search.{position_from_yields_List}
use Rattle.selector_words.proofs.Scanned.{passed_over}
use Rattle.selector_words.proofs.bytes.pass.Goals as goal

pub returns : goal.returns
returns g c = λ p gives.
    let xs = c.rest-rest.result.now in
    let first : c.position.result ≡ position (λ b. not (p b)) xs =
    position_from_yields_List (λ b. not (p b)) _ _ c.position.result c.position.ensures.ran
    (YieldsList-from_slice _ (search rules)) (λ x b q k. search (rules, tests)) in
    passed_over p c.args.s.now c.args.at _ c.requires.at_in_bounds (rw (← c.rest-rest.ensures)
    (ap (λ n. c.args.at + n) (c.unwrap_or.ensures ∙ ap (λ o. unwrap_or o (length xs)) first)))
