-- The functions that read an expression meet their contracts: what each reads is what the laws of StepLaws, PathLaws,
-- OperandLaws and ExpressionLaws say.
use mathlib.Core.Path.{refl, sym, ◌∙◌}
use mathlib.Core.Bool.{true, false}
use borrow.Author.Clash.{clash}
use native.Mathlib.Omega.{arith}
use Rattle.common.proofs.Errors.{err_is}
use Prim.Native.Nat.{◌<◌}
use Rattle.std.proofs.lemmas.Bool.{ne_eqb}
use borrow.Author.Tests.{not-true, not-false}
use Rattle.selector_readings.specs.private.Build.{stands, ended}
use Rattle.selector_readings.proofs.Worded.{and_word, or_word, first_joins, first_stays}
use Rattle.selector_reader.proofs.StepLaws.{enclosed_refused, enclosed, predicate_full, predicate_refused}
use Rattle.selector_reader.proofs.StepLaws.{predicate_joined}
use Rattle.selector_reader.proofs.StepLaws.{step_refused, step_head, step_filter, step_stopped, step_ends}
use Rattle.selector_reader.proofs.PathLaws.{begun, path_more, more_refused, path_ends, union_first, union_refused}
use Rattle.selector_reader.proofs.PathLaws.{union_more}
use Rattle.selector_reader.proofs.PathLaws.{union_ends}
use Rattle.selector_reader.proofs.OperandLaws.{unary_paths, paths_refused, unary_true, unary_false, unary_full}
use Rattle.selector_reader.proofs.OperandLaws.{enclosed_fails, unary_enclosed}
use Rattle.selector_reader.proofs.ExpressionLaws.{and_first, and_refused, and_stopped, and_more, or_first, or_refused}
use Rattle.selector_reader.proofs.ExpressionLaws.{or_stopped}
use Rattle.selector_reader.proofs.ExpressionLaws.{or_more, or_ends}
use Rattle.selector_reader.proofs.+expression.Goals as goal
use Rattle.selector_reader.proofs.+expression.Goals.{read_path-in-First+in_ok-got-in-First}
use Rattle.selector_reader.proofs.+expression.Goals.{read_path-in-Below+in_ok-step-in-Below}

pub read_and-loop-got-init : goal.read_and-loop-got-init
read_and-loop-got-init t c =
    and_first _ _ _ _ _ _ (stands c.in_ok-got.got) c.in_ok-got.ensures

pub read_and-returns-in_err-word : goal.read_and-returns-in_err-word
read_and-returns-in_err-word t c =
    let y = stands c.loop-got.got in
    let there = sym c.byte_at.ensures ∙ c.loop-got-test.true in
    rw (err_is c.from_residual-in_err-word.result c.from_residual-in_err-word.ensures.1)
    (and_refused _ _ _ _ _ _ y refl _ (and_word _ y _ refl there c.in_err-word.ensures) refl
    c.loop-got.invariant)

pub read_and-returns-in_err-right : goal.read_and-returns-in_err-right
read_and-returns-in_err-right t c =
    let y = stands c.loop-got.got in
    let there = sym c.byte_at.ensures ∙ c.loop-got-test.true in
    let word = stands c.in_ok-word.word in
    let passed = and_word _ y word refl there c.in_ok-word.ensures in
    rw (err_is c.from_residual-in_err-right.result c.from_residual-in_err-right.ensures.1)
    (and_stopped _ _ _ _ _ _ y refl word passed _ _ refl c.in_err-right.ensures refl c.loop-got.invariant)

pub read_and-loop-got-preserved : goal.read_and-loop-got-preserved
read_and-loop-got-preserved t c =
    let y = stands c.loop-got.got in
    let there = sym c.byte_at.ensures ∙ c.loop-got-test.true in
    let word = stands c.in_ok-word.word in
    let passed = and_word _ y word refl there c.in_ok-word.ensures in
    and_more _ _ _ _ _ _ y refl word passed _ (stands c.in_ok-right.right) _ (stands c.join-got.result) refl
    c.in_ok-right.ensures (rw c.into.ensures at c.join-got.ensures) c.loop-got.invariant

pub read_or-loop-got-init : goal.read_or-loop-got-init
read_or-loop-got-init t c =
    or_first _ _ _ _ _ _ (stands c.in_ok-got.got) c.in_ok-got.ensures

pub read_or-returns-in_err-word : goal.read_or-returns-in_err-word
read_or-returns-in_err-word t c =
    let y = stands c.loop-got.got in
    let there = sym c.byte_at.ensures ∙ c.loop-got-test.true in
    rw (err_is c.from_residual-in_err-word.result c.from_residual-in_err-word.ensures.1)
    (or_refused _ _ _ _ _ _ y refl _ (or_word _ y _ refl there c.in_err-word.ensures) refl
    c.loop-got.invariant)

pub read_or-returns-in_err-right : goal.read_or-returns-in_err-right
read_or-returns-in_err-right t c =
    let y = stands c.loop-got.got in
    let there = sym c.byte_at.ensures ∙ c.loop-got-test.true in
    let word = stands c.in_ok-word.word in
    let passed = or_word _ y word refl there c.in_ok-word.ensures in
    rw (err_is c.from_residual-in_err-right.result c.from_residual-in_err-right.ensures.1)
    (or_stopped _ _ _ _ _ _ y refl word passed _ _ refl c.in_err-right.ensures refl c.loop-got.invariant)

pub read_or-loop-got-preserved : goal.read_or-loop-got-preserved
read_or-loop-got-preserved t c =
    let y = stands c.loop-got.got in
    let there = sym c.byte_at.ensures ∙ c.loop-got-test.true in
    let word = stands c.in_ok-word.word in
    let passed = or_word _ y word refl there c.in_ok-word.ensures in
    or_more _ _ _ _ _ _ y refl word passed _ (stands c.in_ok-right.right) _ (stands c.join-got.result) refl
    c.in_ok-right.ensures (rw c.into.ensures at c.join-got.ensures) c.loop-got.invariant

pub read_or-returns : goal.read_or-returns
read_or-returns t c =
    or_ends _ _ _ _ _ _ (stands c.loop-got.got)
    (λ _. ne_eqb _ 111 (λ e. c.loop-got-test.false (c.byte_at.ensures ∙ e))) c.loop-got.invariant

pub read_operand-returns-in_err-paths-in-Paths : goal.read_operand-returns-in_err-paths-in-Paths
read_operand-returns-in_err-paths-in-Paths t c =
    rw (err_is c.from_residual.result c.from_residual.ensures.1)
    (paths_refused _ _ _ _ _ c.skip.result c.skip.ensures _ _
    (rw c.in-Paths.is at c.operand_at-operand.ensures.operand) c.in_err-paths-in-Paths.ensures refl)

pub read_operand-returns-in-Paths : goal.read_operand-returns-in-Paths
read_operand-returns-in-Paths t c =
    unary_paths _ _ _ _ _ c.skip.result c.skip.ensures _ (stands c.in_ok-paths-in-Paths.paths) _
    (stands c.some_of.result) (rw c.in-Paths.is at c.operand_at-operand.ensures.operand) c.in_ok-paths-in-Paths.ensures
    c.some_of.ensures

pub read_operand-returns-in-True : goal.read_operand-returns-in-True
read_operand-returns-in-True t c =
    unary_true _ _ _ _ _ c.skip.result c.skip.ensures c.operand_at-operand.result.paren
    (rw c.in-True.is at c.operand_at-operand.ensures.operand) refl _ (ended c.constant.result)
    (rw c.into.ensures at c.constant.ensures)

pub read_operand-returns-in-False : goal.read_operand-returns-in-False
read_operand-returns-in-False t c =
    unary_false _ _ _ _ _ c.skip.result c.skip.ensures c.operand_at-operand.result.paren
    (rw c.in-False.is at c.operand_at-operand.ensures.operand) refl _
    (ended c.constant-in-False.result) (rw c.into-in-False.ensures at c.constant-in-False.ensures)

pub read_operand-returns-then-left-eq0 : goal.read_operand-returns-then-left-eq0
read_operand-returns-then-left-eq0 t c =
    let operand = c.operand_at-operand.result in
    let met = c.operand_at-operand.ensures.operand in
    unary_full _ _ _ _ _ c.skip.result c.skip.ensures operand.opens operand.paren c.in-Group.is met
    c.if-left-eq0.true c.requires.ready.sized

pub read_operand-returns-in_err-inner : goal.read_operand-returns-in_err-inner
read_operand-returns-in_err-inner t c =
    let operand = c.operand_at-operand.result in
    let met = c.operand_at-operand.ensures.operand in
    let room : 0 < c.args.left = omega (arith, c.if-left-eq0.false) in
    rw (err_is c.from_residual-in_err-inner.result c.from_residual-in_err-inner.ensures.1)
    (enclosed_fails _ _ _ _ _ c.skip.result c.skip.ensures operand.opens operand.paren c.in-Group.is met
    room _ _ (enclosed_refused _ _ _ 41 _ _ _ _ c.in_err-inner.ensures refl) refl)

pub read_operand-returns-in_err-shut : goal.read_operand-returns-in_err-shut
read_operand-returns-in_err-shut t c =
    let operand = c.operand_at-operand.result in
    let met = c.operand_at-operand.ensures.operand in
    let room : 0 < c.args.left = omega (arith, c.if-left-eq0.false) in
    rw (err_is c.from_residual-in_err-shut.result c.from_residual-in_err-shut.ensures.1)
    (enclosed_fails _ _ _ _ _ c.skip.result c.skip.ensures operand.opens operand.paren c.in-Group.is met
    room _ _ (enclosed _ _ _ 41 _ _ _ (stands c.in_ok-inner.inner) _
    c.in_ok-inner.ensures refl c.in_err-shut.ensures) refl)

pub read_operand-returns : goal.read_operand-returns
read_operand-returns t c =
    let operand = c.operand_at-operand.result in
    let met = c.operand_at-operand.ensures.operand in
    let room : 0 < c.args.left = omega (arith, c.if-left-eq0.false) in
    unary_enclosed _ _ _ _ _ c.skip.result c.skip.ensures operand.opens operand.paren c.in-Group.is met room _
    (stands c.in_ok-shut.shut) _ (stands c.negate_if.result)
    (enclosed _ _ _ 41 _ _ _ (stands c.in_ok-inner.inner) _ c.in_ok-inner.ensures refl c.in_ok-shut.ensures)
    c.negate_if.ensures

pub read_path-returns-in_err-root : goal.read_path-returns-in_err-root
read_path-returns-in_err-root t c =
    rw (err_is c.from_residual.result c.from_residual.ensures.1)
    ((begun _ _ _ _ _ c.requires.ready _ _ c.in_err-root.ensures).alone refl)

pub read_path-returns-in-Root : goal.read_path-returns-in-Root
read_path-returns-in-Root t c =
    let b = begun _ _ _ _ _ c.requires.ready _ _ (rw c.in-Root.is at c.in_ok-root.ensures) in
    b.alone refl

pub read_path-read_step-requires : goal.read_path-read_step-requires
read_path-read_step-requires t c =
    let names = c.args.selector.names.list.now in
    let b = begun _ names c.args.left _ _ c.requires.ready _ _ (rw c.in-First.is at c.in_ok-root.ensures) in
    (omega (arith, c.requires.ready), (b.ready refl, b.space refl))

pub read_path-returns-in_err-got-in-First : goal.read_path-returns-in_err-got-in-First
read_path-returns-in_err-got-in-First t c =
    let b = begun _ _ _ _ _ c.requires.ready _ _ (rw c.in-First.is at c.in_ok-root.ensures) in
    rw (err_is c.from_residual-in_err-got-in-First.result c.from_residual-in_err-got-in-First.ensures.1)
    (b.refused refl _ _ c.in_err-got-in-First.ensures refl)

pub read_path-read_step-requires-in-Below : goal.read_path-read_step-requires-in-Below
read_path-read_step-requires-in-Below t c =
    let names = c.args.selector.names.list.now in
    let b = begun _ names c.args.left _ _ c.requires.ready _ _ (rw c.in-Below.is at c.in_ok-root.ensures) in
    (omega (arith, c.requires.ready), (b.ready refl, b.space refl))

pub read_path-returns-in_err-step-in-Below : goal.read_path-returns-in_err-step-in-Below
read_path-returns-in_err-step-in-Below t c =
    let b = begun _ _ _ _ _ c.requires.ready _ _ (rw c.in-Below.is at c.in_ok-root.ensures) in
    rw (err_is c.from_residual-in_err-step-in-Below.result c.from_residual-in_err-step-in-Below.ensures.1)
    (b.refused refl _ _ c.in_err-step-in-Below.ensures refl)

pub read_path-loop-rows-init : goal.read_path-loop-rows-init
read_path-loop-rows-init t c =
    elim c.match-branch-2.branch [
      | read_path-in-First+in_ok-got-in-First w ↦
          let b = begun _ _ _ _ _ c.requires.ready _ _ (rw w.in-First.is at c.in_ok-root.ensures) in
          let step = stands w.in_ok-got-in-First.got in
          let met = w.in_ok-got-in-First.ensures in
          rw (w.rows-is, w.got-is) (b.first refl _ step _ step met
          (first_stays (stands w.in-First.lead) step _ false refl met.reached.sized))
      | read_path-in-Below+in_ok-step-in-Below w ↦
          let b = begun _ _ _ _ _ c.requires.ready _ _ (rw w.in-Below.is at c.in_ok-root.ensures) in
          let lead = stands w.in-Below.lead in
          let step = stands w.in_ok-step-in-Below.step in
          let got = stands w.join-got.result in
          rw (w.rows-is, w.got-is) (b.first refl _ step _ got w.in_ok-step-in-Below.ensures
          (first_joins lead step _ _ got true refl (rw w.into.ensures at w.join-got.ensures)))
    ]

pub read_path-returns-in_err-step : goal.read_path-returns-in_err-step
read_path-returns-in_err-step t c =
    let y = stands c.loop-rows.got in
    let there = sym c.byte_at.ensures ∙ c.loop-rows-test.true in
    rw (err_is c.from_residual-in_err-step.result c.from_residual-in_err-step.ensures.1)
    (more_refused _ _ _ _ _ _ y _ (stands c.pass_slash-before.result) _ _ refl there
    c.pass_slash-before.ensures
    c.in_err-step.ensures refl c.loop-rows.invariant)

pub read_path-loop-rows-preserved : goal.read_path-loop-rows-preserved
read_path-loop-rows-preserved t c =
    let y = stands c.loop-rows.got in
    let there = sym c.byte_at.ensures ∙ c.loop-rows-test.true in
    path_more _ _ _ _ _ _ y _ (stands c.pass_slash-before.result) _ (stands c.in_ok-step.step) _
    (stands c.join-got-in-loop-rows.result) refl there c.pass_slash-before.ensures c.in_ok-step.ensures
    (rw c.into-in-loop-rows.ensures at c.join-got-in-loop-rows.ensures) c.loop-rows.invariant

pub read_path-returns : goal.read_path-returns
read_path-returns t c =
    path_ends _ _ _ _ _ _ (stands c.loop-rows.got)
    (λ _. ne_eqb _ 47 (λ e. c.loop-rows-test.false (c.byte_at.ensures ∙ e))) c.loop-rows.invariant

pub read_predicate-returns-then-left-eq0 : goal.read_predicate-returns-then-left-eq0
read_predicate-returns-then-left-eq0 t c =
    predicate_full _ _ _ _ _ c.requires.ready c.requires.at_value c.if-left-eq0.true

pub read_predicate-returns-in_err-inner : goal.read_predicate-returns-in_err-inner
read_predicate-returns-in_err-inner t c =
    let room : 0 < c.args.left = omega (arith, c.if-left-eq0.false) in
    rw (err_is c.from_residual.result c.from_residual.ensures.1)
    (predicate_refused _ _ _ _ _ c.requires.ready c.requires.at_value room _ _
    (enclosed_refused _ _ _ 93 _ _ _ _ c.in_err-inner.ensures refl) refl)

pub read_predicate-returns-in_err-shut : goal.read_predicate-returns-in_err-shut
read_predicate-returns-in_err-shut t c =
    let room : 0 < c.args.left = omega (arith, c.if-left-eq0.false) in
    rw (err_is c.from_residual-in_err-shut.result c.from_residual-in_err-shut.ensures.1)
    (predicate_refused _ _ _ _ _ c.requires.ready c.requires.at_value room _ _
    (enclosed _ _ _ 93 _ _ _ (stands c.in_ok-inner.inner) _
    c.in_ok-inner.ensures refl c.in_err-shut.ensures) refl)

pub read_predicate-returns : goal.read_predicate-returns
read_predicate-returns t c =
    let room : 0 < c.args.left = omega (arith, c.if-left-eq0.false) in
    predicate_joined _ _ _ _ _ c.requires.ready c.requires.at_value room _ (stands c.in_ok-shut.shut) _
    (stands c.join.result)
    (enclosed _ _ _ 93 _ _ _ (stands c.in_ok-inner.inner) _
    c.in_ok-inner.ensures refl c.in_ok-shut.ensures) (rw c.into.ensures at c.join.ensures)

pub read_step-returns-in_err-head : goal.read_step-returns-in_err-head
read_step-returns-in_err-head t c =
    rw (err_is c.from_residual.result c.from_residual.ensures.1)
    (step_refused _ _ _ _ _ _ c.requires.ready c.in_err-head.ensures)

pub read_step-returns-then-not-head : goal.read_step-returns-then-not-head
read_step-returns-then-not-head t c =
    rw c.step_end.ensures
    (step_ends _ _ _ false _ _ _ (stands c.put_head-got.result)
    (step_head _ _ _ _ _ _ (stands c.put_head-got.result) _ false (not-true _ c.if-not-head.true)
    c.requires.ready c.in_ok-head.ensures c.put_head-got.ensures)
    (λ e. clash false e refl) refl)

pub read_step-loop-selector-init : goal.read_step-loop-selector-init
read_step-loop-selector-init t c =
    step_head _ _ _ _ _ _ (stands c.put_head-got.result) _ true (not-false _ c.if-not-head.false)
    c.requires.ready c.in_ok-head.ensures c.put_head-got.ensures

pub read_step-loop-selector-preserved : goal.read_step-loop-selector-preserved
read_step-loop-selector-preserved t c =
    step_filter _ _ _ _ _ _ (stands c.loop-selector.got) _ (stands c.in_ok-got.got) refl c.in_ok-got.ensures
    c.loop-selector.invariant

pub read_step-returns-in_err-got : goal.read_step-returns-in_err-got
read_step-returns-in_err-got t c =
    rw (err_is c.from_residual-in_err-got.result c.from_residual-in_err-got.ensures.1)
    (step_stopped _ _ _ true _ _ _ _ refl
    (step_filter _ _ _ _ _ _ (stands c.loop-selector.got) _ _ refl c.in_err-got.ensures
    c.loop-selector.invariant))

pub read_step-returns : goal.read_step-returns
read_step-returns t c =
    rw c.step_end-2.ensures
    (step_ends _ _ _ true _ _ _ (stands c.loop-selector.got) c.loop-selector.invariant
    (λ _ _. ne_eqb _ 91 (λ e. c.loop-selector-test.false (c.byte_at.ensures ∙ e))) refl)

pub read_union-loop-at-init : goal.read_union-loop-at-init
read_union-loop-at-init t c =
    union_first _ _ _ _ _ _ (stands c.in_ok-got.got) c.in_ok-got.ensures

pub read_union-returns-in_err-path : goal.read_union-returns-in_err-path
read_union-returns-in_err-path t c =
    let y = stands c.loop-at.got in
    let there = sym c.byte_at.ensures ∙ c.loop-at-test.true in
    rw (err_is c.from_residual-in_err-path.result c.from_residual-in_err-path.ensures.1)
    (union_refused _ _ _ _ _ _ y _ _ refl there c.in_err-path.ensures refl c.loop-at.invariant)

pub read_union-loop-at-preserved : goal.read_union-loop-at-preserved
read_union-loop-at-preserved t c =
    let y = stands c.loop-at.got in
    let there = sym c.byte_at.ensures ∙ c.loop-at-test.true in
    union_more _ _ _ _ _ _ y _ (stands c.in_ok-path.path) _ (stands c.join-got.result) refl there
    c.in_ok-path.ensures (rw c.into.ensures at c.join-got.ensures) c.loop-at.invariant

pub read_union-returns : goal.read_union-returns
read_union-returns t c =
    union_ends _ _ _ _ _ _ (stands c.loop-at.got)
    (λ _. ne_eqb _ 124 (λ e. c.loop-at-test.false (c.byte_at.ensures ∙ e))) c.loop-at.invariant
