-- `Session::make_calls` meets its contract: what the lines of either table leave to be read.
use mathlib.Core.Path.{sym, ap, ◌∙◌}
use native.Mathlib.Omega.{arith}
use Rattle.common.proofs.Errors.{err_is}
use Rattle.calls.specs.Book.{answer}
use Rattle.session.specs.private.Parts.{refused_by}
use Rattle.lines.specs.Ascii.{ascii}
use Rattle.bundles.specs.Bundle.{row_names}
use Rattle.session.specs.represent.Tables.{tables_in}
use Rattle.session.proofs.LineCalls.{is_row_names}
use Rattle.session.proofs.ReadMade.{no_names, first_line, rows_read_lem, steps_read_lem, fresh_with}
use Rattle.session.proofs.session.Session.make_calls.Goals as goal

pub returns-then-not-is_line : goal.returns-then-not-is_line
unfolding row_names ascii
returns-then-not-is_line c =
    let no-first-names = sym (is_row_names _ _ c.if-not-is_line.ensures) in
    record {
      told = ap refused_by c.wrong_form.ensures ∙ no_names c.args.bytes.now no-first-names;
      bounds = tt;
    }

pub read_rows-requires : goal.read_rows-requires
unfolding row_names ascii
read_rows-requires c =
    let names = sym (is_row_names _ _ c.if-not-is_line.ensures) in
    (omega arith, first_line _ names, c.keep_first.ensures.1)

pub returns-in_err-ended : goal.returns-in_err-ended
unfolding row_names ascii
returns-in_err-ended c =
    let names = sym (is_row_names _ _ c.if-not-is_line.ensures) in
    let opened = c.self.view_is ∙ c.requires in
    let m = c.in_err-ended.ensures in
    rw (err_is c.from_residual.result c.from_residual.ensures.1)
    (record {
      told = rows_read_lem c.args.bytes.now names _ _ _ (c.keep_first.ensures.0 ∙ ap (λ s. s.rows) opened) _ m;
      bounds = m.bounds;
    })

pub returns-in_err-m : goal.returns-in_err-m
unfolding row_names ascii
returns-in_err-m c =
    let bytes = c.args.bytes.now in
    let names = sym (is_row_names _ _ c.if-not-is_line.ensures) in
    let opened = c.self.view_is ∙ c.requires in
    let rows = rows_read_lem bytes names _ _ _ (c.keep_first.ensures.0 ∙ ap (λ s. s.rows) opened) _ c.in_ok-ended.ensures in
    let m = c.in_err-m.ensures in
    rw (err_is c.from_residual-in_err-m.result c.from_residual-in_err-m.ensures.1)
    (record {
      told = steps_read_lem bytes _ _ _ _ _ _ (ap (λ s. s.steps) opened) _ m rows;
      bounds = m.bounds;
    })

pub returns : goal.returns
unfolding row_names ascii
returns c =
    let bytes = c.args.bytes.now in
    let names = sym (is_row_names _ _ c.if-not-is_line.ensures) in
    let opened = c.self.view_is ∙ c.requires in
    let rows = rows_read_lem bytes names _ _ _ (c.keep_first.ensures.0 ∙ ap (λ s. s.rows) opened) _ c.in_ok-ended.ensures in
    let m = c.in_ok-m.ensures in
    record {
      told = ap (λ s. record { answer = answer 0 c.in_ok-m.m; session = s }) (fresh_with (tables_in c.self.inside) opened _ _ _ _)
          ∙ steps_read_lem bytes _ _ _ _ _ _ (ap (λ s. s.steps) opened) _ m rows;
      bounds = m.bounds;
    }
