-- `Writer::append_bundle` meets its contract: four texts, one behind the other.
use mathlib.Core.Path.{◌∙◌}
use native.Mathlib.Omega.{arith}
use Rattle.lines.specs.Ascii.{ascii}
use Rattle.terms.specs.Row.{table_of}
use Rattle.calls.specs.represent.Tables.{steps_of}
use Rattle.bundles.specs.Bundle.{row_names, step_names, bundle_text}
use Rattle.bundles.specs.private.TextPut.{text_of_line}
use Rattle.bundles.proofs.Putting.{put_both, put_keeps}
use Rattle.bundles.proofs.Tables.{bundle_length_lem}
use Rattle.bundles.proofs.writer.Writer.append_bundle.Goals as goal

pub append-requires : goal.append-requires
unfolding text_of_line
append-requires c =
    let h = c.args.held in
    let size = bundle_length_lem (table_of h.rows.now) (steps_of h.steps.now) in
    omega (arith, c.requires, size)

pub append_terms-requires : goal.append_terms-requires
unfolding text_of_line
append_terms-requires c =
    let h = c.args.held in
    let size = bundle_length_lem (table_of h.rows.now) (steps_of h.steps.now) in
    let names = c.append.ensures.put in
    omega (arith, c.requires, size, names.position, put_keeps names)

pub append-requires-2 : goal.append-requires-2
unfolding text_of_line
append-requires-2 c =
    let h = c.args.held in
    let size = bundle_length_lem (table_of h.rows.now) (steps_of h.steps.now) in
    let names = c.append.ensures.put in
    let rows = c.append_terms.ensures.put in
    omega (
      arith,
      c.requires,
      size,
      names.position,
      put_keeps names,
      rows.position,
      put_keeps rows,
    )

pub append_steps-requires : goal.append_steps-requires
unfolding text_of_line
append_steps-requires c =
    let h = c.args.held in
    let size = bundle_length_lem (table_of h.rows.now) (steps_of h.steps.now) in
    let names = c.append.ensures.put in
    let rows = c.append_terms.ensures.put in
    let more = c.append-2.ensures.put in
    omega (
      arith,
      c.requires,
      size,
      names.position,
      put_keeps names,
      rows.position,
      put_keeps rows,
      more.position,
      put_keeps more,
    )

pub returns : goal.returns
unfolding bundle_text row_names step_names ascii text_of_line
returns c =
    let steps = put_both c.append-2.ensures.put c.append_steps.ensures.put in
    record {
      same_buffer =
          c.append_steps.ensures.same_buffer ∙ c.append-2.ensures.same_buffer ∙ c.append_terms.ensures.same_buffer
          ∙ c.append.ensures.same_buffer;
      put = put_both c.append.ensures.put (put_both c.append_terms.ensures.put steps);
    }
