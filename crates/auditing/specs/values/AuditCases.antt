-- What audit reports at its limit: by computation at 65,536 and 65,537 bytes, and of every longer text.
use Rattle.std.specs.Prelude.{ℕ, ◌≤◌, ◌<◌, ◌≡◌, refl, List, length, replicate}
use Rattle.std.proofs.Common.{lt-ltb, le-ltb}
use Rattle.terms.specs.Row.{table_of}
use Rattle.calls.specs.represent.Tables.{steps_of}
use Rattle.lines.specs.Line.{in_first_line, lines, is_line}
use Rattle.session.specs.View.{view, fresh_session}
use Rattle.session.specs.Reading.{lines_read, reading}
use Rattle.auditing.specs.Audit.{report_by, read_report, report}

-- the letter x, again and again: read, so that line 1 is refused
most_bytes : report (replicate 65536 120) ≡ report_by 10 1 0 0 0
unfolding report reading lines_read lines in_first_line is_line view fresh_session table_of steps_of
most_bytes = refl

one_more : report (replicate 65537 120) ≡ report_by 10 0 0 0 0
unfolding report
one_more = refl

longer : (bytes : List ℕ) → 65536 < length bytes → report bytes ≡ report_by 10 0 0 0 0
unfolding report
longer bytes h = rw (lt-ltb 65536 (length bytes) h)

no_longer : (bytes : List ℕ) → length bytes ≤ 65536 → report bytes ≡ read_report (reading bytes)
unfolding report
no_longer bytes h = rw (le-ltb 65536 (length bytes) h)
