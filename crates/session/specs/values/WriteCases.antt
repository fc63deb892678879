-- What write answers and leaves, by computation; and the calls whose sessions it is guaranteed of.
use Rattle.std.specs.Prelude.{◌≡◌, refl, [], ◌∷◌, length, replicate}
use Rattle.std.proofs.Common.{arith}
use Rattle.common.specs.Lists.{Every}
use Rattle.common.specs.values.Expected.{◌is◌, AllRight}
use Rattle.terms.specs.Row.{Row, row, table_of}
use Rattle.lines.specs.Ascii.{ascii}
use Rattle.lines.specs.Written.{digits_of, decimal, line_text}
use Rattle.calls.specs.Book as book
use Rattle.calls.specs.Book.{Step, answer}
use Rattle.calls.specs.Calls.{term, step, point, return}
use Rattle.calls.specs.represent.Tables.{steps_of}
use Rattle.bundles.specs.Bundle.{row_names, step_names, rows_text, steps_text, bundle_text}
use Rattle.session.specs.View.{view, no_points, fresh_session}
use Rattle.session.specs.WriteCall.{session_text, write_answer, write_buffer}
use Rattle.session.specs.ReadGuarantee.{CallFits}

-- a text of three bytes, and buffers that are longer, as long, a byte shorter, and empty
answers :
    AllRight
    (write_answer (ascii "ab\n") 4 is answer 0 3
    ∷ write_answer (ascii "ab\n") 3 is answer 0 3
    ∷ write_answer (ascii "ab\n") 2 is answer 16 3
    ∷ write_answer (ascii "ab\n") 0 is answer 16 3
    ∷ [])
unfolding ascii
answers = refl

-- a text of a byte more than 65,536, and buffers of a byte less and as long
large :
    AllRight
    (write_answer (replicate 65537 48) 65536 is answer 16 65537
    ∷ write_answer (replicate 65537 48) 65537 is answer 0 65537
    ∷ [])
large = refl

buffers :
    AllRight
    (write_buffer (ascii "ab\n") (7 ∷ 8 ∷ 9 ∷ 6 ∷ 5 ∷ []) is (97 ∷ 98 ∷ 10 ∷ 6 ∷ 5 ∷ [])
    ∷ write_buffer (ascii "ab\n") (7 ∷ 8 ∷ 9 ∷ []) is (97 ∷ 98 ∷ 10 ∷ [])
    ∷ write_buffer (ascii "ab\n") (7 ∷ 8 ∷ []) is (7 ∷ 8 ∷ [])
    ∷ write_buffer (ascii "ab\n") [] is []
    ∷ [])
unfolding ascii
buffers = refl

-- a fresh session; and one whose counts are above the limits, which are then read as the limits
fresh_text : session_text fresh_session ≡ ascii "kind a b c\nrule left right first second\n"
unfolding view fresh_session table_of steps_of bundle_text row_names step_names rows_text steps_text ascii
fresh_text = refl

full_length : length (session_text
    (record {
      rows = replicate 4096 0;
      row_count = 1025;
      steps = replicate 10240 0;
      step_count = 2049;
      points = no_points;
      point_count = 0;
    })) ≡ 28712
unfolding view table_of steps_of bundle_text row_names step_names rows_text steps_text line_text decimal digits_of ascii
full_length = refl

-- calls of the largest numbers are among those that lead to what is written
abbrev largest_row : Row
largest_row = row 65535 65535 65535 65535

abbrev largest_step : Step
largest_step = book.step 65535 65535 65535 65535 65535

-- and so are all that set points and return
largest : Every CallFits (term largest_row ∷ step largest_step ∷ point 65535 ∷ return 65535 ∷ [])
largest = (
  (omega arith, (omega arith, (omega arith, (omega arith, tt)))),
  ((omega arith, (omega arith, (omega arith, (omega arith, (omega arith, tt))))), (tt, (tt, tt))),
)
