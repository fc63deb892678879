-- The lines that end scripts, by computation.
use Rattle.std.specs.Prelude.{ℕ, refl, [], ◌∷◌}
use Prim.Native.String.{String}
use Rattle.std.proofs.Math.Option.{Option-elim}
use Rattle.common.specs.values.Expected.{◌is◌, AllRight}
use Rattle.common.specs.Lists.{all_of}
use Rattle.lines.specs.Ascii.{ascii}
use Rattle.lines.specs.Line.{in_first_line, lines, in_first_part, parts, same_bytes}
use Rattle.lines.specs.Number.{is_digit, is_decimal, append_digits, numbers_up_to}
use Rattle.script.specs.Command.{at_most, named, word_for, command_by}
use Rattle.script.specs.Words.{words, shape_of}
use Rattle.script_replay.specs.declared.Style.{Style}
use Rattle.script_replay.specs.declared.Style.TheVariants.{Answers, Nodes}
use Rattle.script_replay.specs.Transcript.{ending_line}

abbrev ends : Style → String → ℕ
ends style text = ending_line style 1 (lines (ascii text))

pub endings :
    AllRight
    -- no line, two calls, a line without its newline, a point without its name, `fresh`, a word that is none
    (ends Answers "" is 0
    ∷ ends Answers "term 1 0 0 0\ndocument\n" is 0
    ∷ ends Answers "term 1 0 0 0\nterm 1 0 0 0" is 2
    ∷ ends Answers "point 1\nreturn 1\npoint\n" is 3
    ∷ ends Answers "document\nfresh\n" is 2
    ∷ ends Answers "terms 1 0 0 0\n" is 1
    -- the lists of a replace, and it
    ∷ ends Answers "old 0\nnew 1\nreplace 1\nold\nnew\nreplace\nreplaces\n" is 7
    -- the first of two lines that are not taken
    ∷ ends Answers "document\n\nfresh\n" is 2
    ∷ ends Answers "write 0\nwrite 65537\n" is 2
    -- another session, and orders
    ∷ ends Answers "other\norder 0 0\nbundle-order\nother\norder 0\n" is 5
    -- `fresh`, where nodes are printed; a word that is none there, and one that is none at all
    ∷ ends Nodes "document\nfresh\n" is 0
    ∷ ends Nodes "fresh\nwrite 0\n" is 2
    ∷ ends Nodes "document\nfresh\nfreshly\n" is 3
    -- the lists of a replace, and it, where nodes are printed
    ∷ ends Nodes "old\nnew\nreplace\n" is 0
    -- no other session and no orders there
    ∷ ends Nodes "fresh\nother\n" is 2
    ∷ ends Nodes "order 0 0\n" is 1
    ∷ ends Nodes "fresh\nbundle-order\n" is 2
    -- names and texts, in both styles
    ∷ ends Answers "names a b\ntext a[b]\nnames\ntext\ntexts\n" is 5
    ∷ ends Nodes "names a b\ntext a[b]\ntext a" is 3
    -- records and current editions, in both styles
    ∷ ends Answers "record 7 1 0 0\ncurrent 7\nrecord 7 1 0\n" is 3
    ∷ ends Nodes "record 7 1 0 0\ncurrent 7\ncurrent\n" is 3
    -- ways back, in both styles
    ∷ ends Answers "way-back 0\nway-back\n" is 2
    ∷ ends Nodes "way-back 0\nway-back 1 1\n" is 2
    -- releases and a crew's current edition in both, listings where answers are printed
    ∷ ends Answers "release 1\nrecords\nreleased\ncrew-current 7\nrelease\n" is 5
    ∷ ends Nodes "release 1\ncrew-current 7\nrecords\n" is 3
    ∷ ends Nodes "released\n" is 1
    ∷ [])
unfolding ending_line ascii words shape_of word_for command_by named at_most numbers_up_to lines in_first_line parts
    in_first_part same_bytes Option-elim is_decimal all_of is_digit append_digits
endings = refl
