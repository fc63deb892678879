-- The answer to a text call as a function: what the reader makes of the text decides. It gives the answer that the
-- grammar does, and there is no other (`given` and `only` in selector_grammar/proofs/Answered.antt).
use Rattle.std.specs.Prelude.{ℕ, ◌-◌, cond, List, leb, length}
use Rattle.std.proofs.Math.Option.{Option, none, some}
use Rattle.xpath.specs.Term as term
use Rattle.common.specs.Refusals.{too_deep, terms_full, outside_grammar, unlisted_name}
use Rattle.terms.specs.Row.{Row, max_rows}
use Rattle.terms.specs.Nesting.{max_nesting}
use Rattle.selector_grammar.specs.Bytes.{Bytes}
use Rattle.selector_grammar.specs.Words.{number_of}
use Rattle.selector_grammar.specs.Denotes.{unlisted, union_names, union_of, put_path, nest_path}
use Rattle.selector_grammar.specs.Answer.{Reply, reply}
use Rattle.selector_grammar.specs.private.Reader.{Outcome, good, bad, run, initial}

unfoldable pub reply_to_term : term.Path → List Row → Reply
reply_to_term p rs = cond (leb (nest_path p) max_nesting)
    (cond (leb (length (put_path p rs).rows) max_rows) (reply 0 (put_path p rs).at (put_path p rs).rows)
    (reply terms_full 0 rs)) (reply too_deep 0 rs)

unfoldable pub reply_to_names : Option ℕ → term.Path → List Row → Reply
reply_to_names (some k) p rs = reply unlisted_name k rs
reply_to_names none p rs = reply_to_term p rs

unfoldable pub reply_to_reading : Outcome → Bytes → ℕ → List Row → Reply
reply_to_reading (bad k) list n rs = reply outside_grammar (n - k) rs
reply_to_reading (good y) list n rs =
    reply_to_names (unlisted (number_of list) (union_names y.tree 0)) (union_of (number_of list) y.tree) rs

unfoldable pub reply_to : Bytes → Bytes → List Row → Reply
reply_to list t rs = reply_to_reading (run t initial) list (length t) rs
