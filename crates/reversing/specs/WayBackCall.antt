-- The call way-back on the rows held: the way back of a path, and the rows that it needs.
use Rattle.std.specs.Prelude.{ℕ, ◌≤◌, ◌≡◌, T, cond, not, List, ltb, length}
use Rattle.std.proofs.Math.Option.{Option, none, some}
use Rattle.common.specs.Refusals.{too_deep, bad_side, not_yielded, terms_full}
use Rattle.xpath.specs.Term.{Path}
use Rattle.terms.specs.Row.{Row, max_rows}
use Rattle.terms.specs.Fields.{held_path}
use Rattle.terms.specs.Nesting.{max_nesting}
use Rattle.terms.specs.Terms.{path_at}
use Rattle.selector_grammar.specs.Denotes.{put_path, nest_path}
use Rattle.selector_grammar.specs.Answer.{Reply, reply}
use Rattle.rules.specs.WayBack.{way_back}

-- 3 or 11, where a path is nested too deep or the rows that it needs don't fit; else 0 with the path's row, and these
-- rows, operands first, left first, are held
unfoldable pub path_reply : Path → List Row → Reply
path_reply p rs =
    cond (ltb max_nesting (nest_path p)) (reply too_deep 0 rs)
    (cond (ltb max_rows (length (put_path p rs).rows)) (reply terms_full 0 rs)
    (reply 0 (put_path p rs).at (put_path p rs).rows))

unfoldable pub back_reply : Option Path → List Row → Reply
back_reply none rs = reply not_yielded 0 rs
back_reply (some w) rs = path_reply w rs

-- for row i: the first refusal that applies, in the order 5, 7, 3, 11; else 0 with the row of its path's way back, and
-- the rows that this needs are held
unfoldable pub way_back_reply : List Row → (i : ℕ) → Reply
way_back_reply rs i = cond (not (held_path rs i)) (reply bad_side 1 rs) (back_reply (way_back (path_at rs i)) rs)

-- the row is a held path, w is its way back and is not nested too deep, and there is space for the rows
-- that w needs
pub record HasWayBack (rs : List Row) (i : ℕ) (w : Path) : Type 0 where
  pub path : T (held_path rs i)
  pub is_back : way_back (path_at rs i) ≡ some w
  pub nesting : nest_path w ≤ max_nesting
  pub space : length (put_path w rs).rows ≤ max_rows
