-- The numbers of names have 16 bits, and so have those in the rows that are put for a term.
use Prim.Native.Nat.{ℕ, suc, ◌≤◌}
use mathlib.Core.Path.{◌≡◌, refl}
use mathlib.Core.Bool.{Bool, true, false, cond}
use mathlib.Core.List.{List, [], ◌∷◌, ◌++◌}
use mathlib.Core.Option.{Option, none, some}
use native.Mathlib.Omega.{arith}
use lib.Dec.{leb, ltb}
use lib.ListN.{length}
use borrow.Author.Tests.{leb-true}
use Rattle.common.specs.Lists.{Every}
use Rattle.common.proofs.Entries.{every_more}
use Rattle.lines.specs.Number.{max_number}
use Rattle.lines.specs.Line.{lines}
use Rattle.xpath.specs.Term as term
use Rattle.terms.specs.Row.{Row, row, find}
use Rattle.selector_grammar.specs.Bytes.{Bytes}
use Rattle.selector_grammar.specs.Words.{find as place, bytes_of, numbered, number_of}
use Rattle.selector_grammar.specs.Denotes.{put, put_path, put_qual}
use Rattle.selector_grammar.proofs.Stands.{PathFits, QualifierFits}

numbered_fits : (o : Option ℕ) → numbered o ≤ max_number
unfolding numbered
numbered_fits none = omega arith
numbered_fits (some i) = go (leb (suc i) max_number) refl
  where
    go : (b : Bool) → leb (suc i) max_number ≡ b → cond b (suc i) 0 ≤ max_number
    go true e = leb-true (suc i) max_number e
    go false e = omega arith

pub number_fits : (list n : Bytes) → number_of list n ≤ max_number
unfolding number_of
number_fits list n = numbered_fits (place n (bytes_of (lines list)))

-- the last field of the row, a name's number in a step
abbrev pub NameFits : Row → Type 0
NameFits r = r.c ≤ max_number

put_numbered : (rs : List Row) (r : Row) → Every NameFits rs → r.c ≤ max_number → Every NameFits (put rs r).rows
unfolding put
put_numbered rs r h m = go (ltb (find rs r) (length rs))
  where
    go : (b : Bool) → Every NameFits (cond b rs (rs ++ (r ∷ [])))
    go true = h
    go false = every_more NameFits rs r h m

mutual
  unfolding put_path put_qual

  pub path_numbered : (p : term.Path) (rs : List Row) → Every NameFits rs → PathFits p
      → Every NameFits (put_path p rs).rows
  path_numbered term.Void rs h f = put_numbered rs _ h (omega arith)
  path_numbered term.Root rs h f = put_numbered rs _ h (omega arith)
  path_numbered (term.AxisStep a t c) rs h f = put_numbered rs (row 2 a t c) h f.1
  path_numbered (term.Union p q) rs h f =
      put_numbered _ _ (path_numbered q _ (path_numbered p rs h f.0) f.1) (omega arith)
  path_numbered (term.Composition p q) rs h f =
      put_numbered _ _ (path_numbered q _ (path_numbered p rs h f.0) f.1) (omega arith)
  path_numbered (term.Filter p g) rs h f =
      put_numbered _ _ (qualifier_numbered g _ (path_numbered p rs h f.0) f.1) (omega arith)

  qualifier_numbered : (g : term.Qualifier) (rs : List Row) → Every NameFits rs → QualifierFits g
      → Every NameFits (put_qual g rs).rows
  qualifier_numbered term.True rs h f = put_numbered rs _ h (omega arith)
  qualifier_numbered term.False rs h f = put_numbered rs _ h (omega arith)
  qualifier_numbered (term.Not g) rs h f = put_numbered _ _ (qualifier_numbered g rs h f) (omega arith)
  qualifier_numbered (term.And g k) rs h f =
      put_numbered _ _ (qualifier_numbered k _ (qualifier_numbered g rs h f.0) f.1) (omega arith)
  qualifier_numbered (term.Or g k) rs h f =
      put_numbered _ _ (qualifier_numbered k _ (qualifier_numbered g rs h f.0) f.1) (omega arith)
  qualifier_numbered (term.In p q) rs h f =
      put_numbered _ _ (path_numbered q _ (path_numbered p rs h f.0) f.1) (omega arith)
