-- The terms of rows.
use Rattle.std.specs.Prelude.{ℕ, List, [], ◌∷◌, get_or}
use Rattle.xpath.specs.Term.{Path, Qualifier, Void, Root, AxisStep, Union, Composition, Filter, True, False, Not, And}
use Rattle.xpath.specs.Term.{Or}
use Rattle.xpath.specs.Term.{In}
use Rattle.terms.specs.Row.{Row, entries_from}

pub data Term : Type 0 where
  of_path : Path → Term
  of_qualifier : Qualifier → Term

-- what is no path is read as the void path, what is no qualifier as false; no table of accepted rows asks for it
unfoldable pub as_path : Term → Path
as_path (of_path p) = p
as_path (of_qualifier f) = Void

unfoldable pub as_qualifier : Term → Qualifier
as_qualifier (of_path p) = False
as_qualifier (of_qualifier f) = f

abbrev pub no_term : Term
no_term = of_path Void

-- term x of ts as a path, and as a qualifier
abbrev pub path_in : List Term → ℕ → Path
path_in ts x = as_path (get_or ts x no_term)

abbrev pub qualifier_in : List Term → ℕ → Qualifier
qualifier_in ts x = as_qualifier (get_or ts x no_term)

-- the row with its operands' terms in place of their numbers; ts are the terms of the rows before it
unfoldable pub term_by : List Term → Row → Term
term_by ts r =
    get_or
    (of_path Void
    ∷ of_path Root
    ∷ of_path (AxisStep r.a r.b r.c)
    ∷ of_path (Union (path_in ts r.a) (path_in ts r.b))
    ∷ of_path (Composition (path_in ts r.a) (path_in ts r.b))
    ∷ of_path (Filter (path_in ts r.a) (qualifier_in ts r.b))
    ∷ of_qualifier True
    ∷ of_qualifier False
    ∷ of_qualifier (Not (qualifier_in ts r.a))
    ∷ of_qualifier (And (qualifier_in ts r.a) (qualifier_in ts r.b))
    ∷ of_qualifier (Or (qualifier_in ts r.a) (qualifier_in ts r.b))
    ∷ of_qualifier (In (path_in ts r.a) (path_in ts r.b))
    ∷ [])
    r.kind no_term

-- the terms of the rows of a table, in order
unfoldable pub terms : List Row → List Term
terms rs = entries_from term_by [] rs

-- the term of row i
unfoldable pub term_at : List Row → ℕ → Term
term_at rs i = get_or (terms rs) i no_term

abbrev pub path_at : List Row → ℕ → Path
path_at rs i = as_path (term_at rs i)

abbrev pub qualifier_at : List Row → ℕ → Qualifier
qualifier_at rs i = as_qualifier (term_at rs i)
