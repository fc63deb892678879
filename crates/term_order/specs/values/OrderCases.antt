-- Values of the order of terms and of bundles, by computation.
use Rattle.std.specs.Prelude.{ℕ, refl, List, [], ◌∷◌, map}
use Rattle.common.specs.values.Expected.{◌is◌, AllRight}
use Rattle.xpath.specs.Term.{Path, Qualifier, Void, Root, AxisStep, Union, Composition, Filter, True, False, Not, And}
use Rattle.xpath.specs.Term.{Or}
use Rattle.xpath.specs.Term.{In}
use Rattle.terms.specs.Row.{Row, row, entries_from}
use Rattle.terms.specs.Terms.{Term, of_path, of_qualifier, as_path, as_qualifier, term_by, terms, term_at}
use Rattle.calls.specs.Book.{Step, step, book, Answer, answer}
use Rattle.term_order.specs.Order.{number_order}
use Rattle.term_order.specs.TermOrder.{path_row, row_of_term, row_order, term_order}
use Rattle.term_order.specs.BundleOrder.{term_step, step_order, steps_order, term_steps, bundle_order}
use Rattle.term_order.specs.OrderCall.{order_value, order_answer, bundle_order_answer}
use Rattle.term_order.specs.OrderLaws.{occurrences}

-- a term of each kind, in the order of the kinds, mostly with what is inside growing smaller
abbrev of_each_kind : List Term
of_each_kind =
    of_path Void
    ∷ of_path Root
    ∷ of_path (AxisStep 11 6 65535)
    ∷ of_path (Union (Filter Root True) (Filter Root True))
    ∷ of_path (Composition (Union Root Root) (Union Root Root))
    ∷ of_path (Filter Root (Or False False))
    ∷ of_qualifier True
    ∷ of_qualifier False
    ∷ of_qualifier (Not (In Root Root))
    ∷ of_qualifier (And (Or True True) (Or True True))
    ∷ of_qualifier (Or True False)
    ∷ of_qualifier (In Void Void)
    ∷ []

-- each kind against each: 0 less, 1 equal, 2 greater
pub kinds :
    AllRight
    (map (λ t. map (λ u. order_value (term_order t u)) of_each_kind) of_each_kind is (
    (1 ∷ 0 ∷ 0 ∷ 0 ∷ 0 ∷ 0 ∷ 0 ∷ 0 ∷ 0 ∷ 0 ∷ 0 ∷ 0 ∷ [])
    ∷ (2 ∷ 1 ∷ 0 ∷ 0 ∷ 0 ∷ 0 ∷ 0 ∷ 0 ∷ 0 ∷ 0 ∷ 0 ∷ 0 ∷ [])
    ∷ (2 ∷ 2 ∷ 1 ∷ 0 ∷ 0 ∷ 0 ∷ 0 ∷ 0 ∷ 0 ∷ 0 ∷ 0 ∷ 0 ∷ [])
    ∷ (2 ∷ 2 ∷ 2 ∷ 1 ∷ 0 ∷ 0 ∷ 0 ∷ 0 ∷ 0 ∷ 0 ∷ 0 ∷ 0 ∷ [])
    ∷ (2 ∷ 2 ∷ 2 ∷ 2 ∷ 1 ∷ 0 ∷ 0 ∷ 0 ∷ 0 ∷ 0 ∷ 0 ∷ 0 ∷ [])
    ∷ (2 ∷ 2 ∷ 2 ∷ 2 ∷ 2 ∷ 1 ∷ 0 ∷ 0 ∷ 0 ∷ 0 ∷ 0 ∷ 0 ∷ [])
    ∷ (2 ∷ 2 ∷ 2 ∷ 2 ∷ 2 ∷ 2 ∷ 1 ∷ 0 ∷ 0 ∷ 0 ∷ 0 ∷ 0 ∷ [])
    ∷ (2 ∷ 2 ∷ 2 ∷ 2 ∷ 2 ∷ 2 ∷ 2 ∷ 1 ∷ 0 ∷ 0 ∷ 0 ∷ 0 ∷ [])
    ∷ (2 ∷ 2 ∷ 2 ∷ 2 ∷ 2 ∷ 2 ∷ 2 ∷ 2 ∷ 1 ∷ 0 ∷ 0 ∷ 0 ∷ [])
    ∷ (2 ∷ 2 ∷ 2 ∷ 2 ∷ 2 ∷ 2 ∷ 2 ∷ 2 ∷ 2 ∷ 1 ∷ 0 ∷ 0 ∷ [])
    ∷ (2 ∷ 2 ∷ 2 ∷ 2 ∷ 2 ∷ 2 ∷ 2 ∷ 2 ∷ 2 ∷ 2 ∷ 1 ∷ 0 ∷ [])
    ∷ (2 ∷ 2 ∷ 2 ∷ 2 ∷ 2 ∷ 2 ∷ 2 ∷ 2 ∷ 2 ∷ 2 ∷ 2 ∷ 1 ∷ [])
    ∷ [])
    ∷ [])
unfolding term_order row_order row_of_term path_row number_order
kinds = refl

abbrev paths : Path → Path → ℕ
paths p q = order_value (term_order (of_path p) (of_path q))

abbrev qualifiers : Qualifier → Qualifier → ℕ
qualifiers f g = order_value (term_order (of_qualifier f) (of_qualifier g))

-- a difference in each field of each kind; of two differences, the one on the left
pub fields :
    AllRight
    (paths (AxisStep 1 0 7) (AxisStep 2 0 7) is 0
    ∷ paths (AxisStep 2 0 7) (AxisStep 1 0 7) is 2
    ∷ paths (AxisStep 1 0 7) (AxisStep 1 6 7) is 0
    ∷ paths (AxisStep 1 6 7) (AxisStep 1 0 7) is 2
    ∷ paths (AxisStep 1 0 7) (AxisStep 1 0 8) is 0
    ∷ paths (AxisStep 1 0 8) (AxisStep 1 0 7) is 2
    ∷ paths (AxisStep 1 6 9) (AxisStep 2 0 7) is 0
    ∷ paths (AxisStep 1 0 9) (AxisStep 1 6 7) is 0
    -- numbers as numbers: 9 is less than 10
    ∷ paths (AxisStep 9 1 0) (AxisStep 10 1 0) is 0
    ∷ paths (AxisStep 1 0 65535) (AxisStep 1 0 9) is 2
    ∷ paths (AxisStep 1 0 255) (AxisStep 1 0 256) is 0
    ∷ paths (AxisStep 1 1 0) (AxisStep 1 2 0) is 0
    ∷ paths (Union Void Root) (Union Root Root) is 0
    ∷ paths (Union Root Root) (Union Root Void) is 2
    ∷ paths (Union Void Root) (Union Root Void) is 0
    ∷ paths (Composition Void Root) (Composition Root Root) is 0
    ∷ paths (Composition Root Root) (Composition Root Void) is 2
    ∷ paths (Composition Root Void) (Composition Void Root) is 2
    ∷ paths (Filter Void False) (Filter Root False) is 0
    ∷ paths (Filter Root False) (Filter Root True) is 2
    ∷ paths (Filter Void False) (Filter Root True) is 0
    ∷ qualifiers (Not True) (Not False) is 0
    ∷ qualifiers (Not False) (Not True) is 2
    ∷ qualifiers (And True False) (And False False) is 0
    ∷ qualifiers (And False False) (And False True) is 2
    ∷ qualifiers (And True False) (And False True) is 0
    ∷ qualifiers (Or True False) (Or False False) is 0
    ∷ qualifiers (Or False False) (Or False True) is 2
    ∷ qualifiers (Or False True) (Or True False) is 2
    ∷ qualifiers (In Void Root) (In Root Root) is 0
    ∷ qualifiers (In Root Root) (In Root Void) is 2
    ∷ qualifiers (In Root Void) (In Void Root) is 2
    -- inside of operands, a difference of kinds and one of fields
    ∷ qualifiers (Not (Not (In Root Void))) (Not (Not (In Root (AxisStep 0 1 0)))) is 0
    ∷ paths (Composition (Composition Root Root) Void) (Composition (Composition Root Void) Root) is 2
    ∷ paths (Composition (Composition Root Root) Void) (Composition (Composition Root Root) Void) is 1
    -- how large or how deep a term is says nothing
    ∷ paths (Union Void (Union Void Void)) (Union Root Void) is 0
    ∷ qualifiers (Not (Not (Not True))) (Not (And True True)) is 0
    ∷ paths (Composition (Union (Union Void Void) Void) Root) (Composition (Composition Void Void) Root) is 0
    ∷ [])
unfolding term_order row_order row_of_term path_row number_order
fields = refl

-- the rows of two sessions that number the same terms differently: child::1, child::2, their unions both ways, true,
-- child::2[true]
abbrev left : List Row
left = row 2 1 0 1 ∷ row 2 1 0 2 ∷ row 3 0 1 0 ∷ row 3 1 0 0 ∷ row 6 0 0 0 ∷ row 5 1 4 0 ∷ []

abbrev right : List Row
right = row 6 0 0 0 ∷ row 2 1 0 2 ∷ row 5 1 0 0 ∷ row 2 1 0 1 ∷ row 3 1 3 0 ∷ row 3 3 1 0 ∷ []

abbrev rows : ℕ → ℕ → Answer
rows i j = order_answer left i right j

pub across :
    AllRight
    -- the same term under other numbers
    (rows 0 3 is answer 0 1
    ∷ rows 1 1 is answer 0 1
    ∷ rows 2 5 is answer 0 1
    ∷ rows 3 4 is answer 0 1
    ∷ rows 4 0 is answer 0 1
    ∷ rows 5 2 is answer 0 1
    -- the same number, other terms
    ∷ rows 0 0 is answer 0 0
    ∷ rows 2 2 is answer 0 0
    ∷ rows 3 3 is answer 0 2
    ∷ rows 4 4 is answer 0 2
    ∷ rows 2 4 is answer 0 0
    ∷ rows 3 5 is answer 0 2
    -- rows that are alike, other terms
    ∷ order_answer (row 2 1 0 1 ∷ row 2 1 0 2 ∷ row 3 0 1 0 ∷ []) 2 (row 2 1 0 2 ∷ row 2 1 0 1 ∷ row 3 0 1 0 ∷ []) 2
    is answer 0 0
    -- within one session
    ∷ order_answer left 2 left 2 is answer 0 1
    ∷ order_answer left 2 left 3 is answer 0 0
    ∷ order_answer left 3 left 2 is answer 0 2
    -- a row that is not held: on the left, on the right, on both
    ∷ rows 6 0 is answer 5 1
    ∷ rows 65535 5 is answer 5 1
    ∷ rows 0 6 is answer 5 2
    ∷ rows 5 65535 is answer 5 2
    ∷ rows 6 6 is answer 5 1
    ∷ order_answer [] 0 [] 0 is answer 5 1
    ∷ order_answer left 0 [] 0 is answer 5 2
    ∷ [])
unfolding order_answer term_order row_order row_of_term path_row number_order term_at terms entries_from term_by
    as_path as_qualifier
across = refl

-- rows that no call leads to are compared as the terms that they stand for: kind 12 and operands that are no earlier
-- rows, or of the other sort, are the void path or false; an unused field says nothing
abbrev odd : List Row
odd =
    row 12 5 5 5
    ∷ row 0 7 7 7
    ∷ row 3 0 9 3
    ∷ row 3 1 2 0
    ∷ row 6 0 0 0
    ∷ row 4 4 1 0
    ∷ row 4 1 1 0
    ∷ row 8 1 0 0
    ∷ row 8 99 0 0
    ∷ row 8 4 0 0
    ∷ row 7 0 0 0
    ∷ row 8 10 3 3
    ∷ []

pub none_leads_to :
    AllRight
    (order_answer odd 0 odd 1 is answer 0 1
    ∷ order_answer odd 2 odd 3 is answer 0 0
    ∷ order_answer odd 5 odd 6 is answer 0 1
    ∷ order_answer odd 7 odd 8 is answer 0 1
    ∷ order_answer odd 7 odd 9 is answer 0 2
    ∷ order_answer odd 8 odd 11 is answer 0 1
    ∷ order_answer odd 0 right 0 is answer 0 0
    ∷ [])
unfolding order_answer term_order row_order row_of_term path_row number_order term_at terms entries_from term_by
    as_path as_qualifier
none_leads_to = refl

-- the bundles of these two sessions
abbrev bundles : List Step → List Step → Answer
bundles ps qs = bundle_order_answer (book left ps) (book right qs)

pub orders_of_bundles :
    AllRight
    -- two without a step; one with a step; the same step under other numbers
    (bundles [] [] is answer 0 1
    ∷ bundle_order_answer (book [] []) (book right []) is answer 0 1
    ∷ bundles [] (step 2 3 3 0 0 ∷ []) is answer 0 0
    ∷ bundles (step 2 0 0 0 0 ∷ []) [] is answer 0 2
    ∷ bundles (step 2 0 2 0 0 ∷ []) (step 2 3 5 0 0 ∷ []) is answer 0 1
    -- one that begins the other, of one step and of two
    ∷ bundles (step 2 0 0 0 0 ∷ []) (step 2 3 3 0 0 ∷ step 1 3 3 0 0 ∷ []) is answer 0 0
    ∷ bundles (step 2 0 0 0 0 ∷ step 1 0 0 0 0 ∷ []) (step 2 3 3 0 0 ∷ []) is answer 0 2
    ∷ bundles (step 2 0 0 0 0 ∷ step 2 1 1 0 0 ∷ []) (step 2 3 3 0 0 ∷ step 2 1 1 0 0 ∷ step 1 3 3 0 0 ∷ [])
    is answer 0 0
    -- rule first, then left and right; numbers of rows say nothing
    ∷ bundles (step 2 3 3 0 0 ∷ []) (step 3 3 3 0 0 ∷ []) is answer 0 0
    ∷ bundles (step 9 0 0 0 0 ∷ []) (step 10 3 3 0 0 ∷ []) is answer 0 0
    ∷ bundles (step 4 0 0 0 0 ∷ []) (step 3 1 1 0 0 ∷ []) is answer 0 2
    ∷ bundles (step 2 1 0 0 0 ∷ []) (step 2 3 1 0 0 ∷ []) is answer 0 2
    ∷ bundles (step 2 0 1 0 0 ∷ []) (step 2 1 3 0 0 ∷ []) is answer 0 0
    ∷ bundles (step 2 0 0 0 0 ∷ []) (step 2 3 1 0 0 ∷ []) is answer 0 0
    ∷ bundles (step 2 0 5 0 0 ∷ []) (step 2 3 1 0 0 ∷ []) is answer 0 2
    -- the first difference decides, not a later one, nor the length
    ∷ bundles (step 2 0 0 0 0 ∷ step 9 0 0 0 0 ∷ step 9 0 0 0 0 ∷ []) (step 2 1 1 0 0 ∷ step 1 3 3 0 0 ∷ [])
    is answer 0 0
    ∷ bundles (step 2 1 1 0 0 ∷ []) (step 2 3 3 0 0 ∷ step 9 1 1 0 0 ∷ []) is answer 0 2
    ∷ bundles (step 2 0 0 0 0 ∷ step 2 1 1 0 0 ∷ []) (step 2 3 3 0 0 ∷ step 2 3 3 0 0 ∷ []) is answer 0 2
    -- a difference in premises only: equal, and what comes after it decides
    ∷ bundles (step 7 2 2 1 2 ∷ []) (step 7 5 5 3 2 ∷ []) is answer 0 1
    ∷ bundles (step 7 2 2 1 1 ∷ []) (step 7 5 5 1 9 ∷ []) is answer 0 1
    ∷ bundles (step 7 2 2 9 9 ∷ step 2 0 0 0 0 ∷ []) (step 7 5 5 1 1 ∷ step 2 1 1 0 0 ∷ []) is answer 0 0
    -- a path against a qualifier, and steps of qualifiers
    ∷ bundles (step 2 0 0 0 0 ∷ []) (step 2 0 0 0 0 ∷ []) is answer 0 0
    ∷ bundle_order_answer (book (row 6 0 0 0 ∷ row 7 0 0 0 ∷ []) (step 2 0 0 0 0 ∷ []))
    (book (row 6 0 0 0 ∷ row 7 0 0 0 ∷ []) (step 2 1 1 0 0 ∷ [])) is answer 0 0
    -- rows that no step uses don't count
    ∷ bundle_order_answer (book (row 2 1 0 1 ∷ []) (step 2 0 0 0 0 ∷ []))
    (book right (step 2 3 3 0 0 ∷ [])) is answer 0 1
    ∷ [])
unfolding bundle_order_answer bundle_order term_steps term_step steps_order step_order term_order row_order row_of_term
    path_row number_order term_at terms entries_from term_by as_path as_qualifier
orders_of_bundles = refl

-- how often a term is in a list
pub counted :
    AllRight
    (occurrences term_order (of_path Root) [] is 0
    ∷ occurrences term_order (of_path Root) (of_path Root ∷ of_path Void ∷ of_path Root ∷ of_qualifier True ∷ []) is 2
    ∷ occurrences term_order (of_path Void) (of_path Root ∷ of_path (AxisStep 1 1 0) ∷ []) is 0
    ∷ [])
unfolding occurrences term_order row_order row_of_term path_row number_order
counted = refl
