-- Documents that XML can have, and some that it can't.
use Rattle.std.specs.Prelude.{◌≡◌, ◌-◌, refl, true, false, [], ◌∷◌, length}
use Rattle.common.specs.Bounded.{all_below, sum_below}
use Rattle.xpath.specs.Document.{Document, node, root_node, kind_at, parent_at, name_at, is_child, climb_meets}
use Rattle.xpath.specs.Document.{is_ancestor, kind_and_name_ok, row_ok, well_formed}
use Rattle.xml_document.specs.Xml.{IsXml, text_inside, texts_apart, inside_by, apart_by, document_element_by}
use Rattle.xml_document.specs.Xml.{document_elements}

-- <a>t<b>t</b>t</a> behind a comment: rows 5 and 6 are texts, of two parents
abbrev pub three_texts : Document
three_texts =
    root_node  -- 0
    ∷ node 3 0 0  -- 1
    ∷ node 1 0 1  -- 2
    ∷ node 2 2 0  -- 3
    ∷ node 1 2 2  -- 4
    ∷ node 2 4 0  -- 5
    ∷ node 2 2 0  -- 6
    ∷ []

three_texts_formed : well_formed three_texts ≡ true
unfolding well_formed row_ok kind_and_name_ok kind_at parent_at name_at is_child climb_meets is_ancestor all_below
three_texts_formed = refl

three_texts_inside : all_below (length three_texts) (text_inside three_texts) ≡ true
unfolding all_below text_inside inside_by kind_at parent_at
three_texts_inside = refl

three_texts_apart : all_below (length three_texts - 1) (texts_apart three_texts) ≡ true
unfolding all_below texts_apart apart_by kind_at parent_at
three_texts_apart = refl

three_texts_one : document_elements three_texts (length three_texts) ≡ 1
unfolding document_elements document_element_by sum_below kind_at parent_at
three_texts_one = refl

pub three_texts_xml : IsXml three_texts
three_texts_xml =
    record { formed = three_texts_formed; inside = three_texts_inside; apart = three_texts_apart; one = three_texts_one }

-- two texts of one element, one after the other
pub adjacent_texts : texts_apart (root_node ∷ node 1 0 1 ∷ node 2 1 0 ∷ node 2 1 0 ∷ []) 2 ≡ false
unfolding texts_apart apart_by kind_at parent_at
adjacent_texts = refl

-- with a comment between them
pub parted_texts : texts_apart (root_node ∷ node 1 0 1 ∷ node 2 1 0 ∷ node 3 1 0 ∷ node 2 1 0 ∷ []) 2 ≡ true
unfolding texts_apart apart_by kind_at parent_at
parted_texts = refl

-- a text right under the root, and a comment there
pub text_of_the_root : text_inside (root_node ∷ node 1 0 1 ∷ node 2 0 0 ∷ []) 2 ≡ false
unfolding text_inside inside_by kind_at parent_at
text_of_the_root = refl

pub comment_of_the_root : text_inside (root_node ∷ node 1 0 1 ∷ node 3 0 0 ∷ []) 2 ≡ true
unfolding text_inside inside_by kind_at parent_at
comment_of_the_root = refl

-- two elements right under the root, of which one has a third
pub two_elements : document_elements (root_node ∷ node 1 0 1 ∷ node 1 1 1 ∷ node 1 0 1 ∷ []) 4 ≡ 2
unfolding document_elements document_element_by sum_below kind_at parent_at
two_elements = refl
