-- What the check of columns finds, as tests of their document, whatever numbers the names get.
use Rattle.std.proofs.Common.{ℕ, zero, suc, ◌≡◌, ◌≤◌, ◌<◌, ◌+◌, ◌-◌, Bool, true, false, not, cond, ◌&&◌, ◌||◌, ◌⊎◌}
use Rattle.std.proofs.Common.{inl, inr, refl, sym, ap, ◌∙◌, arith, eqb, eq-eqb, List, length, leb, get_or, subst}
use borrow.Author.Tests.{eqb-true, ne_eqb}
use lib.Dec.{T, le→leb}
use Rattle.common.specs.Bounded.{all_below, sum_below}
use Rattle.xpath.specs.Document.{Document, kind_at, parent_at, name_at, row_ok, row_ok_by, well_formed}
use Rattle.xpath.specs.Document.{kind_and_name_ok, is_attribute, attribute_placed}
use Rattle.documents.specs.Columns.{rows_of}
use Rattle.documents.proofs.Fields.{rows_kind, rows_parent, rows_name, rows_length}
use Rattle.xml_document.specs.Renumbering.{Renumbered, Renumbers}
use Rattle.xml_document.specs.Xml.{IsXml, AreXml, text_inside, texts_apart, inside_by, apart_by, document_element_by}
use Rattle.xml_document.specs.Xml.{document_elements}
use Rattle.xml_document.specs.private.Checks.{Passes, RowsOk, Counts, reaches, placed_by}
use Rattle.xml_document.specs.declared.columns.Columns.{Columns}
use Rattle.xml_document.proofs.Climb.{true_or, and_true, true_and, up}

module _ (c : Columns) (ms : List ℕ) (r : Renumbers c.names.now ms) where
  abbrev pub d : Document
  d = rows_of c.kinds.now c.parents.now ms

  kind_look : (i : ℕ) → kind_at d i ≡ get_or c.kinds.now i 0
  kind_look i = rows_kind c.kinds.now c.parents.now ms c.even.parents_size (r.size ∙ c.even.names_size) i

  parent_look : (i : ℕ) → parent_at d i ≡ get_or c.parents.now i 0
  parent_look i = rows_parent c.kinds.now c.parents.now ms c.even.parents_size (r.size ∙ c.even.names_size) i

  name_look : (i : ℕ) → name_at d i ≡ get_or ms i 0
  name_look i = rows_name c.kinds.now c.parents.now ms c.even.parents_size (r.size ∙ c.even.names_size) i

  length_look : length d ≡ length c.kinds.now
  length_look = rows_length c.kinds.now c.parents.now ms c.even.parents_size (r.size ∙ c.even.names_size)

-- The climb from a row toward a parent: what it has left to show where it is at `at`.
pub record Carries (c : Columns) (p n at : ℕ) : Type 0 where
  pub carries : Passes c (reaches p at) → Passes c (reaches p n)

pub climb_starts : (c : Columns) (p n : ℕ) → Carries c p n n
climb_starts c p n = record { carries = λ e. e }

pub climb_goes : (c : Columns) (p n at next : ℕ) → Carries c p n at → next ≡ get_or c.parents.now at 0 → next < at →
    Carries c p n next
climb_goes c p n at next h e l =
    record {
      carries = λ q. h.carries (record {
        passes = λ ms r.
            let u : parent_at (d c ms r) at ≡ next = parent_look c ms r at ∙ sym e in
            up (d c ms r) p at (rw u l) (rw u (q.passes ms r));
      });
    }

reaches-same : (d : Document) (p at : ℕ) → p ≡ at → reaches p at d ≡ true
unfolding reaches
reaches-same d p at e = true_or _ _ (inl (eq-eqb p at e))

pub climb_ends : (c : Columns) (p n at : ℕ) → Carries c p n at → at ≡ p → Passes c (reaches p n)
climb_ends c p n at h e = h.carries (record { passes = λ ms r. reaches-same (d c ms r) p at (sym e) })

three : (a b c : Bool) → a ≡ true → b ≡ true → c ≡ true → (a && b && c) ≡ true
three true true c p q r = r
three true false c p q r = absurd (cc)
three false b c p q r = absurd (cc)

four : (a b c e : Bool) → a ≡ true → b ≡ true → c ≡ true → e ≡ true → (a && b && c && e) ≡ true
four true b c e p q r s = three b c e q r s
four false b c e p q r s = absurd (cc)

root : (d : Document) → kind_at d 0 ≡ 0 → parent_at d 0 ≡ 0 → name_at d 0 ≡ 0 → row_ok d 0 ≡ true
unfolding row_ok
root d k p n = three _ _ _ (eq-eqb _ _ k) (eq-eqb _ _ p) (eq-eqb _ _ n)

-- row 0
pub root_passes : (c : Columns) → get_or c.kinds.now 0 0 ≡ 0 → get_or c.parents.now 0 0 ≡ 0 →
    get_or c.names.now 0 0 ≡ 0 → Passes c (λ d. row_ok d 0)
root_passes c k p n =
    record {
      passes = λ ms r.
          root (d c ms r) (kind_look c ms r 0 ∙ k) (parent_look c ms r 0 ∙ p)
          (name_look c ms r 0 ∙ (r.each 0).none n);
    }

T_true : (b : Bool) → T b → b ≡ true
T_true true t = refl
T_true false t = absurd t

leb_true : (m n : ℕ) → m ≤ n → leb m n ≡ true
leb_true m n l = T_true (leb m n) (le→leb m n l)

-- a later row, on one document
later : (d : Document) (n p k m l q : ℕ) → parent_at d (suc n) ≡ p → kind_at d (suc n) ≡ k → name_at d (suc n) ≡ m →
    kind_at d p ≤ 1 → kind_at d n ≡ l → parent_at d n ≡ q → reaches p n d ≡ true →
    kind_and_name_ok k m ≡ true → (not (eqb k 5) || placed_by p (kind_at d p) n l q) ≡ true → row_ok d (suc n) ≡ true
unfolding row_ok reaches placed_by
later d n p k m l q ep ek em lp el eq re g a =
    rw (ep, ek, em, el, eq) (four _ _ _ _ re (leb_true (kind_at d p) 1 lp) g a)

-- a later row: an attribute stands where it must
pub row_passes : (c : Columns) (n p k m o l q : ℕ) → p ≡ get_or c.parents.now (suc n) 0 →
    k ≡ get_or c.kinds.now (suc n) 0 → m ≡ get_or c.names.now (suc n) 0 → o ≡ get_or c.kinds.now p 0 →
    l ≡ get_or c.kinds.now n 0 → q ≡ get_or c.parents.now n 0 → Passes c (reaches p n) → o ≤ 1 →
    ((j : ℕ) → Renumbered m j → kind_and_name_ok k j ≡ true) →
    (not (eqb k 5) || placed_by p o n l q) ≡ true → Passes c (λ d. row_ok d (suc n))
row_passes c n p k m o l q ep ek em eo el eq re lp g a =
    record {
      passes = λ ms r.
          let u : kind_at (d c ms r) p ≡ o = kind_look c ms r p ∙ sym eo in
          later (d c ms r) n p k (get_or ms (suc n) 0) l q
          (parent_look c ms r (suc n) ∙ sym ep)
          (kind_look c ms r (suc n) ∙ sym ek)
          (name_look c ms r (suc n))
          (rw u lp)
          (kind_look c ms r n ∙ sym el)
          (parent_look c ms r n ∙ sym eq)
          (re.passes ms r)
          (g (get_or ms (suc n) 0) (rw em (r.each (suc n))))
          (rw u a);
    }

pub placed_attribute : (k : ℕ) (b : Bool) → b ≡ true → (not (eqb k 5) || b) ≡ true
placed_attribute k b e = true_or _ _ (inr e)

pub no_attribute : (k : ℕ) (b : Bool) → ¬ (k ≡ 5) → (not (eqb k 5) || b) ≡ true
no_attribute k b f = true_or _ _ (inl (ap not (ne_eqb k 5 f)))

inside-look : (d : Document) (n k p : ℕ) → kind_at d n ≡ k → parent_at d n ≡ p → inside_by k p ≡ true →
    text_inside d n ≡ true
unfolding text_inside
inside-look d n k p ek ep e = rw (ek, ep) e

pub inside_passes : (c : Columns) (n k p : ℕ) → k ≡ get_or c.kinds.now n 0 → p ≡ get_or c.parents.now n 0 →
    inside_by k p ≡ true → Passes c (λ d. text_inside d n)
inside_passes c n k p ek ep e =
    record {
      passes = λ ms r.
          inside-look (d c ms r) n k p (kind_look c ms r n ∙ sym ek) (parent_look c ms r n ∙ sym ep) e;
    }

apart-look : (d : Document) (n k p l q : ℕ) → kind_at d n ≡ k → parent_at d n ≡ p → kind_at d (suc n) ≡ l →
    parent_at d (suc n) ≡ q → apart_by k p l q ≡ true → texts_apart d n ≡ true
unfolding texts_apart
apart-look d n k p l q ek ep el eq e = rw (ek, ep, el, eq) e

pub apart_passes : (c : Columns) (n k p l q : ℕ) → k ≡ get_or c.kinds.now n 0 → p ≡ get_or c.parents.now n 0 →
    l ≡ get_or c.kinds.now (suc n) 0 → q ≡ get_or c.parents.now (suc n) 0 → apart_by k p l q ≡ true →
    Passes c (λ d. texts_apart d n)
apart_passes c n k p l q ek ep el eq e =
    record {
      passes = λ ms r.
          apart-look (d c ms r) n k p l q
          (kind_look c ms r n ∙ sym ek)
          (parent_look c ms r n ∙ sym ep)
          (kind_look c ms r (suc n) ∙ sym el)
          (parent_look c ms r (suc n) ∙ sym eq)
          e;
    }

-- The loop over the rows.

below_none : (f : ℕ → Bool) → all_below 0 f ≡ true
unfolding all_below
below_none f = refl

below_next : (f : ℕ → Bool) (n : ℕ) → all_below n f ≡ true → f n ≡ true → all_below (suc n) f ≡ true
unfolding all_below
below_next f n a e = true_and _ _ a e

first_of_three : (a b c : Bool) → (a && b && c) ≡ true → a ≡ true
first_of_three true b c e = refl
first_of_three false b c e = absurd (cc)

-- the root is no text
root_inside : (x : Document) → row_ok x 0 ≡ true → text_inside x 0 ≡ true
unfolding row_ok text_inside inside_by
root_inside x e =
    let k = eqb-true (kind_at x 0) 0
    (first_of_three (eqb (kind_at x 0) 0) (eqb (parent_at x 0) 0) (eqb (name_at x 0) 0) e) in
    rw k refl

pub rows_start : (c : Columns) → Passes c (λ d. row_ok d 0) → RowsOk c 0
rows_start c p =
    record {
      rows = record { passes = λ ms r. below_next _ _ (below_none _) (p.passes ms r) };
      inside = record { passes = λ ms r. below_next _ _ (below_none _) (root_inside (d c ms r) (p.passes ms r)) };
      apart = record { passes = λ ms r. below_none _ };
    }

pub rows_next : (c : Columns) (n m : ℕ) → m ≡ suc n → RowsOk c n → Passes c (λ d. row_ok d (suc n)) →
    Passes c (λ d. text_inside d (suc n)) → Passes c (λ d. texts_apart d n) → RowsOk c m
rows_next c n m q h p i a =
    subst (λ (k : ℕ). RowsOk c k) (sym q) (record {
      rows = record { passes = λ ms r. below_next _ _ (h.rows.passes ms r) (p.passes ms r) };
      inside = record { passes = λ ms r. below_next _ _ (h.inside.passes ms r) (i.passes ms r) };
      apart = record { passes = λ ms r. below_next _ _ (h.apart.passes ms r) (a.passes ms r) };
    })

-- The loop that counts.

none_counted : (d : Document) → 0 ≡ document_elements d 0
unfolding document_elements sum_below
none_counted d = refl

pub count_start : (c : Columns) → Counts c 0 0
count_start c = record { counts = λ ms r. none_counted (d c ms r); within = omega arith }

one_counted : (d : Document) (n m k p : ℕ) (b : Bool) → m ≡ document_elements d n → kind_at d n ≡ k →
    parent_at d n ≡ p → document_element_by k p ≡ b → m + cond b 1 0 ≡ document_elements d (suc n)
unfolding document_elements sum_below
one_counted d n m k p b e ek ep eb = rw (e, ek, ep, eb) refl

one_more : (m n : ℕ) (b : Bool) → m ≤ n → m + cond b 1 0 ≤ suc n
one_more m n true l = omega arith
one_more m n false l = omega arith

pub count_next : (c : Columns) (n m k p i j : ℕ) (b : Bool) → Counts c n m → k ≡ get_or c.kinds.now n 0 →
    p ≡ get_or c.parents.now n 0 → document_element_by k p ≡ b → i ≡ suc n → j ≡ m + cond b 1 0 → Counts c i j
count_next c n m k p i j b h ek ep eb ei ej =
    subst (λ (x : ℕ). Counts c x j) (sym ei) (subst (λ (y : ℕ). Counts c (suc n) y) (sym ej) (record {
      counts = λ ms r.
          one_counted (d c ms r) n m k p b (h.counts ms r)
          (kind_look c ms r n ∙ sym ek)
          (parent_look c ms r n ∙ sym ep)
          eb;
      within = one_more m n b h.within;
    }))

all_formed : (d : Document) (m : ℕ) → length d ≡ suc m → all_below (suc m) (row_ok d) ≡ true → well_formed d ≡ true
unfolding well_formed
all_formed d m e a =
    let l : leb 1 (length d) ≡ true = leb_true 1 (length d) (omega arith) in
    true_and _ _ l (subst (λ (k : ℕ). all_below k (row_ok d) ≡ true) (sym e) a)

-- the columns are XML's
pub are_xml : (c : Columns) (m n : ℕ) → suc m ≡ length c.kinds.now → RowsOk c m → Counts c (length c.kinds.now) n →
    n ≡ 1 → AreXml c.kinds.now c.parents.now c.names.now
are_xml c m n em h k en =
    record {
      even = c.even;
      document = λ ms r.
          let u : length (d c ms r) ≡ suc m = length_look c ms r ∙ sym em in
          let v : length (d c ms r) - 1 ≡ m = omega arith in
          record {
            formed = all_formed (d c ms r) m u (h.rows.passes ms r);
            inside = subst (λ (k : ℕ). all_below k (text_inside (d c ms r)) ≡ true) (sym u) (h.inside.passes ms r);
            apart = subst (λ (k : ℕ). all_below k (texts_apart (d c ms r)) ≡ true) (sym v) (h.apart.passes ms r);
            one =
                subst (λ (k : ℕ). document_elements (d c ms r) k ≡ 1) (sym (length_look c ms r))
                (sym (k.counts ms r) ∙ en);
          };
    }
