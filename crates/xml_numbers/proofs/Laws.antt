-- The numbers of a table, of a column and of the rows of a document.
use Rattle.std.proofs.Common.{ℕ, zero, suc, ◌≡◌, ◌≤◌, ◌<◌, ◌-◌, Bool, true, false, not, cond, ◌&&◌, ◌⊎◌, List, []}
use Rattle.std.proofs.Common.{◌∷◌, length}
use Rattle.std.proofs.Common.{get_or, eqb, leb, refl, sym, ap, ◌∙◌, arith, subst, ◌++◌, length-append, drop}
use Rattle.std.proofs.Math.ListN.{get_or-append}
use Rattle.std.proofs.Math.Seq.{get_or-append_seam, drop-cons}
use Rattle.std.proofs.lemmas.List.{drop_all}
use Rattle.std.proofs.lemmas.Option.{slice_get_past}
use Rattle.std.proofs.Math.Option.{Option, none, some}
use Rattle.std.specs.Prelude.{Option as Maybe, Some, None}
use mathlib.Core.Logic.{⊎_elim}
use lib.ListN.{get_or-eq_default}
use borrow.Author.Tests.{le-ltb, leb-true, eq-eqb, ne_eqb, clash}
use Rattle.common.specs.Bounded.{all_below, first_below}
use Rattle.common.specs.Limits.{max_number}
use Rattle.common.proofs.Reflect.{le_or_lt}
use Rattle.common.proofs.Search.{none_iff, first_not_yet, first_found}
use Rattle.lines.specs.Line.{lines}
use Rattle.selector_grammar.specs.Bytes.{Bytes, is_word, is_start, is_name}
use Rattle.common.specs.Lists.{all_of}
use Rattle.selector_grammar.specs.Words.{number_of, numbered, find, bytes_of}
use Rattle.selector_words.specs.private.Names.{given}
use Rattle.xpath.specs.Document.{Document, well_formed, row_ok}
use Rattle.documents.specs.Columns.{rows_of}
use Rattle.documents.specs.Documents.{refused_row, most_rows}
use Rattle.documents.proofs.Fields.{rows_length}
use Rattle.xml_document.specs.declared.document.Document.{Document as XmlDocument}
use Rattle.xml_document.specs.declared.names.Names.{Names}
use Rattle.xml_document.specs.Names.{nth_name}
use Rattle.xml_document.specs.Renumbering.{Renumbered, Renumbers}
use Rattle.xml_document.specs.Xml.{IsXml}
use Rattle.xml_document.proofs.Climb.{and_true}
use Rattle.xml_numbers.specs.declared.numbering.Numbering.{Numbering}
use Rattle.xml_numbers.specs.declared.numbering.Lookup.{Lookup}
use Rattle.xml_numbers.specs.declared.numbering.Lookup.TheVariants.{NoNamespace, LocalPart}
use Rattle.xml_numbers.specs.declared.numbering.Unlisted.{Unlisted}
use Rattle.xml_numbers.specs.declared.numbering.Unlisted.TheVariants.{Refused, Spare}
use Rattle.xml_numbers.specs.Numbers.{listed, sought, spare, first_of, number_by, number_at, unnumbered}
use Rattle.xml_numbers.specs.Numbers.{first_unnumbered}
use Rattle.xml_numbers.specs.Numbers.{Numbered}
use Rattle.xml_numbers.specs.private.Columns.{TableListed, Column}

-- past the last name there is the empty one, which no list has a number for
past_table : (list : Bytes) (t : Names) (k : ℕ) → length t.spans.items ≤ k → listed list (nth_name t k) ≡ 0
unfolding is_word
past_table list t k h = rw (slice_get_past t.spans.items k h) refl

all_listed : (list : Bytes) (t : Names) (vs : List ℕ) → length vs ≡ length t.spans.items →
    ((k : ℕ) → k < length vs → get_or vs k 0 ≡ listed list (nth_name t k)) → TableListed list t vs
all_listed list t vs s g =
    record {
      each = λ k. ⊎_elim
          (λ (l : length vs ≤ k). let z : get_or vs k 0 ≡ 0 = rw get_or-eq_default refl in
          z ∙ sym (past_table list t k (omega (arith, s, l))))
          (λ l. g k l)
          (le_or_lt (length vs) k);
    }

-- The numbers of the first n names of a table.
pub record Listed (list : Bytes) (t : Names) (vs : List ℕ) (n : ℕ) : Type 0 where
  pub size : length vs ≡ n
  pub each : (k : ℕ) → k < n → get_or vs k 0 ≡ listed list (nth_name t k)

pub listed_starts : (list : Bytes) (t : Names) → Listed list t [] 0
listed_starts list t = record { size = refl; each = λ k l. absurd (omega (arith, l)) }

-- one number more
seam : (vs : List ℕ) (v k n : ℕ) → length vs ≡ n → k ≡ n → get_or (vs ++ v ∷ []) k 0 ≡ v
seam vs v k n s e = let q : k ≡ length vs = e ∙ sym s in rw q (get_or-append_seam vs v [] 0)

before : (vs : List ℕ) (v k n : ℕ) → length vs ≡ n → k < n → get_or (vs ++ v ∷ []) k 0 ≡ get_or vs k 0
before vs v k n s l = get_or-append vs (v ∷ []) 0 k (omega (arith, s, l))

one_longer : (vs : List ℕ) (v n : ℕ) → length vs ≡ n → length (vs ++ v ∷ []) ≡ suc n
one_longer vs v n s = length-append vs (v ∷ []) ∙ omega (arith, s)

each_next : (f : ℕ → ℕ) (vs : List ℕ) (v n : ℕ) → length vs ≡ n → ((k : ℕ) → k < n → get_or vs k 0 ≡ f k) → v ≡ f n →
    (k : ℕ) → k < suc n → get_or (vs ++ v ∷ []) k 0 ≡ f k
each_next f vs v n s g e k l =
    ⊎_elim
    (λ (h : n ≤ k). let q : k ≡ n = omega (arith, h, l) in seam vs v k n s q ∙ e ∙ ap f (sym q))
    (λ (h : k < n). before vs v k n s h ∙ g k h)
    (le_or_lt n k)

pub listed_next : (list : Bytes) (t : Names) (vs ws : List ℕ) (v n m : ℕ) → Listed list t vs n → ws ≡ vs ++ v ∷ [] →
    v ≡ listed list (nth_name t n) → m ≡ suc n → Listed list t ws m
listed_next list t vs ws v n m h q e s =
    rw (q, s) (record {
      size = one_longer vs v n h.size;
      each = each_next (λ k. listed list (nth_name t k)) vs v n h.size h.each e;
    })

pub listed_ends : (list : Bytes) (t : Names) (vs : List ℕ) (n : ℕ) → Listed list t vs n → n ≡ length t.spans.items →
    TableListed list t vs
listed_ends list t vs n h e =
    all_listed list t vs (h.size ∙ e) (λ k l. h.each k (omega (arith, h.size, l)))

module _ (x : XmlDocument) (m : Numbering) (ms : List ℕ) where
  -- past the last row there is no name
  past_rows : (i : ℕ) → length x.names.items ≤ i → number_at x m i ≡ 0
  past_rows i h = let z : get_or x.names.items i 0 ≡ 0 = rw get_or-eq_default refl in rw z refl

  all_numbered : length ms ≡ length x.kinds.items →
      ((k : ℕ) → k < length ms → get_or ms k 0 ≡ number_at x m k) → none ≡ first_unnumbered x m → Column x m ms
  all_numbered s g e =
      record {
        size = s;
        each = λ k. ⊎_elim
            (λ (l : length ms ≤ k). let z : get_or ms k 0 ≡ 0 = rw get_or-eq_default refl in
            z ∙ sym (past_rows k (omega (arith, s, x.xml.even.names_size, l))))
            (λ l. g k l)
            (le_or_lt (length ms) k);
        all = e;
      }

-- The numbers of the first n rows, of which none lacks one.
pub record Filled (x : XmlDocument) (m : Numbering) (ms : List ℕ) (n : ℕ) : Type 0 where
  pub size : length ms ≡ n
  pub each : (k : ℕ) → k < n → get_or ms k 0 ≡ number_at x m k
  pub all : first_below n (unnumbered x m) ≡ none

module _ (x : XmlDocument) (m : Numbering) where
  pub filled_starts : Filled x m [] 0
  unfolding first_below
  filled_starts = record { size = refl; each = λ k l. absurd (omega (arith, l)); all = refl }

  pub filled_next : (ms ns : List ℕ) (k n j : ℕ) → Filled x m ms n → ns ≡ ms ++ k ∷ [] → k ≡ number_at x m n →
      (not (eqb (get_or x.names.items n 0) 0) && eqb k 0) ≡ false → j ≡ suc n → Filled x m ns j
  filled_next ms ns k n j h q e u s =
      rw (q, s) (record {
        size = one_longer ms k n h.size;
        each = each_next (number_at x m) ms k n h.size h.each e;
        all = first_not_yet (unnumbered x m) n h.all (rw e at u);
      })

  pub filled_stops : (ms : List ℕ) (k n : ℕ) → Filled x m ms n → n < length x.kinds.items → k ≡ number_at x m n →
      (not (eqb (get_or x.names.items n 0) 0) && eqb k 0) ≡ true → some n ≡ first_unnumbered x m
  filled_stops ms k n h l e u = sym (first_found (unnumbered x m) n (length x.kinds.items) l h.all (rw e at u))

  pub filled_ends : (ms : List ℕ) (n : ℕ) → Filled x m ms n → n ≡ length x.kinds.items → Column x m ms
  filled_ends ms n h e =
      all_numbered x m ms (h.size ∙ e) (λ k l. h.each k (omega (arith, h.size, l)))
      (sym (subst (λ (j : ℕ). first_below j (unnumbered x m) ≡ none) e h.all))

named : (n k : ℕ) → (not (eqb n 0) && eqb k 0) ≡ false → 1 ≤ n → 1 ≤ k
named n k e h =
    ⊎_elim
    (λ (l : k ≤ 0). let z : eqb n 0 ≡ false = ne_eqb n 0 (λ q. omega (arith, q, h)) in
    let y : eqb k 0 ≡ true = eq-eqb k 0 (omega (arith, l)) in absurd (clash (sym (rw (z, y) at e))))
    (λ (l : 0 < k). omega (arith, l))
    (le_or_lt k 0)

-- No number is above the largest.

limited : (b : Bool) (k : ℕ) → leb k max_number ≡ b → cond b k 0 ≤ max_number
limited true k e = leb-true k max_number e
limited false k e = omega arith

either : (b : Bool) (j k : ℕ) → j ≤ max_number → k ≤ max_number → cond b j k ≤ max_number
either true j k h l = h
either false j k h l = l

numbered_most : (o : Option ℕ) → numbered o ≤ max_number
unfolding numbered
numbered_most none = omega arith
numbered_most (some i) = limited (leb (suc i) max_number) (suc i) refl

listed_most : (list name : Bytes) → listed list name ≤ max_number
unfolding number_of
listed_most list name =
    either (is_word name) (number_of list name) 0 (numbered_most (find name (bytes_of (lines list)))) (omega arith)

sought_most : (l : Lookup) (k s : ℕ) → k ≤ max_number → sought l k s ≤ max_number
sought_most NoNamespace k s h = either (eqb s 0) k 0 h (omega arith)
sought_most LocalPart k s h = h

spare_most : (u : Unlisted) (list : Bytes) → spare u list ≤ max_number
spare_most Refused list = omega arith
spare_most Spare list = limited (leb (suc (length (lines list))) max_number) (suc (length (lines list))) refl

number_at_most : (x : XmlDocument) (m : Numbering) (i : ℕ) → number_at x m i ≤ max_number
number_at_most x m i =
    let n = get_or x.names.items i 0 in
    let k = sought m.lookup (listed m.list.now (nth_name x.name_table (n - 1))) (get_or x.namespaces.items i 0) in
    either (eqb n 0) 0 (first_of k (spare m.unlisted m.list.now)) (omega arith)
    (either (eqb k 0) (spare m.unlisted m.list.now) k (spare_most m.unlisted m.list.now)
    (sought_most m.lookup (listed m.list.now (nth_name x.name_table (n - 1))) (get_or x.namespaces.items i 0)
    (listed_most m.list.now (nth_name x.name_table (n - 1)))))

-- the numbers of a column are such that the document stays one that XML can have
module _ (x : XmlDocument) (m : Numbering) (ms : List ℕ) (c : Column x m ms) where
  each_renumbered : (i : ℕ) → Renumbered (get_or x.names.items i 0) (get_or ms i 0)
  each_renumbered i =
      record {
        none = λ h. c.each i ∙ rw h refl;
        some = λ h. ⊎_elim
            (λ (l : length x.names.items ≤ i). let z : get_or x.names.items i 0 ≡ 0 = rw get_or-eq_default refl in
            absurd (omega (arith, z, h)))
            (λ (l : i < length x.names.items).
            let f = (none_iff (unnumbered x m) (length x.kinds.items)).0 (sym c.all) i
            (omega (arith, x.xml.even.names_size, l)) in
            let k = named (get_or x.names.items i 0) (number_at x m i) f h in rw (c.each i) k)
            (le_or_lt (length x.names.items) i);
        most = rw (c.each i) (number_at_most x m i);
      }

  pub renumbered : Renumbers x.names.items ms
  renumbered = record { size = c.size ∙ sym x.xml.even.names_size; each = each_renumbered }

  pub stays_xml : IsXml (rows_of x.kinds.items x.parents.items ms)
  stays_xml = x.xml.document ms renumbered

  pub made : (d : Document) → d ≡ rows_of x.kinds.items x.parents.items ms → Numbered x m d
  made d e = record { numbers = ms; rows = e; size = c.size; each = c.each; xml = rw e stays_xml }

all_true : (n : ℕ) (f : ℕ → Bool) → all_below n f ≡ true → (k : ℕ) → k < n → f k ≡ true
unfolding all_below
all_true zero f e k h = absurd (omega arith)
all_true (suc n) f e k h =
    let r = and_true (all_below n f) (f n) e in
    ⊎_elim (λ (g : n ≤ k). let q : k ≡ n = omega (arith, g, h) in rw q r.1) (λ g. all_true n f r.0 k g) (le_or_lt n k)

-- a well-formed document is not refused
pub not_refused : (d : Document) → well_formed d ≡ true → length d ≤ most_rows → none ≡ refused_row d
unfolding well_formed
not_refused [] w l = absurd (cc)
not_refused (r ∷ rs) w l =
    let a = and_true (leb 1 (length (r ∷ rs))) (all_below (length (r ∷ rs)) (row_ok (r ∷ rs))) w in
    let e : first_below (length (r ∷ rs)) (λ n. not (row_ok (r ∷ rs) n)) ≡ none =
    (none_iff (λ n. not (row_ok (r ∷ rs) n)) (length (r ∷ rs))).1
    (λ k h. ap not (all_true (length (r ∷ rs)) (row_ok (r ∷ rs)) a.1 k h)) in
    rw (ne_eqb (length (r ∷ rs)) 0 (λ q. omega (arith, q)), le-ltb most_rows (length (r ∷ rs)) l, e) refl

apart_some : (v : ℕ) → ◌≡◌ {A = Option ℕ} (some v) none → ⊥
apart_some v q = cc

-- so the document with a column's numbers is not
pub never_refused : (x : XmlDocument) (m : Numbering) (ms : List ℕ) → Column x m ms → (ks ps : List ℕ) →
    ks ≡ x.kinds.items → ps ≡ x.parents.items → length x.kinds.items ≤ most_rows → (v : ℕ) →
    some v ≡ refused_row (rows_of ks ps ms) → ⊥
never_refused x m ms c ks ps ek ep l v e =
    let s = rows_length x.kinds.items x.parents.items ms x.xml.even.parents_size c.size in
    let f : none ≡ refused_row (rows_of x.kinds.items x.parents.items ms) =
    not_refused (rows_of x.kinds.items x.parents.items ms) (stays_xml x m ms c).formed (omega (arith, s, l)) in
    apart_some v ((rw (ek, ep) at e) ∙ sym f)

-- The number that the list has for a name, by what the search for it gives.

given_some : (n k : ℕ) → Some k ≡ given n → k ≡ n
given_some zero k e = absurd (apart e)
  where
    apart : ◌≡◌ {A = Maybe ℕ} (Some k) None → ⊥
    apart q = cc
given_some (suc n) k e = cc

given_none : (n : ℕ) → None ≡ given n → 0 ≡ n
given_none zero e = refl
given_none (suc n) e = absurd (apart e)
  where
    apart : ◌≡◌ {A = Maybe ℕ} None (Some (suc n)) → ⊥
    apart q = cc

pub listed_some : (list name : Bytes) (k : ℕ) → is_word name ≡ true → Some k ≡ given (number_of list name) →
    k ≡ listed list name
listed_some list name k w e = rw w (given_some (number_of list name) k e)

pub listed_none : (list name : Bytes) → is_word name ≡ true → None ≡ given (number_of list name) → 0 ≡ listed list name
listed_none list name w e = rw w (given_none (number_of list name) e)

pub listed_no_word : (list name : Bytes) → is_word name ≡ false → 0 ≡ listed list name
listed_no_word list name w = rw w refl

-- The number of a name, by that which the list has for it and by the spare one.
module _ (list : Bytes) (l : Lookup) (u : Unlisted) (t : Names) (n s : ℕ) where
  pub number_none : n ≡ 0 → 0 ≡ number_by list l u t n s
  number_none e = rw (eq-eqb n 0 e) refl

  pub number_spare : ¬ (n ≡ 0) → (k j : ℕ) → k ≡ sought l (listed list (nth_name t (n - 1))) s → k ≡ 0 →
      j ≡ spare u list → j ≡ number_by list l u t n s
  number_spare h k j q e r =
      rw (ne_eqb n 0 h, eq-eqb (sought l (listed list (nth_name t (n - 1))) s) 0 (sym q ∙ e)) r

  pub number_listed : ¬ (n ≡ 0) → (k : ℕ) → k ≡ sought l (listed list (nth_name t (n - 1))) s → ¬ (k ≡ 0) →
      k ≡ number_by list l u t n s
  number_listed h k q z =
      rw (ne_eqb n 0 h, ne_eqb (sought l (listed list (nth_name t (n - 1))) s) 0 (λ e. z (q ∙ e))) q

-- The bytes of a name, one after the other.

from_byte : (s : Bytes) (i : ℕ) → i < length s →
    all_of is_name (drop i s) ≡ (is_name (get_or s i 0) && all_of is_name (drop (suc i) s))
unfolding all_of
from_byte s i l = ap (all_of is_name) (drop-cons s i 0 l)

pub name_byte : (s : Bytes) (i : ℕ) → i < length s → is_name (get_or s i 0) ≡ true →
    all_of is_name (drop i s) ≡ all_of is_name (drop (suc i) s)
name_byte s i l e = from_byte s i l ∙ ap (λ (b : Bool). b && all_of is_name (drop (suc i) s)) e

pub other_byte : (s : Bytes) (i : ℕ) → i < length s → is_name (get_or s i 0) ≡ false → all_of is_name (drop i s) ≡ false
other_byte s i l e = from_byte s i l ∙ ap (λ (b : Bool). b && all_of is_name (drop (suc i) s)) e

pub no_bytes : (s : Bytes) (i : ℕ) → length s ≤ i → all_of is_name (drop i s) ≡ true
unfolding all_of
no_bytes s i l = ap (all_of is_name) (drop_all i s l)

pub word_from : (s : Bytes) (b : ℕ) (t : Bytes) (r : Bool) → s ≡ b ∷ t → is_start b ≡ true → r ≡ all_of is_name t →
    r ≡ is_word s
unfolding is_word
word_from s b t r e h q = rw e (q ∙ sym (ap (λ (c : Bool). c && all_of is_name t) h))
