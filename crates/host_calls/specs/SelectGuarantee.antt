-- What a select by a selector as text means.
use Rattle.std.specs.Prelude.{ℕ, ◌≤◌, ◌<◌, ◌≡◌, cond, List, T, length, get_or}
use Rattle.xpath.specs.Document.{document_of, well_formed}
use Rattle.xpath.specs.Meaning.{selects}
use Rattle.selector_grammar.specs.Bytes.{Bytes}
use Rattle.selector_grammar.specs.Words.{number_of}
use Rattle.selector_grammar.specs.Grammar.{Union, Spells}
use Rattle.selector_grammar.specs.Denotes.{union_of}
use Rattle.calls.specs.Book.{Answer, IsAccepted}

-- what may be said of such a select: the names, the text, the lent numbers, the context node, the limit, the buffer,
-- the answer, and the bytes that it leaves
abbrev pub TextSelectRelation : Type 1
TextSelectRelation = (names t : Bytes) → List ℕ → (x limit : ℕ) → List ℕ → Answer → List ℕ → Type 0

-- where it is accepted: the lent numbers are a well-formed document that has the context node and for whose nodes the
-- buffer has room, the text is a selector, the nodes are marked 1 or 0 as its path selects them, and later bytes stay
pub record TextSelected (names t : Bytes) (xs : List ℕ) (x : ℕ) (buffer left : List ℕ) : Type 0 where
  pub document : T (well_formed (document_of xs))
  pub inside : x < length (document_of xs)
  pub room : length (document_of xs) ≤ length buffer
  pub tree : Union
  pub spells : Spells t tree
  pub marks : (y : ℕ) → y < length (document_of xs)
      → get_or left y 0 ≡ cond (selects (document_of xs) (union_of (number_of names) tree) x y) 1 0
  pub later : (y : ℕ) → length (document_of xs) ≤ y → get_or left y 0 ≡ get_or buffer y 0

pub record SelectGuarantee (Selects : TextSelectRelation) : Type 0 where
  pub accepted : (names t : Bytes) (xs : List ℕ) (x limit : ℕ) (buffer left : List ℕ) (a : Answer)
      → Selects names t xs x limit buffer a left → IsAccepted a → TextSelected names t xs x buffer left
  -- a refused one leaves the buffer
  pub refused : (names t : Bytes) (xs : List ℕ) (x limit : ℕ) (buffer left : List ℕ) (a : Answer)
      → Selects names t xs x limit buffer a left → ¬ IsAccepted a → left ≡ buffer
