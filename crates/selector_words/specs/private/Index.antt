-- What the functions on the index of the lent list promise.
use Rattle.std.specs.Prelude.{ℕ, ◌+◌, ◌*◌, ◌%◌, ◌<◌, ◌≤◌, ◌≡◌, Bool, true, cond, List, [], ◌∷◌, eqb}
use Rattle.std.specs.Prelude.{length, get_or, drop}
use Rattle.lines.specs.Line.{newline, lines}
use Rattle.selector_grammar.specs.Bytes.{Bytes}
use Rattle.selector_words.specs.declared.index.IndexedLine.{IndexedLine}

-- the longest list that is indexed: a place in it is a number of 32 bits
abbrev pub max_length : ℕ
max_length = 4294967295

abbrev pub modulus : ℕ
modulus = 4294967291

-- the signature of bytes: as digits to the base 257, by a modulus; of the bytes before them it is h
unfoldable pub signed_by : (h b : ℕ) → ℕ
signed_by h b = (h * 257 + b) % modulus

unfoldable pub signature_of : ℕ → Bytes → ℕ
signature_of h [] = h
signature_of h (b ∷ t) = signature_of (signed_by h b) t

-- the bytes of the first line
unfoldable pub line_of : Bytes → Bytes
line_of [] = []
line_of (x ∷ t) = cond (eqb x newline) [] (x ∷ line_of t)

-- nothing more on the line
unfoldable pub ended : Bytes → Bool
ended [] = true
ended (b ∷ t) = eqb b newline

-- a line is passed
pub record LineMet (list : Bytes) (at next signature : ℕ) : Type 0 where
  pub on : at < next
  pub fits : next ≤ length list
  pub rest : lines (drop next list) ≡ drop 1 (lines (drop at list))
  pub signed : signature ≡ signature_of 0 (line_of (drop at list))

-- line k of a list, counted from 0, begins at a place, or the list ends there and has k lines
pub record LineAt (list : Bytes) (k at : ℕ) : Type 0 where
  pub rest : lines (drop at list) ≡ drop k (lines list)
  pub fits : at ≤ length list
  pub few : k ≤ at

-- line k of a list begins where its entry says, and its bytes have the entry's signature
pub record LineIndexed (list : Bytes) (k : ℕ) (l : IndexedLine) : Type 0 where
  pub place : LineAt list k l.start
  pub signature : l.signature ≡ signature_of 0 (line_of (drop l.start list))

-- the index of the first lines of a list, and where the others begin
pub record Indexed (list : Bytes) (ls : List IndexedLine) (others : ℕ) : Type 0 where
  pub entries : (k : ℕ) (d : IndexedLine) → k < length ls → LineIndexed list k (get_or ls k d)
  pub rest : LineAt list (length ls) others
