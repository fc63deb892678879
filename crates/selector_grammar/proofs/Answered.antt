-- The answer of the book is the one that the grammar gives, and there is no other.
use Prim.Native.Nat.{ℕ, ◌-◌}
use mathlib.Core.Path.{◌≡◌, refl, ap}
use mathlib.Core.Bool.{Bool, true, false}
use mathlib.Core.List.{List}
use mathlib.Core.Option.{Option, none, some}
use Rattle.std.proofs.lemmas.Bool.{le-leb, leb-false, lt-leb}
use lib.Dec.{leb, leb→le}
use lib.ListN.{length}
use Rattle.terms.specs.Row.{Row, max_rows}
use Rattle.terms.specs.Nesting.{max_nesting}
use Rattle.selector_grammar.specs.Bytes.{Bytes}
use Rattle.selector_grammar.specs.Words.{number_of}
use Rattle.selector_grammar.specs.Grammar.{Union, Spells}
use Rattle.selector_grammar.specs.Denotes.{unlisted, union_names, union_of, put_path, nest_path}
use Rattle.selector_grammar.specs.Answer.{Reply, reply, Answers, outside, unnumbered, deep, full, held}
use Rattle.selector_grammar.specs.private.Reader.{Outcome, good, bad, run, initial}
use Rattle.selector_grammar.specs.private.ReaderAnswer.{reply_to, reply_to_reading, reply_to_names, reply_to_term}
use Rattle.selector_grammar.proofs.Basics.{so}
use Rattle.selector_grammar.proofs.Place.{sound_run, complete_run, bad_outside, one_place}

-- no other answer
pub only : (list t : Bytes) (rs : List Row) (n v : ℕ) (r : List Row) → Answers list t rs n v r → reply n v r
    ≡ reply_to list t rs
unfolding reply_to reply_to_reading reply_to_names reply_to_term
only list t rs n v r (outside {k = k} h) = go (run t initial) refl
  where
    go : (o : Outcome) → run t initial ≡ o → reply 18 k rs ≡ reply_to_reading (run t initial) list (length t) rs
    go (bad m) e = rw e (ap (λ (i : ℕ). reply 18 i rs) (one_place t k (length t - m) h (bad_outside t m e)))
    go (good y) e = absurd (h.outside y.tree (sound_run t y e))
only list t rs n v r (unnumbered {u = u} s e) = rw (complete_run t u s, e) refl
only list t rs n v r (deep {u = u} s e h) =
    rw (complete_run t u s, e, lt-leb (nest_path (union_of (number_of list) u)) max_nesting h) refl
only list t rs n v r (full {u = u} s e h i) =
    rw (
      complete_run t u s,
      e,
      le-leb (nest_path (union_of (number_of list) u)) max_nesting h,
      lt-leb (length (put_path (union_of (number_of list) u) rs).rows) max_rows i,
    ) refl
only list t rs n v r (held u s e h i) =
    rw (
      complete_run t u s,
      e,
      le-leb (nest_path (union_of (number_of list) u)) max_nesting h,
      le-leb (length (put_path (union_of (number_of list) u) rs).rows) max_rows i,
    ) refl

abbrev pub Is : Bytes → Bytes → List Row → Reply → Type 0
Is list t rs a = Answers list t rs a.number a.value a.rows

limited : (list t : Bytes) (rs : List Row) (u : Union) → Spells t u → unlisted (number_of list) (union_names u 0) ≡ none
    → (b c : Bool)
    → leb (nest_path (union_of (number_of list) u)) max_nesting ≡ b
    → leb (length (put_path (union_of (number_of list) u) rs).rows) max_rows ≡ c
    → Is list t rs (reply_to_term (union_of (number_of list) u) rs)
unfolding reply_to_term
limited list t rs u s e false c h i = rw h (deep s e (leb-false _ max_nesting h))
limited list t rs u s e true false h i = rw (h, i) (full s e (leb→le _ max_nesting (so _ h)) (leb-false _ max_rows i))
limited list t rs u s e true true h i =
    rw (h, i) (held u s e (leb→le _ max_nesting (so _ h)) (leb→le _ max_rows (so _ i)))

named : (list t : Bytes) (rs : List Row) (u : Union) → Spells t u → (k : Option ℕ)
    → unlisted (number_of list) (union_names u 0) ≡ k → Is list t rs (reply_to_names k (union_of (number_of list) u) rs)
unfolding reply_to_names
named list t rs u s none e = limited list t rs u s e _ _ refl refl
named list t rs u s (some k) e = unnumbered s e

-- there is an answer: the function's
pub given : (list t : Bytes) (rs : List Row) → Is list t rs (reply_to list t rs)
unfolding reply_to reply_to_reading
given list t rs = go (run t initial) refl
  where
    go : (o : Outcome) → run t initial ≡ o → Is list t rs (reply_to_reading o list (length t) rs)
    go (bad m) e = outside (bad_outside t m e)
    go (good y) e = named list t rs y.tree (sound_run t y e) _ refl
