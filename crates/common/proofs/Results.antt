-- What an Option or a Result was, by what a method of it gives.
use mathlib.Core.Path.{◌≡◌, refl}
use Rattle.std.specs.Prelude.{Option, Some, None, Result, Ok, Err, ok_or, MatchResult, IsErrAnd}
use Rattle.std.proofs.Common.{rules}

-- a result whose error is mapped by f, and what `map_err` gives
module _ {A E D : Type 0} (f : E → D) where
  abbrev pub Mapped : Result A E → Result A D → Type 0
  Mapped r q = MatchResult r (λ y. q ≡ Ok y) (λ e. IsErrAnd q (λ d. d ≡ f e))

  pub mapped_ok : (r : Result A E) (x : A) → Mapped r (Ok x) → r ≡ Ok x
  mapped_ok (Ok y) x h = search (rules, h)
  mapped_ok (Err e) x h = absurd h

  pub mapped_err : (r : Result A E) (d : D) → Mapped r (Err d) → (e : E) × (r ≡ Err e) × (d ≡ f e)
  mapped_err (Ok y) d h = search (rules, h)
  mapped_err (Err e) d h = (e, refl, h)

-- what `ok_or` gives: the value, or what a `?` behind it gives up for
pub some_by_ok_or : {A E : Type 0} (o : Option A) (w : E) (x : A) → Ok x ≡ ok_or o w → o ≡ Some x
some_by_ok_or None w x h = cc h
some_by_ok_or (Some y) w x h = cc h

pub none_by_ok_or : {A E : Type 0} (o : Option A) (w e : E) → Err e ≡ ok_or o w → (o ≡ None) × (e ≡ w)
none_by_ok_or None w e h = (refl, cc h)
none_by_ok_or (Some x) w e h = cc h
