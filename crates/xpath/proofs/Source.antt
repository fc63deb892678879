-- What the contracts in the source say of the ancestor test and of the check that runs it.
use Prim.Native.Nat.{ℕ}
use mathlib.Core.Path.{refl, sym, subst, ◌∙◌}
use mathlib.Core.List.{List, []}
use Rattle.common.proofs.Lent.{lent, lent_to_write}
use Rattle.std.specs.Prelude.{Result}
use Rattle.xpath.specs.Document.{document_of}
use Rattle.xpath.specs.Climb.{parents_taken, climb_met, ClimbEnds, Least}
use Rattle.xpath.specs.represent.Check.{closed, ClimbMade, DocumentChecked}
use Rattle.xpath.specs.represent.ClimbPromise.{ClimbPromise}
use Rattle.xpath.specs.declared.document.Climb.{Climb}
use Rattle.xpath.proofs.Climbing.{count_ends, count_least, answers_alike}
use Rattle.xpath.proofs.document.climb_toward.Reads as climb-reads
use Rattle.xpath.proofs.document.check_document.Reads as check-reads

-- `climb_toward` on lent numbers, from row y toward row x, which closes subtrees at a row, gives r and leaves ends
pub data Climbed : List ℕ → (x y end : ℕ) → List ℕ → Climb → List ℕ → Type 0 where
  climb_called : (κs : _) (a : _) (r : _) (x : _) → climb-reads.Post κs a r x
      → Climbed a.0.now a.1.0 a.1.1.0 a.1.1.1.0 a.1.1.1.1.0.now r x.1.1.1.1.0.now

-- `check_document` on lent numbers has the result r
pub data Checked : List ℕ → Result (List ℕ) ℕ → Type 0 where
  check_called : (κs : _) (a : _) (r : _) (x : _) → check-reads.Post κs a r x → Checked a.0.now r

-- the contracts promise what the specifications say, word for word
pub climbed_tied : (xs : List ℕ) (x y e : ℕ) (es : List ℕ) (r : Climb) (left : List ℕ) → Climbed xs x y e es r left
    → ClimbMade (document_of xs) x y e es r.met r.parents left
climbed_tied xs x y e es r left (climb_called κs a s z m) = m

pub checked_tied : (xs : List ℕ) (r : Result (List ℕ) ℕ) → Checked xs r → DocumentChecked xs r
checked_tied xs r (check_called κs a s x m) = m

pub climb_promise : ClimbPromise Climbed
climb_promise =
    record {
      ends = λ xs x y e es r left c.
          let m = climbed_tied xs x y e es r left c in
          subst (ClimbEnds (document_of xs) x y) (sym m.parents) (count_ends (document_of xs) x y);
      least = λ xs x y e es r left c w l.
          let m = climbed_tied xs x y e es r left c in
          subst (Least (document_of xs) x y) (sym m.parents) (count_least (document_of xs) w x y l);
      answers = λ xs x y e es r left c w l.
          let m = climbed_tied xs x y e es r left c in
          m.met ∙ answers_alike (document_of xs) w x y l;
    }

-- and no more: a climb as the contract has it can be made
pub climbs_exist : (xs : List ℕ) (x y e : ℕ) (es : List ℕ)
    → (r : Climb) × (left : List ℕ) × Climbed xs x y e es r left
climbs_exist xs x y e es =
    let d = document_of xs in
    let r : Climb = record { met = climb_met d x y; parents = parents_taken d x y } in
    let left = closed d y e (parents_taken d x y) es in (
      r,
      left,
      climb_called ([], ([], tt)) (lent xs, (x, (y, (e, (lent_to_write es, tt))))) r
          (lent xs, (x, (y, (e, (lent_to_write left, tt)))))
          (record { met = refl; parents = refl; ends = refl }),
    )
