-- What may be known of a select call before it is made, from the laws of visits and of names.
use Prim.Native.Nat.{ℕ, ◌≤◌}
use mathlib.Core.Path.{◌≡◌, sym, ap, ◌∙◌}
use mathlib.Core.Bool.{Bool, true, false, not, cond}
use mathlib.Core.Option.{Option, none, some, Option-elim}
use native.Mathlib.Omega.{arith}
use lib.Dec.{leb, ltb}
use lib.ListN.{length}
use borrow.Author.Tests.{le-ltb}
use Rattle.xpath.specs.Document.{document_of, document_refusal}
use Rattle.xpath.specs.Visits.{visits}
use Rattle.xpath.proofs.Chain.{chain_visits}
use Rattle.xpath.proofs.OneName.{lent_documents, step_same_elsewhere}
use Rattle.terms.specs.Fields.{held_path}
use Rattle.terms.specs.Terms.{path_at}
use Rattle.terms.proofs.Terms.{step_path}
use Rattle.calls.specs.Book.{answer}
use Rattle.common.specs.Refusals as refusals
use Rattle.calls.specs.SelectCall.{select_answer}
use Rattle.calls.specs.SelectLaws.{LimitSuffices, MarksSameElsewhere}
use Rattle.calls.proofs.Marked.{select_marks}

-- where the limit is not passed, no test has 15 for its answer
not_15 : (o : Option ℕ) (context row room passed : Bool) (v : ℕ) → passed ≡ false
    → ¬ ((Option-elim o
    (cond context (answer refusals.bad_argument 1)
    (cond row (answer refusals.bad_argument 2)
    (cond room (answer refusals.short_marks 0)
    (cond passed (answer refusals.limit_passed 0)
    (answer 0 v)))))
    (λ w. answer refusals.bad_document w)).number ≡ refusals.limit_passed)
unfolding Option-elim
not_15 (some w) context row room passed v f e = omega arith
not_15 none true row room passed v f e = omega arith
not_15 none false true room passed v f e = omega arith
not_15 none false false true passed v f e = omega arith
not_15 none false false false true v f e = let z : ◌≡◌ {A = ℕ} 0 1 = cc in absurd (omega arith)
not_15 none false false false false v f e = omega arith

pub limit_suffices : LimitSuffices
unfolding select_answer
limit_suffices rs row xs x limit buffer left t m k c h e =
    let d = document_of xs in
    let v = visits d (path_at rs row) x in
    let few : v ≤ limit = omega (arith, chain_visits k (path_at rs row) c d x) in
    let short = ltb (length buffer) (length d) in
    not_15 (document_refusal xs) (leb (length d) x) (not (held_path rs row)) short (ltb limit v) v (le-ltb limit v few)
    (sym (ap (λ a. a.number) m.answer) ∙ e)

pub marks_same_elsewhere : MarksSameElsewhere
marks_same_elsewhere rs row x e m xs xs' s limit limit' buffer buffer' left left' t t' made a made' a' y l n =
    let same = lent_documents m xs xs' s in
    let other = select_marks rs row xs' x limit' buffer' left' t' made' a' y (omega (arith, same.size)) in
    select_marks rs row xs x limit buffer left t made a y l
    ∙ rw (step_path rs row e, step_same_elsewhere m _ _ same _ _ _ x y n, ← step_path rs row e) (sym other)
