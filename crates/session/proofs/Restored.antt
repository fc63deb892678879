-- What calls leave is the whole session of the book, and a return restores it.
use Prim.Native.Nat.{ℕ, ◌+◌}
use mathlib.Core.Path.{◌≡◌, refl, sym, ap, ◌∙◌}
use mathlib.Core.List.{List, [], ◌∷◌}
use lib.ListN.{take}
use lib.Seq.{take-nil}
use Rattle.common.specs.Lists.{Every, joined}
use Rattle.session.specs.declared.session.Session.{Session}
use Rattle.calls.specs.Book.{Book, pointed_book, book, empty_book, Answer, answer}
use Rattle.calls.specs.PointCall.{point_names, place_of}
use Rattle.calls.specs.Runs.{next, final}
use Rattle.calls.specs.Calls.{Call, term, step, text, point, return, CallSeen}
use Rattle.calls.specs.Calls.{book_answer, book_with, book_after, plain_book}
use Rattle.calls.specs.PointLaws.{KeepsPoints}
use Rattle.session.specs.View.{view, fresh_session, with_point}
use Rattle.session.specs.Promises.{CallRelation, Met, CallsMade}
use Rattle.session.specs.SessionLaws.{session_of, without_points, SetsNoPoint}
use Rattle.session.specs.SessionLaws.{WholeSession, NoPointLeft, SessionRestored}
use Rattle.calls.proofs.Accepted.{if_accepted, by_accepted}
use Rattle.calls.proofs.Runs.{run_map, run_follows}
use Rattle.calls.proofs.Returns.{return_restores}
use Rattle.session.proofs.FollowsBook.{CallsKept, made_from_fresh}
use Rattle.session.proofs.Simulation.{session_as_book, Kept, calls_follow, call_follows, kept_on}

pub whole_left : (s : Session) (cs : List Call) (os : List CallSeen) → CallsMade fresh_session cs os s
    → s ≡ session_of (book_after cs)
whole_left s cs os run =
    let f = calls_follow run in f.kept.whole.same ∙ ap session_of f.held

-- calls that set no point leave none
no_point_with : (b : Book) (c : Call) → SetsNoPoint c → b.points ≡ [] → (book_with b c).points ≡ []
no_point_with b (term r) f e = e
no_point_with b (step p) f e = e
no_point_with b (text names t) f e = e
no_point_with b (point n) f e = absurd f
no_point_with b (return n) f e =
    let place = place_of (point_names b.points) n in ap (take (place + 1)) e ∙ take-nil (place + 1)

no_point_after : (b : Book) (cs : List Call) → Every SetsNoPoint cs → b.points ≡ [] → (final plain_book b cs).points
    ≡ []
unfolding final
no_point_after b [] f e = e
no_point_after b (c ∷ cs) f e =
    let none_left = by_accepted (λ d. d.points ≡ []) (book_answer b c) (book_with b c) b
    (λ taken. no_point_with b c f.0 e) e in
    no_point_after (next plain_book b c) cs f.1 none_left

-- the session of a book, but for its points, is that of its rows and steps
pub points_left_out : (b : Book) → without_points (session_of b) ≡ session_of (book b.rows b.steps)
unfolding session_of joined
points_left_out b = refl

no_point_held : (s : Session) (cs : List Call) (os : List CallSeen) → CallsMade fresh_session cs os s
    → Every SetsNoPoint cs → without_points s ≡ s
no_point_held s cs os run f =
    let b = book_after cs in
    let whole = whole_left s cs os run in
    let none-held = no_point_after empty_book cs f refl in
    ap without_points whole ∙ points_left_out b
    ∙ ap (λ qs. session_of (pointed_book b.rows b.steps qs)) (sym none-held) ∙ sym whole

-- an accepted point changes nothing but the points
point_kept : (s t : Session) (n : ℕ) (a : Answer) → Met s (point n) a t → a.number ≡ 0 → without_points t
    ≡ without_points s
unfolding with_point
point_kept s t n a m e =
    let set : with_point s n ≡ t = if_accepted a _ m.answer (with_point s n) s e ∙ sym m.left in
    sym (ap without_points set)

module _ (s t u v : Session) (ds : List Call) (ps : List CallSeen) (n : ℕ) (a b : Answer) (k : Kept s)
    (set : Met s (point n) a t) (taken : a.number ≡ 0) (run : CallsMade t ds ps u)
    (keep : Every (KeepsPoints (point_names (view s).points)) ds) (back : Met u (return n) b v)
  where
    restored : (b ≡ answer 0 0) × (v ≡ t) × (without_points v ≡ without_points s)
    unfolding final
    restored =
        let kt = kept_on k set in
        let ft = call_follows k set in
        let (shows, holds, whole, reachable) = run_follows session_as_book kt.whole kt.reachable run in
        let ku : Kept u = record { whole = whole; reachable = reachable } in
        let fv = call_follows ku back in
        let kv = kept_on ku back in
        let at_u : view u ≡ final plain_book (next plain_book (view s) (point n)) ds =
        holds ∙ ap (λ d. final plain_book d ds) ft.held in
        let accepts = sym (ap (λ o. o.number) ft.answer) ∙ taken in
        let law = return_restores (view s) n ds accepts keep in
        let told : b ≡ answer 0 0 = fv.answer ∙ ap (λ d. book_answer d (return n)) at_u ∙ law.0 in
        let shown : view v ≡ view t = fv.held ∙ ap (λ d. next plain_book d (return n)) at_u ∙ law.1 ∙ sym ft.held in
        let same : v ≡ t = kv.whole.same ∙ ap session_of shown ∙ sym kt.whole.same in
        (told, same, ap without_points same ∙ point_kept s t n a set taken)

-- for every `new` and every calls that meet their promises
module _ (New : Session → Type 0) (Called : CallRelation) (new_tied : (s : Session) → New s → s ≡ fresh_session)
    (call_tied : CallsKept Called Met)
  where
    pub whole_by : WholeSession New Called
    whole_by s₀ s cs os new run =
        whole_left s cs os (made_from_fresh new_tied call_tied new run)

    pub no_point_left_by : NoPointLeft New Called
    no_point_left_by s₀ s cs os new run f =
        no_point_held s cs os (made_from_fresh new_tied call_tied new run) f

    pub restored_by : SessionRestored New Called
    restored_by s₀ s t u v cs ds os ps n a b new run set taken later keep back =
        let kept = (calls_follow (made_from_fresh new_tied call_tied new run)).kept in
        restored s t u v ds ps n a b kept (call_tied _ _ _ _ set) taken (run_map call_tied later) keep
        (call_tied _ _ _ _ back)
