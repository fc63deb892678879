-- What accepted calls add.
use mathlib.Core.Path.{◌≡◌, refl, sym, ap, ◌∙◌}
use mathlib.Core.List.{List, [], ◌∷◌, ◌++◌, map, append_assoc, append-nil}
use Rattle.terms.specs.Row.{Row}
use Rattle.session.specs.declared.session.Session.{Session}
use Rattle.calls.specs.Book.{Step, Book, pointed_book, book, empty_book, Answer}
use Rattle.calls.specs.Runs.{done, then}
use Rattle.calls.specs.Calls.{Call, term, step, CallSeen, AllAccepted, book_with}
use Rattle.session.specs.View.{view, fresh_session}
use Rattle.session.specs.Promises.{Met, CallsMade}
use Rattle.session.specs.ReadGuarantee.{calls_of}
use Rattle.calls.proofs.Accepted.{if_accepted}
use Rattle.session.proofs.Simulation.{Kept, fresh_kept, call_follows, kept_on}
use Rattle.session.proofs.Views.{fresh_view}

-- what an accepted call makes of the book, the session holds after it
call_adds : {s t : Session} {c : Call} {a : Answer} → Kept s → Met s c a t → a.number ≡ 0
    → view t ≡ book_with (view s) c
call_adds {s} {c = c} {a = a} k m e =
    let f = call_follows k m in
    f.held ∙ sym (if_accepted a _ f.answer (book_with (view s) c) (view s) e)

-- the book with accepted calls
abbrev pub book_with_all : Book → List Call → Book
book_with_all b [] = b
book_with_all b (c ∷ cs) = book_with_all (book_with b c) cs

pub calls_add : {s u : Session} {cs : List Call} {os : List CallSeen} → Kept s → CallsMade s cs os u
    → AllAccepted os → view u ≡ book_with_all (view s) cs
calls_add k done taken = refl
calls_add k (then {cs = cs} m run) taken =
    calls_add (kept_on k m) run taken.1 ∙ ap (λ b. book_with_all b cs) (call_adds k m taken.0)

steps_behind : (b : Book) (ps : List Step)
    → book_with_all b (map step ps) ≡ pointed_book b.rows (b.steps ++ ps) b.points
steps_behind b [] = ap (λ qs. pointed_book b.rows qs b.points) (sym (append-nil b.steps))
steps_behind b (p ∷ ps) =
    steps_behind (book_with b (step p)) ps
    ∙ ap (λ qs. pointed_book b.rows qs b.points) (append_assoc b.steps (p ∷ []) ps)

-- rows and steps go behind those held
all_behind : (b : Book) (rs : List Row) (ps : List Step)
    → book_with_all b (calls_of rs ps) ≡ pointed_book (b.rows ++ rs) (b.steps ++ ps) b.points
all_behind b [] ps =
    steps_behind b ps ∙ ap (λ qs. pointed_book qs (b.steps ++ ps) b.points) (sym (append-nil b.rows))
all_behind b (r ∷ rs) ps =
    all_behind (book_with b (term r)) rs ps
    ∙ ap (λ qs. pointed_book qs (b.steps ++ ps) b.points) (append_assoc b.rows (r ∷ []) rs)

pub calls_behind : (rs : List Row) (ps : List Step) → book_with_all empty_book (calls_of rs ps) ≡ book rs ps
calls_behind rs ps = all_behind empty_book rs ps

-- what the accepted calls of rows and then steps hold from a fresh session on
pub calls_held : (rs : List Row) (ps : List Step) (os : List CallSeen) (u : Session)
    → CallsMade fresh_session (calls_of rs ps) os u → AllAccepted os → view u ≡ book rs ps
calls_held rs ps os u run taken =
    calls_add fresh_kept run taken ∙ ap (λ b. book_with_all b (calls_of rs ps)) fresh_view ∙ calls_behind rs ps
