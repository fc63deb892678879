-- Two accepted texts, one after the other, on a session that calls lead to: where their paths stand in the session that
-- they leave.
use Prim.Native.Nat.{ℕ, ◌<◌}
use mathlib.Core.Path.{◌≡◌, refl, sym, ap, subst, ◌∙◌}
use mathlib.Core.List.{List}
use lib.ListN.{length}
use Rattle.terms.specs.Row.{Row}
use Rattle.terms.specs.Terms.{of_path, as_path, term_at, path_at}
use Rattle.terms.proofs.Terms.{term_stays}
use Rattle.selector_grammar.specs.Bytes.{Bytes}
use Rattle.selector_grammar.specs.Words.{number_of}
use Rattle.selector_grammar.specs.Grammar.{Union, Spells}
use Rattle.selector_grammar.specs.Denotes.{union_of}
use Rattle.calls.specs.Book.{Answer, answer}
use Rattle.calls.specs.Calls.{Call, text}
use Rattle.calls.specs.Runs.{after}
use Rattle.calls.proofs.Accepted.{if_accepted}
use Rattle.calls.proofs.Runs.{reached_law, accepted_made}
use Rattle.session.specs.declared.session.Session.{Session}
use Rattle.session.specs.View.{view}
use Rattle.session.specs.Promises.{session, session_answer, session_with, Met}
use Rattle.session.proofs.Simulation.{Kept, fresh_kept, kept_on}
use Rattle.session.proofs.Texts.{TextHeld, text_held}
use Rattle.derivations.specs.Derived.{IsMade}

pub made_kept : (s : Session) → IsMade s → Kept s
made_kept s h = reached_law session Kept fresh_kept (λ t c k e. kept_on k (accepted_made session t c e)) h

pub made_on : (s t : Session) (c : Call) (a : Answer) → Met s c a t → IsMade s → IsMade t
made_on s t c a m h = subst IsMade (sym m.left) (after c h)

-- an accepted call leaves what it makes
left_with : (s t : Session) (c : Call) (n : ℕ) → Met s c (answer 0 n) t → t ≡ session_with s c
left_with s t c n m =
    m.left ∙ sym (if_accepted (answer 0 n) (session_answer s c) m.answer (session_with s c) s refl)

-- of a text
pub record Stands (names t : Bytes) (s : Session) (i : ℕ) : Type 0 where
  pub tree : Union
  pub spells : Spells t tree
  pub path : (u : Union) → Spells t u → path_at (view s).rows i ≡ union_of (number_of names) u

module _ (names old new : Bytes) (s u v : Session) (i j : ℕ) (made : IsMade s)
    (first_met : Met s (text names old) (answer 0 i) u) (second_met : Met u (text names new) (answer 0 j) v)
  where
    abbrev s₁ : Session
    s₁ = session_with s (text names old)

    abbrev s₂ : Session
    s₂ = session_with s₁ (text names new)

    first_left : u ≡ s₁
    first_left = left_with s u (text names old) i first_met

    second_left : v ≡ s₂
    second_left =
        left_with u v (text names new) j second_met ∙ ap (λ (t : Session). session_with t (text names new)) first_left

    first_answer : session_answer s (text names old) ≡ answer 0 i
    first_answer = sym first_met.answer

    second_answer : session_answer s₁ (text names new) ≡ answer 0 j
    second_answer = sym (second_met.answer ∙ ap (λ (t : Session). session_answer t (text names new)) first_left)

    first : TextHeld s names old
    first = text_held s names old (made_kept s made) (ap (λ (a : Answer). a.number) first_answer)

    second : TextHeld s₁ names new
    second = text_held s₁ names new first.kept (ap (λ (a : Answer). a.number) second_answer)

    first_inside : i < length (view s₁).rows
    first_inside = subst (λ (a : Answer). a.value < length (view s₁).rows) first_answer first.inside

    old_term : (w : Union) → Spells old w → term_at (view s₂).rows i ≡ of_path (union_of (number_of names) w)
    old_term w spells =
        ap (λ (rs : List Row). term_at rs i) second.rows
        ∙ term_stays (view s₁).rows second.new i first_inside
        ∙ subst (λ (a : Answer). term_at (view s₁).rows a.value ≡ of_path (union_of (number_of names) w)) first_answer
        (first.term w spells)

    new_term : (w : Union) → Spells new w → term_at (view s₂).rows j ≡ of_path (union_of (number_of names) w)
    new_term w spells =
        subst (λ (a : Answer). term_at (view s₂).rows a.value ≡ of_path (union_of (number_of names) w)) second_answer
        (second.term w spells)

    old_path : (w : Union) → Spells old w → path_at (view s₂).rows i ≡ union_of (number_of names) w
    unfolding as_path
    old_path w spells = rw (old_term w spells)

    new_path : (w : Union) → Spells new w → path_at (view s₂).rows j ≡ union_of (number_of names) w
    unfolding as_path
    new_path w spells = rw (new_term w spells)

    pub made_both : IsMade v
    made_both = made_on u v (text names new) _ second_met (made_on s u (text names old) _ first_met made)

    pub old_stands : Stands names old v i
    old_stands =
        record {
          tree = first.tree;
          spells = first.spells;
          path = λ w spells.
              ap (λ (t : Session). path_at (view t).rows i) second_left ∙ old_path w spells;
        }

    pub new_stands : Stands names new v j
    new_stands =
        record {
          tree = second.tree;
          spells = second.spells;
          path = λ w spells.
              ap (λ (t : Session). path_at (view t).rows j) second_left ∙ new_path w spells;
        }
