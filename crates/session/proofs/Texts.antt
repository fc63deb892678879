-- An accepted text on a session that calls lead to.
use Prim.Native.Nat.{◌<◌}
use mathlib.Core.Path.{◌≡◌, refl, sym, ap, subst, ◌∙◌}
use mathlib.Core.List.{List, ◌++◌}
use lib.ListN.{length}
use Rattle.terms.specs.Row.{Row}
use Rattle.terms.specs.Terms.{of_path, term_at}
use Rattle.selector_grammar.specs.Bytes.{Bytes}
use Rattle.selector_grammar.specs.Words.{number_of}
use Rattle.selector_grammar.specs.Grammar.{Union, Spells}
use Rattle.selector_grammar.specs.Denotes.{union_of}
use Rattle.selector_grammar.proofs.Standing as standing
use Rattle.calls.specs.Book.{Book}
use Rattle.calls.specs.TextCall.{text_reply, text_answer}
use Rattle.calls.specs.Calls.{text}
use Rattle.calls.proofs.Reached.{reachable_laws}
use Rattle.calls.proofs.Runs.{accepted_made}
use Rattle.calls.proofs.TextLaws.{answers_as_defined, gives_its_term, text_accepted}
use Rattle.session.specs.declared.session.Session.{Session}
use Rattle.session.specs.View.{view}
use Rattle.session.specs.Promises.{session, session_answer, session_with}
use Rattle.session.proofs.Simulation.{Kept, kept_on, accepted_moves}

-- what it leaves, and where its path stands
pub record TextHeld (s : Session) (names t : Bytes) : Type 0 where
  pub kept : Kept (session_with s (text names t))
  pub new : List Row
  pub rows : (view (session_with s (text names t))).rows ≡ (view s).rows ++ new
  pub steps : (view (session_with s (text names t))).steps ≡ (view s).steps
  pub tree : Union
  pub spells : Spells t tree
  pub inside : (session_answer s (text names t)).value < length (view (session_with s (text names t))).rows
  pub term : (u : Union) → Spells t u
      → term_at (view (session_with s (text names t))).rows (session_answer s (text names t)).value
      ≡ of_path (union_of (number_of names) u)

pub text_held : (s : Session) (names t : Bytes) → Kept s → (session_answer s (text names t)).number ≡ 0
    → TextHeld s names t
unfolding text_answer
text_held s names t k e =
    let c = text names t in
    let moved = (accepted_moves s c k.whole e).0 in
    let (new, grown, few) = text_accepted (view s).rows names t e in
    let told = (answers_as_defined names t (view s).rows _ _ _).1 refl in
    let known = standing.accepted names t (view s).rows (reachable_laws k.reachable).held.built _ _ _ told e in
    let rows = ap (λ (b : Book). b.rows) moved in
    record {
      kept = kept_on k (accepted_made session s c e);
      new = new;
      rows = rows ∙ grown;
      steps = ap (λ (b : Book). b.steps) moved;
      tree = known.tree;
      spells = known.spells;
      inside = subst (λ (rs : List Row). (text_reply names t (view s).rows).value < length rs) (sym rows)
          known.stands.held;
      term = λ u spells.
          ap (λ (rs : List Row). term_at rs (text_reply names t (view s).rows).value) rows
          ∙ gives_its_term (view s) k.reachable names t e u spells;
    }
