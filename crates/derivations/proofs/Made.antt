-- Sessions that calls lead to, and what a derivation says.
use mathlib.Core.Path.{◌≡◌, sym, subst}
use Rattle.std.specs.Prelude.{Option, Some, Ok, ℕ}
use Rattle.selector_grammar.specs.Bytes.{Bytes}
use Rattle.terms.specs.represent.RowTypes.{PlaceIs}
use Rattle.calls.specs.Book.{Answer, answer}
use Rattle.calls.specs.represent.Answers.{answer_of, NumberOrRefusal}
use Rattle.calls.specs.Calls.{Call, text}
use Rattle.calls.specs.Runs.{after, first}
use Rattle.replacement.specs.Covered.{step_saying}
use Rattle.session.specs.declared.session.Session.{Session}
use Rattle.session.specs.View.{view, fresh_session}
use Rattle.session.specs.Promises.{session, Met}
use Rattle.derivations.specs.Derived.{IsMade, Derived}

pub fresh_made : (s : Session) → s ≡ fresh_session → IsMade s
fresh_made s is = subst IsMade (sym is) first

pub made_more : (s t : Session) (c : Call) (a : Answer) → Met s c a t → IsMade s → IsMade t
made_more s t c a m h = subst IsMade (sym m.left) (after c h)

pub derived : (names old new : Bytes) (s u v : Session) (r q : NumberOrRefusal) (i j k : ℕ) → IsMade s
    → Met s (text names old) (answer_of r) u → r ≡ Ok i
    → Met u (text names new) (answer_of q) v → q ≡ Ok j
    → PlaceIs (Some k) (step_saying (view v) i j) → Derived names old new v k
derived names old new s u v r q i j k h a ai b bj is =
    record {
      s = s;
      u = u;
      i = i;
      j = j;
      made = h;
      first = subst (λ (x : NumberOrRefusal). Met s (text names old) (answer_of x) u) ai a;
      second = subst (λ (x : NumberOrRefusal). Met u (text names new) (answer_of x) v) bj b;
      said = is.0;
      held = is.1;
    }
