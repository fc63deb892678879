-- Way-back on a register that calls lead to: what it leaves, term calls of the register leave.
use Prim.Native.Nat.{ℕ}
use mathlib.Core.Path.{◌≡◌, sym, ap, subst, ◌∙◌}
use mathlib.Core.List.{List, [], ◌∷◌, map}
use Rattle.terms.specs.Row.{Row}
use Rattle.records.specs.Releases.{OfficeCall}
use Rattle.calls.specs.Book.{Book, Answer, IsAccepted}
use Rattle.calls.specs.Runs.{seen, Run, done, then}
use Rattle.calls.specs.Calls.{term, CallSeen, AllAccepted}
use Rattle.calls.specs.Above.{passed}
use Rattle.calls.proofs.Accepted.{if_accepted}
use Rattle.session.specs.declared.session.Session.{Session}
use Rattle.session.specs.View.{view, with_row}
use Rattle.session.specs.Promises.{Met}
use Rattle.session.specs.WayBackGuarantee.{WayBackRelation, WayBackMet, TermCalls}
use Rattle.session.proofs.Simulation.{Kept}
use Rattle.session.proofs.WaysBack.{ways_back}
use Rattle.register.specs.declared.Register.{Register}
use Rattle.register.specs.Promises.{RegisterRelation, RegisterMet, RegisterWayBackMet, holdings}
use Rattle.register.specs.RecordGuarantee.{RegisterWaysBack}
use Rattle.register.proofs.Calls.{not_barred_twice}

-- a session with the records and releases of a register
abbrev with_session : Register → Session → Register
with_session r s = record { session = s; records = r.records; releases = r.releases }

abbrev pub term_call : Row → OfficeCall
term_call row = passed (passed (term row))

-- way-back calls on registers that meet the register's promise
abbrev pub WaysBackKept : WayBackRelation Register → Type 0
WaysBackKept Reversed = (r : Register) (row : ℕ) (a : Answer) (t : Register) → Reversed r row a t
    → RegisterWayBackMet r row a t

module _ (Called : RegisterRelation)
    (met_called : (r : Register) (c : OfficeCall) (a : Answer) (t : Register) → RegisterMet r c a t → Called r c a t)
    (r : Register) where
  term_met : (s t : Session) (row : Row) (a : Answer) → Met s (term row) a t → IsAccepted a
      → RegisterMet (with_session r s) (term_call row) a (with_session r t)
  term_met s t row a m z =
      let told = m.answer ∙ not_barred_twice _ in
      let left : t ≡ with_row s row = m.left ∙ sym (if_accepted a _ m.answer (with_row s row) s z) in
      record {
        answer = told;
        left = ap (with_session r) left
            ∙ if_accepted a _ told (with_session r (with_row s row)) (with_session r s) z;
      }

  lifted : (s t : Session) (new : List Row) (os : List CallSeen) → Run view Met s (map term new) os t → AllAccepted os
      → TermCalls (λ (r : Register). view r.session) holdings term_call Called (with_session r s) new (with_session r t)
  lifted s t [] os done all = record { seen = []; run = done; accepted = tt }
  lifted s t (row ∷ new) os (then {t = u} {a = a} {os = later} m run) (z, all) =
      let calls = lifted u t new later run all in
      record {
        seen = seen a (holdings (with_session r u)) ∷ calls.seen;
        run = then (met_called (with_session r s) (term_call row) a (with_session r u) (term_met s u row a m z)) calls.run;
        accepted = (z, calls.accepted);
      }

  module _ (Reversed : WayBackRelation Register) (reversed_tied : WaysBackKept Reversed) where
    same_rest : {row : ℕ} {a : Answer} {t : Register} → RegisterWayBackMet r row a t → t ≡ with_session r t.session
    same_rest {row} {a} {t} m =
        λ i. record { session = t.session; records = m.records i; releases = m.releases i }

    pub register_ways_back : (b : Book) → Kept r.session → view r.session ≡ b → RegisterWaysBack Called Reversed r b
    register_ways_back b k e =
        let w = ways_back Met (λ s c a t m. m) WayBackMet (λ s row a t m. m) r.session b k e in
        record {
          answers = λ row a t m. w.answers row a t.session (reversed_tied r row a t m).made;
          refused = λ row a t m f.
              let met = reversed_tied r row a t m in
              same_rest met ∙ ap (with_session r) (w.refused row a t.session met.made f);
          held = λ row a t m z.
              let met = reversed_tied r row a t m in
              let h = w.held row a t.session met.made z in
              let calls = lifted r.session t.session h.new h.calls.seen h.calls.run h.calls.accepted in
              record {
                path = h.path;
                has = h.has;
                is_term = h.is_term;
                new = h.new;
                rows = h.rows;
                needed = h.needed;
                calls = subst (TermCalls (λ (r : Register). view r.session) holdings term_call Called r h.new)
                    (sym (same_rest met)) calls;
              };
          accepts = λ row a t m. w.accepts row a t.session (reversed_tied r row a t m).made;
          has_none = λ row a t m. w.has_none row a t.session (reversed_tied r row a t m).made;
        }
