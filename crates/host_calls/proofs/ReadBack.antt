-- The bundle of a session that calls lead to reads back as that session but for its points.
use mathlib.Core.Path.{◌≡◌, sym, subst, ◌∙◌}
use mathlib.Core.List.{List}
use native.Mathlib.Omega.{arith}
use lib.ListN.{length}
use Rattle.common.specs.Lists.{Every}
use Rattle.calls.specs.Book.{answer}
use Rattle.calls.specs.Calls.{Call, CallSeen}
use Rattle.session.specs.declared.session.Session.{Session}
use Rattle.session.specs.View.{view, fresh_session}
use Rattle.session.specs.Promises.{CallsMade}
use Rattle.session.specs.Reading.{reading}
use Rattle.session.specs.ReadGuarantee.{CallFits}
use Rattle.session.specs.SessionLaws.{without_points}
use Rattle.session.specs.WriteCall.{session_text}
use Rattle.session.proofs.Restored.{whole_left}
use Rattle.session.proofs.Written.{written_text, written_where_room}
use Rattle.session.proofs.Source.{whole_session, new_exists, calls_exist, writes_exist, reads_exist, read_guarantee}
use Rattle.session.proofs.Source.{Read, write_tied, read_tied}

pub text_reads_back : (cs : List Call) (os : List CallSeen) (s : Session) → CallsMade fresh_session cs os s
    → Every CallFits cs
    → reading (session_text s) ≡ record {
      answer = answer 0 (length (view s).steps);
      session = without_points s;
    }
text_reads_back cs os s run fits =
    let (shown, t, made) = calls_exist fresh_session cs in
    let same : s ≡ t = whole_left s cs os run ∙ sym (whole_session fresh_session t cs shown new_exists made) in
    let buffer = session_text t in
    let (w, left, wrote) = writes_exist t buffer in
    let met = write_tied t buffer w left wrote in
    let taken = written_where_room t buffer w left met (omega arith) in
    let bytes = written_text t buffer w left met taken in
    let (r, on_fresh) = reads_exist fresh_session (session_text t) in
    let is_read : Read (session_text t) r = (fresh_session, on_fresh) in
    let back = read_guarantee.written_reads_back cs shown t made fits buffer left w wrote taken r
    (subst (λ ys. Read ys r) (sym bytes) is_read) in
    let tied = read_tied (session_text t) r is_read in
    let told = sym tied.answer ∙ back.0 in
    let held = sym tied.session ∙ back.1 in
    subst (λ u. reading (session_text u) ≡ record {
      answer = answer 0 (length (view u).steps);
      session = without_points u;
    }) (sym same) (λ i. record { answer = told i; session = held i })
