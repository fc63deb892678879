-- What is accepted as a bundle is one whose calls are all accepted, what is written reads back as the same session, and
-- a claim is answered yes only where a step says it of the two texts.
use Rattle.std.specs.Prelude.{ℕ, ◌≡◌, List}
use Rattle.calls.specs.represent.Answers.{NumberOrRefusal}
use Rattle.host_calls.specs.ClaimCall.{Claimed, claim_answer}
use Rattle.host_calls.specs.ClaimGuarantee.{ClaimGuarantee}
use Rattle.selector_grammar.specs.Bytes.{Bytes}
use Rattle.session.specs.ReadCall.{ReadMet}
use Rattle.session.specs.ReadGuarantee.{ReadGuarantee}
use Rattle.session.specs.WriteCall.{WriteMet}
use Rattle.session.specs.declared.session.Session.{Session}
use Rattle.session.specs.represent.Results.{ReadResult}
use Rattle.session.proofs.Source as session
use Rattle.host_calls.proofs.Source as exports

pub record Bundles : Type 0 where
  -- read answers the first refused line and leaves a fresh session, or the number of steps and leaves what the calls do
  pub read : (bytes : List ℕ) (t : ReadResult) → session.Read bytes t → ReadMet bytes t
  -- write answers 0 with the length and leaves the bundle's text at the buffer's start, or 16 with the length needed
  -- and the buffer as it was
  pub write : (s : Session) (buffer : List ℕ) (w : NumberOrRefusal) (left : List ℕ) → session.Write s buffer w left
      → WriteMet s buffer w left
  -- read accepts just the bundles whose calls are all accepted, and the calls follow the book; what is written of a
  -- session that calls lead to reads back as that session but for its points, and what is read is written again as the
  -- same bytes
  pub read_guarantee : ReadGuarantee session.Selected session.Called session.Read session.Write
  -- a claim is answered as it is defined; yes is said of a containment that a step of the bundle says and that holds on
  -- every document, no where no step says so
  pub claim : (bundle names old new : Bytes) (c : Claimed) → exports.Claims bundle names old new c
      → c ≡ claim_answer bundle names old new
  pub claim_guarantee : ClaimGuarantee exports.Claims
