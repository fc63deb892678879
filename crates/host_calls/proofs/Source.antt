-- What the contracts in the source say of each export, as the toolchain reads them off it, and what they mean.
use Prim.Native.Nat.{ℕ}
use mathlib.Core.Path.{◌≡◌, refl}
use mathlib.Core.List.{List, []}
use lib.ListN.{length}
use Rattle.common.proofs.Lent.{lent, lent_to_write}
use Rattle.selector_grammar.specs.Bytes.{Bytes}
use Rattle.calls.specs.Book.{Answer, answer}
use Rattle.session.specs.Reading.{reading}
use Rattle.host_calls.specs.ClaimCall.{Claimed, claimed, claim_answer}
use Rattle.host_calls.specs.ClaimGuarantee.{ClaimGuarantee}
use Rattle.host_calls.specs.TextSelect.{text_select_answer, text_select_buffer, TextSelectMade}
use Rattle.host_calls.specs.SelectGuarantee.{SelectGuarantee}
use Rattle.host_calls.specs.FileGuarantee.{FileGuarantee}
use Rattle.script_bundle.specs.Filing.{file_answer, file_buffer, FileMet}
use Rattle.host_calls.proofs.Claims.{claim_guarantee_by}
use Rattle.host_calls.proofs.Selects.{select_guarantee_by}
use Rattle.host_calls.proofs.Files.{file_guarantee_by}
use Rattle.host_calls.proofs.read.spinebriar_read.Reads as read-reads
use Rattle.host_calls.proofs.read.spinebriar_read_line.Reads as read-line-reads
use Rattle.host_calls.proofs.claim.spinebriar_claim.Reads as claim-reads
use Rattle.host_calls.proofs.select.spinebriar_select.Reads as select-reads
use Rattle.host_calls.proofs.file.spinebriar_file.Reads as file-reads

-- `spinebriar_read` on bytes has a number, `spinebriar_read_line` an answer
pub data Reads : (bytes : Bytes) → (number : ℕ) → Type 0 where
  read_called : (κs : _) (a : _) (r : _) (x : _) → read-reads.Post κs a r x → Reads a.0.now r

pub data ReadLines : (bytes : Bytes) → Answer → Type 0 where
  read_line_called : (κs : _) (a : _) (r : _) (x : _) → read-line-reads.Post κs a r x
      → ReadLines a.0.now (answer r x.1.0.now)

-- `spinebriar_claim` on a bundle, names and two selectors has an answer
pub data Claims : (bundle names old new : Bytes) → Claimed → Type 0 where
  claim_called : (κs : _) (a : _) (r : _) (x : _) → claim-reads.Post κs a r x
      → Claims a.0.now a.1.0.now a.1.1.0.now a.1.1.1.0.now
      (claimed x.1.1.1.1.1.0.now (answer r x.1.1.1.1.0.now))

-- `spinebriar_select` with names, a text, lent numbers, a node, a limit and a buffer has an answer and leaves bytes
pub data Selects : (names t : Bytes) → List ℕ → (x limit : ℕ) → List ℕ → Answer → List ℕ → Type 0 where
  select_called : (κs : _) (a : _) (r : _) (x : _) → select-reads.Post κs a r x
      → Selects a.0.now a.1.0.now a.1.1.0.now a.1.1.1.0 a.1.1.1.1.0
      a.1.1.1.1.1.0.now (answer r x.1.1.1.1.1.1.0.now) x.1.1.1.1.1.0.now

-- `spinebriar_file` with a script and a buffer has an answer and leaves bytes
pub data Files : (script buffer : Bytes) → Answer → Bytes → Type 0 where
  file_called : (κs : _) (a : _) (r : _) (x : _) → file-reads.Post κs a r x
      → Files a.0.now a.1.0.now (answer r x.1.1.0.now) x.1.0.now

pub read_tied : (bytes : Bytes) (n : ℕ) → Reads bytes n → n ≡ (reading bytes).answer.number
read_tied bytes n (read_called κs a r x m) = m

pub read_line_tied : (bytes : Bytes) (a : Answer) → ReadLines bytes a → a ≡ (reading bytes).answer
read_line_tied bytes a (read_line_called κs args r x m) = m

pub claim_tied : (bundle names old new : Bytes) (c : Claimed) → Claims bundle names old new c
    → c ≡ claim_answer bundle names old new
claim_tied bundle names old new c (claim_called κs a r x m) = m

pub select_tied : (names t : Bytes) (xs : List ℕ) (x limit : ℕ) (buffer left : List ℕ) (a : Answer)
    → Selects names t xs x limit buffer a left → TextSelectMade names t xs x limit buffer a left
select_tied names t xs x limit buffer left a (select_called κs args r y m) = m

pub file_tied : (script buffer left : Bytes) (a : Answer) → Files script buffer a left → FileMet script buffer a left
file_tied script buffer left a (file_called κs args r x m) = m

-- and no more: every input has an answer
pub reads_exist : (bytes : Bytes) → (n : ℕ) × Reads bytes n
reads_exist bytes =
    ((reading bytes).answer.number, read_called ([], tt) (lent bytes, tt) _ (lent bytes, tt) refl)

pub read_lines_exist : (bytes : Bytes) → (a : Answer) × ReadLines bytes a
read_lines_exist bytes =
    let a = (reading bytes).answer in (
      a,
      read_line_called ([], ([], tt)) (lent bytes, (lent_to_write 0, tt)) a.number
          (lent bytes, (lent_to_write a.value, tt)) refl,
    )

pub claims_exist : (bundle names old new : Bytes) → (c : Claimed) × Claims bundle names old new c
claims_exist bundle names old new =
    let c = claim_answer bundle names old new in (
      c,
      claim_called ([], ([], ([], ([], ([], ([], tt))))))
          (lent bundle, (lent names, (lent old, (lent new, (lent_to_write 0, (lent_to_write 0, tt))))))
          c.answer.number (
            lent bundle,
            (lent names, (lent old, (lent new, (lent_to_write c.answer.value, (lent_to_write c.part, tt))))),
          )
          refl,
    )

pub text_selects_exist : (names t : Bytes) (xs : List ℕ) (x limit : ℕ) (buffer : List ℕ)
    → (a : Answer) × (left : List ℕ) × Selects names t xs x limit buffer a left
text_selects_exist names t xs x limit buffer =
    let a = text_select_answer names t xs x limit (length buffer) in
    let left = text_select_buffer names t xs x limit buffer in (
      a,
      left,
      select_called ([], ([], ([], ([], ([], tt)))))
          (lent names, (lent t, (lent xs, (x, (limit, (lent_to_write buffer, (lent_to_write 0, tt))))))) a.number
          (lent names, (lent t, (lent xs, (x, (limit, (lent_to_write left, (lent_to_write a.value, tt)))))))
          (record { answer = refl; bytes = refl }),
    )

pub files_exist : (script buffer : Bytes) → (a : Answer) × (left : Bytes) × Files script buffer a left
files_exist script buffer =
    let a = file_answer script (length buffer) in
    let left = file_buffer script buffer in (
      a,
      left,
      file_called ([], ([], ([], tt))) (lent script, (lent_to_write buffer, (lent_to_write 0, tt))) a.number
          (lent script, (lent_to_write left, (lent_to_write a.value, tt))) (record { answer = refl; bytes = refl }),
    )

pub claim_guarantee : ClaimGuarantee Claims
claim_guarantee = claim_guarantee_by Claims claim_tied

pub select_guarantee : SelectGuarantee Selects
select_guarantee = select_guarantee_by Selects select_tied

pub file_guarantee : FileGuarantee Files
file_guarantee = file_guarantee_by Files file_tied
