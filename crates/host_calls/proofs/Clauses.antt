-- Each clause of what is guaranteed of the exports, written out once more: without one of them this fails.
use Prim.Native.Nat.{ℕ, ◌≤◌, ◌<◌}
use mathlib.Core.Path.{◌≡◌}
use mathlib.Core.Bool.{cond}
use mathlib.Core.List.{List}
use mathlib.Core.Logic.{◌⊎◌}
use lib.Dec.{T}
use lib.ListN.{length, get_or, take}
use Rattle.common.specs.Lists.{Every}
use Rattle.xpath.specs.Document.{Document, document_of, well_formed}
use Rattle.xpath.specs.Meaning.{selects}
use Rattle.selector_grammar.specs.Bytes.{Bytes}
use Rattle.selector_grammar.specs.Words.{number_of}
use Rattle.selector_grammar.specs.Grammar.{Union, Spells}
use Rattle.selector_grammar.specs.Denotes.{union_of}
use Rattle.calls.specs.Book.{Answer, answer}
use Rattle.calls.specs.Calls.{text, CallSeen}
use Rattle.replacement.specs.NoneLost.{StepSays}
use Rattle.session.specs.View.{view, fresh_session}
use Rattle.session.specs.Promises.{session_answer, session_with, CallsMade}
use Rattle.session.specs.Reading.{reading}
use Rattle.session.specs.SessionLaws.{without_points}
use Rattle.session.specs.WriteCall.{session_text}
use Rattle.script_bundle.specs.Filing.{calls_in}
use Rattle.host_calls.specs.ClaimCall.{Claimed, claimed}
use Rattle.host_calls.specs.ClaimGuarantee.{ClaimRelation, ClaimGuarantee}
use Rattle.host_calls.specs.SelectGuarantee.{TextSelectRelation, TextSelected, SelectGuarantee}
use Rattle.host_calls.specs.FileGuarantee.{FileRelation, Filed, FileGuarantee}

-- a claim
module _ (Claims : ClaimRelation) (guarantee : ClaimGuarantee Claims) (bundle names old new : Bytes) where
  pub of_the_claim : (c : Claimed) → Claims bundle names old new c → c.answer.number ≡ 0 → c.part ≡ 0
  of_the_claim = guarantee.whose bundle names old new

  pub yes_or_no : (a : Answer) → Claims bundle names old new (claimed 0 a) → (a.number ≡ 0) ⊎ (a ≡ answer 26 1)
  yes_or_no = guarantee.either bundle names old new

  pub bundle_refused : (a : Answer) → Claims bundle names old new (claimed 1 a)
      → (a ≡ (reading bundle).answer) × (¬ (a.number ≡ 0))
  bundle_refused = guarantee.of_bundle bundle names old new

  pub old_refused : (a : Answer) → Claims bundle names old new (claimed 2 a)
      → (a ≡ session_answer (reading bundle).session (text names old)) × (¬ (a.number ≡ 0))
  old_refused = guarantee.of_old bundle names old new

  pub new_refused : (a : Answer) → Claims bundle names old new (claimed 3 a)
      → (a ≡ session_answer (session_with (reading bundle).session (text names old)) (text names new))
      × (¬ (a.number ≡ 0))
  new_refused = guarantee.of_new bundle names old new

  pub of_selectors : (a : Answer) → Claims bundle names old new (claimed 0 a)
      → ((reading bundle).answer.number ≡ 0) × (u : Union) × (v : Union) × Spells old u × Spells new v
  of_selectors = guarantee.asked bundle names old new

  pub said_and_contained : (i : ℕ) → Claims bundle names old new (claimed 0 (answer 0 i))
      → (u v : Union) → Spells old u → Spells new v
      → StepSays (view (reading bundle).session) i (union_of (number_of names) u) (union_of (number_of names) v)
      × ((d : Document) → T (well_formed d) → (x : ℕ) → x < length d
      → (y : ℕ) → T (selects d (union_of (number_of names) u) x y) → T (selects d (union_of (number_of names) v) x y))
  said_and_contained = guarantee.yes bundle names old new

  pub not_said : (n : ℕ) → Claims bundle names old new (claimed 0 (answer 26 n))
      → (u v : Union) → Spells old u → Spells new v → (i : ℕ)
      → ¬ StepSays (view (reading bundle).session) i (union_of (number_of names) u) (union_of (number_of names) v)
  not_said = guarantee.no bundle names old new

-- a select by text
module _ (Selects : TextSelectRelation) (guarantee : SelectGuarantee Selects) (names t : Bytes) (xs : List ℕ) (x limit : ℕ)
    (buffer left : List ℕ) (a : Answer) (selected : Selects names t xs x limit buffer a left)
  where
    pub marks_stay : ¬ (a.number ≡ 0) → left ≡ buffer
    marks_stay = guarantee.refused names t xs x limit buffer left a selected

    module _ (accepts : a.number ≡ 0) where
      abbrev made : TextSelected names t xs x buffer left
      made = guarantee.accepted names t xs x limit buffer left a selected accepts

      pub taken : T (well_formed (document_of xs)) × (x < length (document_of xs))
          × (length (document_of xs) ≤ length buffer) × Spells t made.tree
      taken = (made.document, made.inside, made.room, made.spells)

      pub marked : (y : ℕ) → y < length (document_of xs)
          → get_or left y 0 ≡ cond (selects (document_of xs) (union_of (number_of names) made.tree) x y) 1 0
      marked = made.marks

      pub later_stay : (y : ℕ) → length (document_of xs) ≤ y → get_or left y 0 ≡ get_or buffer y 0
      later_stay = made.later

-- a script that is filed
module _ (Files : FileRelation) (guarantee : FileGuarantee Files) (script buffer left : Bytes) (a : Answer)
    (is-filed : Files script buffer a left)
  where
    pub bytes_stay : ¬ (a.number ≡ 0) → left ≡ buffer
    bytes_stay = guarantee.refused script buffer left a is-filed

    module _ (accepts : a.number ≡ 0) where
      abbrev done : Filed script (take a.value left)
      done = guarantee.accepted script buffer left a is-filed accepts

      pub calls_made_lem : CallsMade fresh_session (calls_in script) done.seen done.session
      calls_made_lem = done.made

      pub calls_accepted : Every (λ (o : CallSeen). o.answer.number ≡ 0) done.seen
      calls_accepted = done.all_accepted

      pub their_bundle : take a.value left ≡ session_text done.session
      their_bundle = done.bundle_is

      pub reads_back : reading (take a.value left) ≡ record {
        answer = answer 0 (length (view done.session).steps);
        session = without_points done.session;
      }
      reads_back = done.read_back
