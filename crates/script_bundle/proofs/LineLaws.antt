-- What one line leaves: where it is no call, and where it is one.
use Rattle.std.specs.Prelude.{Result, Err}
use Prim.Native.Nat.{ℕ}
use mathlib.Core.Path.{◌≡◌, refl, sym, ap, subst, ◌∙◌}
use mathlib.Core.Option.{none, some}
use Rattle.common.specs.declared.refusal.Refusal.{Refusal}
use Rattle.common.specs.declared.refusal.Refusal.TheVariants as refusals
use Rattle.terms.specs.declared.Row.{Row}
use Rattle.calls.specs.declared.step.Step.{Step}
use Rattle.lines.specs.Line.{lines}
use Rattle.lines.specs.private.NumbersRead.{first_parts}
use Rattle.selector_grammar.specs.Bytes.{Bytes}
use Rattle.script.specs.declared.Command.{Command}
use Rattle.script.specs.declared.Command.TheVariants as given
use Rattle.script.specs.Command.{command_of}
use Rattle.script.specs.Rest.{rest_of, first_bytes}
use Rattle.script.specs.private.CommandRead.{written_command}
use Rattle.script_bundle.specs.Filing.{line_number}
use Rattle.script_bundle.specs.declared.Filed.{Filed}
use Rattle.script_bundle.specs.private.FilingMade.{lent_by, command_action, first_action, ActionDone}
use Rattle.script_bundle.proofs.LinesLaws.{no_action, read_action}

module _ (f : Filed) (piece : Bytes) where
  pub line_not_read : none ≡ first_parts command_of (lines piece)
      → ActionDone f (first_action (lent_by f) (lines piece)) (Err refusals.WrongForm) f
  line_not_read e = sym (ap (line_number f.session) (no_action (lines piece) (lent_by f) e))

  pub line_read : (k : Command) → some (written_command k) ≡ first_parts command_of (lines piece) → (rest : Bytes)
      → rest ≡ rest_of (first_bytes (lines piece)) → (q : Result (Unit {0}) Refusal) (r : Filed)
      → ActionDone f (command_action k (lent_by f) rest) q r
      → ActionDone f (first_action (lent_by f) (lines piece)) q r
  line_read k e rest is q r d =
      subst (λ o. ActionDone f o q r)
      (ap (command_action k (lent_by f)) is ∙ sym (read_action (lines piece) (lent_by f) k e)) d

-- a command that is not filed
pub other_command : (k : Command) → ((r : Row) → ¬ (k ≡ given.Term r))
    → ((p : Step) → ¬ (k ≡ given.Step p)) → ((n : ℕ) → ¬ (k ≡ given.Point n))
    → ((n : ℕ) → ¬ (k ≡ given.Return n)) → ¬ (k ≡ given.Names) → ¬ (k ≡ given.Text) → (names rest : Bytes)
    → command_action k names rest ≡ none
other_command (given.Term r) f _ _ _ _ _ names rest = absurd (f r refl)
other_command (given.Step p) _ f _ _ _ _ names rest = absurd (f p refl)
other_command (given.Select r x l m) _ _ _ _ _ _ names rest = refl
other_command (given.Document ns) _ _ _ _ _ _ names rest = refl
other_command given.Fresh _ _ _ _ _ _ names rest = refl
other_command (given.Old ns) _ _ _ _ _ _ names rest = refl
other_command (given.New ns) _ _ _ _ _ _ names rest = refl
other_command (given.Replace ns) _ _ _ _ _ _ names rest = refl
other_command (given.Write n) _ _ _ _ _ _ names rest = refl
other_command (given.Point n) _ _ f _ _ _ names rest = absurd (f n refl)
other_command (given.Return n) _ _ _ f _ _ names rest = absurd (f n refl)
other_command given.Other _ _ _ _ _ _ names rest = refl
other_command (given.Order r s) _ _ _ _ _ _ names rest = refl
other_command given.BundleOrder _ _ _ _ _ _ names rest = refl
other_command given.Names _ _ _ _ f _ names rest = absurd (f refl)
other_command given.Text _ _ _ _ _ f names rest = absurd (f refl)
other_command (given.Record r) _ _ _ _ _ _ names rest = refl
other_command (given.Current s) _ _ _ _ _ _ names rest = refl
other_command (given.Release p) _ _ _ _ _ _ names rest = refl
other_command given.Records _ _ _ _ _ _ names rest = refl
other_command given.Released _ _ _ _ _ _ names rest = refl
other_command (given.CrewCurrent s) _ _ _ _ _ _ names rest = refl
other_command (given.WayBack r) _ _ _ _ _ _ names rest = refl
