-- The letters of a form, read off what a step and its premises say.
use Rattle.std.specs.Prelude.{ℕ, List, [], ◌∷◌}
use Rattle.std.proofs.Math.Logic.{ite}
use Rattle.xpath.specs.Term.{Path, Qualifier, AxisStep, Union, Composition, Filter}
use Rattle.rules.specs.Form.{PathLetter, PathLetter-discrete, QualifierLetter, QualifierLetter-discrete}
use Rattle.rules.specs.Form.{AxisLetter-discrete, TestLetter-discrete, AxisForm, axis, axis_letter, TestForm}
use Rattle.rules.specs.Form.{test, test_letter, PathForm, path_letter, ◌::◌, ◌¦◌, ◌∕◌, ◌⟦◌⟧, QualifierForm}
use Rattle.rules.specs.Form.{qualifier_letter, Not◌, ◌And◌, ◌Or◌, ◌In◌, ClaimForm, ◌<=◌, ◌=>◌, Form}
use Rattle.rules.specs.Claim.{Claim, Containment, Implication}
use Rattle.rules.specs.Instance.{Test, Letters}

-- the operands of a path, and the axis and test of a step; what a path doesn't have is void, false or 0
pub record PathParts : Type 0 where
  pub left : Path
  pub right : Path
  pub filter : Qualifier
  pub axis : ℕ
  pub test : Test

abbrev pub no_test : Test
no_test = record { test = 0; name = 0 }

abbrev pub operands : Path → Path → Qualifier → PathParts
operands p q f = record { left = p; right = q; filter = f; axis = 0; test = no_test }

abbrev pub path_parts : Path → PathParts
path_parts Path.Void = operands Path.Void Path.Void Qualifier.False
path_parts Path.Root = operands Path.Void Path.Void Qualifier.False
path_parts (AxisStep a t c) =
    record {
      left = Path.Void;
      right = Path.Void;
      filter = Qualifier.False;
      axis = a;
      test = record { test = t; name = c };
    }
path_parts (Union p q) = operands p q Qualifier.False
path_parts (Composition p q) = operands p q Qualifier.False
path_parts (Filter p f) = operands p Path.Void f

-- the operands of a qualifier
pub record QualifierParts : Type 0 where
  pub left : Qualifier
  pub right : Qualifier
  pub subject : Path
  pub object : Path

abbrev pub qualifiers : Qualifier → Qualifier → QualifierParts
qualifiers f g = record { left = f; right = g; subject = Path.Void; object = Path.Void }

abbrev pub qualifier_parts : Qualifier → QualifierParts
qualifier_parts Qualifier.True = qualifiers Qualifier.False Qualifier.False
qualifier_parts Qualifier.False = qualifiers Qualifier.False Qualifier.False
qualifier_parts (Qualifier.Not f) = qualifiers f Qualifier.False
qualifier_parts (Qualifier.And f g) = qualifiers f g
qualifier_parts (Qualifier.Or f g) = qualifiers f g
qualifier_parts (Qualifier.In p q) = record { left = Qualifier.False; right = Qualifier.False; subject = p; object = q }

-- the letter x is v, the others are as they were
abbrev pub put : {L A : Type 0} → Discrete L → L → A → (L → A) → L → A
put d x v f y = ite (d x y) v (f y)

abbrev pub put_path : PathLetter → Path → Letters → Letters
put_path x v e =
    record {
      path = put PathLetter-discrete x v e.path;
      qualifier = e.qualifier;
      axis = e.axis;
      test = e.test;
    }

abbrev pub put_qualifier : QualifierLetter → Qualifier → Letters → Letters
put_qualifier x v e =
    record {
      path = e.path;
      qualifier = put QualifierLetter-discrete x v e.qualifier;
      axis = e.axis;
      test = e.test;
    }

abbrev pub put_axis : AxisForm → ℕ → Letters → Letters
put_axis (axis n) v e = e
put_axis (axis_letter x) v e =
    record {
      path = e.path;
      qualifier = e.qualifier;
      axis = put AxisLetter-discrete x v e.axis;
      test = e.test;
    }

abbrev pub put_test : TestForm → Test → Letters → Letters
put_test (test n) v e = e
put_test (test_letter x) v e =
    record {
      path = e.path;
      qualifier = e.qualifier;
      axis = e.axis;
      test = put TestLetter-discrete x v e.test;
    }

-- the letters of a form, read off a term, put into the choice e
unfoldable mutual
  pub read_path : PathForm → Path → Letters → Letters
  read_path (path_letter x) t e = put_path x t e
  read_path PathForm.Void t e = e
  read_path PathForm.Root t e = e
  read_path (u :: n) t e = put_test n (path_parts t).test (put_axis u (path_parts t).axis e)
  read_path (u ¦ v) t e = read_path v (path_parts t).right (read_path u (path_parts t).left e)
  read_path (u ∕ v) t e = read_path v (path_parts t).right (read_path u (path_parts t).left e)
  read_path (u ⟦ v ⟧) t e = read_qualifier v (path_parts t).filter (read_path u (path_parts t).left e)

  pub read_qualifier : QualifierForm → Qualifier → Letters → Letters
  read_qualifier (qualifier_letter x) t e = put_qualifier x t e
  read_qualifier QualifierForm.True t e = e
  read_qualifier QualifierForm.False t e = e
  read_qualifier (Not u) t e = read_qualifier u (qualifier_parts t).left e
  read_qualifier (u And v) t e = read_qualifier v (qualifier_parts t).right
      (read_qualifier u (qualifier_parts t).left e)
  read_qualifier (u Or v) t e = read_qualifier v (qualifier_parts t).right (read_qualifier u (qualifier_parts t).left e)
  read_qualifier (u In v) t e = read_path v (qualifier_parts t).object (read_path u (qualifier_parts t).subject e)

unfoldable pub read_claim : ClaimForm → Claim → Letters → Letters
read_claim (u <= v) (Containment p q) e = read_path v q (read_path u p e)
read_claim (u <= v) (Implication f g) e = e
read_claim (u => v) (Containment p q) e = e
read_claim (u => v) (Implication f g) e = read_qualifier v g (read_qualifier u f e)

unfoldable pub read_claims : List ClaimForm → List Claim → Letters → Letters
read_claims [] cs e = e
read_claims (w ∷ ws) [] e = e
read_claims (w ∷ ws) (c ∷ cs) e = read_claims ws cs (read_claim w c e)

-- the choice before anything is read
abbrev pub no_letters : Letters
no_letters = record { path = λ x. Path.Void; qualifier = λ x. Qualifier.False; axis = λ x. 0; test = λ x. no_test }

-- the conclusion of a form and its premises
abbrev pub claim_forms : Form → List ClaimForm
claim_forms w = w.conclusion ∷ w.premises

-- the letters of a form, read off what a step and its premises say
abbrev pub letters_in : Form → List Claim → Letters
letters_in w cs = read_claims (claim_forms w) cs no_letters
