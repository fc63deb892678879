-- The words and signs of the rule table.
use Rattle.std.specs.Prelude.{ℕ, List, [], ◌∷◌, ◌++◌}
use Rattle.common.specs.Axes
use Rattle.common.specs.NodeTests
use Rattle.rules.specs.Form.{PathLetter, QualifierLetter, AxisLetter, TestLetter, AxisForm, axis, axis_letter}
use Rattle.rules.specs.Form.{TestForm, test, test_letter, PathForm, path_letter, Void, QualifierForm}
use Rattle.rules.specs.Form.{qualifier_letter, Not◌, ◌In◌, ClaimForm, ◌<=◌, ◌=>◌, Condition, Form, Rule}

infix 79 ◌≐◌ ◌⇔◌
infixl 66 ◌from◌ ◌if◌
infix 60 ◌▸◌
-- the letters
abbrev pub p : PathForm
p = path_letter PathLetter.p

abbrev pub q : PathForm
q = path_letter PathLetter.q

abbrev pub r : PathForm
r = path_letter PathLetter.r

abbrev pub s : PathForm
s = path_letter PathLetter.s

abbrev pub f : QualifierForm
f = qualifier_letter QualifierLetter.f

abbrev pub g : QualifierForm
g = qualifier_letter QualifierLetter.g

abbrev pub h : QualifierForm
h = qualifier_letter QualifierLetter.h

abbrev pub a : AxisForm
a = axis_letter AxisLetter.a

abbrev pub b : AxisForm
b = axis_letter AxisLetter.b

abbrev pub N : TestForm
N = test_letter TestLetter.N

abbrev pub M : TestForm
M = test_letter TestLetter.M

-- the axes, and the tests `*` and node()
abbrev pub self : AxisForm
self = axis Axes.self

abbrev pub child : AxisForm
child = axis Axes.child

abbrev pub parent : AxisForm
parent = axis Axes.parent

abbrev pub descendant : AxisForm
descendant = axis Axes.descendant

abbrev pub ancestor : AxisForm
ancestor = axis Axes.ancestor

abbrev pub descendant_or_self : AxisForm
descendant_or_self = axis Axes.descendant_or_self

abbrev pub ancestor_or_self : AxisForm
ancestor_or_self = axis Axes.ancestor_or_self

abbrev pub following_sibling : AxisForm
following_sibling = axis Axes.following_sibling

abbrev pub preceding_sibling : AxisForm
preceding_sibling = axis Axes.preceding_sibling

abbrev pub following : AxisForm
following = axis Axes.following

abbrev pub preceding : AxisForm
preceding = axis Axes.preceding

abbrev pub star_test : TestForm
star_test = test NodeTests.star_test

abbrev pub node_test : TestForm
node_test = test NodeTests.node_test

-- "some p"
abbrev pub some_of : PathForm → QualifierForm
some_of x = Not (x In Void)

-- a rule with its number and its forms
abbrev pub ◌▸◌ : ℕ → List Form → Rule
n ▸ ws = record { number = n; forms = ws }

-- one form: a conclusion from its premises, with no condition
abbrev pub ◌from◌ : ClaimForm → List ClaimForm → List Form
c from cs = record { conclusion = c; premises = cs; conditions = [] } ∷ []

-- the forms, under conditions
abbrev pub ◌if◌ : List Form → List Condition → List Form
[] if ts = []
(w ∷ ws) if ts = record { conclusion = w.conclusion; premises = w.premises; conditions = ts } ∷ (ws if ts)

-- `=` may be used from either side: of two paths, and of two qualifiers
abbrev pub ◌≐◌ : PathForm → PathForm → List Form
x ≐ y = x <= y from [] ++ y <= x from []

abbrev pub ◌⇔◌ : QualifierForm → QualifierForm → List Form
x ⇔ y = x => y from [] ++ y => x from []
