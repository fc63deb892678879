-- The numbers of the seven node tests: a name, `*`, `node()`, `text()`, `comment()`, `processing-instruction()`, and
-- `processing-instruction('target')`.
use Rattle.std.specs.Prelude.{ℕ}

abbrev pub name_test : ℕ
name_test = 0

abbrev pub star_test : ℕ
star_test = 1

abbrev pub node_test : ℕ
node_test = 2

abbrev pub text_test : ℕ
text_test = 3

abbrev pub comment_test : ℕ
comment_test = 4

abbrev pub instruction_test : ℕ
instruction_test = 5

abbrev pub target_test : ℕ
target_test = 6

abbrev pub max_test : ℕ
max_test = target_test
