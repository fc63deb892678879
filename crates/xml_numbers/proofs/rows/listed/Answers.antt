-- `listed` meets its contract.
use Rattle.std.proofs.Common.{sym, ◌∙◌}
use Rattle.xml_numbers.proofs.Laws.{listed_some, listed_none, listed_no_word}
use Rattle.xml_numbers.proofs.rows.listed.Goals as goal

pub returns-then-not-has_word : goal.returns-then-not-has_word
returns-then-not-has_word c = listed_no_word _ _ (sym c.is_word-has_word.ensures ∙ c.if-not-has_word.true)

pub returns-in-Some : goal.returns-in-Some
returns-in-Some c =
    listed_some _ _ _ (sym c.is_word-has_word.ensures ∙ c.if-not-has_word.false) c.in-Some.ensures

pub returns-in-None : goal.returns-in-None
returns-in-None c = listed_none _ _ (sym c.is_word-has_word.ensures ∙ c.if-not-has_word.false) c.in-None.ensures
