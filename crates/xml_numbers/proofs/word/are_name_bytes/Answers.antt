-- `are_name_bytes` meets its contract, byte by byte.
use Rattle.std.proofs.Common.{refl, sym, ◌∙◌, arith, add-one}
use Rattle.xml_numbers.proofs.Laws.{name_byte, other_byte, no_bytes}
use Rattle.xml_numbers.proofs.word.are_name_bytes.Goals as goal

pub loop-i-init : goal.loop-i-init
loop-i-init c = refl

pub loop-i-preserved : goal.loop-i-preserved
loop-i-preserved c =
    c.loop-i.invariant
    ∙ rw add-one (name_byte _ _ c.loop-i-test.true (sym c.is_name-is_in_name.ensures ∙ c.if-not-is_in_name.false))

pub returns-then-not-is_in_name : goal.returns-then-not-is_in_name
returns-then-not-is_in_name c =
    sym (c.loop-i.invariant
    ∙ other_byte _ _ c.loop-i-test.true (sym c.is_name-is_in_name.ensures ∙ c.if-not-is_in_name.true))

pub returns : goal.returns
returns c = sym (c.loop-i.invariant ∙ no_bytes _ _ c.loop-i-test.false)
