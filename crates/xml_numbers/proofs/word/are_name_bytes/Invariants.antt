use Rattle.std.proofs.Common.{◌≡◌, drop}
use Rattle.common.specs.Lists.{all_of}
use Rattle.selector_grammar.specs.Bytes.{is_name}
use Rattle.xml_numbers.proofs.word.are_name_bytes.Given as goal

abbrev pub invariant-loop-i : goal.invariant-loop-i
invariant-loop-i l = all_of is_name l.bytes ≡ all_of is_name (drop l.i l.bytes)
