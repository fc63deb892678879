-- `behind_word` meets its contract, word by word.
use mathlib.Core.Path.{refl}
use Rattle.std.proofs.Common.{rules}
use Rattle.script.specs.declared.words.Word.TheVariants.{Term, Step, Document, Old, New, Replace, Point, Return, Order}
use Rattle.script.specs.declared.words.Word.TheVariants.{Names, Text, Record, Current, Release, CrewCurrent, WayBack}
use Rattle.script.specs.Words.{shape_of}
use Rattle.script.proofs.WordLists.{no_numbers_behind}
use Rattle.script.proofs.behind_word.Goals as goal

pub returns-in-Term : goal.returns-in-Term
unfolding shape_of
returns-in-Term c = rw c.in-Term.is (c.counted.ensures Term refl (λ a b c d e k p. search rules))

pub returns-in-Step : goal.returns-in-Step
unfolding shape_of
returns-in-Step c = rw c.in-Step.is (c.counted-in-Step.ensures Step refl (λ a b c d e k p. search rules))

pub returns-in-Document : goal.returns-in-Document
unfolding shape_of
returns-in-Document c = rw c.in-Document.is (c.listed.ensures Document refl (λ ns k p. search rules))

pub returns-in-Old : goal.returns-in-Old
unfolding shape_of
returns-in-Old c = rw c.in-Old.is (c.listed-in-Old.ensures Old refl (λ ns k p. search rules))

pub returns-in-New : goal.returns-in-New
unfolding shape_of
returns-in-New c = rw c.in-New.is (c.listed-in-New.ensures New refl (λ ns k p. search rules))

pub returns-in-Replace : goal.returns-in-Replace
unfolding shape_of
returns-in-Replace c = rw c.in-Replace.is (c.listed-in-Replace.ensures Replace refl (λ ns k p. search rules))

pub returns-in-Point : goal.returns-in-Point
unfolding shape_of
returns-in-Point c = rw c.in-Point.is (c.counted-in-Point.ensures Point refl (λ a b c d e k p. search rules))

pub returns-in-Return : goal.returns-in-Return
unfolding shape_of
returns-in-Return c = rw c.in-Return.is (c.counted-in-Return.ensures Return refl (λ a b c d e k p. search rules))

pub returns-in-Order : goal.returns-in-Order
unfolding shape_of
returns-in-Order c = rw c.in-Order.is (c.counted-in-Order.ensures Order refl (λ a b c d e k p. search rules))

pub returns-in-Names : goal.returns-in-Names
unfolding shape_of
returns-in-Names c = rw c.in-Names.is (c.rest_call.ensures Names refl refl)

pub returns-in-Text : goal.returns-in-Text
unfolding shape_of
returns-in-Text c = rw c.in-Text.is (c.rest_call-in-Text.ensures Text refl refl)

pub returns-in-Record : goal.returns-in-Record
unfolding shape_of
returns-in-Record c = rw c.in-Record.is (c.counted-in-Record.ensures Record refl (λ a b c d e k p. search rules))

pub returns-in-Current : goal.returns-in-Current
unfolding shape_of
returns-in-Current c = rw c.in-Current.is (c.counted-in-Current.ensures Current refl (λ a b c d e k p. search rules))

pub returns-in-Release : goal.returns-in-Release
unfolding shape_of
returns-in-Release c = rw c.in-Release.is (c.counted-in-Release.ensures Release refl (λ a b c d e k p. search rules))

pub returns-in-CrewCurrent : goal.returns-in-CrewCurrent
unfolding shape_of
returns-in-CrewCurrent c =
    rw c.in-CrewCurrent.is
    (c.counted-in-CrewCurrent.ensures CrewCurrent refl (λ a b c d e k p. search rules))

pub returns-in-WayBack : goal.returns-in-WayBack
unfolding shape_of
returns-in-WayBack c = rw c.in-WayBack.is (c.counted-in-WayBack.ensures WayBack refl (λ a b c d e k p. search rules))

pub returns-in-Fresh : goal.returns-in-Fresh
returns-in-Fresh c = no_numbers_behind _ c.in-Fresh.is _
