-- `alone` meets its contract, word by word.
use mathlib.Core.Path.{refl}
use mathlib.Core.Option.{Option-elim}
use Rattle.lines.specs.Number.{numbers_up_to}
use Rattle.script.specs.Words.{shape_of}
use Rattle.script.specs.Command.{at_most, named}
use Rattle.script.proofs.WordLists.{other_alone}
use Rattle.script.proofs.alone.Goals as goal

pub returns-in-Document : goal.returns-in-Document
unfolding shape_of named at_most numbers_up_to Option-elim
returns-in-Document c = rw (c.in-Document.is, c.new.ensures) refl

pub returns-in-Fresh : goal.returns-in-Fresh
unfolding shape_of named at_most numbers_up_to Option-elim
returns-in-Fresh c = rw c.in-Fresh.is refl

pub returns-in-Old : goal.returns-in-Old
unfolding shape_of named at_most numbers_up_to Option-elim
returns-in-Old c = rw (c.in-Old.is, c.new-in-Old.ensures) refl

pub returns-in-New : goal.returns-in-New
unfolding shape_of named at_most numbers_up_to Option-elim
returns-in-New c = rw (c.in-New.is, c.new-in-New.ensures) refl

pub returns-in-Replace : goal.returns-in-Replace
unfolding shape_of named at_most numbers_up_to Option-elim
returns-in-Replace c = rw (c.in-Replace.is, c.new-in-Replace.ensures) refl

pub returns-in-Other : goal.returns-in-Other
unfolding shape_of named at_most numbers_up_to Option-elim
returns-in-Other c = rw c.in-Other.is refl

pub returns-in-BundleOrder : goal.returns-in-BundleOrder
unfolding shape_of named at_most numbers_up_to Option-elim
returns-in-BundleOrder c = rw c.in-BundleOrder.is refl

pub returns-in-Names : goal.returns-in-Names
unfolding shape_of named at_most numbers_up_to Option-elim
returns-in-Names c = rw c.in-Names.is refl

pub returns-in-Text : goal.returns-in-Text
unfolding shape_of named at_most numbers_up_to Option-elim
returns-in-Text c = rw c.in-Text.is refl

pub returns-in-Records : goal.returns-in-Records
unfolding shape_of named at_most numbers_up_to Option-elim
returns-in-Records c = rw c.in-Records.is refl

pub returns-in-Released : goal.returns-in-Released
unfolding shape_of named at_most numbers_up_to Option-elim
returns-in-Released c = rw c.in-Released.is refl

pub returns-in_default : goal.returns-in_default
returns-in_default c =
    let d = c.in_default in
    other_alone _ d.not-Document d.not-Fresh d.not-Old d.not-New d.not-Replace d.not-Other d.not-BundleOrder
    d.not-Names d.not-Text d.not-Records d.not-Released
