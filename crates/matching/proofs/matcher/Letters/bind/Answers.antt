-- The letter gets its value.
use Rattle.matching.specs.private.PatternTypes.{letter_number}
use Rattle.matching.proofs.Matching.{bind_way}
use Rattle.matching.proofs.matcher.Letters.bind.Goals as goal

pub returns : goal.returns
returns c =
    let a = c.args in
    let k = c.place-k.ensures.is in
    rw k (bind_way (letter_number a.letter) a.v a.self.now (rw k at c.place-k.ensures.small)
    (rw k at c.unwrap_or-old.ensures))
