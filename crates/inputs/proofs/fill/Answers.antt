-- What stands at the buffer's start is what the reader gave, at the end all that it had or that the buffer holds.
use Rattle.std.proofs.Common.{rules, arith}
use Rattle.inputs.proofs.Filled.{filled_more, filled_kept, full}
use Rattle.inputs.proofs.fill.Goals.{in-Ok, in-Err}
use Rattle.inputs.proofs.fill.Goals as goal

pub loop-preserved : goal.loop-preserved
loop-preserved g c =
    let l = c.loop in
    elim c.match-read.branch [
      | in-Ok w ↦ (
        search rules,
        search rules,
        rw w.filled-is (filled_more _ _ _ l.filled _ l.buffer c.read.new.buf l.invariant.1 l.invariant.2 w.in-Ok.more
            w.in-Ok.ensures.bound.0 w.in-Ok.ensures.bytes.0),
      )
      | in-Err w ↦ (
        search rules,
        search rules,
        rw w.filled-is (filled_kept _ _ _ l.filled _ l.buffer c.read.new.buf l.invariant.1 l.invariant.2
            w.in-Err.ensures.bytes),
      )
    ]

pub returns-then-filled-buffer-clause-bytes : goal.returns-then-filled-buffer-clause-bytes
returns-then-filled-buffer-clause-bytes g c =
    full _ _ c.loop.filled _ c.loop.buffer c.loop.invariant.1
    (omega (arith, c.loop.invariant.0, c.loop.invariant.1, c.if-filled-buffer.true)) c.loop.invariant.2
