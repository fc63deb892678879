-- The tally with the bytes that `fill` puts at the buffer's start, or with none.
use Rattle.std.proofs.Common.{◌≡◌, IfSome, length, take, sym, subst, rules}
use Rattle.tally_reports.proofs.Bundles.{tallied, failed_tallied}
use Rattle.tally_reports.proofs.with_bundle.Goals as goal

pub returns-in-Ok : goal.returns-in-Ok
returns-in-Ok g c =
    let bytes = c.fill.new.buffer in
    let known = g.R.Read.remaining c.args.reader in
    tallied (length bytes) (search rules) known _ _ _
    (subst (λ most. IfSome known (λ xs. take c.in-Ok.length bytes ≡ take most xs)) (sym c.in-Ok.ensures.len)
    c.in-Ok.ensures.bytes)
    c.add.ensures

pub returns-in-Err : goal.returns-in-Err
returns-in-Err g c = failed_tallied (g.R.Read.remaining c.args.reader) _ _ c.add-in-Err.ensures
