-- The report of the bytes that `fill` puts at the buffer's start, or of none.
use Rattle.std.proofs.Common.{◌≡◌, IfSome, length, take, sym, subst, rules}
use Rattle.reports.proofs.Reported.{read_reported, not_reported}
use Rattle.reports.proofs.report_of.Goals as goal

pub returns-in-Ok : goal.returns-in-Ok
returns-in-Ok g c =
    let bytes = c.fill.new.buffer in
    let known = g.R.Read.remaining c.args.reader in
    read_reported (length bytes) (search rules) known _ _
    (subst (λ most. IfSome known (λ xs. take c.in-Ok.length bytes ≡ take most xs)) (sym c.in-Ok.ensures.len)
    c.in-Ok.ensures.bytes)
    c.audit.ensures

pub returns-in-Err : goal.returns-in-Err
returns-in-Err g c = not_reported (g.R.Read.remaining c.args.reader) _ c.unread.ensures
