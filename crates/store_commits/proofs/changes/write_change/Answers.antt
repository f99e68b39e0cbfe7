use Rattle.std.proofs.Common.{◌∙◌, is_ok, refl, sym, ap}
use Rattle.std.specs.Option.{option_copied}
use Rattle.std.proofs.lemmas.Result.{err_from_is_err_and}
use Rattle.media_journal.specs.Journal.{Position}
use Rattle.store_commits.specs.Carrying.{journal_for}
use Rattle.store_commits.specs.Within.{kept_with_rows}
use Rattle.store_commits.proofs.Writing.{holds_for, rows_failed, written}
use Rattle.store_commits.proofs.changes.write_change.Goals as goal

-- the rows failed: the archive before stands
pub returns-in_err-write_rows-clause-makes : goal.returns-in_err-write_rows-clause-makes
returns-in_err-write_rows-clause-makes g c =
    let failed = err_from_is_err_and c.from_residual.result c.from_residual.ensures.1 in
    rw failed.1 (λ honest shows kept held next next_held agrees same text step holds.
    rows_failed kept held (option_copied c.args.rows) next c.args.frame.now next_held (g.D.Disk.device c.args.disk.now) (g.D.Disk.device c.write_rows.new.disk)
    (c.in_err-write_rows.ensures.makes honest shows kept held agrees same text))

-- behind the rows the same library is kept, and the record carries it on
pub returns-clause-makes : goal.returns-clause-makes
returns-clause-makes g c = λ honest shows kept held next next_held agrees same text step holds.
    let rows = option_copied c.args.rows in
    let mid = g.D.Disk.device c.write_rows.new.disk in
    let made = c.in_ok-write_rows.ensures in
    let first = made.makes honest shows kept held agrees same text in
    let there = holds_for mid kept.journal rows next.objects next_held (made.bytes honest shows kept held agrees same next.objects next_held holds) in
    written kept held rows next c.args.frame.now next_held (is_ok c.append_change.result) (g.D.Disk.device c.args.disk.now) mid
    (g.D.Disk.device c.append_change.new.disk) first
    (c.append_change.ensures.makes (made.calls.same.honest ∙ honest) (made.calls.same.shows ∙ shows) (kept_with_rows kept rows) held next next_held
    (first.agrees refl) (ap (λ (p : Position). journal_for p rows) same ∙ sym made.moved) step there)
