use Rattle.std.proofs.Common.{arith}
use Rattle.std.proofs.lemmas.Result.{on_ok_weaker}
use Rattle.media_journal.proofs.StoreLemmas.{stray_closes, shut_by_zero}
use Rattle.media_journal.proofs.OthersLemmas.{others_header}
use Rattle.media_journal.proofs.format.close_stray.Goals as goal

pub returns-in-Stray-clause-closed : goal.returns-in-Stray-clause-closed
returns-in-Stray-clause-closed g c = λ shows gate none.
    let whole = (g.met.D.Disk.sound c.args.disk.now).length shows in
    on_ok_weaker c.write_synced.result (λ seen. rw seen (shut_by_zero (g.D.Disk.device c.args.disk.now).seen (omega (arith, whole, c.requires))))
    (c.write_synced.ensures.written shows)

-- The image has no header, whatever the gate's byte is.
pub returns-in-Stray-clause-moments : goal.returns-in-Stray-clause-moments
returns-in-Stray-clause-moments g c = λ rest gate none.
    stray_closes _ _ _ rest (rw c.in-Stray.is at gate) (c.write_synced.ensures.moments rest.honest rest.shows)

pub returns-in-Stray-clause-others : goal.returns-in-Stray-clause-others
returns-in-Stray-clause-others g c = λ size. others_header size 40 1 _ _ (omega arith) c.write_synced.ensures.time
