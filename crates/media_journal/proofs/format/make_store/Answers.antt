use Rattle.std.proofs.Common.{◌∙◌, arith}
use Rattle.std.proofs.lemmas.Result.{on_ok_weaker, err_from_is_err_and}
use Rattle.media_journal.proofs.StoreLemmas.{front_none, none_so_far, store_made}
use Rattle.media_journal.proofs.GateLemmas.{gate_forgotten}
use Rattle.media_journal.proofs.OthersLemmas.{others_along, others_header}
use Rattle.media_journal.proofs.format.make_store.Goals as goal

-- The gate was closed where it stood open, then all but the gate was written, and then the gate.
pub returns-clause-written : goal.returns-clause-written
returns-clause-written g c = λ shows.
    let first = c.in_ok-close_stray.ensures.calls in
    let second = c.in_ok-write_store.ensures.calls in
    let once = first.same.shows ∙ shows in
    let written = c.in_ok-write_store.ensures.written once in
    let twice = second.same.shows ∙ once in
    let whole = (g.met.D.Disk.sound c.args.disk.now).length shows in
    on_ok_weaker c.write_synced.result
    (λ opened. (rw written at opened) ∙ gate_forgotten _ _ _ _ c.requires.header (omega (arith, whole, c.requires.device))
    (c.in_ok-close_stray.ensures.gate_alone shows))
    (c.write_synced.ensures.written twice)

pub returns-in_err-close_stray-clause-moments : goal.returns-in_err-close_stray-clause-moments
returns-in_err-close_stray-clause-moments g c = λ rest gate none.
    let failed = err_from_is_err_and c.from_residual.result c.from_residual.ensures.1 in
    rw failed.1 (none_so_far _ _ _ _ _ (c.in_err-close_stray.ensures.moments rest gate none))

pub returns-in_err-write_store-clause-moments : goal.returns-in_err-write_store-clause-moments
returns-in_err-write_store-clause-moments g c = λ rest gate none.
    let failed = err_from_is_err_and c.from_residual-in_err-write_store.result c.from_residual-in_err-write_store.ensures.1 in
    let closes = c.in_ok-close_stray.ensures in
    let front =
    front_none _ _ _ (closes.settled rest).settled (closes.closed rest.shows gate none) (closes.moments rest gate none) c.in_err-write_store.ensures.moments in
    rw failed.1 (none_so_far _ _ _ _ _ front)

pub returns-clause-moments : goal.returns-clause-moments
returns-clause-moments g c = λ rest gate none.
    let closes = c.in_ok-close_stray.ensures in
    let once = closes.settled rest in
    let writes = c.in_ok-write_store.ensures in
    let front = front_none _ _ _ once.settled (closes.closed rest.shows gate none) (closes.moments rest gate none) writes.moments in
    let same = writes.calls.same in
    let opens = c.write_synced.ensures.moments (same.honest ∙ once.honest) (same.shows ∙ once.shows) in
    let whole = (g.met.D.Disk.sound c.write_store.new.disk).length (same.shows ∙ once.shows) in
    let begun = (g.met.D.Disk.sound c.args.disk.now).length rest.shows in
    store_made _ _ _ _ c.requires.header (omega (arith, begun, c.requires.device)) (closes.gate_alone rest.shows) _ _ _
    (omega (arith, whole, c.requires.device, same.size, closes.calls.same.size)) (writes.written once.shows)
    _ (writes.durable once.honest) front opens

pub returns-in_err-close_stray-clause-others : goal.returns-in_err-close_stray-clause-others
returns-in_err-close_stray-clause-others g c = c.in_err-close_stray.ensures.others _

pub returns-in_err-write_store-clause-others : goal.returns-in_err-write_store-clause-others
returns-in_err-write_store-clause-others g c = others_along _ _ _ _ (c.in_ok-close_stray.ensures.others _) c.in_err-write_store.ensures.others

pub returns-clause-others : goal.returns-clause-others
returns-clause-others g c =
    others_along _ _ _ _ (others_along _ _ _ _ (c.in_ok-close_stray.ensures.others _) c.in_ok-write_store.ensures.others)
    (others_header _ 40 1 _ _ (omega arith) c.write_synced.ensures.time)
