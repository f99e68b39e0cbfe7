use Rattle.std.proofs.Common.{◌∙◌}
use Rattle.media_journal.proofs.MomentLemmas.{synced_write}
use Rattle.media_journal.proofs.MomentLemmas.{torn_along}
use Rattle.media_journal.proofs.write.write_synced.Goals as goal

-- After the sync each image is what is read.
pub returns-clause-moments : goal.returns-clause-moments
returns-clause-moments g c = λ honest shows.
    let write = c.in_ok-write_at.ensures in
    synced_write c.sync.result _ _ _ _ _ write.call.time c.sync.ensures.call.time (c.sync.ensures.durable (write.call.same.honest ∙ honest)) c.sync.ensures.seen
    (write.written shows)

-- A sync changes nothing of what the write may have left.
pub returns-clause-time : goal.returns-clause-time
returns-clause-time g c = torn_along _ _ _ _ _ c.in_ok-write_at.ensures.call.time c.sync.ensures.call.time
