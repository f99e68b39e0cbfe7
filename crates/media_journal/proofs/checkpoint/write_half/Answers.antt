use Rattle.std.proofs.Common.{◌∙◌}
use Rattle.std.proofs.lemmas.Result.{err_from_is_err_and}
use Rattle.media_journal.proofs.FormattingLemmas.{length-half_text}
use Rattle.media_journal.proofs.MomentLemmas.{synced_write}
use Rattle.media_journal.proofs.checkpoint.write_half.Goals as goal

-- Where a part wasn't written, nothing was synced.
pub returns-in_err-write_parts-clause-moments : goal.returns-in_err-write_parts-clause-moments
returns-in_err-write_parts-clause-moments g c = λ honest shows.
    let failed = err_from_is_err_and c.from_residual.result c.from_residual.ensures.1 in
    rw (failed.1, length-half_text c.args.rows.now) c.in_err-write_parts.ensures.time

-- After the sync each image is what is read.
pub returns-clause-moments : goal.returns-clause-moments
returns-clause-moments g c = λ honest shows.
    let parts = c.in_ok-write_parts.ensures in
    synced_write c.sync.result _ _ _ _ _ (rw (length-half_text c.args.rows.now) parts.time) c.sync.ensures.call.time
    (c.sync.ensures.durable (parts.calls.same.honest ∙ honest)) c.sync.ensures.seen (parts.written shows)
