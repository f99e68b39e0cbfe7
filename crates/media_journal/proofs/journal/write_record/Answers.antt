use Rattle.std.proofs.Common.{◌+◌, ◌∙◌, arith}
use Rattle.std.proofs.lemmas.Result.{on_ok_weaker}
use Rattle.disk_trait.proofs.Theorems.{torn_twice}
use Rattle.disk_trait.proofs.TornLemmas.{torn_wider}
use Rattle.media_journal.proofs.MomentLemmas.{bytes_written}
use Rattle.media_journal.proofs.journal.write_record.Goals as goal

-- The frame is whole in each image before its gate is written.
pub returns-clause-moments : goal.returns-clause-moments
returns-clause-moments g c = λ honest shows.
    let frame = c.in_ok-write_synced.ensures in
    let same = frame.calls.same in
    let gate = c.write_synced-2.ensures.moments (same.honest ∙ honest) (same.shows ∙ shows) in
    bytes_written _ (c.args.gate + 1) c.args.frame.now c.args.gate 1 _ _ _ (frame.written shows) (frame.moments honest shows) gate

-- The two ranges lie side by side.
pub returns-clause-torn : goal.returns-clause-torn
returns-clause-torn g c = λ shows.
    let frame = c.in_ok-write_synced.ensures in
    on_ok_weaker c.write_synced-2.result
    (λ gate. torn_twice _ _ _ _ _ (torn_wider _ _ _ _ (frame.torn shows) _ _ (omega arith) (omega arith))
    (torn_wider _ _ _ _ gate _ _ (omega arith) (omega arith)))
    (c.write_synced-2.ensures.torn (frame.calls.same.shows ∙ shows))
