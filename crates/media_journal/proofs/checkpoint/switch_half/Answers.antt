use Rattle.std.proofs.Common.{◌∙◌}
use Rattle.media_journal.specs.Formatting.{half_text}
use Rattle.media_journal.specs.Checkpoint.{selector_for}
use Rattle.media_journal.proofs.MomentLemmas.{bytes_written}
use Rattle.media_journal.proofs.checkpoint.switch_half.Goals as goal

-- The half is whole in each image before the selector is written.
pub returns-clause-moments : goal.returns-clause-moments
returns-clause-moments g c = λ honest shows.
    let half = c.in_ok-write_half.ensures in
    let same = half.calls.same in
    let selector = c.select_half.ensures.moments (same.honest ∙ honest) (same.shows ∙ shows) in
    bytes_written _ c.args.start (half_text c.args.rows.now) 4096 (selector_for c.args.start) _ _ _ (half.written shows) (half.moments honest shows) selector
