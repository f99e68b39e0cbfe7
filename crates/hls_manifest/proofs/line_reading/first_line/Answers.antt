use Rattle.hls_manifest.proofs.LineLemmas.{first_line_at}
use Rattle.hls_manifest.proofs.line_reading.first_line.Goals as goal

-- It ends at the first line feed.
pub returns-then-text-index-eq10-clause-found : goal.returns-then-text-index-eq10-clause-found
returns-then-text-index-eq10-clause-found c =
    first_line_at c.args.text.now _ _ c.loop-index.index c.loop-index-test.true
    c.loop-index.invariant c.if-text-index-eq10.true
    c.split_at.ensures.front c.split_at.ensures.back
