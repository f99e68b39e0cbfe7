use Rattle.run_examples.proofs.SmallRuns.{made_small}
use Rattle.run_examples.proofs.running.small_store.Goals as goal

-- The store was made on the fresh site.
pub returns-in-Formatted : goal.returns-in-Formatted
returns-in-Formatted c =
    made_small c.new-site.result c.format.new.site c.in-Formatted.blocks c.in-Formatted.half c.in-Formatted.media
    c.in-Formatted.ensures.ends.causes c.in-Formatted.ensures.ends.moments
