use Rattle.store_commands.proofs.WorkloadLemmas.{made_in_memory}
use Rattle.store_commands.proofs.generating.empty_store.Goals as goal

-- The store was made on the fresh site.
pub returns-in-Formatted : goal.returns-in-Formatted
returns-in-Formatted c =
    made_in_memory c.in_ok-disk.disk _ _ _ _ _ c.new-site.result c.format.new.site c.in-Formatted.blocks c.in-Formatted.half c.in-Formatted.media
    c.in_ok-disk.ensures.disk c.new-site.ensures.site c.in-Formatted.ensures.disk c.in-Formatted.ensures.ends.link c.in-Formatted.ensures.ends.causes
    c.in-Formatted.ensures.ends.moments
