use Rattle.core_snapshot.proofs.snapshot.snapshot_text.Goals as goal

-- its own objects
pub returns : goal.returns
returns c = rw (c.items.ensures, c.in_ok-objects.ensures, c.media.ensures) at c.snapshot_text_with.ensures
