use Rattle.std.proofs.Common.{◌∙◌, List, length, ap}
use Rattle.media_rows.specs.declared.object.ObjectRow.{ObjectRow}
use Rattle.store_core.specs.Prepared.{stored_objects}
use Rattle.store_states.specs.States.{media_start}
use Rattle.store_migration.proofs.Digesting.{objects_there, rows_made}
use Rattle.store_migration.proofs.digests.library_rows.Goals as goal

-- the objects lie in the media blocks
pub digested_rows-requires : goal.digested_rows-requires
digested_rows-requires g c = record {
  there = rw (c.half.ensures.half, c.in_ok-objects.ensures)
      (objects_there c.args.core.now.library c.args.journal.now (g.D.Disk.device c.args.disk.now).size c.keeps_good.ensures c.requires.blocks
      c.requires.sizes c.requires.device);
}

pub returns-clause-rows : goal.returns-clause-rows
returns-clause-rows g c = λ shows.
    rows_made (g.D.Disk.device c.args.disk.now).seen (media_start c.args.journal.now.half) c.args.core.now.library c.in_ok-objects-2.objects _
    c.keeps_good.ensures (rw (c.half.ensures.half, c.in_ok-objects.ensures) at c.in_ok-objects-2.ensures.made shows)
    (c.stored_count.ensures ∙ ap (λ (l : List ObjectRow). length (stored_objects l)) c.items-2.ensures) (rw c.items.ensures at c.in_ok-text.ensures)
