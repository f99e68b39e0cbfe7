use Rattle.std.proofs.Common.{drop}
use Rattle.object_refs.specs.References.{objects_in}
use Rattle.media_book.specs.Within.Ties.{Freeing}
use Rattle.media_book.proofs.sweeps.freed.Given as goal

abbrev pub invariant-loop-row : goal.invariant-loop-row
invariant-loop-row l = Freeing (objects_in l.objects.kept) l.space.blocks l.left.space l.left.bytes l.gone (drop l.row-index l.gone)
