use Rattle.std.proofs.Common.{◌≡◌, true}
use Rattle.object_refs.specs.References.{are_below}
use Rattle.book_measure.proofs.objects.bare_book.Given as goal

-- the next serial is above all that came
abbrev pub invariant-loop-serial : goal.invariant-loop-serial
invariant-loop-serial l = are_below l.serial l.book.kept ≡ true
