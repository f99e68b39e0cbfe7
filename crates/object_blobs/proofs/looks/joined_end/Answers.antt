use Rattle.std.proofs.Common.{arith}
use Rattle.object_blobs.proofs.Seen.{first_ends}
use Rattle.object_blobs.proofs.looks.joined_end.Goals as goal

-- the hole's end is a `u64`
pub overflow_add-result : goal.overflow_add-result
overflow_add-result g c =
    let ends = first_ends _ c.args.holes.now (c.in-Some.field-0-0, c.in-Some.hole.now) c.requires.kept c.in-Some.ensures.pair in
    grind (arith, ends)
