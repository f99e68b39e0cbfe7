use Rattle.std.proofs.Common.{arith}
use Rattle.object_blobs.proofs.Seen.{last_ends}
use Rattle.object_blobs.proofs.looks.joined_start.Goals as goal

-- the hole's end is a `u64`
pub overflow_add-hole : goal.overflow_add-hole
overflow_add-hole g c =
    let ends = last_ends _ c.args.holes.now (c.in-Some.field-0-0, c.in-Some.hole.now) c.requires.kept c.in-Some.ensures.pair in
    grind (arith, ends)
