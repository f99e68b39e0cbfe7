use Rattle.std.proofs.Common.{◌<◌, rules, arith, Fits, w64, subst}
use Rattle.object_blobs.specs.Holes.{IsPlaceTaken}
use Rattle.object_blobs.specs.Within.Keys.{area_of}
use Rattle.object_blobs.proofs.Seen.{kept_most}
use Rattle.object_blobs.proofs.Taking.{cut_of, taken_area, taken_holes}
use Rattle.object_blobs.proofs.space.Space.take.Goals as goal

pub holding-hole-requires-clause-kept : goal.holding-hole-requires-clause-kept
holding-hole-requires-clause-kept c =
    let most : Fits w64 c.self.inside.blocks = search rules in
    kept_most c.self.inside.blocks c.self.inside.holes (omega (arith, most)) c.self.invariant

-- what is left of the hole stands where it stood
pub invariant_of-result : goal.invariant_of-result
invariant_of-result c =
    let some : 0 < c.args.blocks = search rules in
    let cut = cut_of c.self.inside.blocks c.args.start c.args.blocks c.self.inside.holes c.holding-hole.result c.self.invariant some c.holding-hole.ensures in
    taken_holes c.self.inside.blocks c.args.start c.args.blocks c.self.inside.holes c.in_ok-holes.holes c.in_ok-with_rest.field-0 c.holding-hole.result _ _ cut
    c.in_ok-holes.ensures c.in_ok-with_rest.ensures

pub returns : goal.returns
returns c =
    let some : 0 < c.args.blocks = search rules in
    let cut = cut_of c.self.inside.blocks c.args.start c.args.blocks c.self.inside.holes c.holding-hole.result c.self.invariant some c.holding-hole.ensures in
    let taken =
    taken_area c.self.inside.blocks c.args.start c.args.blocks c.self.inside.holes c.in_ok-holes.holes c.in_ok-with_rest.field-0 c.holding-hole.result _ _ cut
    c.in_ok-holes.ensures c.in_ok-with_rest.ensures in
    subst (λ old. IsPlaceTaken c.args.start c.args.blocks old (area_of c.self.inside.blocks c.in_ok-with_rest.field-0)) c.self.view_is taken
