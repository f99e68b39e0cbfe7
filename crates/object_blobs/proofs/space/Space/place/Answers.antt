use Rattle.std.proofs.Common.{◌<◌, rules, arith, Fits, w64, ap, ◌∙◌}
use Rattle.object_blobs.specs.Holes.{least_place}
use Rattle.object_blobs.specs.Within.Keys.{area_of}
use Rattle.object_blobs.proofs.Placing.{library_place, place_is}
use Rattle.object_blobs.proofs.Seen.{kept_most}
use Rattle.object_blobs.proofs.space.Space.place.Goals as goal

pub first_fitting-requires-clause-kept : goal.first_fitting-requires-clause-kept
first_fitting-requires-clause-kept c =
    let most : Fits w64 c.self.inside.blocks = search rules in
    kept_most c.self.inside.blocks c.self.inside.holes (omega (arith, most)) c.self.invariant

-- the first hole that is large enough begins at the least place
pub returns-clause-least : goal.returns-clause-least
returns-clause-least c =
    let some : 0 < c.args.blocks = search rules in
    c.first_fitting.ensures
    ∙ place_is (area_of c.self.inside.blocks c.self.inside.holes) c.args.blocks c.self.invariant.area some
    ∙ ap (λ area. least_place area c.args.blocks) c.self.view_is

-- which is the library's
pub returns-clause-library : goal.returns-clause-library
returns-clause-library c objects leaves =
    let some : 0 < c.args.blocks = search rules in
    c.first_fitting.ensures
    ∙ place_is (area_of c.self.inside.blocks c.self.inside.holes) c.args.blocks c.self.invariant.area some
    ∙ ap (λ area. least_place area c.args.blocks) c.self.view_is
    ∙ library_place objects c.args.self.now c.args.blocks leaves
