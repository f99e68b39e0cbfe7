use Rattle.std.proofs.Common.{rules, arith, Fits, w64, ap, sym, ◌∙◌}
use Rattle.object_blobs.specs.Holes.{is_free_block, is_free_place}
use Rattle.object_blobs.proofs.Placing.{same_places}
use Rattle.object_blobs.proofs.Runs.{each_from}
use Rattle.object_blobs.proofs.Seen.{kept_most}
use Rattle.object_blobs.proofs.space.Space.is_free.Goals as goal

-- no blocks are free anywhere
pub returns-then-blocks-eq0-clause-free : goal.returns-then-blocks-eq0-clause-free
returns-then-blocks-eq0-clause-free c =
    sym (each_from (is_free_block c.args.self.now.holes) c.args.blocks c.args.start (λ block l h.
    let zero = c.if-blocks-eq0.true in absurd (omega (arith, zero, l, h))))

pub has_place-requires-clause-kept : goal.has_place-requires-clause-kept
has_place-requires-clause-kept c =
    let most : Fits w64 c.self.inside.blocks = search rules in
    kept_most c.self.inside.blocks c.self.inside.holes (omega (arith, most)) c.self.invariant

pub returns-clause-free : goal.returns-clause-free
returns-clause-free c = c.has_place.ensures ∙ ap (λ area. is_free_place area.holes c.args.blocks c.args.start) c.self.view_is

-- which is the library's
pub returns-clause-library : goal.returns-clause-library
returns-clause-library c objects leaves some =
    c.has_place.ensures ∙ ap (λ area. is_free_place area.holes c.args.blocks c.args.start) c.self.view_is
    ∙ same_places objects c.args.self.now c.args.blocks leaves some c.args.start
