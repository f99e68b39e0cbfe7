use Rattle.std.proofs.Common.{◌≡◌, ◌+◌, ◌≤◌, rules, arith, Fits, w64, true, sym, subst}
use Rattle.object_blobs.specs.Holes.{Area, GivesBlocks, is_taken_place}
use Rattle.object_blobs.specs.Within.Keys.{area_of}
use Rattle.object_blobs.proofs.Giving.{Asked, given_area, given_holes}
use Rattle.object_blobs.proofs.Seen.{kept_most}
use Rattle.object_blobs.proofs.space.Space.give.Goals as goal

pub joined_start-first-requires-clause-kept : goal.joined_start-first-requires-clause-kept
joined_start-first-requires-clause-kept c =
    let most : Fits w64 c.self.inside.blocks = search rules in
    kept_most c.self.inside.blocks c.self.inside.holes (omega (arith, most)) c.self.invariant

pub joined_end-last-requires-clause-kept : goal.joined_end-last-requires-clause-kept
joined_end-last-requires-clause-kept c =
    let most : Fits w64 c.self.inside.blocks = search rules in
    kept_most c.self.inside.blocks c.self.inside.holes (omega (arith, most)) c.self.invariant

-- the hole that the blocks make with those that they touch stands between the others
pub invariant_of-result : goal.invariant_of-result
invariant_of-result c =
    let asked : Asked c.self.inside.blocks c.args.start c.args.blocks c.self.inside.holes c.joined_start-first.result c.joined_end-last.result = record {
      kept = c.self.invariant;
      some = search rules;
      inside = subst (λ (area : Area). c.args.start + c.args.blocks ≤ area.blocks) (sym c.self.view_is) c.requires.inside;
      taken = subst (λ (area : Area). is_taken_place area.holes c.args.blocks c.args.start ≡ true) (sym c.self.view_is) c.requires.taken;
      from_is = c.joined_start-first.ensures.first;
      to_is = c.joined_end-last.ensures.last;
    } in
    given_holes c.self.inside.blocks c.args.start c.args.blocks c.self.inside.holes c.in_ok-others.others c.in_ok-with_hole.field-0 c.joined_start-first.result
    c.joined_end-last.result asked c.in_ok-others.ensures c.in_ok-with_hole.ensures

pub returns : goal.returns
returns c =
    let asked : Asked c.self.inside.blocks c.args.start c.args.blocks c.self.inside.holes c.joined_start-first.result c.joined_end-last.result = record {
      kept = c.self.invariant;
      some = search rules;
      inside = subst (λ (area : Area). c.args.start + c.args.blocks ≤ area.blocks) (sym c.self.view_is) c.requires.inside;
      taken = subst (λ (area : Area). is_taken_place area.holes c.args.blocks c.args.start ≡ true) (sym c.self.view_is) c.requires.taken;
      from_is = c.joined_start-first.ensures.first;
      to_is = c.joined_end-last.ensures.last;
    } in
    let given = given_area c.self.inside.blocks c.args.start c.args.blocks c.self.inside.holes c.in_ok-others.others c.in_ok-with_hole.field-0
    c.joined_start-first.result c.joined_end-last.result asked c.in_ok-others.ensures c.in_ok-with_hole.ensures in
    subst (λ old. GivesBlocks c.args.start c.args.blocks old (area_of c.self.inside.blocks c.in_ok-with_hole.field-0)) c.self.view_is given
