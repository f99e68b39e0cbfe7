use Rattle.std.proofs.Common.{◌≡◌, FitsSigned, None, Some, filter, rules, subst, arith, ◌∙◌}
use mir.Syntax.{w128}
use Rattle.std.proofs.lemmas.Int.{to_z-of_z}
use Rattle.shared_tree.specs.Pairs.{is_up_to, last}
use Rattle.object_blobs.proofs.Placed.{place_told}
use Rattle.object_blobs.proofs.Seen.{last_ends}
use Rattle.object_blobs.proofs.looks.has_place.Goals as goal

-- the hole's end is a `u64`
pub reaches-requires : goal.reaches-requires
reaches-requires g c =
    let ends = last_ends _ c.args.holes.now (c.in-Some.field-0-0, c.in-Some.hole.now) c.requires.kept c.in-Some.ensures.pair in
    record { fits = omega (arith, ends) }

-- the last hole that begins up to the first block has all of them, or none has
pub returns-in-Some : goal.returns-in-Some
returns-in-Some g c =
    let fit : FitsSigned w128 c.key_of.result = search rules in
    let pair = simp to_z-of_z at c.in-Some.ensures.pair in
    c.reaches.ensures
    ∙ place_told c.args.holes.now c.args.start c.args.blocks (Some (c.in-Some.field-0-0, c.in-Some.hole.now)) c.requires.kept c.requires.some
    (subst (λ k. Some (c.in-Some.field-0-0, c.in-Some.hole.now) ≡ last (filter (is_up_to k) c.args.holes.now)) c.key_of.ensures pair)

pub returns : goal.returns
returns g c =
    let fit : FitsSigned w128 c.key_of.result = search rules in
    let pair = simp to_z-of_z at c.in-None.ensures.pair in
    place_told c.args.holes.now c.args.start c.args.blocks None c.requires.kept c.requires.some
    (subst (λ k. None ≡ last (filter (is_up_to k) c.args.holes.now)) c.key_of.ensures pair)
