use Rattle.std.proofs.Common.{◌≡◌, ◌∙◌, FitsSigned, rules, filter, option_map, None, Some, sym, ap, subst}
use mir.Syntax.{w128}
use Rattle.std.proofs.lemmas.Int.{to_z-of_z}
use Rattle.shared_tree.specs.Pairs.{is_up_to, last}
use Rattle.object_blobs.proofs.Holding.{held}
use Rattle.object_blobs.proofs.looks.holding.Goals as goal

-- a hole that begins up to the first block has it
pub unreachable-requires : goal.unreachable-requires
unreachable-requires g c =
    let fit : FitsSigned w128 c.key_of.result = search rules in
    let pair = simp to_z-of_z at c.at_or_before.ensures.pair in
    held c.args.holes.now c.args.start c.args.blocks None c.requires.kept c.requires.some c.requires.free
    (subst (λ k. None ≡ last (filter (is_up_to k) c.args.holes.now)) c.key_of.ensures (sym (ap (option_map (λ p. (p.0, p.1.now))) c.in_default.is) ∙ pair))

pub returns : goal.returns
returns g c =
    let fit : FitsSigned w128 c.key_of.result = search rules in
    let pair = simp to_z-of_z at c.in-Some.ensures.pair in
    held c.args.holes.now c.args.start c.args.blocks (Some (c.in-Some.field-0-0, c.in-Some.hole.now)) c.requires.kept c.requires.some c.requires.free
    (subst (λ k. Some (c.in-Some.field-0-0, c.in-Some.hole.now) ≡ last (filter (is_up_to k) c.args.holes.now)) c.key_of.ensures pair)
