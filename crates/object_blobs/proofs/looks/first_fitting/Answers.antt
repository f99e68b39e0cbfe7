use Rattle.std.proofs.Common.{FitsSigned, rules, sym, ap, ◌∙◌}
use mir.Syntax.{w128}
use Rattle.std.proofs.lemmas.Int.{to_z-of_z}
use Rattle.shared_tree.specs.Pairs.{values}
use Rattle.object_blobs.specs.Within.Keys.{first_start}
use Rattle.object_blobs.proofs.Seen.{all_above, fewer_above, first_behind}
use Rattle.object_blobs.proofs.looks.first_fitting.Goals as goal

-- at first they are all holes
pub holes-init : goal.holes-init
holes-init g c = ap (λ l. first_start c.args.blocks (values l)) (all_above c.args.holes.now c.requires.kept)

-- each look passes one
pub holes-smaller : goal.holes-smaller
holes-smaller g c =
    let fit : FitsSigned w128 c.in-Some.start = search rules in
    let pair = c.in-Some.ensures.pair in
    let less = fewer_above _ c.args.holes.now (c.in-Some.start, c.in-Some.hole.now) c.keys_rise.ensures pair in
    simp to_z-of_z less

-- which is too small
pub holes-preserved : goal.holes-preserved
holes-preserved g c =
    let fit : FitsSigned w128 c.in-Some.start = search rules in
    let pair = c.in-Some.ensures.pair in
    let same = first_behind c.args.blocks _ c.args.holes.now (c.in-Some.start, c.in-Some.hole.now) c.keys_rise.ensures pair c.if-blocks-hole.false in
    simp to_z-of_z (sym same ∙ c.holes.invariant)
