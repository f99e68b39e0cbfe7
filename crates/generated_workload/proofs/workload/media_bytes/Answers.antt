use Rattle.std.proofs.Common.{ap, map, sym, ◌++◌, ◌∷◌, [], ◌∙◌}
use Rattle.generated_workload.specs.Workload.{media_byte}
use Rattle.generated_workload.proofs.Lists.{map_more, none_below}
use Rattle.generated_workload.proofs.workload.media_bytes.Goals as goal

pub loop-j-init : goal.loop-j-init
loop-j-init c = c.new-bytes.ensures ∙ ap (map (media_byte c.args.number c.args.i)) (sym none_below)

-- one byte more
pub loop-j-preserved : goal.loop-j-preserved
loop-j-preserved c =
    let byte = media_byte c.args.number c.args.i in
    c.in_ok-push.ensures.ok ∙ ap (λ l. l ++ byte c.loop-j.j ∷ []) c.loop-j.invariant ∙ sym (map_more byte c.loop-j.j)
