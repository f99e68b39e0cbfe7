use Rattle.std.proofs.Common.{ap, sym, ◌++◌, ◌∙◌}
use Rattle.std.proofs.lemmas.List.{append-nil}
use Rattle.std.specs.List.{flat_map}
use Rattle.generated_workload.specs.Workload.{object_requests}
use Rattle.generated_workload.proofs.Lists.{flat_map_more, none_below, one_behind}
use Rattle.generated_workload.proofs.workload.append_objects.Goals as goal

pub loop-i-init : goal.loop-i-init
loop-i-init c =
    let old = c.args.out.now in sym (append-nil old) ∙ ap (λ l. old ++ flat_map (object_requests c.args.number) l) (sym none_below)

-- the requests of one object more
pub loop-i-preserved : goal.loop-i-preserved
loop-i-preserved c =
    one_behind _ _ _ _ _ _ c.loop-i.invariant c.in_ok-append_object.ensures (flat_map_more (object_requests c.args.number) c.loop-i.i)
