use Rattle.std.proofs.Common.{◌≡◌, ◌++◌, drop, option_map, IsTrue}
use Rattle.std.specs.List.{list_all}
use Rattle.serde_json.specs.View.{items_view}
use Rattle.json_bodies.specs.Kinds.{each_item}
use Rattle.json_bodies.proofs.kinds.read_each.Given as goal

abbrev pub invariant-loop-value : goal.invariant-loop-value
invariant-loop-value g l =
    (option_map (λ rest. l.list ++ rest) (each_item (g.K.Kind.kind_of l.kind) (items_view (drop l.value-index l.values)))
    ≡ each_item (g.K.Kind.kind_of l.kind) (items_view l.values))
    × IsTrue (list_all (g.K.Kind.is_good l.kind) l.list)
