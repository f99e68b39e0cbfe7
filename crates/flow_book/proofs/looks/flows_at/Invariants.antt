use Rattle.std.proofs.Common.{◌≡◌, ◌++◌, drop, filter_map}
use Rattle.media_rows.specs.Catalog.{flow_of}
use Rattle.shared_tree.specs.Pairs.{values, values_of}
use Rattle.flow_book.proofs.looks.flows_at.Given as goal

abbrev pub invariant-loop-id : goal.invariant-loop-id
invariant-loop-id l = values_of l.list.items ++ filter_map (λ id. flow_of id (values l.flows)) (values_of (drop l.id-index l.ids)) ≡ filter_map
    (λ id. flow_of id (values l.flows)) (values_of l.ids)
