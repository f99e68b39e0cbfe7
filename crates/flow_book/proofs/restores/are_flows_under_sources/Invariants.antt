use Rattle.std.proofs.Common.{◌≡◌, drop}
use Rattle.std.specs.List.{list_all}
use Rattle.media_rows.specs.Catalog.{source_of}
use Rattle.media_rows.specs.Good.{fits_kept}
use Rattle.shared_tree.specs.Pairs.{values}
use Rattle.flow_book.proofs.restores.are_flows_under_sources.Given as goal

abbrev pub invariant-loop-row : goal.invariant-loop-row
invariant-loop-row l = list_all (λ row. fits_kept (source_of row.body.source (values l.sources)) row) (drop l.row-index l.flows) ≡ list_all
    (λ row. fits_kept (source_of row.body.source (values l.sources)) row) l.flows
