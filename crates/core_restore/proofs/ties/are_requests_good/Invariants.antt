use Rattle.std.proofs.Common.{◌≡◌, drop}
use Rattle.std.specs.List.{list_all}
use Rattle.media_rows.specs.Good.{is_request_good}
use Rattle.core_restore.proofs.ties.are_requests_good.Given as goal

abbrev pub invariant-loop-row : goal.invariant-loop-row
invariant-loop-row l =
    list_all (is_request_good l.catalog.flows l.segments) (drop l.row-index l.requests) ≡ list_all (is_request_good l.catalog.flows l.segments) l.requests
