use Rattle.std.proofs.Common.{◌≡◌, drop}
use Rattle.std.specs.List.{list_all}
use Rattle.media_rows.specs.Good.{is_flow_text}
use Rattle.good_values.proofs.rows.are_flows_good.Given as goal

abbrev pub invariant-loop-row : goal.invariant-loop-row
invariant-loop-row l = list_all is_flow_text (drop l.row-index l.rows) ≡ list_all is_flow_text l.rows
