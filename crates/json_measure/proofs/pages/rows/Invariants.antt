use Rattle.std.proofs.Common.{◌≡◌, true}
use Rattle.std.specs.List.{list_all}
use Rattle.media_rows.specs.Ids.{is_object_id}
use Rattle.json_measure.proofs.pages.rows.Given as goal

-- each segment so far names an object by its id
abbrev pub invariant-loop-place : goal.invariant-loop-place
invariant-loop-place l = list_all (λ row. is_object_id row.segment.object) l.rows ≡ true
