use Rattle.core_views.proofs.Paging.{first_values}
use Rattle.core_views.proofs.pages.first_rows.Goals as goal

-- the first of the values
pub returns-then-limit-rows : goal.returns-then-limit-rows
returns-then-limit-rows g c = first_values c.args.limit c.args.rows.now
