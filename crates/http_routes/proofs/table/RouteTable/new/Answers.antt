use Rattle.http_routes.proofs.Routing.{table_routes}
use Rattle.http_routes.proofs.table.RouteTable.new.Goals as goal

-- the rows are those of the table
pub returns-clause-paths : goal.returns-clause-paths
returns-clause-paths c = λ path. table_routes c.in_ok-router.router path c.in_ok-router.ensures
