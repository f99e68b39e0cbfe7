use Rattle.std.proofs.Common.{◌≡◌, drop}
use Rattle.http_routes.specs.Routing.{with_routes}
use Rattle.http_routes.proofs.table.add_all.Given as goal

-- what the routes that are left put in gives what all do
abbrev pub invariant-loop-route : goal.invariant-loop-route
invariant-loop-route l = with_routes (drop l.route-index l.routes) l.router ≡ with_routes l.routes l.fn.router
