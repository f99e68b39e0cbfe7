-- The rows of the router that holds the table: what each route's text puts in.
use Rattle.std.specs.Prelude.{ℕ, List, [], ◌∷◌, Option, Some, None, Result, Ok, Err, if◌then◌else◌}
use Rattle.std.specs.List.{list_all}
use Rattle.matchit.specs.Order.{placed}
use Rattle.matchit.specs.Route.{Scan, parse_route}
use Rattle.matchit.specs.Router.{RouteOf, route_from}
use Rattle.matchit.specs.Rows.{RowsOf}
use Rattle.matchit.specs.Seek.{first}
use Rattle.matchit.specs.declared.error.InsertError.{InsertError}
use Rattle.http_routes.specs.Paths.{is_ascii_byte}
use Rattle.http_routes.specs.Table.{all_routes, route_text}
use Rattle.http_routes.specs.declared.route.Route.{Route}

-- the rows of a router of routes
abbrev pub Routed : Type 0
Routed = RowsOf (RouteOf Route)

-- rows with one more, of a route whose text reads like this
abbrev pub with_read : Result Scan InsertError → Route → Routed → Routed
with_read (Ok scan) route rows = placed (scan.pattern, route_from scan route) rows
with_read (Err e) route rows = rows

-- rows with a route more
unfoldable pub with_route : Route → Routed → Routed
with_route route rows = with_read (parse_route (route_text route)) route rows

-- rows with each of some routes
abbrev pub with_routes : List Route → Routed → Routed
with_routes [] rows = rows
with_routes (route ∷ routes) rows = with_routes routes (with_route route rows)

-- all rows of the table
abbrev pub table_rows : Routed
table_rows = with_routes all_routes []

-- the route of an answer
abbrev pub answered_route : Option (RouteOf Route) → Option Route
answered_route None = None
answered_route (Some found) = Some found.value

-- the route that rows have for a path in ASCII; no other path has one
abbrev pub route_in : Routed → List ℕ → Option Route
route_in rows path =
    if list_all is_ascii_byte path then answered_route (first rows path) else None
