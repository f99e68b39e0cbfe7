-- What a request asks for, by its method, its target and its body, or the first refusal: the route,
-- its method, the ids in the path, the body, and then the query. Our own profile of the
-- Time-addressable Media Store.
use Rattle.std.specs.Prelude.{ℕ, List, [], ◌∷◌, Option, Some, None, Result, Ok, Err, if◌then◌else◌}
use Rattle.http_queries.specs.Filters.{flow_filter, asked_list_page, range_of, range_or_all, segment_filter, asked_segment_page, source_filter}
use Rattle.http_queries.specs.Pairs.{query_pairs}
use Rattle.http_queries.specs.Rules.{query_fault}
use Rattle.http_queries.specs.declared.pairs.Pair.{Pair}
use Rattle.http_queries.specs.declared.rules.QueryKind.{QueryKind}
use Rattle.http_queries.specs.declared.rules.QueryKind.TheVariants as kinds
use Rattle.http_routes.specs.Paths.{path_of, query_of, route_of}
use Rattle.http_routes.specs.Table.{has_method, methods_of}
use Rattle.http_routes.specs.declared.route.Route.{Route}
use Rattle.http_routes.specs.declared.route.Route.TheVariants as routes
use Rattle.http_wire.specs.declared.head.MethodKind.{MethodKind}
use Rattle.http_wire.specs.declared.head.MethodKind.TheVariants.{Get, Head, Post, Put, Delete, Other}
use Rattle.json_bodies.specs.Flow as bodies
use Rattle.json_bodies.specs.Hook.{hook_in}
use Rattle.json_bodies.specs.Rules.{◌>>=◌}
use Rattle.json_bodies.specs.Segments.{segments_in}
use Rattle.json_bodies.specs.Storage.{want_in}
use Rattle.media_rows.specs.declared.command.Command.{Command}
use Rattle.media_rows.specs.declared.command.Command.TheVariants as commands
use Rattle.media_rows.specs.declared.command.Query.{Query}
use Rattle.media_rows.specs.declared.command.Query.TheVariants as queries
use Rattle.media_rows.specs.declared.event.EventKind.{EventKind}
use Rattle.media_rows.specs.declared.hook.Hook.{Hook}
use Rattle.media_rows.specs.declared.refusal.Refusal.{Refusal}
use Rattle.media_rows.specs.declared.refusal.Refusal.TheVariants.{NoRoute, NoMethod, BadQuery}
use Rattle.tams_http.specs.Named.{flow_at, object_at, request_at, source_at}
use Rattle.tams_http.specs.Parts.{cleared_part, flow_part_name, set_part, source_part_name}
use Rattle.tams_http.specs.declared.ask.Ask.{Ask}
use Rattle.tams_http.specs.declared.ask.Ask.TheVariants.{Run, PutMedia, GetMedia}

-- a command of the library
abbrev pub runs : Command → Result Ask Refusal
runs command = Ok (Run command)

-- ---- queries

-- pairs without a fault
abbrev pub without_fault : List Pair → Option (List ℕ) → Result (List Pair) Refusal
without_fault pairs None = Ok pairs
without_fault pairs (Some name) = Err (BadQuery name)

-- the pairs of a query, or the name of the first one at fault
abbrev pub pairs_in : QueryKind → List ℕ → Result (List Pair) Refusal
pairs_in kind query = without_fault (query_pairs query) (query_fault kind (query_pairs query))

-- ---- GET and HEAD

-- a question is answered
abbrev pub shows : Query → Result Ask Refusal
shows query = runs (commands.Ask query)

-- a list of sources
abbrev pub sources_asked : List ℕ → Result Ask Refusal
sources_asked query =
    pairs_in kinds.Sources query
    >>= λ pairs. shows (queries.Sources (source_filter pairs) (asked_list_page pairs))

-- a list of flows
abbrev pub flows_asked : List ℕ → Result Ask Refusal
flows_asked query =
    pairs_in kinds.Flows query
    >>= λ pairs. shows (queries.Flows (flow_filter pairs) (range_of pairs) (asked_list_page pairs))

-- a list of the segments of a flow
abbrev pub segments_asked : List ℕ → List ℕ → Result Ask Refusal
segments_asked path query =
    flow_at path >>= λ flow.
    pairs_in kinds.Segments query >>= λ pairs.
    shows (queries.Segments flow (segment_filter pairs) (asked_segment_page pairs))

-- what is shown
abbrev pub get_asked : ℕ → Route → List ℕ → List ℕ → Result Ask Refusal
get_asked store routes.Root path query = shows queries.Root
get_asked store routes.Service path query = shows queries.Service
get_asked store routes.Hooks path query = shows queries.Hooks
get_asked store routes.Sources path query = sources_asked query
get_asked store routes.Source path query = source_at path >>= λ source.
    shows (queries.Source source)
get_asked store (routes.SourcePart part) path query =
    source_at path >>= λ source.
    source_part_name part path >>= λ name.
    shows (queries.SourcePart source name)
get_asked store routes.Flows path query = flows_asked query
get_asked store routes.Flow path query = flow_at path >>= λ flow. shows (queries.Flow flow)
get_asked store (routes.FlowPart part) path query =
    flow_at path >>= λ flow.
    flow_part_name part path >>= λ name.
    shows (queries.FlowPart flow name)
get_asked store routes.Segments path query = segments_asked path query
get_asked store routes.Storage path query = Err NoMethod
get_asked store routes.Object path query = object_at path >>= λ object.
    shows (queries.Object object)
get_asked store routes.Requests path query = shows queries.Requests
get_asked store routes.Request path query =
    request_at store path >>= λ serial. shows (queries.Request serial)
get_asked store routes.Media path query = object_at path >>= λ object. Ok (GetMedia object)

-- ---- PUT

-- what is set by a body
abbrev pub put_asked : Route → List ℕ → List ℕ → Result Ask Refusal
put_asked routes.Root path body = Err NoMethod
put_asked routes.Service path body = Err NoMethod
put_asked routes.Hooks path body = Err NoMethod
put_asked routes.Sources path body = Err NoMethod
put_asked routes.Source path body = Err NoMethod
put_asked (routes.SourcePart part) path body =
    source_at path >>= λ source.
    source_part_name part path >>= λ name.
    set_part name body >>= λ value.
    runs (commands.SetSource source value)
put_asked routes.Flows path body = Err NoMethod
put_asked routes.Flow path body =
    flow_at path >>= λ id. bodies.flow_in id body >>= λ flow. runs (commands.PutFlow flow)
put_asked (routes.FlowPart part) path body =
    flow_at path >>= λ flow.
    flow_part_name part path >>= λ name.
    set_part name body >>= λ value.
    runs (commands.SetFlow flow value)
put_asked routes.Segments path body = Err NoMethod
put_asked routes.Storage path body = Err NoMethod
put_asked routes.Object path body = Err NoMethod
put_asked routes.Requests path body = Err NoMethod
put_asked routes.Request path body = Err NoMethod
put_asked routes.Media path body = object_at path >>= λ object. Ok (PutMedia object)

-- ---- POST

-- a hook is registered, or the hook of its address is removed where it names no event
abbrev pub hook_command : Hook → List EventKind → Command
hook_command hook [] = commands.DropHook hook.url
hook_command hook (event ∷ events) = commands.PutHook hook

-- what is added by a body
abbrev pub post_asked : Route → List ℕ → List ℕ → Result Ask Refusal
post_asked routes.Root path body = Err NoMethod
post_asked routes.Service path body = Err NoMethod
post_asked routes.Hooks path body = hook_in body >>= λ hook. runs (hook_command hook hook.events)
post_asked routes.Sources path body = Err NoMethod
post_asked routes.Source path body = Err NoMethod
post_asked (routes.SourcePart part) path body = Err NoMethod
post_asked routes.Flows path body = Err NoMethod
post_asked routes.Flow path body = Err NoMethod
post_asked (routes.FlowPart part) path body = Err NoMethod
post_asked routes.Segments path body =
    flow_at path >>= λ flow.
    segments_in body >>= λ segments.
    runs (commands.AddSegments flow segments)
post_asked routes.Storage path body =
    flow_at path >>= λ flow. want_in body >>= λ want. runs (commands.Allocate flow want)
post_asked routes.Object path body = Err NoMethod
post_asked routes.Requests path body = Err NoMethod
post_asked routes.Request path body = Err NoMethod
post_asked routes.Media path body = Err NoMethod

-- ---- DELETE

-- what is deleted or cleared
abbrev pub delete_asked : Route → List ℕ → List ℕ → Result Ask Refusal
delete_asked routes.Root path query = Err NoMethod
delete_asked routes.Service path query = Err NoMethod
delete_asked routes.Hooks path query = Err NoMethod
delete_asked routes.Sources path query = Err NoMethod
delete_asked routes.Source path query = Err NoMethod
delete_asked (routes.SourcePart part) path query =
    source_at path >>= λ source.
    source_part_name part path >>= λ name.
    cleared_part name >>= λ value.
    runs (commands.SetSource source value)
delete_asked routes.Flows path query = Err NoMethod
delete_asked routes.Flow path query = flow_at path >>= λ flow. runs (commands.DropFlow flow)
delete_asked (routes.FlowPart part) path query =
    flow_at path >>= λ flow.
    flow_part_name part path >>= λ name.
    cleared_part name >>= λ value.
    runs (commands.SetFlow flow value)
delete_asked routes.Segments path query =
    flow_at path >>= λ flow.
    pairs_in kinds.Cut query >>= λ pairs.
    runs (commands.CutSegments flow (range_or_all pairs))
delete_asked routes.Storage path query = Err NoMethod
delete_asked routes.Object path query = Err NoMethod
delete_asked routes.Requests path query = Err NoMethod
delete_asked routes.Request path query = Err NoMethod
delete_asked routes.Media path query = Err NoMethod

-- ---- requests

-- what a request holds besides its method
pub record Sent : Type 0 where
  pub target : List ℕ
  pub body : List ℕ

-- what a request to a route asks for, by its method
abbrev pub asked_by : ℕ → MethodKind → Route → Sent → Result Ask Refusal
asked_by store Get route sent = get_asked store route (path_of sent.target) (query_of sent.target)
asked_by store Head route sent = get_asked store route (path_of sent.target) (query_of sent.target)
asked_by store Post route sent = post_asked route (path_of sent.target) sent.body
asked_by store Put route sent = put_asked route (path_of sent.target) sent.body
asked_by store Delete route sent = delete_asked route (path_of sent.target) (query_of sent.target)
asked_by store Other route sent = Err NoMethod

-- the same, where the path may name no route
abbrev pub asked_at : ℕ → MethodKind → Option Route → Sent → Result Ask Refusal
asked_at store method None sent = Err NoRoute
asked_at store method (Some route) sent =
    if has_method (methods_of route) method then asked_by store method route sent
    else Err NoMethod

-- what a request asks of the store with this id, or its first refusal
unfoldable pub ask_of : ℕ → MethodKind → List ℕ → List ℕ → Result Ask Refusal
ask_of store method target body =
    asked_at store method (route_of (path_of target)) (record { target = target; body = body })
