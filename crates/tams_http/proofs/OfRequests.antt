-- Each refusal of what a request asks for is one of a request: so it is for each step, and for a chain of them.
use Rattle.std.proofs.Common.{◌≡◌, refl, List, ℕ, Option, Some, None, Result, Ok, Err, true, false, Bool}
use Rattle.std.specs.Prelude.{IsTrue, IfErr, codes, nat_le, ◌&&◌, if◌then◌else◌}
use Rattle.std.proofs.Common.{arith}
use Rattle.std.proofs.lemmas.Bool.Decides.{nat_tests}
use Rattle.http_queries.specs.Pairs.{query_pairs}
use Rattle.http_queries.specs.Rules.{query_fault}
use Rattle.http_queries.specs.declared.pairs.Pair.{Pair}
use Rattle.http_queries.specs.declared.rules.QueryKind.{QueryKind}
use Rattle.http_queries.specs.declared.rules.QueryKind.TheVariants as kinds
use Rattle.http_routes.specs.Named as paths
use Rattle.http_routes.specs.Paths.{path_of, query_of, route_of}
use Rattle.http_routes.specs.Table.{has_method, methods_of}
use Rattle.http_routes.specs.declared.route.FlowPart.{FlowPart}
use Rattle.http_routes.specs.declared.route.FlowPart.TheVariants as of_flow
use Rattle.http_routes.specs.declared.route.Route.{Route}
use Rattle.http_routes.specs.declared.route.Route.TheVariants as routes
use Rattle.http_routes.specs.declared.route.SourcePart.{SourcePart}
use Rattle.http_routes.specs.declared.route.SourcePart.TheVariants as of_source
use Rattle.http_wire.specs.declared.head.MethodKind.{MethodKind}
use Rattle.http_wire.specs.declared.head.MethodKind.TheVariants.{Get, Head, Post, Put, Delete, Other}
use Rattle.json_bodies.proofs.OfBodies.{IsOfBodies, of_flow as flow_body, of_segments, of_storage, of_hook, of_part}
use Rattle.json_bodies.specs.Flow as bodies
use Rattle.json_bodies.specs.Hook.{hook_in}
use Rattle.json_bodies.specs.Part.{is_all_tags, part_in}
use Rattle.json_bodies.specs.Rules.{◌>>=◌}
use Rattle.json_bodies.specs.Segments.{segments_in}
use Rattle.json_bodies.specs.Storage.{want_in}
use Rattle.media_rows.specs.RefusalTable.{refusal_number}
use Rattle.media_rows.specs.declared.part.PartName.{PartName}
use Rattle.media_rows.specs.declared.part.PartName.TheVariants as names
use Rattle.media_rows.specs.declared.refusal.Refusal.{Refusal}
use Rattle.media_rows.specs.declared.refusal.Refusal.TheVariants as refusals
use Rattle.tams_http.specs.Asked.{without_fault, pairs_in, get_asked, put_asked, post_asked, delete_asked, Sent, asked_by, asked_at, ask_of}
use Rattle.tams_http.specs.Named.{named_or, source_at, flow_at, object_at, request_at, tag_at}
use Rattle.tams_http.specs.Parts.{source_part_name, flow_part_name, set_part, cleared_part}
use Rattle.tams_http.specs.Refusals.{is_request_refusal}
use Rattle.tams_http.specs.declared.ask.Ask.{Ask}

-- a refusal, where there is one, is one of a request
pub record IsOfRequests {X : Type 0} (result : Result X Refusal) : Type 0 where
  pub is : IfErr result (λ why. IsTrue (is_request_refusal why))

-- what is given isn't refused
fine : {X : Type 0} {x : X} → IsOfRequests (Ok x)
fine = record { is = tt }

-- another method is
of_method : {X : Type 0} → IsOfRequests {X = X} (Err refusals.NoMethod)
of_method = record { is = refl }

-- so it is for two steps, the second of which goes on with what the first gives
chain : {X Y : Type 0} (first : Result X Refusal) (next : X → Result Y Refusal) → IsOfRequests first → ((x : X) → IsOfRequests (next x))
    → IsOfRequests (first >>= next)
chain (Ok x) next h k = k x
chain (Err why) next h k = record { is = h.is }

-- a refusal of a body is one of a request
within : (n : ℕ) → nat_le 8 n && nat_le n 14 ≡ true → nat_le 6 n && nat_le n 20 ≡ true
within n h = grind (arith, nat_tests)

from_body : {X : Type 0} (result : Result X Refusal) → IsOfBodies result → IsOfRequests result
from_body (Ok x) h = fine
from_body (Err why) h = record { is = within (refusal_number why) h.is }

-- ---- ids and names

found : {X : Type 0} (refusal : Refusal) (x : Option X) → is_request_refusal refusal ≡ true → IsOfRequests (named_or refusal x)
found refusal None h = record { is = h }
found refusal (Some x) h = fine

source : (path : List ℕ) → IsOfRequests (source_at path)
source path = found refusals.NoSource (paths.named_id path) refl

flow : (path : List ℕ) → IsOfRequests (flow_at path)
flow path = found refusals.NoFlow (paths.named_id path) refl

object_ : (path : List ℕ) → IsOfRequests (object_at path)
object_ path = found refusals.UnknownObject (paths.named_object path) refl

request : (store : ℕ) (path : List ℕ) → IsOfRequests (request_at store path)
request store path = found refusals.NoRequest (paths.named_request store path) refl

tag : (path : List ℕ) → IsOfRequests (tag_at path)
tag path = found (refusals.NotSet (codes "tags")) (paths.tag_named path) refl

-- ---- parts

source_name : (part : SourcePart) (path : List ℕ) → IsOfRequests (source_part_name part path)
source_name of_source.Tags path = fine
source_name of_source.Tag path = chain (tag_at path) _ (tag path) (λ name. fine)
source_name of_source.Label path = fine
source_name of_source.Description path = fine

flow_name : (part : FlowPart) (path : List ℕ) → IsOfRequests (flow_part_name part path)
flow_name of_flow.Tags path = fine
flow_name of_flow.Tag path = chain (tag_at path) _ (tag path) (λ name. fine)
flow_name of_flow.Label path = fine
flow_name of_flow.Description path = fine
flow_name of_flow.ReadOnly path = fine
flow_name of_flow.Collection path = fine
flow_name of_flow.MaxBitRate path = fine
flow_name of_flow.AvgBitRate path = fine

set_if : (all : Bool) (name : PartName) (body : List ℕ) → IsOfRequests (if all then Err refusals.NoMethod else part_in name body)
set_if true name body = of_method
set_if false name body = from_body (part_in name body) (of_part name body)

set : (name : PartName) (body : List ℕ) → IsOfRequests (set_part name body)
set name body = set_if (is_all_tags name) name body

cleared : (name : PartName) → IsOfRequests (cleared_part name)
cleared (names.Tag name) = fine
cleared names.Tags = of_method
cleared names.Label = fine
cleared names.Description = fine
cleared names.ReadOnly = of_method
cleared names.Collection = fine
cleared names.MaxBitRate = fine
cleared names.AvgBitRate = fine

-- ---- queries

pairs_by : (pairs : List Pair) (fault : Option (List ℕ)) → IsOfRequests (without_fault pairs fault)
pairs_by pairs None = fine
pairs_by pairs (Some name) = record { is = refl }

pairs : (kind : QueryKind) (query : List ℕ) → IsOfRequests (pairs_in kind query)
pairs kind query = pairs_by (query_pairs query) (query_fault kind (query_pairs query))

-- ---- methods

of_get : (route : Route) (store : ℕ) (path query : List ℕ) → IsOfRequests (get_asked store route path query)
of_get routes.Root store path query = fine
of_get routes.Service store path query = fine
of_get routes.Hooks store path query = fine
of_get routes.Sources store path query = chain (pairs_in kinds.Sources query) _ (pairs kinds.Sources query) (λ found. fine)
of_get routes.Source store path query = chain (source_at path) _ (source path) (λ id. fine)
of_get (routes.SourcePart part) store path query = chain (source_at path) _ (source path) (λ id. chain (source_part_name part path) _ (source_name part path)
    (λ name. fine))
of_get routes.Flows store path query = chain (pairs_in kinds.Flows query) _ (pairs kinds.Flows query) (λ found. fine)
of_get routes.Flow store path query = chain (flow_at path) _ (flow path) (λ id. fine)
of_get (routes.FlowPart part) store path query = chain (flow_at path) _ (flow path) (λ id. chain (flow_part_name part path) _ (flow_name part path)
    (λ name. fine))
of_get routes.Segments store path query = chain (flow_at path) _ (flow path) (λ id. chain (pairs_in kinds.Segments query) _ (pairs kinds.Segments query)
    (λ found. fine))
of_get routes.Storage store path query = of_method
of_get routes.Object store path query = chain (object_at path) _ (object_ path) (λ id. fine)
of_get routes.Requests store path query = fine
of_get routes.Request store path query = chain (request_at store path) _ (request store path) (λ serial. fine)
of_get routes.Media store path query = chain (object_at path) _ (object_ path) (λ id. fine)

of_put : (route : Route) (path body : List ℕ) → IsOfRequests (put_asked route path body)
of_put routes.Root path body = of_method
of_put routes.Service path body = of_method
of_put routes.Hooks path body = of_method
of_put routes.Sources path body = of_method
of_put routes.Source path body = of_method
of_put (routes.SourcePart part) path body = chain (source_at path) _ (source path) (λ id. chain (source_part_name part path) _ (source_name part path)
    (λ name. chain (set_part name body) _ (set name body) (λ value. fine)))
of_put routes.Flows path body = of_method
of_put routes.Flow path body = chain (flow_at path) _ (flow path)
    (λ id. chain (bodies.flow_in id body) _ (from_body (bodies.flow_in id body) (flow_body id body)) (λ value. fine))
of_put (routes.FlowPart part) path body = chain (flow_at path) _ (flow path) (λ id. chain (flow_part_name part path) _ (flow_name part path)
    (λ name. chain (set_part name body) _ (set name body) (λ value. fine)))
of_put routes.Segments path body = of_method
of_put routes.Storage path body = of_method
of_put routes.Object path body = of_method
of_put routes.Requests path body = of_method
of_put routes.Request path body = of_method
of_put routes.Media path body = chain (object_at path) _ (object_ path) (λ id. fine)

of_post : (route : Route) (path body : List ℕ) → IsOfRequests (post_asked route path body)
of_post routes.Root path body = of_method
of_post routes.Service path body = of_method
of_post routes.Hooks path body = chain (hook_in body) _ (from_body (hook_in body) (of_hook body)) (λ hook. fine)
of_post routes.Sources path body = of_method
of_post routes.Source path body = of_method
of_post (routes.SourcePart part) path body = of_method
of_post routes.Flows path body = of_method
of_post routes.Flow path body = of_method
of_post (routes.FlowPart part) path body = of_method
of_post routes.Segments path body = chain (flow_at path) _ (flow path) (λ id. chain (segments_in body) _ (from_body (segments_in body) (of_segments body))
    (λ value. fine))
of_post routes.Storage path body = chain (flow_at path) _ (flow path) (λ id. chain (want_in body) _ (from_body (want_in body) (of_storage body))
    (λ value. fine))
of_post routes.Object path body = of_method
of_post routes.Requests path body = of_method
of_post routes.Request path body = of_method
of_post routes.Media path body = of_method

of_delete : (route : Route) (path query : List ℕ) → IsOfRequests (delete_asked route path query)
of_delete routes.Root path query = of_method
of_delete routes.Service path query = of_method
of_delete routes.Hooks path query = of_method
of_delete routes.Sources path query = of_method
of_delete routes.Source path query = of_method
of_delete (routes.SourcePart part) path query = chain (source_at path) _ (source path) (λ id. chain (source_part_name part path) _ (source_name part path)
    (λ name. chain (cleared_part name) _ (cleared name) (λ value. fine)))
of_delete routes.Flows path query = of_method
of_delete routes.Flow path query = chain (flow_at path) _ (flow path) (λ id. fine)
of_delete (routes.FlowPart part) path query = chain (flow_at path) _ (flow path) (λ id. chain (flow_part_name part path) _ (flow_name part path)
    (λ name. chain (cleared_part name) _ (cleared name) (λ value. fine)))
of_delete routes.Segments path query = chain (flow_at path) _ (flow path) (λ id. chain (pairs_in kinds.Cut query) _ (pairs kinds.Cut query) (λ found. fine))
of_delete routes.Storage path query = of_method
of_delete routes.Object path query = of_method
of_delete routes.Requests path query = of_method
of_delete routes.Request path query = of_method
of_delete routes.Media path query = of_method

-- ---- requests

by_method : (store : ℕ) (method : MethodKind) (route : Route) (sent : Sent) → IsOfRequests (asked_by store method route sent)
by_method store Get route sent = of_get route store (path_of sent.target) (query_of sent.target)
by_method store Head route sent = of_get route store (path_of sent.target) (query_of sent.target)
by_method store Post route sent = of_post route (path_of sent.target) sent.body
by_method store Put route sent = of_put route (path_of sent.target) sent.body
by_method store Delete route sent = of_delete route (path_of sent.target) (query_of sent.target)
by_method store Other route sent = of_method

if_had : (has : Bool) (result : Result Ask Refusal) → IsOfRequests result → IsOfRequests (if has then result else Err refusals.NoMethod)
if_had true result h = h
if_had false result h = of_method

at_route : (store : ℕ) (method : MethodKind) (route : Option Route) (sent : Sent) → IsOfRequests (asked_at store method route sent)
at_route store method None sent = record { is = refl }
at_route store method (Some route) sent =
    if_had (has_method (methods_of route) method) (asked_by store method route sent) (by_method store method route sent)

pub of_request : (store : ℕ) (method : MethodKind) (target body : List ℕ) → IsOfRequests (ask_of store method target body)
unfolding ask_of
of_request store method target body =
    at_route store method (route_of (path_of target)) (record { target = target; body = body })
