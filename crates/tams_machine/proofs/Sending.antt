-- No request asks to keep an object's bytes but a media PUT: so it is for each step of reading one, and for a chain of them.
use Rattle.std.proofs.Common.{◌≡◌, refl, List, [], ◌∷◌, ℕ, Option, Some, None, Result, Ok, Err, true, false, Bool}
use Rattle.std.specs.Prelude.{IsTrue, IfOk, if◌then◌else◌}
use Rattle.http_routes.specs.Paths.{path_of, query_of, route_of}
use Rattle.http_routes.specs.Table.{has_method, methods_of}
use Rattle.http_routes.specs.declared.route.Route.{Route}
use Rattle.http_routes.specs.declared.route.Route.TheVariants as routes
use Rattle.http_wire.specs.declared.head.MethodKind.{MethodKind}
use Rattle.http_wire.specs.declared.head.MethodKind.TheVariants.{Get, Head, Post, Put, Delete, Other}
use Rattle.json_bodies.specs.Flow as bodies
use Rattle.json_bodies.specs.Hook.{hook_in}
use Rattle.json_bodies.specs.Rules.{◌>>=◌}
use Rattle.json_bodies.specs.Segments.{segments_in}
use Rattle.json_bodies.specs.Storage.{want_in}
use Rattle.media_rows.specs.declared.event.EventKind.{EventKind}
use Rattle.media_rows.specs.declared.hook.Hook.{Hook}
use Rattle.media_rows.specs.declared.refusal.Refusal.{Refusal}
use Rattle.media_rows.specs.declared.refusal.Refusal.TheVariants as refusals
use Rattle.tams_http.specs.Asked.{hook_command, runs, get_asked, put_asked, post_asked, delete_asked, Sent, asked_by, asked_at, ask_of}
use Rattle.tams_http.specs.Named.{source_at, flow_at, object_at, request_at}
use Rattle.tams_http.specs.Parts.{source_part_name, flow_part_name, set_part, cleared_part}
use Rattle.tams_http.specs.declared.ask.Ask.{Ask}
use Rattle.tams_machine.specs.Laws.{is_sent}

-- what is asked for, where nothing is refused, is what a request may ask for
pub record IsSent (result : Result Ask Refusal) : Type 0 where
  pub is : IfOk result (λ ask. IsTrue (is_sent ask))

-- a refusal asks for nothing
refused : (why : Refusal) → IsSent (Err why)
refused why = record { is = tt }

-- what is given is tested
fine : {ask : Ask} → is_sent ask ≡ true → IsSent (Ok ask)
fine is = record { is = is }

-- a step before another leaves it to that one
chain : {X : Type 0} (first : Result X Refusal) (next : X → Result Ask Refusal) → ((x : X) → IsSent (next x)) → IsSent (first >>= next)
chain (Ok x) next k = k x
chain (Err why) next k = refused why

hooked : (hook : Hook) (events : List EventKind) → IsSent (runs (hook_command hook events))
hooked hook [] = fine refl
hooked hook (event ∷ events) = fine refl

-- ---- methods

of_get : (route : Route) (store : ℕ) (path query : List ℕ) → IsSent (get_asked store route path query)
of_get routes.Root store path query = fine refl
of_get routes.Service store path query = fine refl
of_get routes.Hooks store path query = fine refl
of_get routes.Sources store path query = chain _ _ (λ found. fine refl)
of_get routes.Source store path query = chain (source_at path) _ (λ id. fine refl)
of_get (routes.SourcePart part) store path query = chain (source_at path) _ (λ id. chain (source_part_name part path) _ (λ name. fine refl))
of_get routes.Flows store path query = chain _ _ (λ found. fine refl)
of_get routes.Flow store path query = chain (flow_at path) _ (λ id. fine refl)
of_get (routes.FlowPart part) store path query = chain (flow_at path) _ (λ id. chain (flow_part_name part path) _ (λ name. fine refl))
of_get routes.Segments store path query = chain (flow_at path) _ (λ id. chain _ _ (λ found. fine refl))
of_get routes.Storage store path query = refused refusals.NoMethod
of_get routes.Object store path query = chain (object_at path) _ (λ id. fine refl)
of_get routes.Requests store path query = fine refl
of_get routes.Request store path query = chain (request_at store path) _ (λ serial. fine refl)
of_get routes.Media store path query = chain (object_at path) _ (λ id. fine refl)

of_put : (route : Route) (path body : List ℕ) → IsSent (put_asked route path body)
of_put routes.Root path body = refused refusals.NoMethod
of_put routes.Service path body = refused refusals.NoMethod
of_put routes.Hooks path body = refused refusals.NoMethod
of_put routes.Sources path body = refused refusals.NoMethod
of_put routes.Source path body = refused refusals.NoMethod
of_put (routes.SourcePart part) path body = chain (source_at path) _ (λ id. chain (source_part_name part path) _
    (λ name. chain (set_part name body) _ (λ value. fine refl)))
of_put routes.Flows path body = refused refusals.NoMethod
of_put routes.Flow path body = chain (flow_at path) _ (λ id. chain (bodies.flow_in id body) _ (λ value. fine refl))
of_put (routes.FlowPart part) path body = chain (flow_at path) _ (λ id. chain (flow_part_name part path) _
    (λ name. chain (set_part name body) _ (λ value. fine refl)))
of_put routes.Segments path body = refused refusals.NoMethod
of_put routes.Storage path body = refused refusals.NoMethod
of_put routes.Object path body = refused refusals.NoMethod
of_put routes.Requests path body = refused refusals.NoMethod
of_put routes.Request path body = refused refusals.NoMethod
of_put routes.Media path body = chain (object_at path) _ (λ id. fine refl)

of_post : (route : Route) (path body : List ℕ) → IsSent (post_asked route path body)
of_post routes.Root path body = refused refusals.NoMethod
of_post routes.Service path body = refused refusals.NoMethod
of_post routes.Hooks path body = chain (hook_in body) _ (λ hook. hooked hook hook.events)
of_post routes.Sources path body = refused refusals.NoMethod
of_post routes.Source path body = refused refusals.NoMethod
of_post (routes.SourcePart part) path body = refused refusals.NoMethod
of_post routes.Flows path body = refused refusals.NoMethod
of_post routes.Flow path body = refused refusals.NoMethod
of_post (routes.FlowPart part) path body = refused refusals.NoMethod
of_post routes.Segments path body = chain (flow_at path) _ (λ id. chain (segments_in body) _ (λ value. fine refl))
of_post routes.Storage path body = chain (flow_at path) _ (λ id. chain (want_in body) _ (λ value. fine refl))
of_post routes.Object path body = refused refusals.NoMethod
of_post routes.Requests path body = refused refusals.NoMethod
of_post routes.Request path body = refused refusals.NoMethod
of_post routes.Media path body = refused refusals.NoMethod

of_delete : (route : Route) (path query : List ℕ) → IsSent (delete_asked route path query)
of_delete routes.Root path query = refused refusals.NoMethod
of_delete routes.Service path query = refused refusals.NoMethod
of_delete routes.Hooks path query = refused refusals.NoMethod
of_delete routes.Sources path query = refused refusals.NoMethod
of_delete routes.Source path query = refused refusals.NoMethod
of_delete (routes.SourcePart part) path query = chain (source_at path) _ (λ id. chain (source_part_name part path) _
    (λ name. chain (cleared_part name) _ (λ value. fine refl)))
of_delete routes.Flows path query = refused refusals.NoMethod
of_delete routes.Flow path query = chain (flow_at path) _ (λ id. fine refl)
of_delete (routes.FlowPart part) path query = chain (flow_at path) _ (λ id. chain (flow_part_name part path) _
    (λ name. chain (cleared_part name) _ (λ value. fine refl)))
of_delete routes.Segments path query = chain (flow_at path) _ (λ id. chain _ _ (λ found. fine refl))
of_delete routes.Storage path query = refused refusals.NoMethod
of_delete routes.Object path query = refused refusals.NoMethod
of_delete routes.Requests path query = refused refusals.NoMethod
of_delete routes.Request path query = refused refusals.NoMethod
of_delete routes.Media path query = refused refusals.NoMethod

-- ---- requests

by_method : (store : ℕ) (method : MethodKind) (route : Route) (sent : Sent) → IsSent (asked_by store method route sent)
by_method store Get route sent = of_get route store (path_of sent.target) (query_of sent.target)
by_method store Head route sent = of_get route store (path_of sent.target) (query_of sent.target)
by_method store Post route sent = of_post route (path_of sent.target) sent.body
by_method store Put route sent = of_put route (path_of sent.target) sent.body
by_method store Delete route sent = of_delete route (path_of sent.target) (query_of sent.target)
by_method store Other route sent = refused refusals.NoMethod

if_had : (has : Bool) (result : Result Ask Refusal) → IsSent result → IsSent (if has then result else Err refusals.NoMethod)
if_had true result h = h
if_had false result h = refused refusals.NoMethod

at_route : (store : ℕ) (method : MethodKind) (route : Option Route) (sent : Sent) → IsSent (asked_at store method route sent)
at_route store method None sent = refused refusals.NoRoute
at_route store method (Some route) sent =
    if_had (has_method (methods_of route) method) (asked_by store method route sent) (by_method store method route sent)

pub of_request : (store : ℕ) (method : MethodKind) (target body : List ℕ) → IsSent (ask_of store method target body)
unfolding ask_of
of_request store method target body =
    at_route store method (route_of (path_of target)) (record { target = target; body = body })
