-- What asks for a put of an object's bytes is a PUT to the route of media, and such a PUT asks for nothing else.
use Rattle.std.proofs.Common.{◌≡◌, inl, inr, refl, sym, ◌∙◌, ap, ap₂, ℕ, List, [], ◌∷◌, Option, Some, None, Result, Ok, Err, Bool, true, false, true≢false}
use Rattle.std.specs.Prelude.{bytes_eq, codes, ◌&&◌, if◌then◌else◌}
use Rattle.std.proofs.lemmas.Bool.{and_parts}
use Rattle.std.proofs.lemmas.Slice.Eq.{bytes_eq-Decides}
use Rattle.http_queries.specs.declared.rules.QueryKind.TheVariants as kinds
use Rattle.http_routes.specs.Paths.{path_of, query_of, route_of}
use Rattle.http_routes.specs.Table.{has_method, methods_of}
use Rattle.http_routes.specs.declared.route.Route.{Route}
use Rattle.http_routes.specs.declared.route.Route.TheVariants as routes
use Rattle.http_wire.specs.Framing.{method_kind}
use Rattle.http_wire.specs.declared.head.MethodKind.{MethodKind}
use Rattle.http_wire.specs.declared.head.MethodKind.TheVariants.{Get, Head, Post, Put, Delete, Other}
use Rattle.json_bodies.specs.Flow as bodies
use Rattle.json_bodies.specs.Hook.{hook_in}
use Rattle.json_bodies.specs.Rules.{◌>>=◌}
use Rattle.json_bodies.specs.Segments.{segments_in}
use Rattle.json_bodies.specs.Storage.{want_in}
use Rattle.media_rows.specs.declared.event.EventKind.{EventKind}
use Rattle.media_rows.specs.declared.hook.Hook.{Hook}
use Rattle.media_rows.specs.declared.refusal.Refusal.{Refusal}
use Rattle.media_rows.specs.declared.refusal.Refusal.TheVariants as refusals
use Rattle.tams_http.specs.Asked.{hook_command, runs, pairs_in, get_asked, put_asked, post_asked, delete_asked, Sent, asked_by, asked_at, ask_of}
use Rattle.tams_http.specs.Named.{source_at, flow_at, object_at, request_at}
use Rattle.tams_http.specs.Parts.{source_part_name, flow_part_name, set_part, cleared_part}
use Rattle.tams_http.specs.declared.ask.Ask.{Ask}
use Rattle.tams_http.specs.declared.ask.Ask.TheVariants.{Run, PutMedia, GetMedia}
use Rattle.reply_laws.specs.MediaPuts.{IsPutOrRefusal, MediaAsksAreMedia, MediaPutsAsk}
use Rattle.reply_laws.proofs.MediaPaths.{MediaAlone, begun_alone, named_begins}

-- a put of an object's bytes is asked for
abbrev is_put : Result Ask Refusal → Bool
is_put (Ok (Run command)) = false
is_put (Ok (PutMedia object)) = true
is_put (Ok (GetMedia object)) = false
is_put (Err why) = false

-- a step before another leaves it to that one
chain : {X : Type 0} (first : Result X Refusal) (next : X → Result Ask Refusal) → ((x : X) → is_put (next x) ≡ false) → is_put (first >>= next) ≡ false
chain (Ok x) next k = k x
chain (Err why) next k = refl

-- so what isn't asked for isn't
not_asked : {P : Type 0} (asked : Result Ask Refusal) → is_put asked ≡ false → is_put asked ≡ true → P
not_asked asked none some = absurd (true≢false (sym some ∙ none))

hooked : (hook : Hook) (events : List EventKind) → is_put (runs (hook_command hook events)) ≡ false
hooked hook [] = refl
hooked hook (event ∷ events) = refl

-- ---- methods

of_get : (route : Route) (store : ℕ) (path query : List ℕ) → is_put (get_asked store route path query) ≡ false
of_get routes.Sources store path query = chain (pairs_in kinds.Sources query) _ (λ found. refl)
of_get routes.Source store path query = chain (source_at path) _ (λ id. refl)
of_get (routes.SourcePart part) store path query = chain (source_at path) _ (λ id. chain (source_part_name part path) _ (λ name. refl))
of_get routes.Flows store path query = chain (pairs_in kinds.Flows query) _ (λ found. refl)
of_get routes.Flow store path query = chain (flow_at path) _ (λ id. refl)
of_get (routes.FlowPart part) store path query = chain (flow_at path) _ (λ id. chain (flow_part_name part path) _ (λ name. refl))
of_get routes.Segments store path query = chain (flow_at path) _ (λ id. chain (pairs_in kinds.Segments query) _ (λ found. refl))
of_get routes.Object store path query = chain (object_at path) _ (λ id. refl)
of_get routes.Request store path query = chain (request_at store path) _ (λ serial. refl)
of_get routes.Media store path query = chain (object_at path) _ (λ id. refl)
of_get other store path query = refl

of_put : (route : Route) (path body : List ℕ) → is_put (put_asked route path body) ≡ true → route ≡ routes.Media
of_put routes.Media path body e = refl
of_put (routes.SourcePart part) path body e =
    not_asked (put_asked (routes.SourcePart part) path body)
    (chain (source_at path) _ (λ id. chain (source_part_name part path) _ (λ name. chain (set_part name body) _ (λ value. refl)))) e
of_put routes.Flow path body e =
    not_asked (put_asked routes.Flow path body) (chain (flow_at path) _ (λ id. chain (bodies.flow_in id body) _ (λ value. refl))) e
of_put (routes.FlowPart part) path body e =
    not_asked (put_asked (routes.FlowPart part) path body)
    (chain (flow_at path) _ (λ id. chain (flow_part_name part path) _ (λ name. chain (set_part name body) _ (λ value. refl)))) e
of_put other path body e = absurd (true≢false (sym e))

of_post : (route : Route) (path body : List ℕ) → is_put (post_asked route path body) ≡ false
of_post routes.Hooks path body = chain (hook_in body) _ (λ hook. hooked hook hook.events)
of_post routes.Segments path body = chain (flow_at path) _ (λ id. chain (segments_in body) _ (λ posts. refl))
of_post routes.Storage path body = chain (flow_at path) _ (λ id. chain (want_in body) _ (λ want. refl))
of_post other path body = refl

of_delete : (route : Route) (path query : List ℕ) → is_put (delete_asked route path query) ≡ false
of_delete (routes.SourcePart part) path query =
    chain (source_at path) _ (λ id. chain (source_part_name part path) _ (λ name. chain (cleared_part name) _ (λ value. refl)))
of_delete routes.Flow path query = chain (flow_at path) _ (λ id. refl)
of_delete (routes.FlowPart part) path query =
    chain (flow_at path) _ (λ id. chain (flow_part_name part path) _ (λ name. chain (cleared_part name) _ (λ value. refl)))
of_delete routes.Segments path query = chain (flow_at path) _ (λ id. chain (pairs_in kinds.Cut query) _ (λ found. refl))
of_delete other path query = refl

-- ---- requests

by_method : (store : ℕ) (method : MethodKind) (route : Route) (sent : Sent) → is_put (asked_by store method route sent) ≡ true
    → (method ≡ Put) × (route ≡ routes.Media)
by_method store Get route sent e = not_asked (asked_by store Get route sent) (of_get route store (path_of sent.target) (query_of sent.target)) e
by_method store Head route sent e = not_asked (asked_by store Head route sent) (of_get route store (path_of sent.target) (query_of sent.target)) e
by_method store Post route sent e = not_asked (asked_by store Post route sent) (of_post route (path_of sent.target) sent.body) e
by_method store Put route sent e = (refl, of_put route (path_of sent.target) sent.body e)
by_method store Delete route sent e = not_asked (asked_by store Delete route sent) (of_delete route (path_of sent.target) (query_of sent.target)) e
by_method store Other route sent e = absurd (true≢false (sym e))

if_had : (has : Bool) (asked : Result Ask Refusal) → is_put (if has then asked else Err refusals.NoMethod) ≡ true → is_put asked ≡ true
if_had true asked e = e
if_had false asked e = absurd (true≢false (sym e))

at_route : (store : ℕ) (method : MethodKind) (found : Option Route) (sent : Sent) → is_put (asked_at store method found sent) ≡ true
    → (method ≡ Put) × (found ≡ Some routes.Media)
at_route store method None sent e = absurd (true≢false (sym e))
at_route store method (Some route) sent e =
    let both = by_method store method route sent (if_had (has_method (methods_of route) method) (asked_by store method route sent) e) in
    (both.0, ap (λ (r : Route). Some r) both.1)

put_request : (store : ℕ) (method : MethodKind) (target body : List ℕ) → is_put (ask_of store method target body) ≡ true
    → (method ≡ Put) × (route_of (path_of target) ≡ Some routes.Media)
unfolding ask_of
put_request store method target body e = at_route store method (route_of (path_of target)) (record { target = target; body = body }) e

-- ---- the kind of a method

kind_by : (get head post put delete : Bool)
    → (if get then Get else if head then Head else if post then Post else if put then Put else if delete then Delete else Other) ≡ Put → put ≡ true
kind_by true head post put delete e = absurd cc
kind_by false true post put delete e = absurd cc
kind_by false false true put delete e = absurd cc
kind_by false false false true delete e = refl
kind_by false false false false true e = absurd cc
kind_by false false false false false e = absurd cc

put_method : (method : List ℕ) → method_kind method ≡ Put → bytes_eq method (codes "PUT") ≡ true
put_method method e =
    kind_by (bytes_eq method (codes "GET")) (bytes_eq method (codes "HEAD")) (bytes_eq method (codes "POST")) (bytes_eq method (codes "PUT"))
    (bytes_eq method (codes "DELETE")) e

put_kind : (method : List ℕ) → bytes_eq method (codes "PUT") ≡ true → method_kind method ≡ Put
put_kind method e = ap method_kind ((bytes_eq-Decides method (codes "PUT")).0 e)

pub media_asks_are_media : MediaAsksAreMedia
media_asks_are_media store method target body object e =
    let both = put_request store (method_kind method) target body (ap is_put e) in
    ap₂ (λ a b. a && b) (put_method method both.0) (named_begins target both.1)

-- ---- what a media PUT asks for

-- what is asked for at a path, where it names a route
abbrev media_asked : List ℕ → Option Route → Result Ask Refusal
media_asked path None = Err refusals.NoRoute
media_asked path (Some route) = object_at path >>= λ object. Ok (PutMedia object)

asked_alone : (store : ℕ) (found : Option Route) (sent : Sent) → MediaAlone found
    → asked_at store Put found sent ≡ media_asked (path_of sent.target) found
asked_alone store None sent alone = refl
asked_alone store (Some route) sent (inl e) = absurd cc
asked_alone store (Some route) sent (inr e) = let is : route ≡ routes.Media = cc in rw is refl

put_named : (found : Result (List ℕ) Refusal) → IsPutOrRefusal (found >>= λ object. Ok (PutMedia object))
put_named (Ok object) = tt
put_named (Err why) = tt

put_or_refusal : (path : List ℕ) (found : Option Route) → IsPutOrRefusal (media_asked path found)
put_or_refusal path None = tt
put_or_refusal path (Some route) = put_named (object_at path)

same_with : (store : ℕ) (target : List ℕ) → MediaAlone (route_of (path_of target)) → (body : List ℕ)
    → ask_of store Put target body ≡ media_asked (path_of target) (route_of (path_of target))
unfolding ask_of
same_with store target alone body = asked_alone store (route_of (path_of target)) (record { target = target; body = body }) alone

pub media_puts_ask : MediaPutsAsk
media_puts_ask store method target e =
    let both = and_parts (bytes_eq method (codes "PUT")) _ e in
    let kind = put_kind method both.0 in
    record {
      asked = media_asked (path_of target) (route_of (path_of target));
      kind = kind;
      same = λ body. ap (λ (m : MethodKind). ask_of store m target body) kind ∙ same_with store target (begun_alone target both.1) body;
      is = put_or_refusal (path_of target) (route_of (path_of target));
    }
