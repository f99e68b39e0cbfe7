-- What a request asks for is good for each library, and its refusal has its texts: so it is for each step of reading one, and for a chain of them.
use Rattle.std.proofs.Common.{◌≡◌, refl, List, [], ◌∷◌, ◌++◌, ℕ, Option, Some, None, Result, Err, true, false, Bool}
use Rattle.std.specs.Prelude.{IsTrue, codes, if◌then◌else◌}
use Rattle.std.specs.List.{list_all}
use Rattle.std.specs.Str.{is_utf8, chars}
use Rattle.std.proofs.Math.Utf8.{encode}
use Rattle.std.proofs.lemmas.Bool.{and_parts, cond_both}
use Rattle.std.proofs.lemmas.Result.{IfErr-at_err, IfOk-at_ok}
use Rattle.http_queries.specs.Pairs.{query_pairs}
use Rattle.http_queries.specs.Rules.{first_fault, is_faulty, query_fault}
use Rattle.http_queries.specs.declared.pairs.Pair.{Pair}
use Rattle.http_queries.specs.declared.rules.QueryKind.{QueryKind}
use Rattle.http_queries.specs.declared.rules.QueryKind.TheVariants as kinds
use Rattle.http_routes.specs.Named as paths
use Rattle.http_routes.specs.Paths.{path_of, query_of, route_of}
use Rattle.http_routes.specs.Table.{has_method, methods_of}
use Rattle.http_routes.specs.declared.route.FlowPart.{FlowPart}
use Rattle.http_routes.specs.declared.route.FlowPart.TheVariants as of_flow
use Rattle.http_routes.specs.declared.route.Route.{Route}
use Rattle.http_routes.specs.declared.route.Route.TheVariants as routes
use Rattle.http_routes.specs.declared.route.SourcePart.{SourcePart}
use Rattle.http_routes.specs.declared.route.SourcePart.TheVariants as of_source
use Rattle.http_wire.specs.declared.head.MethodKind.{MethodKind}
use Rattle.http_wire.specs.declared.head.MethodKind.TheVariants.{Get, Head, Post, Put, Delete, Other}
use Rattle.json_bodies.specs.Flow as bodies
use Rattle.json_bodies.specs.Hook.{hook_in}
use Rattle.json_bodies.specs.Part.{is_all_tags, is_part_text, part_in}
use Rattle.json_bodies.specs.Segments.{is_post_good, segments_in}
use Rattle.json_bodies.specs.Storage.{want_in}
use Rattle.json_replies.specs.Texts.{has_refusal_texts}
use Rattle.media_rows.specs.declared.command.Command.{Command}
use Rattle.media_rows.specs.declared.event.EventKind.{EventKind}
use Rattle.media_rows.specs.declared.hook.Hook.{Hook}
use Rattle.media_rows.specs.declared.part.Part.{Part}
use Rattle.media_rows.specs.declared.part.Part.TheVariants as parts
use Rattle.media_rows.specs.declared.part.PartName.{PartName}
use Rattle.media_rows.specs.declared.part.PartName.TheVariants as names
use Rattle.media_rows.specs.declared.refusal.Refusal.{Refusal}
use Rattle.media_rows.specs.declared.refusal.Refusal.TheVariants as refusals
use Rattle.media_rows.specs.declared.segment.Segment.{Segment}
use Rattle.media_rows.specs.Good.{if_there}
use Rattle.media_rows.specs.Library.{Library}
use Rattle.media_rows.specs.Sound.{are_posts_good, is_good_command, is_part_good}
use Rattle.library_laws.proofs.ListLemmas.{list_all-In, list_all-from_In}
use Rattle.tams_http.specs.Asked.{hook_command, runs, without_fault, pairs_in, get_asked, put_asked, post_asked, delete_asked, Sent, asked_by, asked_at, ask_of}
use Rattle.tams_http.specs.Good.{is_ask_good}
use Rattle.tams_http.specs.Named.{named_or, source_at, flow_at, object_at, request_at, tag_at}
use Rattle.tams_http.specs.Parts.{source_part_name, flow_part_name, set_part, cleared_part}
use Rattle.tams_http.specs.declared.ask.Ask.{Ask}
use Rattle.reply_laws.specs.Asks.{AsksAreGood, asks_few, IsGoodAsk}
use Rattle.reply_laws.specs.Refusals.{AskRefusalsHaveTexts}
use Rattle.reply_laws.proofs.Bodies.{Any, AreFew, Reads, chain, gives, of_flow as flow_body, of_hook, of_part, of_segments, of_storage, refuses}
use Rattle.reply_laws.proofs.Lossy.{names_are_texts}

-- what is asked for is good for each library, where its texts are
abbrev IsGood : Ask → Type 0
IsGood ask = (library : Library) → is_ask_good ask ≡ true → IsGoodAsk library ask

-- a command that is good whatever it brings
plain : {command : Command} → ((library : Library) → is_good_command library command ≡ true) → asks_few command ≡ true → Reads IsGood (runs command)
plain good few = gives (λ library e. record { good = good library; few = few })

-- another method is refused
of_method : {X : Type 0} {P : X → Type 0} → Reads P (Err refusals.NoMethod)
of_method = refuses refusals.NoMethod refl

-- ---- ids and names

found : {X : Type 0} (refusal : Refusal) (x : Option X) → has_refusal_texts refusal ≡ true → Reads Any (named_or refusal x)
found refusal None e = refuses refusal e
found refusal (Some x) e = gives tt

source : (path : List ℕ) → Reads Any (source_at path)
source path = found refusals.NoSource (paths.named_id path) refl

flow : (path : List ℕ) → Reads Any (flow_at path)
flow path = found refusals.NoFlow (paths.named_id path) refl

object_ : (path : List ℕ) → Reads Any (object_at path)
object_ path = found refusals.UnknownObject (paths.named_object path) refl

request : (store : ℕ) (path : List ℕ) → Reads Any (request_at store path)
request store path = found refusals.NoRequest (paths.named_request store path) refl

tag : (path : List ℕ) → Reads Any (tag_at path)
unfolding is_utf8 chars encode
tag path = found (refusals.NotSet (codes "tags")) (paths.tag_named path) refl

-- ---- parts

source_name : (part : SourcePart) (path : List ℕ) → Reads Any (source_part_name part path)
source_name of_source.Tag path = chain (tag_at path) _ (tag path) (λ name _. gives tt)
source_name other path = gives tt

flow_name : (part : FlowPart) (path : List ℕ) → Reads Any (flow_part_name part path)
flow_name of_flow.Tag path = chain (tag_at path) _ (tag path) (λ name _. gives tt)
flow_name other path = gives tt

set_if : (all : Bool) (name : PartName) (body : List ℕ) → Reads Any (if all then Err refusals.NoMethod else part_in name body)
set_if true name body = of_method
set_if false name body = of_part name body

set : (name : PartName) (body : List ℕ) → Reads Any (set_part name body)
set name body = set_if (is_all_tags name) name body

cleared : (name : PartName) → Reads Any (cleared_part name)
cleared names.Tags = of_method
cleared names.ReadOnly = of_method
cleared other = gives tt

-- a part whose texts are UTF-8 is good
good_part : (part : Part) → is_part_text part ≡ true → is_part_good part ≡ true
good_part (parts.Tag name new) e = (and_parts (is_utf8 name) _ e).1
good_part other e = e

-- ---- segments and hooks

good_posts : (posts : List Segment) → list_all is_post_good posts ≡ true → are_posts_good posts ≡ true
good_posts posts e = list_all-from_In _ posts (λ post here. (and_parts _ _ (list_all-In is_post_good posts e post here)).1)

hooked : (hook : Hook) (events : List EventKind) → Reads IsGood (runs (hook_command hook events))
hooked hook [] = plain (λ _. refl) refl
hooked hook (event ∷ events) = gives (λ library e. record { good = e; few = refl })

-- ---- queries

fault_told : (kind : QueryKind) (earlier pairs : List Pair) → list_all (λ pair. is_utf8 pair.name) pairs ≡ true
    → if_there is_utf8 (first_fault kind earlier pairs) ≡ true
fault_told kind earlier [] e = refl
fault_told kind earlier (pair ∷ later) e =
    let both = and_parts (is_utf8 pair.name) _ e in
    cond_both (is_faulty kind earlier pair) (Some pair.name) (first_fault kind (earlier ++ pair ∷ []) later) (λ o. if_there is_utf8 o ≡ true) (λ _. both.0)
    (λ _. fault_told kind (earlier ++ pair ∷ []) later both.1)

pairs_by : (pairs : List Pair) (fault : Option (List ℕ)) → if_there is_utf8 fault ≡ true → Reads Any (without_fault pairs fault)
pairs_by pairs None e = gives tt
pairs_by pairs (Some name) e = refuses (refusals.BadQuery name) e

pairs : (kind : QueryKind) (query : List ℕ) → Reads Any (pairs_in kind query)
pairs kind query = pairs_by (query_pairs query) (query_fault kind (query_pairs query)) (fault_told kind [] (query_pairs query) (names_are_texts query))

-- ---- methods

of_get : (route : Route) (store : ℕ) (path query : List ℕ) → Reads IsGood (get_asked store route path query)
of_get routes.Root store path query = plain (λ _. refl) refl
of_get routes.Service store path query = plain (λ _. refl) refl
of_get routes.Hooks store path query = plain (λ _. refl) refl
of_get routes.Sources store path query = chain (pairs_in kinds.Sources query) _ (pairs kinds.Sources query) (λ found _. plain (λ _. refl) refl)
of_get routes.Source store path query = chain (source_at path) _ (source path) (λ id _. plain (λ _. refl) refl)
of_get (routes.SourcePart part) store path query = chain (source_at path) _ (source path)
    (λ id _. chain (source_part_name part path) _ (source_name part path) (λ name _. plain (λ _. refl) refl))
of_get routes.Flows store path query = chain (pairs_in kinds.Flows query) _ (pairs kinds.Flows query) (λ found _. plain (λ _. refl) refl)
of_get routes.Flow store path query = chain (flow_at path) _ (flow path) (λ id _. plain (λ _. refl) refl)
of_get (routes.FlowPart part) store path query = chain (flow_at path) _ (flow path)
    (λ id _. chain (flow_part_name part path) _ (flow_name part path) (λ name _. plain (λ _. refl) refl))
of_get routes.Segments store path query = chain (flow_at path) _ (flow path)
    (λ id _. chain (pairs_in kinds.Segments query) _ (pairs kinds.Segments query) (λ found _. plain (λ _. refl) refl))
of_get routes.Storage store path query = of_method
of_get routes.Object store path query = chain (object_at path) _ (object_ path) (λ id _. plain (λ _. refl) refl)
of_get routes.Requests store path query = plain (λ _. refl) refl
of_get routes.Request store path query = chain (request_at store path) _ (request store path) (λ serial _. plain (λ _. refl) refl)
of_get routes.Media store path query = chain (object_at path) _ (object_ path) (λ id _. gives (λ library e. tt))

of_put : (route : Route) (path body : List ℕ) → Reads IsGood (put_asked route path body)
of_put (routes.SourcePart part) path body = chain (source_at path) _ (source path) (λ id _. chain (source_part_name part path) _ (source_name part path)
    (λ name _. chain (set_part name body) _ (set name body) (λ value _. gives (λ library e. record { good = good_part value e; few = refl }))))
of_put routes.Flow path body = chain (flow_at path) _ (flow path)
    (λ id _. chain (bodies.flow_in id body) _ (flow_body id body) (λ value _. gives (λ library e. record { good = e; few = refl })))
of_put (routes.FlowPart part) path body = chain (flow_at path) _ (flow path) (λ id _. chain (flow_part_name part path) _ (flow_name part path)
    (λ name _. chain (set_part name body) _ (set name body) (λ value _. gives (λ library e. record { good = good_part value e; few = refl }))))
of_put routes.Media path body = chain (object_at path) _ (object_ path) (λ id _. gives (λ library e. tt))
of_put other path body = of_method

of_post : (route : Route) (path body : List ℕ) → Reads IsGood (post_asked route path body)
of_post routes.Hooks path body = chain (hook_in body) _ (of_hook body) (λ hook _. hooked hook hook.events)
of_post routes.Segments path body = chain (flow_at path) _ (flow path)
    (λ id _. chain (segments_in body) _ (of_segments body) (λ posts _. gives (λ library e. record { good = good_posts posts.segments e; few = refl })))
of_post routes.Storage path body = chain (flow_at path) _ (flow path)
    (λ id _. chain {P = AreFew} (want_in body) _ (of_storage body) (λ want few. gives (λ library e. record { good = e; few = few })))
of_post other path body = of_method

of_delete : (route : Route) (path query : List ℕ) → Reads IsGood (delete_asked route path query)
of_delete (routes.SourcePart part) path query = chain (source_at path) _ (source path) (λ id _. chain (source_part_name part path) _ (source_name part path)
    (λ name _. chain (cleared_part name) _ (cleared name) (λ value _. gives (λ library e. record { good = good_part value e; few = refl }))))
of_delete routes.Flow path query = chain (flow_at path) _ (flow path) (λ id _. plain (λ _. refl) refl)
of_delete (routes.FlowPart part) path query = chain (flow_at path) _ (flow path) (λ id _. chain (flow_part_name part path) _ (flow_name part path)
    (λ name _. chain (cleared_part name) _ (cleared name) (λ value _. gives (λ library e. record { good = good_part value e; few = refl }))))
of_delete routes.Segments path query = chain (flow_at path) _ (flow path)
    (λ id _. chain (pairs_in kinds.Cut query) _ (pairs kinds.Cut query) (λ found _. plain (λ _. refl) refl))
of_delete other path query = of_method

-- ---- requests

by_method : (store : ℕ) (method : MethodKind) (route : Route) (sent : Sent) → Reads IsGood (asked_by store method route sent)
by_method store Get route sent = of_get route store (path_of sent.target) (query_of sent.target)
by_method store Head route sent = of_get route store (path_of sent.target) (query_of sent.target)
by_method store Post route sent = of_post route (path_of sent.target) sent.body
by_method store Put route sent = of_put route (path_of sent.target) sent.body
by_method store Delete route sent = of_delete route (path_of sent.target) (query_of sent.target)
by_method store Other route sent = of_method

if_had : (has : Bool) (result : Result Ask Refusal) → Reads IsGood result → Reads IsGood (if has then result else Err refusals.NoMethod)
if_had true result h = h
if_had false result h = of_method

at_route : (store : ℕ) (method : MethodKind) (route : Option Route) (sent : Sent) → Reads IsGood (asked_at store method route sent)
at_route store method None sent = refuses refusals.NoRoute refl
at_route store method (Some route) sent =
    if_had (has_method (methods_of route) method) (asked_by store method route sent) (by_method store method route sent)

of_request : (store : ℕ) (method : MethodKind) (target body : List ℕ) → Reads IsGood (ask_of store method target body)
unfolding ask_of
of_request store method target body =
    at_route store method (route_of (path_of target)) (record { target = target; body = body })

-- ---- the laws

pub asks_are_good : AsksAreGood
asks_are_good library store method target body ask e fine = IfOk-at_ok IsGood e (of_request store method target body).given library fine

pub ask_refusals_have_texts : AskRefusalsHaveTexts
ask_refusals_have_texts store method target body why e =
    IfErr-at_err (λ w. IsTrue (has_refusal_texts w)) e (of_request store method target body).refused
