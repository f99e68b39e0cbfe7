-- The table of routes: the text of each, with its parts in braces, and its methods in their order.
-- Our own profile of the Time-addressable Media Store.
use Rattle.std.specs.Prelude.{ℕ, List, [], ◌∷◌, ◌++◌, Bool, map, bytes_eq, codes}
use Rattle.std.specs.List.{list_any}
use Rattle.http_wire.specs.declared.head.MethodKind.{MethodKind}
use Rattle.http_wire.specs.declared.head.MethodKind.TheVariants.{Get, Head, Post, Put, Delete, Other}
use Rattle.http_routes.specs.declared.methods.Methods.{Methods}
use Rattle.http_routes.specs.declared.methods.Methods.TheVariants as sets
use Rattle.http_routes.specs.declared.route.FlowPart.{FlowPart}
use Rattle.http_routes.specs.declared.route.FlowPart.TheVariants as of_flow
use Rattle.http_routes.specs.declared.route.Route.{Route}
use Rattle.http_routes.specs.declared.route.Route.TheVariants as routes
use Rattle.http_routes.specs.declared.route.SourcePart.{SourcePart}
use Rattle.http_routes.specs.declared.route.SourcePart.TheVariants as of_source

-- ---- routes

-- the text of a route to a part of a source
abbrev pub source_part_text : SourcePart → List ℕ
source_part_text of_source.Tags = codes "/sources/{id}/tags"
source_part_text of_source.Tag = codes "/sources/{id}/tags/{name}"
source_part_text of_source.Label = codes "/sources/{id}/label"
source_part_text of_source.Description = codes "/sources/{id}/description"

-- the text of a route to a part of a flow
abbrev pub flow_part_text : FlowPart → List ℕ
flow_part_text of_flow.Tags = codes "/flows/{id}/tags"
flow_part_text of_flow.Tag = codes "/flows/{id}/tags/{name}"
flow_part_text of_flow.Label = codes "/flows/{id}/label"
flow_part_text of_flow.Description = codes "/flows/{id}/description"
flow_part_text of_flow.ReadOnly = codes "/flows/{id}/read_only"
flow_part_text of_flow.Collection = codes "/flows/{id}/flow_collection"
flow_part_text of_flow.MaxBitRate = codes "/flows/{id}/max_bit_rate"
flow_part_text of_flow.AvgBitRate = codes "/flows/{id}/avg_bit_rate"

-- the text of a route
abbrev pub route_text : Route → List ℕ
route_text routes.Root = codes "/"
route_text routes.Service = codes "/service"
route_text routes.Hooks = codes "/service/webhooks"
route_text routes.Sources = codes "/sources"
route_text routes.Source = codes "/sources/{id}"
route_text (routes.SourcePart part) = source_part_text part
route_text routes.Flows = codes "/flows"
route_text routes.Flow = codes "/flows/{id}"
route_text (routes.FlowPart part) = flow_part_text part
route_text routes.Segments = codes "/flows/{id}/segments"
route_text routes.Storage = codes "/flows/{id}/storage"
route_text routes.Object = codes "/objects/{object_id}"
route_text routes.Requests = codes "/flow-delete-requests"
route_text routes.Request = codes "/flow-delete-requests/{request_id}"
route_text routes.Media = codes "/media/{object_id}"

-- all routes
unfoldable pub all_routes : List Route
all_routes =
    routes.Root ∷ routes.Service ∷ routes.Hooks ∷ routes.Sources ∷ routes.Source
    ∷ routes.SourcePart of_source.Tags ∷ routes.SourcePart of_source.Tag
    ∷ routes.SourcePart of_source.Label ∷ routes.SourcePart of_source.Description
    ∷ routes.Flows ∷ routes.Flow
    ∷ routes.FlowPart of_flow.Tags ∷ routes.FlowPart of_flow.Tag
    ∷ routes.FlowPart of_flow.Label ∷ routes.FlowPart of_flow.Description
    ∷ routes.FlowPart of_flow.ReadOnly ∷ routes.FlowPart of_flow.Collection
    ∷ routes.FlowPart of_flow.MaxBitRate ∷ routes.FlowPart of_flow.AvgBitRate
    ∷ routes.Segments ∷ routes.Storage ∷ routes.Object ∷ routes.Requests ∷ routes.Request
    ∷ routes.Media ∷ []

-- ---- methods

-- the methods of what is only shown
abbrev pub only_shown : List MethodKind
only_shown = Get ∷ Head ∷ []

-- those of what is shown, set and cleared
abbrev pub set_and_cleared : List MethodKind
set_and_cleared = Get ∷ Head ∷ Put ∷ Delete ∷ []

-- the methods of a part of a source
abbrev pub source_part_methods : SourcePart → List MethodKind
source_part_methods of_source.Tags = only_shown
source_part_methods of_source.Tag = set_and_cleared
source_part_methods of_source.Label = set_and_cleared
source_part_methods of_source.Description = set_and_cleared

-- the methods of a part of a flow
abbrev pub flow_part_methods : FlowPart → List MethodKind
flow_part_methods of_flow.Tags = only_shown
flow_part_methods of_flow.Tag = set_and_cleared
flow_part_methods of_flow.Label = set_and_cleared
flow_part_methods of_flow.Description = set_and_cleared
flow_part_methods of_flow.ReadOnly = Get ∷ Head ∷ Put ∷ []
flow_part_methods of_flow.Collection = set_and_cleared
flow_part_methods of_flow.MaxBitRate = set_and_cleared
flow_part_methods of_flow.AvgBitRate = set_and_cleared

-- the methods of a route, in the order in which they are named
abbrev pub methods_of : Route → List MethodKind
methods_of routes.Root = only_shown
methods_of routes.Service = only_shown
methods_of routes.Hooks = Get ∷ Head ∷ Post ∷ []
methods_of routes.Sources = only_shown
methods_of routes.Source = only_shown
methods_of (routes.SourcePart part) = source_part_methods part
methods_of routes.Flows = only_shown
methods_of routes.Flow = set_and_cleared
methods_of (routes.FlowPart part) = flow_part_methods part
methods_of routes.Segments = Get ∷ Head ∷ Post ∷ Delete ∷ []
methods_of routes.Storage = Post ∷ []
methods_of routes.Object = only_shown
methods_of routes.Requests = only_shown
methods_of routes.Request = only_shown
methods_of routes.Media = Get ∷ Head ∷ Put ∷ []

-- the methods of a set, in the same order
abbrev pub method_list : Methods → List MethodKind
method_list sets.GetHead = only_shown
method_list sets.GetHeadPost = Get ∷ Head ∷ Post ∷ []
method_list sets.GetHeadPut = Get ∷ Head ∷ Put ∷ []
method_list sets.GetHeadPutDelete = set_and_cleared
method_list sets.GetHeadPostDelete = Get ∷ Head ∷ Post ∷ Delete ∷ []
method_list sets.Post = Post ∷ []

-- the name of a method (RFC 9110, section 9.3); any other one has no name here
abbrev pub method_name : MethodKind → List ℕ
method_name Get = codes "GET"
method_name Head = codes "HEAD"
method_name Post = codes "POST"
method_name Put = codes "PUT"
method_name Delete = codes "DELETE"
method_name Other = []

-- the method is one of these, by its name
abbrev pub has_method : List MethodKind → MethodKind → Bool
has_method methods method = list_any (λ m. bytes_eq (method_name m) (method_name method)) methods

-- texts one behind another, with a comma and a blank between
abbrev pub comma_joined : List (List ℕ) → List ℕ
comma_joined [] = []
comma_joined (text ∷ []) = text
comma_joined (text ∷ next ∷ more) = text ++ codes ", " ++ comma_joined (next ∷ more)

-- the names of methods, as the field `Allow` has them (RFC 9110, section 10.2.1)
abbrev pub allow_text : List MethodKind → List ℕ
allow_text methods = comma_joined (map method_name methods)
