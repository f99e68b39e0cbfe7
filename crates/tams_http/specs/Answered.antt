-- The response to a request: its status, its fields in their order, and its body (RFC 9110,
-- sections 8, 10 and 15). Our own profile of the Time-addressable Media Store.
use Rattle.std.specs.Prelude.{ℕ, ◌==◌, ℤ, List, [], ◌∷◌, ◌++◌, Bool, Option, Some, None, option_map, length, if◌then◌else◌, codes, decimal}
use Rattle.std.specs.Fmt.{signed_decimal}
use Rattle.http_queries.specs.Next.{next_query}
use Rattle.http_queries.specs.Pairs.{query_pairs}
use Rattle.http_routes.specs.Paths.{path_of, query_of, route_of}
use Rattle.http_routes.specs.Table.{allow_text, methods_of}
use Rattle.http_wire.specs.Response.{response}
use Rattle.http_wire.specs.declared.response.HeadField.{HeadField}
use Rattle.json_replies.specs.Replies.{reply_text}
use Rattle.json_replies.specs.Rows.{request_id}
use Rattle.media_rows.specs.Ids.{id_text}
use Rattle.media_rows.specs.RefusalTable.{refusal_number, refusal_status}
use Rattle.media_rows.specs.Views.{key_id}
use Rattle.media_rows.specs.declared.refusal.Refusal.{Refusal}
use Rattle.media_rows.specs.declared.refusal.Refusal.TheVariants.{NoMethod}
use Rattle.media_rows.specs.declared.reply.Reply.{Reply}
use Rattle.media_rows.specs.declared.reply.Reply.TheVariants as replies
use Rattle.media_rows.specs.declared.reply.View.{View}
use Rattle.media_rows.specs.declared.reply.View.TheVariants as views

-- ---- what is answered

-- A request as it is answered: its target, whether it is a HEAD, whether the connection ends behind
-- the answer, and the store's id and the base of its addresses.
pub record Context : Type 0 where
  pub store : ℕ
  pub base : List ℕ
  pub target : List ℕ
  pub ends : Bool
  pub head_only : Bool

-- the status of a reply
abbrev pub reply_status : Reply → ℕ
reply_status replies.Created = 201
reply_status (replies.CreatedObjects ids) = 201
reply_status (replies.Accepted row) = 202
reply_status replies.Done = 204
reply_status (replies.Shown view) = 200
reply_status (replies.Media size) = 200
reply_status (replies.Refused refusal) = refusal_status refusal
reply_status (replies.Partly failed) = 200

-- ---- fields

-- a field, where it has a value
abbrev pub field_if : List ℕ → Option (List ℕ) → List HeadField
field_if name None = []
field_if name (Some value) = record { name = name; value = value } ∷ []

-- the length of the content: that of the body, or of the object whose bytes follow; a response
-- without content has none
abbrev pub content_length : Reply → List ℕ → Option (List ℕ)
content_length replies.Created body = Some (decimal (length body))
content_length (replies.CreatedObjects ids) body = Some (decimal (length body))
content_length (replies.Accepted row) body = Some (decimal (length body))
content_length replies.Done body = None
content_length (replies.Shown view) body = Some (decimal (length body))
content_length (replies.Media size) body = Some (decimal size)
content_length (replies.Refused refusal) body = Some (decimal (length body))
content_length (replies.Partly failed) body = Some (decimal (length body))

-- the type of a body that has a byte
abbrev pub json_type : List ℕ → Option (List ℕ)
json_type [] = None
json_type (b ∷ bytes) = Some (codes "application/json")

-- the type of the content
abbrev pub content_type : Reply → List ℕ → Option (List ℕ)
content_type replies.Created body = json_type body
content_type (replies.CreatedObjects ids) body = json_type body
content_type (replies.Accepted row) body = json_type body
content_type replies.Done body = json_type body
content_type (replies.Shown view) body = json_type body
content_type (replies.Media size) body = Some (codes "application/octet-stream")
content_type (replies.Refused refusal) body = json_type body
content_type (replies.Partly failed) body = json_type body

-- the methods of the route that a target names
abbrev pub allowed_at : List ℕ → Option (List ℕ)
allowed_at target = option_map (λ route. allow_text (methods_of route)) (route_of (path_of target))

-- a refusal is that of a method which the route hasn't: it has its number
abbrev pub is_no_method : Refusal → Bool
is_no_method refusal = refusal_number refusal == refusal_number NoMethod

-- the methods that are allowed, where another one was asked for
abbrev pub allow : Reply → List ℕ → Option (List ℕ)
allow replies.Created target = None
allow (replies.CreatedObjects ids) target = None
allow (replies.Accepted row) target = None
allow replies.Done target = None
allow (replies.Shown view) target = None
allow (replies.Media size) target = None
allow (replies.Refused refusal) target = if is_no_method refusal then allowed_at target else None
allow (replies.Partly failed) target = None

-- where a delete request is shown
abbrev pub request_address : ℕ → List ℕ → ℕ → List ℕ
request_address store base serial =
    base ++ codes "/flow-delete-requests/" ++ request_id store serial

-- where the request that was accepted is shown
abbrev pub location : Reply → ℕ → List ℕ → Option (List ℕ)
location replies.Created store base = None
location (replies.CreatedObjects ids) store base = None
location (replies.Accepted row) store base = Some (request_address store base row.serial)
location replies.Done store base = None
location (replies.Shown view) store base = None
location (replies.Media size) store base = None
location (replies.Refused refusal) store base = None
location (replies.Partly failed) store base = None

-- the text of an id by its key
abbrev pub id_key_text : ℤ → List ℕ
id_key_text key = id_text (key_id key)

-- the key of the next page as text: an id for flows and sources, and the first point for segments
abbrev pub next_key_of : View → Option (List ℕ)
next_key_of views.Root = None
next_key_of views.Service = None
next_key_of (views.Source row) = None
next_key_of (views.Sources rows next) = option_map id_key_text next
next_key_of (views.Flow flow) = None
next_key_of (views.Flows flows next) = option_map id_key_text next
next_key_of (views.Segments rows next) = option_map signed_decimal next
next_key_of (views.Object row flows) = None
next_key_of (views.Request row) = None
next_key_of (views.Requests rows) = None
next_key_of (views.Hooks hooks) = None
next_key_of (views.OnePart part) = None
next_key_of (views.AllTags tags) = None

-- the same of a reply
abbrev pub next_key_text : Reply → Option (List ℕ)
next_key_text replies.Created = None
next_key_text (replies.CreatedObjects ids) = None
next_key_text (replies.Accepted row) = None
next_key_text replies.Done = None
next_key_text (replies.Shown view) = next_key_of view
next_key_text (replies.Media size) = None
next_key_text (replies.Refused refusal) = None
next_key_text (replies.Partly failed) = None

-- the address of the page behind a key, as a link to the next one (RFC 8288, section 3)
abbrev pub next_link : List ℕ → List ℕ → List ℕ → List ℕ
next_link base target key =
    codes "<" ++ base ++ path_of target ++ codes "?" ++ next_query (query_pairs (query_of target))
    key
    ++ codes ">; rel=\"next\""

-- the link to the page behind a key, where there is one
abbrev pub page_link : Context → Option (List ℕ) → Option (List ℕ)
page_link context key = option_map (next_link context.base context.target) key

-- the word with which a connection ends
abbrev pub connection_word : Bool → Option (List ℕ)
connection_word ends = if ends then Some (codes "close") else None

-- the fields of the response to a reply with this body, in their order
abbrev pub response_fields : Context → Reply → List ℕ → List HeadField
response_fields context reply body =
    field_if (codes "Content-Length") (content_length reply body)
    ++ field_if (codes "Content-Type") (content_type reply body)
    ++ field_if (codes "Allow") (allow reply context.target)
    ++ field_if (codes "Location") (location reply context.store context.base)
    ++ field_if (codes "Link") (page_link context (next_key_text reply))
    ++ field_if (codes "X-Paging-NextKey") (next_key_text reply)
    ++ field_if (codes "Connection") (connection_word context.ends)

-- ---- the response

-- the response with this body
abbrev pub response_with : Context → Reply → List ℕ → List ℕ
response_with context reply body =
    response (reply_status reply) (response_fields context reply body) body context.head_only

-- The response to a reply. For `Media` it is the head alone, and the object's bytes follow.
unfoldable pub response_to : Context → Reply → List ℕ
response_to context reply =
    response_with context reply (reply_text context.store context.base reply)
