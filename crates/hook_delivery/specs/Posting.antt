-- The request by which an event goes to its webhook (RFC 9112, sections 2 to 6), and its body in
-- JSON (RFC 8259). Our own profile of the Time-addressable Media Store.
use Rattle.std.specs.Prelude.{◌≡◌, ◌<◌, ℕ, List, [], ◌∷◌, ◌++◌, Bool, ◌&&◌, ◌||◌, nat_le, Option, Some, None, Ok, Err, option_map, unwrap_or, if◌then◌else◌, length, bytes_eq, codes, decimal}
use Rattle.std.specs.List.{list_all}
use Rattle.httparse.specs.Grammar.{AllPass, is_token, is_uri_byte}
use Rattle.json.specs.Lex.{tokens}
use Rattle.json.specs.Print.{print}
use Rattle.url.specs.Host.{host_text}
use Rattle.url.specs.Parser.{Parsed, parse_url}
use Rattle.url.specs.Parts.{Parts, nonempty_host}
use Rattle.http_wire.specs.Response.{crlf}
use Rattle.media_rows.specs.Outbox.{is_of_source}
use Rattle.media_rows.specs.declared.event.EventKind.{EventKind}
use Rattle.media_rows.specs.declared.event.EventRow.{EventRow}
use Rattle.media_rows.specs.declared.hook.Hook.{Hook}
use Rattle.media_rows.specs.declared.hook.HookRow.{HookRow}
use Rattle.json_replies.specs.Rows.{request_id}
use Rattle.json_replies.specs.Shapes.{HasRisingKeys, ObjectMember, always, object_tokens, string_value, where_set}
use Rattle.json_replies.specs.Values.{event_value, id_value, moment_value, range_value}
use Rattle.hook_delivery.specs.declared.request.Outgoing.{Outgoing}

-- ---- where events go

-- the text of an address's host, and nothing where it has none
abbrev pub host_name : Parts → List ℕ
host_name url = unwrap_or (option_map host_text (nonempty_host url)) []

-- the host is this machine
abbrev pub is_own_host : List ℕ → Bool
is_own_host name = bytes_eq name (codes "127.0.0.1") || bytes_eq name (codes "localhost")

-- events go to an address of scheme http whose host is this machine
abbrev pub is_reached : Parts → Bool
is_reached url = bytes_eq url.scheme (codes "http") && is_own_host (host_name url)

-- the address to which events go, where the text of it was read
abbrev pub reached : Parsed Parts → Option Parts
reached (Ok url) = if is_reached url then Some url else None
reached (Err why) = None

-- the address that a text spells, as the URL Standard reads it, where events go to it
abbrev pub address_in : List ℕ → Option Parts
address_in text = reached (parse_url None text)

-- the port of an address, which is 80 where none is named
abbrev pub port_of : Parts → ℕ
port_of url = unwrap_or url.port 80

-- ---- the body

-- the name of the member that has the id of an event's subject
abbrev pub subject_name : EventKind → List ℕ
subject_name kind = if is_of_source kind then codes "source_id" else codes "flow_id"

-- what happened to which flow or source, and for segments the hull of them
abbrev pub subject_members : EventRow → List ObjectMember
subject_members event =
    always (subject_name event.kind) (id_value event.subject)
    ∷ where_set (codes "timerange") range_value event.range
    ∷ []

-- an event's id, which is put together as that of a delete request, its moment and its kind
abbrev pub event_marks : ℕ → EventRow → List ObjectMember
event_marks store event =
    always (codes "event_id") (string_value (request_id store event.serial))
    ∷ always (codes "event_timestamp") (moment_value event.moment)
    ∷ always (codes "event_type") (event_value event.kind)
    ∷ []

-- the members of an event, by rising name
abbrev pub event_members : ℕ → EventRow → List ObjectMember
event_members store event =
    always (codes "event") (object_tokens (subject_members event)) ∷ event_marks store event

-- the text of an event: compact JSON
unfoldable pub event_text : ℕ → EventRow → List ℕ
event_text store event = print (object_tokens (event_members store event))

-- the text of an event reads back as just its tokens
abbrev pub EventsReadBack : Type 0
EventsReadBack =
    (store : ℕ) (event : EventRow)
    → tokens (event_text store event) ≡ object_tokens (event_members store event)

-- the names of the members of both its objects rise, byte by byte
pub record EventKeysRise : Type 0 where
  pub event : (store : ℕ) (event : EventRow) → HasRisingKeys (event_members store event)
  pub subject : (event : EventRow) → HasRisingKeys (subject_members event)

-- ---- the head

-- the query of an address behind `?`, where it has one
abbrev pub query_part : Option (List ℕ) → List ℕ
query_part None = []
query_part (Some query) = codes "?" ++ query

-- the line that asks for the path and the query of an address
unfoldable pub request_line : Parts → List ℕ
request_line url = codes "POST " ++ url.path ++ query_part url.query ++ codes " HTTP/1.1" ++ crlf

-- what can be asked for: bytes that are seen, one at least, so that the line ends where it should
pub record IsTarget (bytes : List ℕ) : Type 0 where
  pub some : 0 < length bytes
  pub visible : AllPass is_uri_byte bytes

-- the path and the query of an address to which events go can be asked for
abbrev pub HasTarget : List ℕ → Type 0
HasTarget text =
    (url : Parts) → address_in text ≡ Some url → IsTarget (url.path ++ query_part url.query)

-- the line of a field
unfoldable pub field_line : List ℕ → List ℕ → List ℕ
field_line name value = name ++ codes ": " ++ value ++ crlf

-- the port of an address behind `:`, where one is named
abbrev pub port_part : Option ℕ → List ℕ
port_part None = []
port_part (Some port) = codes ":" ++ decimal port

-- the host of an address, with its port where one is named
abbrev pub host_and_port : Parts → List ℕ
host_and_port url = host_name url ++ port_part url.port

-- a byte from the space to `~`
abbrev pub is_printable : ℕ → Bool
is_printable b = nat_le 32 b && nat_le b 126

-- a name and a value that can stand in a head
abbrev pub is_field : List ℕ → List ℕ → Bool
is_field name value = is_token name && list_all is_printable value

-- the line of a hook's key, where its name and its value are there and can stand in a head
unfoldable pub key_line : Option (List ℕ) → Option (List ℕ) → List ℕ
key_line None value = []
key_line (Some name) None = []
key_line (Some name) (Some value) = if is_field name value then field_line name value else []

-- the lines that tell of a body of so many bytes
unfoldable pub body_lines : ℕ → List ℕ
body_lines size =
    field_line (codes "Content-Type") (codes "application/json")
    ++ field_line (codes "Content-Length") (decimal size)

-- the line by which the connection ends behind the answer, and the empty line
unfoldable pub last_lines : List ℕ
last_lines = field_line (codes "Connection") (codes "close") ++ crlf

-- the head of a request with a body of so many bytes
unfoldable pub request_head : Parts → Hook → ℕ → List ℕ
request_head url hook size =
    request_line url
    ++ field_line (codes "Host") (host_and_port url)
    ++ body_lines size
    ++ key_line hook.key_name hook.key_value
    ++ last_lines

-- ---- the request

-- the request to an address, and the port to which it goes
abbrev pub request_to : ℕ → Hook → EventRow → Parts → Outgoing
request_to store hook event url = record {
  port = port_of url;
  bytes = request_head url hook (length (event_text store event)) ++ event_text store event;
}

-- the request of a hook's event, where events go to the hook's address
abbrev pub request_of : ℕ → HookRow → EventRow → Option Outgoing
request_of store row event = option_map (request_to store row.hook event) (address_in row.hook.url)
