-- What a head says of its request (RFC 9110, section 9; RFC 9112, sections 6 and 9), and which head
-- is refused. The limits, and that a media object is never sent in chunks, are our own.
use Rattle.std.specs.Prelude.{ℕ, ◌==◌, Bool, true, false, not, ◌&&◌, ◌||◌, nat_lt, nat_eq, List, length, map, Option, Some, None, option_map, Result, Ok, Err, if◌then◌else◌, bytes_eq, codes}
use Rattle.std.specs.List.{list_any, starts_with}
use Rattle.httparse.specs.Grammar.{RequestHead}
use Rattle.httparse.specs.Spans.{name_and_value}
use Rattle.http_wire.specs.Fields.{first_of, read_length, same_text, field_values}
use Rattle.http_wire.specs.declared.head.MethodKind.{MethodKind}
use Rattle.http_wire.specs.declared.head.MethodKind.TheVariants as kinds
use Rattle.http_wire.specs.declared.framing.Framing.{Framing}
use Rattle.http_wire.specs.declared.framing.Framing.TheVariants.{Chunked, Length}
use Rattle.http_wire.specs.declared.framing.WireFault.{WireFault}
use Rattle.http_wire.specs.declared.framing.WireFault.TheVariants.{BadFraming, Coding, LengthRequired, TooLarge}

-- the most bytes of a body that is held whole
abbrev pub max_body : ℕ
max_body = 1048576

-- the most bytes of a media object
abbrev pub max_media : ℕ
max_media = 1073741824

-- the most bytes of a body of a request
abbrev pub body_limit : Bool → ℕ
body_limit media = if media then max_media else max_body

-- a transfer coding that is read: `chunked`, once, and in HTTP/1.1
abbrev pub read_coding : ℕ → ℕ → List ℕ → Option Framing
read_coding minor count text =
    if (minor == 1) && (count == 1) && same_text text (codes "chunked") then Some Chunked else None

-- a length that is read: all its fields have the same digits
abbrev pub read_same_length : List (List ℕ) → List ℕ → Option Framing
read_same_length values text =
    if list_any (λ value. not (same_text text value)) values then None
    else option_map Length (read_length text)

-- the framing by the first value of each kind: a length, a coding, or neither, which is a length of
-- 0
abbrev pub framing_by
    : ℕ → List (List ℕ) → List (List ℕ) → Option (List ℕ) → Option (List ℕ) → Option Framing
framing_by minor lengths codings None None = Some (Length 0)
framing_by minor lengths codings (Some text) None = read_same_length lengths text
framing_by minor lengths codings None (Some text) = read_coding minor (length codings) text
framing_by minor lengths codings (Some text) (Some coding) = None

-- the framing that fields declare, and none where it can't be read
abbrev pub declared : ℕ → List (List ℕ × List ℕ) → Option Framing
declared minor fields =
    let lengths = field_values (codes "content-length") fields in
    let codings = field_values (codes "transfer-encoding") fields in
    framing_by minor lengths codings (first_of lengths) (first_of codings)

-- some content coding isn't `identity`
abbrev pub is_coded : List (List ℕ × List ℕ) → Bool
is_coded fields =
    list_any (λ value. not (same_text (codes "identity") value))
    (field_values (codes "content-encoding") fields)

-- The framing, or the first refusal that stands: it can't be read, a media object is sent in
-- chunks, the body passes the limit, or it is coded.
abbrev pub judged_framing : Bool → Bool → Option Framing → Result Framing WireFault
judged_framing media coded None = Err BadFraming
judged_framing media coded (Some Chunked) =
    if media then Err LengthRequired else if coded then Err Coding else Ok Chunked
judged_framing media coded (Some (Length n)) =
    if nat_lt (body_limit media) n then Err TooLarge
    else if coded then Err Coding else Ok (Length n)

-- ---- of a head

-- the fields of a head, each its name and its value
abbrev pub fields_of : RequestHead → List (List ℕ × List ℕ)
fields_of head = map name_and_value head.fields

-- the kind of a method
abbrev pub method_kind : List ℕ → MethodKind
method_kind method =
    if bytes_eq method (codes "GET") then kinds.Get
    else if bytes_eq method (codes "HEAD") then kinds.Head
    else if bytes_eq method (codes "POST") then kinds.Post
    else if bytes_eq method (codes "PUT") then kinds.Put
    else if bytes_eq method (codes "DELETE") then kinds.Delete
    else kinds.Other

-- a media PUT: its target begins with `/media/`
abbrev pub is_media : List ℕ → List ℕ → Bool
is_media method target =
    bytes_eq method (codes "PUT") && starts_with nat_eq target (codes "/media/")

-- the framing of a head, or its refusal
abbrev pub judge : RequestHead → Result Framing WireFault
judge head =
    judged_framing (is_media head.method head.target) (is_coded (fields_of head))
    (declared head.minor (fields_of head))

-- a body is to come
abbrev pub has_body : Result Framing WireFault → Bool
has_body (Ok (Length n)) = not (n == 0)
has_body (Ok Chunked) = true
has_body (Err fault) = false

-- An interim response is due to HTTP/1.1 alone: a body is to come, and the client waits for the
-- word (RFC 9110, section 10.1.1).
abbrev pub interim_by : ℕ → Bool → Result Framing WireFault → Bool
interim_by minor expects framing = (minor == 1) && expects && has_body framing

-- the same of a head
abbrev pub wants_interim : RequestHead → Bool
wants_interim head =
    interim_by head.minor
    (list_any (same_text (codes "100-continue")) (field_values (codes "expect") (fields_of head)))
    (judge head)

-- the connection ends behind the answer: always so in HTTP/1.0 (RFC 9112, section 9.3)
abbrev pub closes_by : ℕ → Bool → Bool
closes_by minor says_close = (minor == 0) || says_close

-- the same of a head
abbrev pub ends_connection : RequestHead → Bool
ends_connection head =
    closes_by head.minor
    (list_any (same_text (codes "close")) (field_values (codes "connection") (fields_of head)))
