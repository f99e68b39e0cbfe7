-- The requests of a generated workload: one after another, as the bytes of one connection. They put
-- a flow, ask for objects, put each object and post its segment, list the segments, delete the
-- first half of them, and ask for the root. Our own rules; requests are spelled as RFC 9112 has it,
-- and a query as the URL Standard writes a form (section 5.2).
use Rattle.std.specs.Prelude.{◌≡◌, ◌≤◌, ℕ, ◌+◌, ◌*◌, ◌/◌, ◌%◌, List, [], ◌++◌, codes, length, map}
use Rattle.std.specs.Fmt.{decimal}
use Rattle.std.specs.Int.{div_ceil}
use Rattle.std.specs.List.{flat_map, repeat}
use Rattle.form_urlencoded.specs.Form.{append_pair}
use Rattle.http_wire.specs.Response.{crlf}
use Rattle.media_rows.specs.Lists.{numbers_below}

-- ---- requests, with no field but the length of a body

-- the first line of a request
abbrev pub request_line : List ℕ → List ℕ → List ℕ
request_line method target = method ++ codes " " ++ target ++ codes " HTTP/1.1" ++ crlf

-- a request without a body
abbrev pub bare_request : List ℕ → List ℕ → List ℕ
bare_request method target = request_line method target ++ crlf

-- the field that says how many bytes a body has
abbrev pub length_field : List ℕ → List ℕ
length_field body = codes "Content-Length: " ++ decimal (length body) ++ crlf

-- a request with a body
abbrev pub request : List ℕ → List ℕ → List ℕ → List ℕ
request method target body = request_line method target ++ length_field body ++ crlf ++ body

-- ---- the flow

-- the path of the flow
abbrev pub flow_path : List ℕ
flow_path = codes "/flows/00000000-0000-4000-8000-0000000000f1"

-- the path of its segments
abbrev pub segments_path : List ℕ
segments_path = flow_path ++ codes "/segments"

-- the body that makes it
abbrev pub flow_body : List ℕ
flow_body =
    codes "{\"source_id\":\"00000000-0000-4000-8000-0000000000a1\","
    ++ codes "\"format\":\"urn:x-nmos:format:video\"}"

-- the request that puts it
abbrev pub put_flow : List ℕ
put_flow = request (codes "PUT") flow_path flow_body

-- the body that asks for so many new objects
abbrev pub limit_body : ℕ → List ℕ
limit_body count = codes "{\"limit\":" ++ decimal count ++ codes "}"

-- the request that asks for them
abbrev pub ask_objects : ℕ → List ℕ
ask_objects count = request (codes "POST") (flow_path ++ codes "/storage") (limit_body count)

-- ---- objects and their segments, in a workload of some number

-- the id of the store
abbrev pub store_id : List ℕ
store_id = codes "00000000-0000-4000-8000-000000000001"

-- the id of the i-th object: that of the store, and the object's number, counted from 1
abbrev pub generated_id : ℕ → List ℕ
generated_id i = store_id ++ codes "-" ++ decimal (i + 1)

-- how many bytes it has: from 1 to 4,096
abbrev pub media_size : ℕ → ℕ → ℕ
media_size number i = 1 + (31 * number + 17 * i) % 4096

-- its j-th byte
abbrev pub media_byte : ℕ → ℕ → ℕ → ℕ
media_byte number i j = (number + i + j) % 256

-- its bytes
abbrev pub media_bytes : ℕ → ℕ → List ℕ
media_bytes number i = map (media_byte number i) (numbers_below (media_size number i))

-- the time range from one second up to another, without that one
abbrev pub seconds_range : ℕ → ℕ → List ℕ
seconds_range start end = codes "[" ++ decimal start ++ codes ":0_" ++ decimal end ++ codes ":0)"

-- the second at which its segment begins; each segment has ten, and the next one follows at once
abbrev pub segment_start : ℕ → ℕ
segment_start i = 10 * i

-- the time range of its segment
abbrev pub segment_range : ℕ → List ℕ
segment_range i = seconds_range (segment_start i) (segment_start (i + 1))

-- the body that posts its segment
abbrev pub segment_body : ℕ → List ℕ
segment_body i =
    codes "{\"object_id\":\"" ++ generated_id i
    ++ codes "\",\"timerange\":\"" ++ segment_range i ++ codes "\"}"

-- the request that puts it
abbrev pub put_object : ℕ → ℕ → List ℕ
put_object number i =
    request (codes "PUT") (codes "/media/" ++ generated_id i) (media_bytes number i)

-- the request that posts its segment
abbrev pub post_segment : ℕ → List ℕ
post_segment i = request (codes "POST") segments_path (segment_body i)

-- both, one behind the other
abbrev pub object_requests : ℕ → ℕ → List ℕ
object_requests number i = put_object number i ++ post_segment i

-- ---- behind them

-- the request that lists the segments
abbrev pub list_segments : List ℕ
list_segments = bare_request (codes "GET") (segments_path ++ codes "?limit=1000")

-- the second at which the first half of the segments ends, which is the smaller one where their
-- number is odd
abbrev pub half_end : ℕ → ℕ
half_end count = segment_start (count / 2)

-- the query that names the first half of the segments by their time range
abbrev pub half_query : ℕ → List ℕ
half_query count = append_pair [] (codes "timerange") (seconds_range 0 (half_end count))

-- the same query as it is spelled
abbrev pub HalfQueryIsSpelled : Type 0
HalfQueryIsSpelled =
    (count : ℕ)
    → count ≤ 1000
    → half_query count
    ≡ codes "timerange=%5B0%3A0_" ++ decimal (half_end count) ++ codes "%3A0%29"

-- the target that names them
abbrev pub half_target : ℕ → List ℕ
half_target count = segments_path ++ codes "?" ++ half_query count

-- the request that deletes them
abbrev pub delete_segments : ℕ → List ℕ
delete_segments count = bare_request (codes "DELETE") (half_target count)

-- the request for the root
abbrev pub get_root : List ℕ
get_root = bare_request (codes "GET") (codes "/")

-- how many groups of 32 the deleted segments make, with the last one, which may not be full
abbrev pub deleted_groups : ℕ → ℕ
deleted_groups count = div_ceil (count / 2) 32

-- a request for the root for each of these groups
abbrev pub root_requests : ℕ → List ℕ
root_requests count = repeat (deleted_groups count) get_root

-- ---- all of them

-- the requests of the workload of a number, with so many objects
abbrev pub workload_requests : ℕ → ℕ → List ℕ
workload_requests number count =
    put_flow
    ++ ask_objects count
    ++ flat_map (object_requests number) (numbers_below count)
    ++ list_segments
    ++ delete_segments count
    ++ root_requests count
