-- The ids and names in a path, each with its escapes undone (RFC 3986, section 2.1). The id stands
-- behind the second slash, and a tag's name behind the fourth.
use Rattle.std.specs.Prelude.{ℕ, List, ◌++◌, Bool, ◌&&◌, nat_eq, nat_le, length, drop, Option, Some, None, option_and_then, if◌then◌else◌, codes}
use Rattle.std.specs.List.{starts_with}
use Rattle.std.specs.Str.{is_utf8}
use Rattle.http_wire.specs.Fields.{read_length}
use Rattle.media_rows.specs.Ids.{id_of, id_text, is_object_id}
use Rattle.percent_encoding.specs.Percent.{percent_decode}
use Rattle.http_routes.specs.Paths.{piece_at}

-- the place of the id
abbrev pub id_place : ℕ
id_place = 2

-- the place of a tag's name
abbrev pub name_place : ℕ
name_place = 4

-- the piece at a place, with its escapes undone
abbrev pub decoded_at : ℕ → List ℕ → List ℕ
decoded_at place path = percent_decode (piece_at place path)

-- what passes a test
abbrev pub passing : (List ℕ → Bool) → List ℕ → Option (List ℕ)
passing test text = if test text then Some text else None

-- the id of a source or a flow
abbrev pub named_id : List ℕ → Option ℕ
named_id path = id_of (decoded_at id_place path)

-- the id of an object
abbrev pub named_object : List ℕ → Option (List ℕ)
named_object path = passing is_object_id (decoded_at id_place path)

-- a tag's name: 1 to 128 bytes of UTF-8
abbrev pub is_tag_name : List ℕ → Bool
is_tag_name name = (nat_le 1 (length name) && nat_le (length name) 128) && is_utf8 name

-- the name of a tag
abbrev pub tag_named : List ℕ → Option (List ℕ)
tag_named path = passing is_tag_name (decoded_at name_place path)

-- a serial: 1 to 19 digits, of which the first isn't 0
abbrev pub serial_of : List ℕ → Option ℕ
serial_of text = if starts_with nat_eq text (codes "0") then None else read_length text

-- what stands behind a text, where another one begins with it
abbrev pub stripped : List ℕ → List ℕ → Option (List ℕ)
stripped prefix text =
    if starts_with nat_eq text prefix then Some (drop (length prefix) text) else None

-- the serial of a delete request of a store, whose id is the store's, `-` and the serial
abbrev pub request_serial : ℕ → List ℕ → Option ℕ
request_serial store text = option_and_then serial_of (stripped (id_text store ++ codes "-") text)

-- the same of a path
abbrev pub named_request : ℕ → List ℕ → Option ℕ
named_request store path = request_serial store (decoded_at id_place path)
