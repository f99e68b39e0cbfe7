-- Texts, and the essence text of a flow: what its client says of the media, kept whole (our own
-- rule).
use Rattle.std.specs.Prelude.{ℕ, List, Bool, true, false, not, ◌&&◌, Option, Some, None, bytes_eq}
use Rattle.std.specs.Str.{is_utf8}
use Rattle.serde_json.specs.Data.{Data, object}
use Rattle.serde_json.specs.Read.{read}
use Rattle.serde_json.specs.Written.{has_float, compact_text}

-- a JSON value that is an object
abbrev pub is_object : Data → Bool
is_object (object ms) = true
is_object _ = false

-- the value is an object, each of its numbers is a whole number of 64 bits, and its compact text,
-- in which each object has its keys in byte order, is this one
abbrev pub is_essence_value : List ℕ → Data → Bool
is_essence_value text value =
    is_object value && not (has_float value) && bytes_eq (compact_text value) text

-- the same of what was read, if anything was
abbrev pub is_essence_read : List ℕ → Option Data → Bool
is_essence_read text None = false
is_essence_read text (Some value) = is_essence_value text value

-- a text that is such a value's, read as JSON (RFC 8259) in UTF-8
unfoldable pub is_essence : List ℕ → Bool
is_essence text = is_utf8 text && is_essence_read text (read text)
