-- Ids as texts.
use Rattle.std.specs.Prelude.{ℕ, List, Option, option_map, Bool, ◌&&◌, nat_le, length}
use Rattle.std.specs.List.{list_all}
use Rattle.std.specs.Int.{w128, to_be_bytes, from_be_bytes}
use Rattle.uuid.specs.Text.{hyphenated_text, lower, parsed}

-- the 36 bytes of an id: five groups of lower-case digits of sixteen, joined by hyphens (RFC 9562,
-- section 4)
unfoldable pub id_text : ℕ → List ℕ
id_text id = hyphenated_text lower (to_be_bytes w128 id)

-- the id that a text spells, in any of the four forms of a UUID's text
unfoldable pub id_of : List ℕ → Option ℕ
id_of text = option_map (from_be_bytes w128) (parsed text)

-- a byte from `!` to `~`, which is a printed character of ASCII and no blank
abbrev pub is_id_byte : ℕ → Bool
is_id_byte byte = nat_le 33 byte && nat_le byte 126

-- a text that an object may have as its id: 1 to 200 such bytes (our own rule)
abbrev pub is_object_id : List ℕ → Bool
is_object_id text = (nat_le 1 (length text) && nat_le (length text) 200) && list_all is_id_byte text
