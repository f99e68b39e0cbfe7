-- The values of fields by their names (RFC 9110, sections 5.1 and 8.6). Names, and the values that
-- a rule names, compare without regard to ASCII case.
use Rattle.std.specs.Prelude.{ℕ, Bool, ◌&&◌, nat_le, List, [], ◌∷◌, length, map, Option, Some, None, if◌then◌else◌, bytes_eq}
use Rattle.std.specs.List.{list_all}
use Rattle.std.specs.Char.{is_ascii_digit, to_ascii_lowercase}
use Rattle.std.specs.Str.Parse.{digits_value}
use Rattle.httparse.specs.declared.spans.HeaderSpan.{HeaderSpan}
use Rattle.httparse.specs.Spans.{header_bytes}

-- two texts are equal but for the case of ASCII letters
abbrev pub same_text : List ℕ → List ℕ → Bool
same_text left right = bytes_eq (map to_ascii_lowercase left) (map to_ascii_lowercase right)

-- the values of the fields of a name, each field being its name and its value
abbrev pub field_values : List ℕ → List (List ℕ × List ℕ) → List (List ℕ)
field_values name [] = []
field_values name (field ∷ fields) =
    if same_text field.0 name then field.1 ∷ field_values name fields else field_values name fields

-- the first of them, where there is one
abbrev pub first_of : List (List ℕ) → Option (List ℕ)
first_of [] = None
first_of (value ∷ values) = Some value

-- the fields that spans show in bytes
abbrev pub fields_at : List ℕ → List HeaderSpan → List (List ℕ × List ℕ)
fields_at bytes headers = map (header_bytes bytes) headers

-- a length's digits are at most so many
abbrev pub max_digits : ℕ
max_digits = 19

-- the length that 1 to 19 digits write
abbrev pub read_length : List ℕ → Option ℕ
read_length text =
    if nat_le 1 (length text) && nat_le (length text) max_digits && list_all is_ascii_digit text
    then Some (digits_value 10 text) else None
