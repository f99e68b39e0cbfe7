-- The value that a body spells: JSON (RFC 8259) in UTF-8, each number of which is a whole number of
-- 64 bits.
use Rattle.std.specs.Prelude.{ℕ, List, Option, Some, None, Result, Ok, Err, if◌then◌else◌, codes, ⊤}
use Rattle.std.specs.Str.{is_utf8}
use Rattle.serde_json.specs.Data.{Data}
use Rattle.serde_json.specs.Read.{read}
use Rattle.serde_json.specs.Written.{has_float}
use Rattle.media_rows.specs.declared.refusal.Refusal.{Refusal}
use Rattle.media_rows.specs.declared.refusal.Refusal.TheVariants.{NotJson, Fractional, WrongKind}
use Rattle.media_rows.specs.Essence.{is_object}

-- the JSON value that bytes spell; in it an object has each key once, with the last of its values
unfoldable pub json_in : List ℕ → Option Data
json_in bytes = if is_utf8 bytes then read bytes else None

-- a value without a fraction. A number that is no whole number of 64 bits is one, and so is `-0`.
abbrev pub without_fraction : Option Data → Result Data Refusal
without_fraction None = Err NotJson
without_fraction (Some value) = if has_float value then Err Fractional else Ok value

-- the value that a body spells
abbrev pub value_in : List ℕ → Result Data Refusal
value_in body = without_fraction (json_in body)

-- that a value is an object
abbrev pub checked_object : Data → Result ⊤ Refusal
checked_object value = if is_object value then Ok tt else Err (WrongKind (codes "body"))
