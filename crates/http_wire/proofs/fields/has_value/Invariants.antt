use Rattle.std.proofs.Common.{◌≡◌, drop}
use Rattle.std.specs.List.{list_any}
use Rattle.http_wire.specs.Fields.{same_text, fields_at, field_values}
use Rattle.http_wire.proofs.fields.has_value.Given as goal

-- what the rest gives is what all give
abbrev pub invariant-loop-header : goal.invariant-loop-header
invariant-loop-header l = list_any (same_text l.text) (field_values l.name (fields_at l.bytes (drop l.header-index l.headers))) ≡ list_any (same_text
    l.text) (field_values l.name (fields_at l.bytes l.headers))
