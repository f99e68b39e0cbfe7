use Rattle.std.proofs.Common.{◌≡◌, drop}
use Rattle.http_wire.specs.Fields.{first_of, fields_at, field_values}
use Rattle.http_wire.proofs.fields.first_value.Given as goal

-- what the rest gives is what all give
abbrev pub invariant-loop-header : goal.invariant-loop-header
invariant-loop-header l = first_of (field_values l.name (fields_at l.bytes (drop l.header-index l.headers))) ≡ first_of (field_values l.name (fields_at
    l.bytes l.headers))
