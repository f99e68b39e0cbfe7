use Rattle.std.proofs.Common.{◌≡◌, ◌+◌, ◌≤◌, length, drop}
use Rattle.http_wire.specs.Fields.{fields_at, field_values}
use Rattle.http_wire.proofs.fields.count_values.Given as goal

-- what the rest gives is what all give
abbrev pub invariant-loop-header : goal.invariant-loop-header
invariant-loop-header l =
    (l.count + length (field_values l.name (fields_at l.bytes (drop l.header-index l.headers)))
    ≡ length (field_values l.name (fields_at l.bytes l.headers))) × (l.count ≤ l.header-index)
