use Rattle.std.proofs.Common.{◌≡◌, ◌++◌, take}
use Rattle.std.specs.List.{flat_map}
use Rattle.http_wire.specs.Response.{field_line}
use Rattle.http_wire.proofs.response.append_fields.Given as goal

-- the lines of the fields so far stand behind what was there
abbrev pub invariant-loop-field : goal.invariant-loop-field
invariant-loop-field l =
    l.text ≡ l.fn.text ++ flat_map field_line (take l.field-index l.fields)
