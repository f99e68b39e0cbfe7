-- Parts of sources and flows: the name of the part that a path names, and the values that set and
-- clear it. Our own profile of the Time-addressable Media Store.
use Rattle.std.specs.Prelude.{ℕ, List, [], None, Result, Ok, Err, if◌then◌else◌}
use Rattle.http_routes.specs.declared.route.FlowPart.{FlowPart}
use Rattle.http_routes.specs.declared.route.FlowPart.TheVariants as of_flow
use Rattle.http_routes.specs.declared.route.SourcePart.{SourcePart}
use Rattle.http_routes.specs.declared.route.SourcePart.TheVariants as of_source
use Rattle.json_bodies.specs.Part.{is_all_tags, part_in}
use Rattle.json_bodies.specs.Rules.{◌>>=◌}
use Rattle.media_rows.specs.declared.part.Part.{Part}
use Rattle.media_rows.specs.declared.part.Part.TheVariants as parts
use Rattle.media_rows.specs.declared.part.PartName.{PartName}
use Rattle.media_rows.specs.declared.part.PartName.TheVariants as names
use Rattle.media_rows.specs.declared.refusal.Refusal.{Refusal}
use Rattle.media_rows.specs.declared.refusal.Refusal.TheVariants.{NoMethod}
use Rattle.tams_http.specs.Named.{tag_at}

-- the part of a source that a path names
abbrev pub source_part_name : SourcePart → List ℕ → Result PartName Refusal
source_part_name of_source.Tags path = Ok names.Tags
source_part_name of_source.Tag path = tag_at path >>= λ name. Ok (names.Tag name)
source_part_name of_source.Label path = Ok names.Label
source_part_name of_source.Description path = Ok names.Description

-- the part of a flow that a path names
abbrev pub flow_part_name : FlowPart → List ℕ → Result PartName Refusal
flow_part_name of_flow.Tags path = Ok names.Tags
flow_part_name of_flow.Tag path = tag_at path >>= λ name. Ok (names.Tag name)
flow_part_name of_flow.Label path = Ok names.Label
flow_part_name of_flow.Description path = Ok names.Description
flow_part_name of_flow.ReadOnly path = Ok names.ReadOnly
flow_part_name of_flow.Collection path = Ok names.Collection
flow_part_name of_flow.MaxBitRate path = Ok names.MaxBitRate
flow_part_name of_flow.AvgBitRate path = Ok names.AvgBitRate

-- a part as a body sets it; all tags are never set at once
abbrev pub set_part : PartName → List ℕ → Result Part Refusal
set_part name body = if is_all_tags name then Err NoMethod else part_in name body

-- a part as it is cleared; the mark of a flow and all tags at once never are
abbrev pub cleared_part : PartName → Result Part Refusal
cleared_part (names.Tag name) = Ok (parts.Tag name None)
cleared_part names.Tags = Err NoMethod
cleared_part names.Label = Ok (parts.Label None)
cleared_part names.Description = Ok (parts.Description None)
cleared_part names.ReadOnly = Err NoMethod
cleared_part names.Collection = Ok (parts.Collection [])
cleared_part names.MaxBitRate = Ok (parts.MaxBitRate None)
cleared_part names.AvgBitRate = Ok (parts.AvgBitRate None)
