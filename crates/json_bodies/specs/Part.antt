-- Bodies of single parts: the part's value alone.
use Rattle.std.specs.Prelude.{ℕ, List, Bool, true, false, ◌&&◌, Some, Result, Ok, Err, codes}
use Rattle.std.specs.List.{list_all}
use Rattle.std.specs.Str.{is_utf8}
use Rattle.serde_json.specs.Data.{Data}
use Rattle.media_rows.specs.declared.part.Part.{Part}
use Rattle.media_rows.specs.declared.part.Part.TheVariants as parts
use Rattle.media_rows.specs.declared.part.PartName.{PartName}
use Rattle.media_rows.specs.declared.part.PartName.TheVariants as names
use Rattle.media_rows.specs.declared.refusal.Refusal.{Refusal}
use Rattle.media_rows.specs.declared.refusal.Refusal.TheVariants as refusals
use Rattle.media_rows.specs.Good.{if_there, is_tag_text, is_member_text}
use Rattle.json_bodies.specs.Rules.{◌>>=◌, named_result, text, truth, whole, longest_text, longest_description, last_whole}
use Rattle.json_bodies.specs.Kinds.{tag_rule, collection}
use Rattle.json_bodies.specs.Body.{value_in}

-- the name stands for all tags, which aren't set at once
abbrev pub is_all_tags : PartName → Bool
is_all_tags names.Tags = true
is_all_tags _ = false

-- a bit rate
abbrev pub rate : List ℕ → Data → Result ℕ Refusal
rate name value = named_result name (whole 0 last_whole value)

-- The part that a value spells. A fault names the part, for a tag `tags`; that all tags are set is
-- never asked.
abbrev pub part_from : PartName → Data → Result Part Refusal
part_from (names.Tag name) value =
    named_result (codes "tags") (tag_rule name value) >>= λ tag. Ok (parts.Tag name (Some tag))
part_from names.Tags value = Err (refusals.WrongKind (codes "tags"))
part_from names.Label value =
    named_result (codes "label") (text longest_text value)
    >>= λ label. Ok (parts.Label (Some label))
part_from names.Description value =
    named_result (codes "description") (text longest_description value)
    >>= λ description. Ok (parts.Description (Some description))
part_from names.ReadOnly value =
    named_result (codes "read_only") (truth value) >>= λ mark. Ok (parts.ReadOnly mark)
part_from names.Collection value =
    named_result (codes "flow_collection") (collection value)
    >>= λ members. Ok (parts.Collection members)
part_from names.MaxBitRate value =
    rate (codes "max_bit_rate") value >>= λ rate. Ok (parts.MaxBitRate (Some rate))
part_from names.AvgBitRate value =
    rate (codes "avg_bit_rate") value >>= λ rate. Ok (parts.AvgBitRate (Some rate))

-- the part that a body spells
abbrev pub part_in : PartName → List ℕ → Result Part Refusal
part_in name body = value_in body >>= part_from name

-- a tag's name is UTF-8
abbrev pub is_name_text : PartName → Bool
is_name_text (names.Tag name) = is_utf8 name
is_name_text _ = true

-- each text of a part is UTF-8
abbrev pub is_part_text : Part → Bool
is_part_text (parts.Tag name tag) = is_utf8 name && if_there is_tag_text tag
is_part_text (parts.Label label) = if_there is_utf8 label
is_part_text (parts.Description description) = if_there is_utf8 description
is_part_text (parts.ReadOnly mark) = true
is_part_text (parts.Collection members) = list_all is_member_text members
is_part_text (parts.MaxBitRate rate) = true
is_part_text (parts.AvgBitRate rate) = true
