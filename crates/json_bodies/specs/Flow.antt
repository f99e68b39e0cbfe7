-- Bodies of flows. Members that only the store sets are ignored, as are all unknown ones.
use Rattle.std.specs.Prelude.{ℕ, List, [], Bool, false, ◌&&◌, ◌==◌, nat_le, length, Option, Some, None, Result, Ok, Err, unwrap_or, option_and_then, option_map, find, bytes_eq, codes, ⊤}
use Rattle.std.specs.List.{list_all}
use Rattle.serde_json.specs.Data.{Data, Members, no_members, member}
use Rattle.serde_json.specs.Find.{as_str, as_object}
use Rattle.serde_json.specs.Written.{compact_text}
use Rattle.media_rows.specs.declared.flow.FlowBody.{FlowBody}
use Rattle.media_rows.specs.declared.flow.FormatKind.{FormatKind}
use Rattle.media_rows.specs.declared.flow.Tag.{Tag}
use Rattle.media_rows.specs.declared.refusal.Refusal.{Refusal}
use Rattle.media_rows.specs.declared.refusal.Refusal.TheVariants.{Missing}
use Rattle.media_rows.specs.Essence.{is_object}
use Rattle.media_rows.specs.Formats.{all_formats, format_name}
use Rattle.json_bodies.specs.declared.fault.Breach.{Breach}
use Rattle.json_bodies.specs.declared.flow.Origin.{Origin}
use Rattle.json_bodies.specs.declared.flow.FlowTexts.{FlowTexts}
use Rattle.json_bodies.specs.declared.flow.FlowNumbers.{FlowNumbers}
use Rattle.json_bodies.specs.declared.flow.FlowContents.{FlowContents}
use Rattle.json_bodies.specs.Rules.{◌>>=◌, optional_member, required, judged, of_kind, has_at_most, id, id_of_value, text, truth, whole, longest_text, longest_description, last_whole}
use Rattle.json_bodies.specs.Kinds.{tested, with_item, tag_of_value, has_short_values, collection}
use Rattle.json_bodies.specs.Body.{value_in, checked_object}

-- ---- the id, the source and the format

-- the id that the path names
abbrev pub same_id : ℕ → Data → Result ℕ Breach
same_id id value = of_kind (option_and_then (tested (λ other. other == id)) (id_of_value value))

-- the format of a name
abbrev pub format_of : List ℕ → Option FormatKind
format_of name = find (λ kind. bytes_eq name (format_name kind)) all_formats

-- a format
abbrev pub format : Data → Result FormatKind Breach
format value = of_kind (option_and_then format_of (as_str value))

-- any value
abbrev pub anything : Data → Result ⊤ Breach
anything value = Ok tt

-- a source that has to be there
abbrev pub named_source : Option ℕ → Result ℕ Refusal
named_source None = Err (Missing (codes "source_id"))
named_source (Some source) = Ok source

-- The source and the format. A source that is there is tested first; then the format has to be
-- there, then the source, and then the format is tested.
abbrev pub origin_of : Data → Result Origin Refusal
origin_of fields =
    optional_member (codes "source_id") id fields >>= λ found.
    required (codes "format") anything fields >>= λ _.
    named_source found >>= λ source.
    required (codes "format") format fields >>= λ kind.
    Ok (record { source = source; format = kind })

-- ---- texts and numbers

-- the texts of a flow
abbrev pub flow_texts : Data → Result FlowTexts Refusal
flow_texts fields =
    optional_member (codes "codec") (text longest_text) fields >>= λ codec.
    optional_member (codes "container") (text longest_text) fields >>= λ container.
    optional_member (codes "label") (text longest_text) fields >>= λ label.
    optional_member (codes "description") (text longest_description) fields >>= λ description.
    Ok (record { codec = codec; container = container; label = label; description = description })

-- the mark and the numbers of a flow
abbrev pub numbers_of : Data → Result FlowNumbers Refusal
numbers_of fields =
    optional_member (codes "read_only") truth fields >>= λ mark.
    optional_member (codes "max_bit_rate") (whole 0 last_whole) fields >>= λ max_bit_rate.
    optional_member (codes "avg_bit_rate") (whole 0 last_whole) fields >>= λ avg_bit_rate.
    Ok (record {
      read_only = unwrap_or mark false;
      max_bit_rate = max_bit_rate;
      avg_bit_rate = avg_bit_rate;
    })

-- ---- tags, collected flows and essence parameters

-- the most tags of a flow
abbrev pub most_tags : ℕ
most_tags = 256

-- the bytes of the longest name of a tag
abbrev pub longest_tag_name : ℕ
longest_tag_name = 128

-- the tags that members are, by their names, where each is one
abbrev pub each_tag : Members → Option (List Tag)
each_tag no_members = Some []
each_tag (member name value members) = with_item (tag_of_value name value) (each_tag members)

-- a tag's name and its values are of allowed length
abbrev pub is_short_tag : Tag → Bool
is_short_tag tag = has_at_most longest_tag_name tag.name && has_short_values tag

-- a tag has a name
abbrev pub has_name : Tag → Bool
has_name tag = nat_le 1 (length tag.name)

-- there aren't too many tags, and each has a name
abbrev pub are_tags_in_range : List Tag → Bool
are_tags_in_range tags = has_at_most most_tags tags && list_all has_name tags

-- tags
abbrev pub tags : Data → Result (List Tag) Breach
tags value =
    judged (list_all is_short_tag) are_tags_in_range (option_and_then each_tag (as_object value))

-- the compact text of an object, with the keys of each object in it in byte order
abbrev pub essence : Data → Result (List ℕ) Breach
essence value = of_kind (option_map compact_text (tested is_object value))

-- what a flow holds besides
abbrev pub flow_contents : Data → Result FlowContents Refusal
flow_contents fields =
    optional_member (codes "tags") tags fields >>= λ found.
    optional_member (codes "flow_collection") collection fields >>= λ members.
    optional_member (codes "essence_parameters") essence fields >>= λ essence.
    Ok (record { tags = unwrap_or found []; members = unwrap_or members []; essence = essence })

-- ---- the flow

-- the flow of an id that an object spells
abbrev pub flow_body_of : ℕ → Data → Result FlowBody Refusal
flow_body_of id fields =
    optional_member (codes "id") (same_id id) fields >>= λ _.
    origin_of fields >>= λ origin.
    flow_texts fields >>= λ texts.
    numbers_of fields >>= λ numbers.
    flow_contents fields >>= λ contents.
    Ok (record {
      id = id;
      source = origin.source;
      format = origin.format;
      read_only = numbers.read_only;
      codec = texts.codec;
      container = texts.container;
      label = texts.label;
      description = texts.description;
      max_bit_rate = numbers.max_bit_rate;
      avg_bit_rate = numbers.avg_bit_rate;
      tags = contents.tags;
      members = contents.members;
      essence = contents.essence;
    })

-- the flow of an id that a body spells
abbrev pub flow_in : ℕ → List ℕ → Result FlowBody Refusal
flow_in id body = value_in body >>= λ value. checked_object value >>= λ _. flow_body_of id value
