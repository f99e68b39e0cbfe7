-- Values that stand in many answers: ids, moments, times, formats and tags (our own profile of the
-- Time-addressable Media Store).
use Rattle.std.specs.Prelude.{ℕ, ℤ, List, [], ◌∷◌, Bool, true, false, Option, codes, map}
use Rattle.json.specs.Token.{Token}
use Rattle.json.specs.Lex.{tokens}
use Rattle.media_rows.specs.Digests.{digest_text}
use Rattle.media_rows.specs.Formats.{format_name, event_name, status_name, hook_status_name}
use Rattle.media_rows.specs.Ids.{id_text}
use Rattle.media_rows.specs.Moments.{moment_text}
use Rattle.media_rows.specs.declared.event.EventKind.{EventKind}
use Rattle.media_rows.specs.declared.flow.FormatKind.{FormatKind}
use Rattle.media_rows.specs.declared.flow.Member.{Member as Collected}
use Rattle.media_rows.specs.declared.flow.Tag.{Tag}
use Rattle.media_rows.specs.declared.object.Digest.{Digest}
use Rattle.media_rows.specs.declared.request.DeleteStatus.{DeleteStatus}
use Rattle.time_range.specs.Printing.{canonical_ts_text, canonical_range_text}
use Rattle.time_range.specs.declared.ranges.Span.{Span}
use Rattle.json_replies.specs.Shapes.{string_value, list_tokens, object_tokens, ObjectMember, always, where_set}

-- the id of a source, a flow or the store
abbrev pub id_value : ℕ → List Token
id_value id = string_value (id_text id)

-- a digest, in hexadecimal digits
abbrev pub digest_value : Digest → List Token
digest_value digest = string_value (digest_text digest)

-- a moment
abbrev pub moment_value : ℕ → List Token
moment_value moment = string_value (moment_text moment)

-- a timestamp
abbrev pub stamp_value : ℤ → List Token
stamp_value nanos = string_value (canonical_ts_text nanos)

-- a timerange
abbrev pub range_value : Option Span → List Token
range_value range = string_value (canonical_range_text range)

-- a format, an event, the state of a delete request and that of a hook, each by its name
abbrev pub format_value : FormatKind → List Token
format_value format = string_value (format_name format)

abbrev pub event_value : EventKind → List Token
event_value event = string_value (event_name event)

abbrev pub status_value : DeleteStatus → List Token
status_value status = string_value (status_name status)

abbrev pub hook_status_value : Bool → List Token
hook_status_value failed = string_value (hook_status_name failed)

-- a text that is JSON itself, as it stands
unfoldable pub kept_value : List ℕ → List Token
kept_value text = tokens text

-- the values of a tag: the text alone where the tag is a single one, and otherwise their list
abbrev pub value_lists : Bool → List (List ℕ) → List Token
value_lists true (text ∷ []) = string_value text
value_lists true [] = list_tokens string_value []
value_lists true (text ∷ next ∷ more) = list_tokens string_value (text ∷ next ∷ more)
value_lists false texts = list_tokens string_value texts

-- a tag's value
abbrev pub tag_value : Tag → List Token
tag_value tag = value_lists tag.single tag.values

-- a tag as a member of the object of tags
abbrev pub tag_member : Tag → ObjectMember
tag_member tag = always tag.name (tag_value tag)

-- tags, in their order
abbrev pub tags_value : List Tag → List Token
tags_value tags = object_tokens (map tag_member tags)

-- the members of a flow that another one collects
abbrev pub collected_members : Collected → List ObjectMember
collected_members m =
    always (codes "id") (id_value m.flow)
    ∷ where_set (codes "role") string_value m.role
    ∷ []

-- a flow that another one collects
abbrev pub collected_value : Collected → List Token
collected_value m = object_tokens (collected_members m)

-- a flow's collection
abbrev pub collection_value : List Collected → List Token
collection_value members = list_tokens collected_value members
