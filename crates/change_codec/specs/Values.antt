-- The spelling of the values that stand in changes and rows: formats, events, tags, members, flows,
-- segments, digests, parts and hooks. A list of fields is their order in the file. Our own rules.
use Rattle.std.proofs.Common.{inl, inr}
use Rattle.std.specs.Prelude.{◌≡◌, ◌⊎◌, ◌==◌, ◌&&◌, ℕ, Bool, true, false, if◌then◌else◌, List, [], ◌∷◌, length, Option, Some, bytes_eq}
use Rattle.media_rows.specs.Formats.{format_number, event_number, all_formats, all_events}
use Rattle.media_rows.specs.Lists.{text_before}
use Rattle.media_rows.specs.declared.event.EventKind.{EventKind}
use Rattle.media_rows.specs.declared.flow.FormatKind.{FormatKind}
use Rattle.media_rows.specs.declared.flow.Tag.{Tag}
use Rattle.media_rows.specs.declared.flow.Member.{Member}
use Rattle.media_rows.specs.declared.flow.FlowBody.{FlowBody}
use Rattle.media_rows.specs.declared.object.Digest.{Digest}
use Rattle.media_rows.specs.declared.segment.PostList.{PostList}
use Rattle.media_rows.specs.declared.segment.Segment.{Segment}
use Rattle.media_rows.specs.declared.part.Part.{Part}
use Rattle.media_rows.specs.declared.part.Part.TheVariants as parts
use Rattle.media_rows.specs.declared.hook.Hook.{Hook}
use Rattle.field_codec.specs.Spelling.{Spelling, followed, pair, via, narrowed, where_is, either, no_kind, optional}
use Rattle.field_codec.specs.Leaves.{u64_spelling, u128_spelling, bool_spelling, ts_spelling, text_spelling, range_spelling, listed, one_of}

-- ---- formats and events

-- a format as its number
unfoldable pub kind_spelling : Spelling FormatKind
kind_spelling = one_of format_number all_formats

-- a kind of event as its number
unfoldable pub event_spelling : Spelling EventKind
event_spelling = one_of event_number all_events

-- ---- tags

-- a single tag has exactly one value
abbrev pub has_its_values : Tag → Bool
has_its_values tag = if tag.single then length tag.values == 1 else true

-- name, single, values
unfoldable pub tag_spelling : Spelling Tag
tag_spelling = where_is has_its_values (via
    (λ (name, (single, values)). record { name = name; single = single; values = values })
    (λ tag. (tag.name, (tag.single, tag.values)))
    (pair text_spelling (pair bool_spelling (listed text_spelling))))

-- each tag's name stands before the next one's, byte by byte
abbrev pub is_rising : List Tag → Bool
is_rising [] = true
is_rising (tag ∷ []) = true
is_rising (tag ∷ next ∷ tags) = text_before tag.name next.name && is_rising (next ∷ tags)

-- tags by rising name
unfoldable pub tags_spelling : Spelling (List Tag)
tags_spelling = where_is is_rising (listed tag_spelling)

-- ---- members, flows and segments

-- flow, role
unfoldable pub member_spelling : Spelling Member
member_spelling = via
    (λ (flow, role). record { flow = flow; role = role })
    (λ member. (member.flow, member.role))
    (pair u128_spelling (optional text_spelling))

-- a flow's id, source, format and read-only mark
abbrev pub FlowHead : Type 0
FlowHead = ℕ × (ℕ × (FormatKind × Bool))

-- how they are spelled
unfoldable pub flow_head_spelling : Spelling FlowHead
flow_head_spelling = pair u128_spelling (pair u128_spelling (pair kind_spelling bool_spelling))

-- a text that may be absent
abbrev pub TextOption : Type 0
TextOption = Option (List ℕ)

-- a flow's codec, container, label and description
abbrev pub FlowTexts : Type 0
FlowTexts = TextOption × (TextOption × (TextOption × TextOption))

-- how they are spelled
unfoldable pub flow_texts_spelling : Spelling FlowTexts
flow_texts_spelling =
    pair (optional text_spelling) (pair (optional text_spelling)
    (pair (optional text_spelling) (optional text_spelling)))

-- a flow's greatest and average bit rate, tags, members and essence text
abbrev pub FlowRest : Type 0
FlowRest = Option ℕ × (Option ℕ × (List Tag × (List Member × TextOption)))

-- how they are spelled
unfoldable pub flow_rest_spelling : Spelling FlowRest
flow_rest_spelling =
    pair (optional u64_spelling) (pair (optional u64_spelling)
    (pair tags_spelling (pair (listed member_spelling) (optional text_spelling))))

-- the flow with this head, these texts and this rest
abbrev pub flow_with : FlowHead → FlowTexts → FlowRest → FlowBody
flow_with (id, (source, (format, read_only))) (codec, (container, (label, description)))
    (max_bit_rate, (avg_bit_rate, (tags, (members, essence)))) =
    record {
      id = id;
      source = source;
      format = format;
      read_only = read_only;
      codec = codec;
      container = container;
      label = label;
      description = description;
      max_bit_rate = max_bit_rate;
      avg_bit_rate = avg_bit_rate;
      tags = tags;
      members = members;
      essence = essence;
    }

-- the head, the texts and the rest of a flow
unfoldable pub flow_spelling : Spelling FlowBody
flow_spelling = via
    (λ (head, (texts, rest)). flow_with head texts rest)
    (λ flow. (
      (flow.id, (flow.source, (flow.format, flow.read_only))),
      (
        (flow.codec, (flow.container, (flow.label, flow.description))),
        (flow.max_bit_rate, (flow.avg_bit_rate, (flow.tags, (flow.members, flow.essence)))),
      ),
    ))
    (pair flow_head_spelling (pair flow_texts_spelling flow_rest_spelling))

-- object, range, offset, duration of the last sample, sample offset, sample count, key frames
unfoldable pub segment_spelling : Spelling Segment
segment_spelling = via
    (λ (
      object,
      (range, (ts_offset, (last_duration, (sample_offset, (sample_count, key_frames))))),
    ). record {
      object = object;
      range = range;
      ts_offset = ts_offset;
      last_duration = last_duration;
      sample_offset = sample_offset;
      sample_count = sample_count;
      key_frames = key_frames;
    })
    (λ segment. (
      segment.object,
      (
        segment.range,
        (
          segment.ts_offset,
          (
            segment.last_duration,
            (segment.sample_offset, (segment.sample_count, segment.key_frames)),
          ),
        ),
      ),
    ))
    (pair text_spelling (pair range_spelling (pair ts_spelling (pair (optional ts_spelling)
    (pair u64_spelling (pair (optional u64_spelling) (optional u64_spelling)))))))

-- a post as a list of its segments: a single one has no spelling
unfoldable pub posts_spelling : Spelling PostList
posts_spelling = narrowed
    (λ segments. Some (record { single = false; segments = segments }))
    (λ posts. posts.segments)
    (λ posts. posts.single ≡ false) (λ posts. posts.single ≡ false) (listed segment_spelling)

-- ---- digests

-- the 32 bytes of a digest: its high half, then its low one
unfoldable pub digest_spelling : Spelling Digest
digest_spelling = via
    (λ (high, low). record { high = high; low = low })
    (λ digest. (digest.high, digest.low))
    (pair u128_spelling u128_spelling)

-- ---- parts

-- a tag of this name
abbrev pub named_tag : List ℕ → Spelling Tag
named_tag name = where_is (λ tag. bytes_eq tag.name name) tag_spelling

-- a tag's name, and the tag of that name where there is one
unfoldable pub tag_part_spelling : Spelling (List ℕ × Option Tag)
tag_part_spelling = followed text_spelling (λ name. optional (named_tag name))

-- The values of each part, in the order of their kinds. The parts of a source are the first three.
abbrev pub PartValues : Type 0
PartValues =
    (List ℕ × Option Tag)
    ⊎ (TextOption ⊎ (TextOption ⊎ (Bool ⊎ (List Member ⊎ (Option ℕ ⊎ (Option ℕ ⊎ ⊥))))))

-- the part with these values
abbrev pub part_of : PartValues → Part
part_of (inl p) = parts.Tag p.0 p.1
part_of (inr (inl text)) = parts.Label text
part_of (inr (inr (inl text))) = parts.Description text
part_of (inr (inr (inr (inl mark)))) = parts.ReadOnly mark
part_of (inr (inr (inr (inr (inl members))))) = parts.Collection members
part_of (inr (inr (inr (inr (inr (inl rate)))))) = parts.MaxBitRate rate
part_of (inr (inr (inr (inr (inr (inr (inl rate))))))) = parts.AvgBitRate rate
part_of (inr (inr (inr (inr (inr (inr (inr x))))))) = absurd x

-- the values of a part
abbrev pub part_values : Part → PartValues
part_values (parts.Tag name tag) = inl (name, tag)
part_values (parts.Label text) = inr (inl text)
part_values (parts.Description text) = inr (inr (inl text))
part_values (parts.ReadOnly mark) = inr (inr (inr (inl mark)))
part_values (parts.Collection members) = inr (inr (inr (inr (inl members))))
part_values (parts.MaxBitRate rate) = inr (inr (inr (inr (inr (inl rate)))))
part_values (parts.AvgBitRate rate) = inr (inr (inr (inr (inr (inr (inl rate))))))

-- the parts that flows and sources have, and further kinds
abbrev pub shared_parts : {B : Type 0} → Spelling B
    → Spelling ((List ℕ × Option Tag) ⊎ (TextOption ⊎ (TextOption ⊎ B)))
shared_parts others =
    either 1 tag_part_spelling
    (either 2 (optional text_spelling) (either 3 (optional text_spelling) others))

-- a part of a flow
unfoldable pub flow_part_spelling : Spelling Part
flow_part_spelling = via part_of part_values (shared_parts
    (either 4 bool_spelling
    (either 5 (listed member_spelling)
    (either 6 (optional u64_spelling)
    (either 7 (optional u64_spelling) no_kind)))))

-- a part of a source: the other parts have no spelling here
unfoldable pub source_part_spelling : Spelling Part
source_part_spelling = via part_of part_values (shared_parts no_kind)

-- ---- hooks

-- url, events, name and value of the key, flow ids, source ids
unfoldable pub hook_spelling : Spelling Hook
hook_spelling = via
    (λ (url, (events, (key_name, (key_value, (flow_ids, source_ids))))). record {
      url = url;
      events = events;
      key_name = key_name;
      key_value = key_value;
      flow_ids = flow_ids;
      source_ids = source_ids;
    })
    (λ hook.
    (hook.url, (hook.events, (hook.key_name, (hook.key_value, (hook.flow_ids, hook.source_ids))))))
    (pair text_spelling (pair (listed event_spelling)
    (pair (optional text_spelling) (pair (optional text_spelling)
    (pair (optional (listed u128_spelling)) (optional (listed u128_spelling)))))))
