-- Bodies that post segments: one object, or a list of them.
use Rattle.std.specs.Prelude.{ℕ, suc, ℤ, pos, int_le, List, [], ◌∷◌, Bool, true, ◌&&◌, nat_le, Option, Some, None, Result, Ok, Err, unwrap_or, option_and_then, if◌then◌else◌, codes}
use Rattle.serde_json.specs.Data.{Data, Items, no_items, item}
use Rattle.serde_json.specs.Find.{as_str, as_array}
use Rattle.time_range.specs.Spelled.{ts_in, range_in}
use Rattle.time_range.specs.declared.ranges.Span.{Span}
use Rattle.media_rows.specs.declared.segment.PostList.{PostList}
use Rattle.media_rows.specs.declared.segment.Segment.{Segment}
use Rattle.media_rows.specs.declared.refusal.Refusal.{Refusal}
use Rattle.media_rows.specs.declared.refusal.Refusal.TheVariants.{OutOfRange}
use Rattle.media_rows.specs.Essence.{is_object}
use Rattle.media_rows.specs.Ids.{is_object_id}
use Rattle.media_rows.specs.Ranges.{has_both_ends}
use Rattle.json_bodies.specs.declared.fault.Breach.{Breach}
use Rattle.json_bodies.specs.declared.fault.Breach.TheVariants.{WrongKind, BadTimerange}
use Rattle.json_bodies.specs.declared.segments.Samples.{Samples}
use Rattle.json_bodies.specs.Rules.{◌>>=◌, optional_member, required, of_kind, is_any, whole, last_whole}
use Rattle.json_bodies.specs.Kinds.{tested, object_id_value}
use Rattle.json_bodies.specs.Body.{value_in}

-- ---- times

-- a time that was read, where it passes the test
abbrev pub timed : {X : Type 0} → (X → Bool) → Option X → Result X Breach
timed test None = Err BadTimerange
timed test (Some time) = if test time then Ok time else Err BadTimerange

-- the time that a text spells, where there is a text
abbrev pub spelled : {X : Type 0} → (List ℕ → Option X) → (X → Bool) → Option (List ℕ)
    → Result X Breach
spelled time_in test None = Err WrongKind
spelled time_in test (Some text) = timed test (time_in text)

-- a timerange that is bounded at both ends and isn't never
abbrev pub bounded : Data → Result (Option Span) Breach
bounded value = spelled range_in has_both_ends (as_str value)

-- a timestamp
abbrev pub offset : Data → Result ℤ Breach
offset value = spelled ts_in is_any (as_str value)

-- the time isn't below zero
abbrev pub is_not_negative : ℤ → Bool
is_not_negative nanos = int_le (pos 0) nanos

-- a timestamp that isn't below zero
abbrev pub duration : Data → Result ℤ Breach
duration value = spelled ts_in is_not_negative (as_str value)

-- ---- one segment

-- the id of an object
abbrev pub object_id : Data → Result (List ℕ) Breach
object_id value = of_kind (object_id_value value)

-- a number of samples or of frames
abbrev pub whole_number : Data → Result ℕ Breach
whole_number value = whole 0 last_whole value

-- what a segment says of samples
abbrev pub samples_of : Data → Result Samples Refusal
samples_of fields =
    optional_member (codes "sample_offset") whole_number fields >>= λ offset.
    optional_member (codes "sample_count") whole_number fields >>= λ count.
    optional_member (codes "key_frame_count") whole_number fields >>= λ key_frames.
    Ok (record { offset = unwrap_or offset 0; count = count; key_frames = key_frames })

-- the segment that an object spells
abbrev pub segment_of : Data → Result Segment Refusal
segment_of fields =
    required (codes "object_id") object_id fields >>= λ id.
    required (codes "timerange") bounded fields >>= λ range.
    optional_member (codes "ts_offset") offset fields >>= λ ts_offset.
    optional_member (codes "last_duration") duration fields >>= λ last_duration.
    samples_of fields >>= λ samples.
    Ok (record {
      object = id;
      range = range;
      ts_offset = unwrap_or ts_offset (pos 0);
      last_duration = last_duration;
      sample_offset = samples.offset;
      sample_count = samples.count;
      key_frames = samples.key_frames;
    })

-- ---- a post

-- the most segments of one post
abbrev pub most_segments : ℕ
most_segments = 1000

-- each item is an object
abbrev pub are_objects : Items → Bool
are_objects no_items = true
are_objects (item value values) = is_object value && are_objects values

-- the number of the items
abbrev pub item_count : Items → ℕ
item_count no_items = 0
item_count (item value values) = suc (item_count values)

-- a list of at least one object, and not too many
abbrev pub is_post_list : Items → Bool
is_post_list values =
    (nat_le 1 (item_count values) && nat_le (item_count values) most_segments) && are_objects values

-- the objects of a post, which is one object or such a list
abbrev pub post_items : Data → Option Items
post_items value =
    if is_object value then Some (item value no_items)
    else option_and_then (tested is_post_list) (as_array value)

-- the segments of objects, or the first refusal in the first object that has one
abbrev pub segments_from : Items → Result (List Segment) Refusal
segments_from no_items = Ok []
segments_from (item value values) =
    segment_of value >>= λ first. segments_from values >>= λ later. Ok (first ∷ later)

-- the segments of a post
abbrev pub segments_in_items : Option Items → Result (List Segment) Refusal
segments_in_items None = Err (OutOfRange (codes "body"))
segments_in_items (Some values) = segments_from values

-- the post that a value spells, which is single where it is an object
abbrev pub post_of : Data → Result PostList Refusal
post_of value =
    segments_in_items (post_items value) >>= λ segments.
    Ok (record { single = is_object value; segments = segments })

-- the segments that a body posts
abbrev pub segments_in : List ℕ → Result PostList Refusal
segments_in body = value_in body >>= post_of

-- the segment names an object by its id, is bounded at both ends and isn't never
abbrev pub is_post_good : Segment → Bool
is_post_good segment = is_object_id segment.object && has_both_ends segment.range
