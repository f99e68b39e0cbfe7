-- A library with two or three of each thing, written out row by row. No serial and no moment stands
-- in it twice. Our own example.
use Rattle.std.specs.Prelude.{ℕ, List, [], ◌∷◌, true, false, Option, Some, None, codes}
use Rattle.time_range.specs.declared.ranges.Span.{Span}
use Rattle.media_rows.specs.declared.event.EventKind.{EventKind}
use Rattle.media_rows.specs.declared.event.EventKind.TheVariants.{FlowUpdated, FlowDeleted, SegmentsAdded, SegmentsDeleted, SourceUpdated, SourceDeleted}
use Rattle.media_rows.specs.declared.event.EventRow.{EventRow}
use Rattle.media_rows.specs.declared.flow.FlowBody.{FlowBody}
use Rattle.media_rows.specs.declared.flow.FlowRow.{FlowRow}
use Rattle.media_rows.specs.declared.flow.FormatKind.TheVariants.{Video, Audio, Multi}
use Rattle.media_rows.specs.declared.flow.Tag.{Tag}
use Rattle.media_rows.specs.declared.hook.HookRow.{HookRow}
use Rattle.media_rows.specs.declared.object.ObjectRow.{ObjectRow}
use Rattle.media_rows.specs.declared.object.ObjectState.TheVariants.{Allocated, Stored}
use Rattle.media_rows.specs.declared.request.DeleteRow.{DeleteRow}
use Rattle.media_rows.specs.declared.request.DeleteStatus.TheVariants.{Started, Done}
use Rattle.media_rows.specs.declared.segment.SegmentRow.{SegmentRow}
use Rattle.media_rows.specs.declared.source.SourceRow.{SourceRow}
use Rattle.media_rows.specs.Catalog.{Catalog}
use Rattle.media_rows.specs.Formats.{all_events}
use Rattle.media_rows.specs.Library.{Library}
use Rattle.media_rows.specs.Ranges.{eternity}
use Rattle.library_examples.specs.Examples.{first_flow, second_flow, one_source, body, body_of, member, piece, piece_of, seconds}

-- the id of the third flow, whose text ends in `f3`
abbrev pub third_flow : ℕ
third_flow = 243

-- the id of the other source, whose text ends in `a2`
abbrev pub other_source : ℕ
other_source = 162

-- ---- sources

-- a tag of two values
abbrev pub place_tag : Tag
place_tag = record {
  name = codes "place";
  single = false;
  values = codes "hall" ∷ codes "stage" ∷ [];
}

-- a tag that was given as a text
abbrev pub take_tag : Tag
take_tag = record { name = codes "take"; single = true; values = codes "7" ∷ [] }

-- a source of which everything is said
abbrev pub left_source : SourceRow
left_source = record {
  id = one_source;
  format = Video;
  label = Some (codes "left");
  description = Some (codes "the left camera");
  tags = place_tag ∷ [];
  created = 101;
  updated = 102;
}

-- a source of which nothing is said
abbrev pub bare_source : SourceRow
bare_source = record {
  id = other_source;
  format = Audio;
  label = None;
  description = None;
  tags = [];
  created = 103;
  updated = 104;
}

-- ---- flows

-- a flow of which everything is said but what it collects
abbrev pub main_body : FlowBody
main_body = record (body first_flow Video []) {
  codec = Some (codes "h264");
  container = Some (codes "mp4");
  label = Some (codes "main");
  description = Some (codes "the picture");
  max_bit_rate = Some 9000;
  avg_bit_rate = Some 8000;
  tags = place_tag ∷ take_tag ∷ [];
}

-- a read-only flow of the other source
abbrev pub sound_body : FlowBody
sound_body = record (body_of second_flow other_source Audio []) {
  read_only = true;
  codec = Some (codes "aac");
}

-- a flow that collects both
abbrev pub both_body : FlowBody
both_body = record (body third_flow Multi []) {
  label = Some (codes "both");
  members = record { flow = first_flow; role = Some (codes "picture") } ∷ member second_flow ∷ [];
}

-- the first flow as it is kept
abbrev pub main_flow : FlowRow
main_flow = record {
  body = main_body;
  created = 111;
  metadata_updated = 112;
  segments_updated = Some 113;
}

-- the second flow as it is kept
abbrev pub sound_flow : FlowRow
sound_flow = record {
  body = sound_body;
  created = 114;
  metadata_updated = 115;
  segments_updated = None;
}

-- the third flow as it is kept
abbrev pub both_flow : FlowRow
both_flow = record {
  body = both_body;
  created = 116;
  metadata_updated = 117;
  segments_updated = Some 118;
}

-- ---- objects and segments

-- an object of three bytes, which the first flow names twice and the third once
abbrev pub object_a : ObjectRow
object_a = record { id = codes "a"; serial = 1; state = Stored 0 3 None; idle_since = 121 }

-- an object of one byte more than a block, which one segment names
abbrev pub object_b : ObjectRow
object_b = record { id = codes "b"; serial = 2; state = Stored 1 4097 None; idle_since = 122 }

-- an object without bytes
abbrev pub object_c : ObjectRow
object_c = record { id = codes "c"; serial = 3; state = Allocated; idle_since = 123 }

-- the first flow's second segment, which was posted first
abbrev pub later_piece : SegmentRow
later_piece = record { flow = first_flow; serial = 4; segment = piece 10 20 }

-- the first flow's first segment, of the other object
abbrev pub early_piece : SegmentRow
early_piece = record { flow = first_flow; serial = 5; segment = piece_of (codes "b") 0 10 }

-- the third flow's one segment
abbrev pub third_piece : SegmentRow
third_piece = record { flow = third_flow; serial = 6; segment = piece 5 7 }

-- the first flow's last segment
abbrev pub last_piece : SegmentRow
last_piece = record { flow = first_flow; serial = 7; segment = piece 20 30 }

-- ---- delete requests

-- an unfinished request of a range, which doesn't delete the flow
abbrev pub open_request : DeleteRow
open_request = record {
  serial = 8;
  flow = first_flow;
  range = seconds 0 10;
  delete_flow = false;
  status = Started;
  created = 131;
  updated = 132;
}

-- a done request
abbrev pub done_request : DeleteRow
done_request = record {
  serial = 9;
  flow = second_flow;
  range = eternity;
  delete_flow = false;
  status = Done;
  created = 133;
  updated = 134;
}

-- ---- hooks and events

-- a hook that takes every kind, of the first flow alone
abbrev pub one_hook : HookRow
one_hook = record {
  serial = 10;
  hook = record {
    url = codes "http://one/";
    events = all_events;
    key_name = Some (codes "key");
    key_value = Some (codes "secret");
    flow_ids = Some (first_flow ∷ []);
    source_ids = Some (one_source ∷ []);
  };
  failed = false;
}

-- a hook that takes no post, of two flows and of a source that only the first of them has
abbrev pub two_hook : HookRow
two_hook = record {
  serial = 11;
  hook = record {
    url = codes "http://two/";
    events = FlowUpdated ∷ FlowDeleted ∷ SegmentsDeleted ∷ SourceUpdated ∷ SourceDeleted ∷ [];
    key_name = None;
    key_value = None;
    flow_ids = Some (first_flow ∷ second_flow ∷ []);
    source_ids = Some (one_source ∷ []);
  };
  failed = false;
}

-- an event that waits for a hook
abbrev pub event : ℕ → ℕ → EventKind → ℕ → Option (Option Span) → ℕ → EventRow
event serial hook kind subject range moment = record {
  serial = serial;
  hook = hook;
  kind = kind;
  subject = subject;
  range = range;
  moment = moment;
}

-- two events wait for the first hook, and one for the second
abbrev pub studio_events : List EventRow
studio_events =
    event 12 10 FlowUpdated first_flow None 141
    ∷ event 13 11 SourceUpdated one_source None 142
    ∷ event 14 10 SegmentsAdded first_flow (Some (seconds 10 20)) 143 ∷ []

-- ---- the library

-- two sources and three flows
abbrev pub studio_catalog : Catalog
studio_catalog = record {
  sources = left_source ∷ bare_source ∷ [];
  flows = main_flow ∷ sound_flow ∷ both_flow ∷ [];
}

-- all of these, in a store of id 1 with 46 media blocks
abbrev pub studio : Library
studio = record {
  id = 1;
  blocks = 46;
  catalog = studio_catalog;
  segments = later_piece ∷ early_piece ∷ third_piece ∷ last_piece ∷ [];
  objects = object_a ∷ object_b ∷ object_c ∷ [];
  requests = open_request ∷ done_request ∷ [];
  outbox = record { hooks = one_hook ∷ two_hook ∷ []; events = studio_events };
  next_serial = 15;
}
