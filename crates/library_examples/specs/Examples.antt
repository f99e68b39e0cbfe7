-- Small libraries that changes make, on which the definitions are computed. Our own examples.
use Rattle.std.specs.Prelude.{ℕ, ◌+◌, ◌*◌, pos, ◌-ℤ◌, List, [], ◌∷◌, true, false, Option, Some, None, map, codes}
use Rattle.time_range.specs.declared.ranges.Span.{Span}
use Rattle.media_rows.specs.declared.change.Change.{Change}
use Rattle.media_rows.specs.declared.change.Change.TheVariants as changes
use Rattle.media_rows.specs.declared.event.EventKind.TheVariants.{FlowCreated}
use Rattle.media_rows.specs.declared.event.EventRow.{EventRow}
use Rattle.media_rows.specs.declared.flow.FlowBody.{FlowBody}
use Rattle.media_rows.specs.declared.flow.FormatKind.{FormatKind}
use Rattle.media_rows.specs.declared.flow.FormatKind.TheVariants.{Video}
use Rattle.media_rows.specs.declared.flow.Member.{Member}
use Rattle.media_rows.specs.declared.hook.Hook.{Hook}
use Rattle.media_rows.specs.declared.object.Digest.{Digest}
use Rattle.media_rows.specs.declared.part.Part.{Part}
use Rattle.media_rows.specs.declared.part.Part.TheVariants as parts
use Rattle.media_rows.specs.declared.segment.PostList.{PostList}
use Rattle.media_rows.specs.declared.segment.Segment.{Segment}
use Rattle.media_rows.specs.Changes.{after}
use Rattle.media_rows.specs.Formats.{all_events}
use Rattle.media_rows.specs.Library.{Library, empty_library}
use Rattle.media_rows.specs.Lists.{numbers_below}
use Rattle.media_rows.specs.Outbox.{Outbox}

-- changes one after the other
abbrev pub after_all : List Change → Library → Library
after_all [] library = library
after_all (change ∷ later) library = after_all later (after change library)

-- the id of the first flow, whose text ends in `f1`
abbrev pub first_flow : ℕ
first_flow = 241

-- the id of the second flow, whose text ends in `f2`
abbrev pub second_flow : ℕ
second_flow = 242

-- the id of the source of both flows, whose text ends in `a1`
abbrev pub one_source : ℕ
one_source = 161

-- a flow of a source with this format and these collected flows, and with no other member
abbrev pub body_of : ℕ → ℕ → FormatKind → List Member → FlowBody
body_of id source format members = record {
  id = id;
  source = source;
  format = format;
  read_only = false;
  codec = None;
  container = None;
  label = None;
  description = None;
  max_bit_rate = None;
  avg_bit_rate = None;
  tags = [];
  members = members;
  essence = None;
}

-- the same of the one source
abbrev pub body : ℕ → FormatKind → List Member → FlowBody
body id format members = body_of id one_source format members

-- an entry of a flow, without a role
abbrev pub member : ℕ → Member
member flow = record { flow = flow; role = None }

-- a store of 46 media blocks
abbrev pub empty_store : Library
empty_store = empty_library 1 46

-- the PUT of a video flow of that source, which collects none
abbrev pub put : ℕ → ℕ → Change
put moment flow = changes.PutFlow moment (body flow Video [])

-- the PUT of a video flow that collects another one
abbrev pub put_collecting : ℕ → ℕ → ℕ → Change
put_collecting moment flow other = changes.PutFlow moment (body flow Video (member other ∷ []))

-- a second in points of half nanoseconds
abbrev pub second : ℕ
second = 2000000000

-- the range from one second to another, without the last instant
abbrev pub seconds : ℕ → ℕ → Option Span
seconds from to =
    Some (record { low = Some (pos (from * second)); high = Some (pos (to * second) -ℤ pos 1) })

-- a segment of an object from one second to another
abbrev pub piece_of : List ℕ → ℕ → ℕ → Segment
piece_of object from to = record {
  object = object;
  range = seconds from to;
  ts_offset = pos 0;
  last_duration = None;
  sample_offset = 0;
  sample_count = None;
  key_frames = None;
}

-- a segment of the one object
abbrev pub piece : ℕ → ℕ → Segment
piece from to = piece_of (codes "a") from to

-- segments that were posted as a list
abbrev pub a_list : List Segment → PostList
a_list segments = record { single = false; segments = segments }

-- a segment that was posted alone
abbrev pub alone : Segment → PostList
alone segment = record { single = true; segments = segment ∷ [] }

-- a digest of zeros
abbrev pub no_digest : Digest
no_digest = record { high = 0; low = 0 }

-- the first flow with the one object `a`, allocated by this change
abbrev pub allocate : List ℕ → Change
allocate object = changes.Allocate 0 first_flow (object ∷ [])

-- the first flow, with the one object `a` of three bytes at block 0, stored and named by no segment
abbrev pub stored : Library
stored =
    after_all
    (put 0 first_flow ∷ allocate (codes "a") ∷ changes.Store 0 (codes "a") 0 3 None ∷ [])
    empty_store

-- segments of the one object for so many seconds, one after the other, each of a second
abbrev pub pieces : ℕ → List Segment
pieces count = map (λ i. piece i (i + 1)) (numbers_below count)

-- a post of segments to the first flow
abbrev pub post : List Segment → Change
post segments = changes.AddSegments 0 first_flow (a_list segments)

-- the first flow with these segments, whose serials begin at 2
abbrev pub with_pieces : ℕ → Library
with_pieces count = after (post (pieces count)) stored

-- both flows, each with a segment of the one object for the first second
abbrev pub shared : Library
shared = after_all
    (post (pieces 1) ∷ put 0 second_flow
    ∷ changes.AddSegments 0 second_flow (a_list (pieces 1)) ∷ []) stored

-- a hook of an address that takes every kind of event, of these flows alone where a list is given
abbrev pub hook : List ℕ → Option (List ℕ) → Hook
hook url flows = record {
  url = url;
  events = all_events;
  key_name = None;
  key_value = None;
  flow_ids = flows;
  source_ids = None;
}

-- a hook of the address `h` that takes everything comes
abbrev pub listen : Change
listen = changes.PutHook 0 (hook (codes "h") None)

-- an event that waits for the hook of serial 1
abbrev pub waiting : ℕ → EventRow
waiting serial = record {
  serial = serial;
  hook = 1;
  kind = FlowCreated;
  subject = first_flow;
  range = None;
  moment = 0;
}

-- an outbox with one hook, for which so many events wait
abbrev pub outbox_with : ℕ → Outbox
outbox_with count = record {
  hooks = record { serial = 1; hook = hook (codes "h") None; failed = false } ∷ [];
  events = map (λ i. waiting (i + 2)) (numbers_below count);
}

-- a label that is set
abbrev pub new_label : Part
new_label = parts.Label (Some (codes "x"))

-- the serials of the segments, in their order
abbrev pub segment_serials : Library → List ℕ
segment_serials library = map (λ row. row.serial) library.segments
