-- What the library answers to each command, and the change that it makes: the refusals of a command
-- in their order, and its reply where none stands. That a change doesn't fit the journal is no
-- matter of the library, and is added by the state above it. Our own profile of the
-- Time-addressable Media Store.
use Rattle.std.specs.Prelude.{ℕ, ◌+◌, ◌==◌, nat_le, List, [], ◌∷◌, ◌++◌, Bool, true, false, not, ◌&&◌, ◌||◌, Option, Some, None, is_some, Result, Ok, Err, if◌then◌else◌, map, length, nat_eq, bytes_eq, codes, decimal}
use Rattle.std.specs.List.{starts_with}
use Rattle.time_range.specs.declared.ranges.Span.{Span}
use Rattle.media_rows.specs.declared.change.Change.{Change}
use Rattle.media_rows.specs.declared.change.Change.TheVariants as changes
use Rattle.media_rows.specs.declared.command.Command.{Command}
use Rattle.media_rows.specs.declared.command.Command.TheVariants as commands
use Rattle.media_rows.specs.declared.command.Want.{Want}
use Rattle.media_rows.specs.declared.command.Want.TheVariants.{Count, Named}
use Rattle.media_rows.specs.declared.object.Digest.{Digest}
use Rattle.media_rows.specs.declared.object.ObjectRow.{ObjectRow}
use Rattle.media_rows.specs.declared.object.ObjectState.{ObjectState}
use Rattle.media_rows.specs.declared.object.ObjectState.TheVariants.{Allocated, Stored}
use Rattle.media_rows.specs.declared.refusal.Refusal.{Refusal}
use Rattle.media_rows.specs.declared.refusal.Refusal.TheVariants as refusals
use Rattle.media_rows.specs.declared.reply.FailedSegment.{FailedSegment}
use Rattle.media_rows.specs.declared.reply.Reply.{Reply}
use Rattle.media_rows.specs.declared.reply.Reply.TheVariants as replies
use Rattle.media_rows.specs.declared.reply.SortedPosts.{SortedPosts}
use Rattle.media_rows.specs.declared.reply.View.{View}
use Rattle.media_rows.specs.declared.request.Deletion.{Deletion}
use Rattle.media_rows.specs.declared.segment.Segment.{Segment}
use Rattle.media_rows.specs.Catalog.{flow_of, put_refusal, set_refusal, set_source_refusal, flow_refusal}
use Rattle.media_rows.specs.Digests.{digest_of}
use Rattle.media_rows.specs.Ids.{id_text}
use Rattle.media_rows.specs.Library.{Library}
use Rattle.media_rows.specs.Lists.{has_text, numbers_below, or_else}
use Rattle.media_rows.specs.Objects.{object_of, kept_digest, free_place, blocks_of, bytes_of}
use Rattle.media_rows.specs.Outbox.{hook_of}
use Rattle.media_rows.specs.Ranges.{eternity}
use Rattle.media_rows.specs.Refusals.{when}
use Rattle.media_rows.specs.Requests.{step_size, is_deleting, asked_row}
use Rattle.media_rows.specs.Posts.{sorted, posts_refusal}
use Rattle.media_rows.specs.Segments.{segments_of, covered, list_post}
use Rattle.media_rows.specs.Views.{asked}

-- ---- refusals

-- an unfinished request deletes the flow: this stands before all that the flow's book refuses
abbrev pub deleting_refusal : Library → ℕ → Option Refusal
deleting_refusal library flow = when (is_deleting library.requests flow) refusals.Deleting

-- the flow is being deleted, isn't kept, or is read-only
abbrev pub change_refusal : Library → ℕ → Option Refusal
change_refusal library flow =
    or_else (deleting_refusal library flow) (flow_refusal library.catalog flow)

-- ---- ids of new objects

-- what ids that the store makes begin with: its own id and a hyphen
abbrev pub made_prefix : ℕ → List ℕ
made_prefix store = id_text store ++ codes "-"

-- the id that the store makes for an object of this serial
abbrev pub made_id : ℕ → ℕ → List ℕ
made_id store serial = made_prefix store ++ decimal serial

-- the ids of an allocation: the store's own for the next serials, or those that the client names
abbrev pub wanted_ids : Library → Want → List (List ℕ)
wanted_ids library (Count n) =
    map (λ i. made_id library.id (library.next_serial + i)) (numbers_below n)
wanted_ids library (Named ids) = ids

-- a kept object has the id
abbrev pub is_kept_object : Library → List ℕ → Bool
is_kept_object library id = is_some (object_of id library.objects)

-- a client may not name a kept object, nor an id that begins as those that the store makes
abbrev pub is_taken : Library → Want → List ℕ → Bool
is_taken library (Count n) id = is_kept_object library id
is_taken library (Named ids) id =
    is_kept_object library id || starts_with nat_eq id (made_prefix library.id)

-- the first id that is taken, or that stands earlier in the list
abbrev pub first_taken : (List ℕ → Bool) → List (List ℕ) → List (List ℕ) → Option (List ℕ)
first_taken taken earlier [] = None
first_taken taken earlier (id ∷ later) =
    if taken id || has_text id earlier then Some id else first_taken taken (id ∷ earlier) later

-- the refusal of an allocation, with the id that is taken
abbrev pub taken_refusal : Option (List ℕ) → Option Refusal
taken_refusal None = None
taken_refusal (Some id) = Some (refusals.IdTaken id)

-- ---- posts of segments

-- the refusal of a post whose segments are all kept or none: that of its flow, or the first of its
-- segments
abbrev pub posting_refusal : Library → ℕ → List Segment → Option Refusal
posting_refusal library flow posts =
    or_else (change_refusal library flow) (posts_refusal library flow posts)

-- the refusal of a list by what is kept of it and what failed: where nothing is kept and something
-- failed, the first one's
abbrev pub refusal_by : List Segment → List FailedSegment → Option Refusal
refusal_by kept [] = None
refusal_by [] (failed ∷ later) = Some failed.refusal
refusal_by (post ∷ kept) (failed ∷ later) = None

-- the refusal of a list that is answered segment by segment
abbrev pub list_refusal : SortedPosts → Option Refusal
list_refusal told = refusal_by told.kept told.failed

-- all segments of a list are kept, or some failed
abbrev pub list_reply : List FailedSegment → Reply
list_reply [] = replies.Created
list_reply (failed ∷ later) = replies.Partly (failed ∷ later)

-- ---- the storing of an object

-- Bytes are stored once: a stored object takes none. A PUT of equal bytes asks for no storing.
abbrev pub keep_state : ObjectState → Option Refusal
keep_state Allocated = None
keep_state (Stored start size digest) = Some refusals.OtherBytes

-- the refusal to store an object: it isn't kept, or it is stored already
abbrev pub keep_refusal : Option ObjectRow → Option Refusal
keep_refusal None = Some refusals.UnknownObject
keep_refusal (Some row) = keep_state row.state

-- ---- the refusal of each command

-- why nothing is shown, where nothing is
abbrev pub shown_refusal : Result View Refusal → Option Refusal
shown_refusal (Ok view) = None
shown_refusal (Err refusal) = Some refusal

-- The first refusal that stands of a command. That the flow is being deleted comes before all that
-- the catalog refuses, and what the command brings is looked at last.
abbrev pub refusal_of : Library → Command → Option Refusal
refusal_of library (commands.PutFlow body) =
    or_else (deleting_refusal library body.id) (put_refusal library.catalog body)
refusal_of library (commands.SetFlow flow part) =
    or_else (deleting_refusal library flow) (set_refusal library.catalog flow part)
refusal_of library (commands.SetSource source part) = set_source_refusal library.catalog source part
refusal_of library (commands.DropFlow flow) = change_refusal library flow
refusal_of library (commands.Allocate flow want) =
    or_else (change_refusal library flow)
    (taken_refusal (first_taken (is_taken library want) [] (wanted_ids library want)))
refusal_of library (commands.Keep object start size digest) =
    keep_refusal (object_of object library.objects)
refusal_of library (commands.AddSegments flow posts) =
    or_else (change_refusal library flow) (list_refusal (sorted library flow [] posts.segments))
refusal_of library (commands.CutSegments flow range) = change_refusal library flow
refusal_of library (commands.PutHook hook) = None
refusal_of library (commands.DropHook url) = None
refusal_of library (commands.Ask query) = shown_refusal (asked library query)

-- ---- the reply and the change where nothing is refused

-- a reply, and the change that it answers, where there is one
pub record Outcome : Type 0 where
  pub reply : Reply
  pub change : Option Change

-- a reply to a command that makes this change
abbrev pub changed : Reply → Change → Outcome
changed reply change = record { reply = reply; change = Some change }

-- a reply to a command that leaves the library as it is
abbrev pub unchanged : Reply → Outcome
unchanged reply = record { reply = reply; change = None }

-- something is made, or one that is there is replaced
abbrev pub created_unless : Bool → Reply
created_unless there = if there then replies.Done else replies.Created

-- more segments than go at once: a delete request is made, and is the reply
abbrev pub accepted_request : Library → Deletion → ℕ → Outcome
accepted_request library asked moment =
    changed (replies.Accepted (asked_row asked library.next_serial moment))
    (changes.AskDelete moment asked.flow asked.range asked.delete_flow)

-- a flow goes with at most so many segments as go at once
abbrev pub accepted_drop : Library → ℕ → ℕ → Outcome
accepted_drop library flow moment =
    if nat_le (length (segments_of flow library.segments)) step_size
    then changed replies.Done (changes.DropFlow moment flow)
    else accepted_request library
    (record { flow = flow; range = eternity; delete_flow = true }) moment

-- no segment is covered; so many as go at once; or more
abbrev pub accepted_cut : Library → ℕ → Option Span → ℕ → Outcome
accepted_cut library flow range moment =
    if length (covered library.segments flow range) == 0 then unchanged replies.Done
    else if nat_le (length (covered library.segments flow range)) step_size
    then changed replies.Done (changes.CutSegments moment flow range)
    else accepted_request library
    (record { flow = flow; range = range; delete_flow = false }) moment

-- a hook goes, if there is one of this address
abbrev pub accepted_drop_hook : Library → List ℕ → ℕ → Outcome
accepted_drop_hook library url moment =
    if is_some (hook_of url library.outbox.hooks)
    then changed replies.Done (changes.DropHook moment url)
    else unchanged replies.Done

-- what is shown, or why nothing is
abbrev pub shown_reply : Result View Refusal → Reply
shown_reply (Ok view) = replies.Shown view
shown_reply (Err refusal) = replies.Refused refusal

-- the reply and the change of a command that nothing refuses; a question is answered by what it
-- shows, and changes nothing
abbrev pub accepted : Library → Command → ℕ → Outcome
accepted library (commands.PutFlow body) moment =
    changed (created_unless (is_some (flow_of body.id library.catalog.flows)))
    (changes.PutFlow moment body)
accepted library (commands.SetFlow flow part) moment =
    changed replies.Done (changes.SetFlow moment flow part)
accepted library (commands.SetSource source part) moment =
    changed replies.Done (changes.SetSource moment source part)
accepted library (commands.DropFlow flow) moment = accepted_drop library flow moment
accepted library (commands.Allocate flow want) moment =
    let ids = wanted_ids library want in
    changed (replies.CreatedObjects ids) (changes.Allocate moment flow ids)
accepted library (commands.Keep object start size digest) moment =
    changed replies.Created (changes.Store moment object start size (kept_digest digest))
accepted library (commands.AddSegments flow posts) moment =
    let told = sorted library flow [] posts.segments in
    changed (list_reply told.failed) (changes.AddSegments moment flow (list_post told.kept))
accepted library (commands.CutSegments flow range) moment =
    accepted_cut library flow range moment
accepted library (commands.PutHook hook) moment =
    changed (created_unless (is_some (hook_of hook.url library.outbox.hooks)))
    (changes.PutHook moment hook)
accepted library (commands.DropHook url) moment = accepted_drop_hook library url moment
accepted library (commands.Ask query) moment = unchanged (shown_reply (asked library query))

-- ---- the answer

-- a refusal, which changes nothing, or this where there is none
abbrev pub answer_by : Option Refusal → Outcome → Outcome
answer_by (Some refusal) outcome = unchanged (replies.Refused refusal)
answer_by None outcome = outcome

-- the answer to a command at a moment
abbrev pub answer : Library → Command → ℕ → Outcome
answer library command moment =
    answer_by (refusal_of library command) (accepted library command moment)

-- ---- media, whose bytes stand beside the library

-- an allocated object takes the bytes at the least free place, if there is one, with their digest
abbrev pub placed_put : Option ℕ → List ℕ → List ℕ → ℕ → Outcome
placed_put None object bytes moment = unchanged (replies.Refused refusals.MediaFull)
placed_put (Some start) object bytes moment =
    changed replies.Created
    (changes.Store moment object start (length bytes) (Some (digest_of bytes)))

-- a stored object takes equal bytes and changes nothing
abbrev pub stored_put : Bool → Outcome
stored_put same = unchanged (if same then replies.Done else replies.Refused refusals.OtherBytes)

-- the answer by the state of the object: what an allocated one makes of the bytes, or what a stored
-- one does
abbrev pub put_by_state : ObjectState → Outcome → Outcome → Outcome
put_by_state Allocated first again = first
put_by_state (Stored start size digest) first again = again

-- the same of an object that may be missing, whose bytes are refused
abbrev pub put_answer_by : Option ObjectRow → Outcome → Outcome → Outcome
put_answer_by None first again = unchanged (replies.Refused refusals.UnknownObject)
put_answer_by (Some row) first again = put_by_state row.state first again

-- the answer to a PUT of an object's bytes, where these are the bytes of the library's objects
abbrev pub put_media_answer : Library → List (List ℕ) → List ℕ → List ℕ → ℕ → Outcome
put_media_answer library held object bytes moment =
    put_answer_by (object_of object library.objects)
    (placed_put (free_place library.objects library.blocks (blocks_of (length bytes)))
    object bytes moment)
    (stored_put (bytes_eq (bytes_of object library.objects held) bytes))

-- two digests are one
abbrev pub digest_eq : Digest → Digest → Bool
digest_eq a b = (a.high == b.high) && (a.low == b.low)

-- the length of a stored object's bytes; or, where the digest that is kept of them isn't the one
-- that they have, that they were damaged
abbrev pub whole_media : ℕ → Option Digest → Digest → Reply
whole_media size None found = replies.Media size
whole_media size (Some kept) found =
    if digest_eq kept found
    then replies.Media size
    else replies.Refused (refusals.ObjectDamaged kept found)

-- the reply to a question for the bytes of an object in this state, where these are its bytes; an
-- allocated object has none to give
abbrev pub media_answer : ObjectState → List ℕ → Reply
media_answer Allocated bytes = replies.Refused refusals.UnknownObject
media_answer (Stored start size digest) bytes = whole_media size digest (digest_of bytes)

-- the same of an object that may be missing, where one that isn't kept is as unknown as one without
-- bytes
abbrev pub media_reply : Option ObjectRow → List ℕ → Reply
media_reply None bytes = replies.Refused refusals.UnknownObject
media_reply (Some row) bytes = media_answer row.state bytes
