-- When a change applies to a library, and the turn that follows each request. Our own rules.
use Rattle.std.specs.Prelude.{ℕ, nat_lt, nat_le, [], Bool, true, ◌&&◌, Option, Some, None, is_some, is_none, if◌then◌else◌, length}
use Rattle.media_rows.specs.declared.change.Change.{Change}
use Rattle.media_rows.specs.declared.change.Change.TheVariants as changes
use Rattle.media_rows.specs.declared.command.Command.TheVariants as commands
use Rattle.media_rows.specs.Answer.{change_refusal, posting_refusal, refusal_of, is_kept_object, first_taken, keep_refusal}
use Rattle.media_rows.specs.Changes.{after, moment_of}
use Rattle.media_rows.specs.Good.{is_good}
use Rattle.media_rows.specs.Library.{Library, last_serial}
use Rattle.media_rows.specs.Moments.{is_moment}
use Rattle.media_rows.specs.Objects.{object_of, is_free, blocks_of, swept_objects}
use Rattle.media_rows.specs.Outbox.{hook_of, waits_first}
use Rattle.media_rows.specs.Requests.{step_size, first_unfinished}
use Rattle.media_rows.specs.Segments.{segments_of, covered}

-- Nothing refuses the change: the refusals of its command don't stand, and it removes as many
-- segments as its kind does. Segments are added all or not at all, also where the client's list had
-- others that failed. Ids that the store made stand in an allocation like others, so there
-- an id is taken only where a kept object has it or the list repeats it. A step is refused where
-- there is none, and a delivery where the event isn't the first that waits for its hook.
abbrev pub is_allowed : Library → Change → Bool
is_allowed library (changes.PutFlow moment body) =
    is_none (refusal_of library (commands.PutFlow body))
is_allowed library (changes.SetFlow moment flow part) =
    is_none (refusal_of library (commands.SetFlow flow part))
is_allowed library (changes.SetSource moment source part) =
    is_none (refusal_of library (commands.SetSource source part))
is_allowed library (changes.DropFlow moment flow) =
    is_none (change_refusal library flow)
    && nat_le (length (segments_of flow library.segments)) step_size
is_allowed library (changes.Allocate moment flow ids) =
    is_none (change_refusal library flow) && is_none (first_taken (is_kept_object library) [] ids)
is_allowed library (changes.Store moment object start size digest) =
    is_none (keep_refusal (object_of object library.objects))
    && is_free library.objects library.blocks (blocks_of size) start
is_allowed library (changes.AddSegments moment flow posts) =
    is_none (posting_refusal library flow posts.segments)
is_allowed library (changes.CutSegments moment flow range) =
    is_none (change_refusal library flow) && nat_le 1 (length (covered library.segments flow range))
    && nat_le (length (covered library.segments flow range)) step_size
is_allowed library (changes.AskDelete moment flow range delete_flow) =
    is_none (change_refusal library flow)
    && nat_lt step_size (length (covered library.segments flow range))
is_allowed library (changes.DeleteStep moment) = is_some (first_unfinished library.requests)
is_allowed library (changes.SweepStep moment) =
    nat_lt 0 (length (swept_objects library.segments library.objects moment))
is_allowed library (changes.PutHook moment hook) = true
is_allowed library (changes.DropHook moment url) = is_some (hook_of url library.outbox.hooks)
is_allowed library (changes.Delivered moment event) = waits_first event library.outbox.events

-- a change applies: it is allowed at a moment, and leaves a good library
abbrev pub applies : Library → Change → Bool
applies library change =
    is_moment (moment_of change) && is_allowed library change && is_good (after change library)

-- the next library, or refused
abbrev pub applied : Change → Library → Option Library
applied change library = if applies library change then Some (after change library) else None

-- the next serial after a change would pass its limit
abbrev pub passes_serials : Change → Library → Bool
passes_serials change library = nat_lt last_serial (after change library).next_serial

-- the change of a turn: a delete step if a request is unfinished, otherwise a sweep if an object is
-- due, otherwise nothing. That a step doesn't fit the journal is added by the state above the
-- library, as it is for a command.
abbrev pub turn : Library → ℕ → Option Change
turn library moment =
    if is_some (first_unfinished library.requests) then Some (changes.DeleteStep moment)
    else if nat_lt 0 (length (swept_objects library.segments library.objects moment))
    then Some (changes.SweepStep moment)
    else None
