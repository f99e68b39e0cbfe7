-- Formats, events and states of a request by number and by name: two are equal exactly where their
-- numbers are. The numbers are those of the file, which is our own rule. The names are those of
-- bodies, queries and answers: URNs of formats are NMOS's and TAMS's, and the names of events are
-- our own profile's.
use Rattle.std.specs.Prelude.{ℕ, Bool, true, false, List, [], ◌∷◌, codes}
use Rattle.media_rows.specs.declared.flow.FormatKind.{FormatKind}
use Rattle.media_rows.specs.declared.flow.FormatKind.TheVariants.{Video, Audio, DataEssence, Multi, Image}
use Rattle.media_rows.specs.declared.event.EventKind.{EventKind}
use Rattle.media_rows.specs.declared.event.EventKind.TheVariants.{FlowCreated, FlowUpdated, FlowDeleted, SegmentsAdded, SegmentsDeleted, SourceCreated, SourceUpdated, SourceDeleted}
use Rattle.media_rows.specs.declared.request.DeleteStatus.{DeleteStatus}
use Rattle.media_rows.specs.declared.request.DeleteStatus.TheVariants.{Created, Started, Done}

-- a format's number
abbrev pub format_number : FormatKind → ℕ
format_number Video = 1
format_number Audio = 2
format_number DataEssence = 3
format_number Multi = 4
format_number Image = 5

-- an event's number
abbrev pub event_number : EventKind → ℕ
event_number FlowCreated = 1
event_number FlowUpdated = 2
event_number FlowDeleted = 3
event_number SegmentsAdded = 4
event_number SegmentsDeleted = 5
event_number SourceCreated = 6
event_number SourceUpdated = 7
event_number SourceDeleted = 8

-- a status's number
abbrev pub status_number : DeleteStatus → ℕ
status_number Created = 1
status_number Started = 2
status_number Done = 3

-- each format
abbrev pub all_formats : List FormatKind
all_formats = Video ∷ Audio ∷ DataEssence ∷ Multi ∷ Image ∷ []

-- each kind of event
abbrev pub all_events : List EventKind
all_events =
    FlowCreated ∷ FlowUpdated ∷ FlowDeleted ∷ SegmentsAdded ∷ SegmentsDeleted
    ∷ SourceCreated ∷ SourceUpdated ∷ SourceDeleted ∷ []

-- each state of a delete request
abbrev pub all_statuses : List DeleteStatus
all_statuses = Created ∷ Started ∷ Done ∷ []

-- ---- names

-- a format's name in bodies and queries
abbrev pub format_name : FormatKind → List ℕ
format_name Video = codes "urn:x-nmos:format:video"
format_name Audio = codes "urn:x-nmos:format:audio"
format_name DataEssence = codes "urn:x-nmos:format:data"
format_name Multi = codes "urn:x-nmos:format:multi"
format_name Image = codes "urn:x-tam:format:image"

-- an event's name in a hook's list
abbrev pub event_name : EventKind → List ℕ
event_name FlowCreated = codes "flows/created"
event_name FlowUpdated = codes "flows/updated"
event_name FlowDeleted = codes "flows/deleted"
event_name SegmentsAdded = codes "flows/segments_added"
event_name SegmentsDeleted = codes "flows/segments_deleted"
event_name SourceCreated = codes "sources/created"
event_name SourceUpdated = codes "sources/updated"
event_name SourceDeleted = codes "sources/deleted"

-- the name of a delete request's state
abbrev pub status_name : DeleteStatus → List ℕ
status_name Created = codes "created"
status_name Started = codes "started"
status_name Done = codes "done"

-- the name of a hook's state: whether it has failed
abbrev pub hook_status_name : Bool → List ℕ
hook_status_name false = codes "started"
hook_status_name true = codes "error"
