-- What a request is answered in a state, and the state after its change and after its turn. Our own
-- profile of the Time-addressable Media Store.
use Rattle.std.specs.Prelude.{◌+◌, ◌-◌, ℕ, Bool, List, [], ◌++◌, length, Option, Some, None, is_some, option_map, Result, Ok, Err, if◌then◌else◌}
use Rattle.http_wire.specs.Framing.{method_kind}
use Rattle.http_wire.specs.Lines.{head_end}
use Rattle.http_wire.specs.Response.{body_unless}
use Rattle.http_wire.specs.declared.lines.Looked.{Looked}
use Rattle.http_wire.specs.declared.lines.Looked.TheVariants.{Ended, Still}
use Rattle.media_rows.specs.declared.change.Change.{Change}
use Rattle.media_rows.specs.declared.change.Change.TheVariants as changes
use Rattle.media_rows.specs.declared.refusal.Refusal.{Refusal}
use Rattle.media_rows.specs.declared.reply.Reply.{Reply}
use Rattle.media_rows.specs.declared.reply.Reply.TheVariants as replies
use Rattle.media_rows.specs.Answer.{Outcome, unchanged}
use Rattle.media_rows.specs.Apply.{turn}
use Rattle.media_rows.specs.Media.{Archive, Question, answer_to, archive_after, asks, gets, puts}
use Rattle.media_rows.specs.Objects.{bytes_of}
use Rattle.change_codec.specs.Fitting as journals
use Rattle.store_states.specs.Fitting.{fitted}
use Rattle.store_states.specs.States.{StoreState}
use Rattle.run_history.specs.Machine as runs
use Rattle.tams_http.specs.Answered.{response_to}
use Rattle.tams_http.specs.Asked.{ask_of}
use Rattle.tams_http.specs.declared.ask.Ask.{Ask}
use Rattle.tams_http.specs.declared.ask.Ask.TheVariants.{GetMedia, PutMedia, Run}
use Rattle.tams_machine.specs.Requests.{TamsRequest, context_of, is_head_only}

-- ---- states

-- the library and the journal of a state, without the bytes of objects
abbrev pub journal_of_state : StoreState → journals.State
journal_of_state s = record { library = s.archive.library; room = s.room; half = s.half }

-- the state after a change that fits; for the storing of an object these bytes came
abbrev pub state_with_change : StoreState → Change → List ℕ → StoreState
state_with_change s change came = record {
  archive = archive_after change came s.archive;
  room = (journals.with_record (journal_of_state s) change).room;
  half = s.half;
}

-- ---- the answer

-- what is asked of the library: for a media PUT its body is the bytes
abbrev pub question_of : Ask → List ℕ → Question
question_of (Run command) body = asks command
question_of (PutMedia object) body = puts object body
question_of (GetMedia object) body = gets object

-- what a request makes, by what it asks for or its refusal
abbrev pub outcome_by : StoreState → List ℕ → ℕ → Result Ask Refusal → Outcome
outcome_by s body moment (Err refusal) = unchanged (replies.Refused refusal)
outcome_by s body moment (Ok ask) =
    fitted (journal_of_state s) (answer_to s.archive (question_of ask body) moment)

-- what a request asks for
abbrev pub asked_in : StoreState → TamsRequest → Result Ask Refusal
asked_in s r = ask_of s.archive.library.id (method_kind r.head.method) r.head.target r.body

-- what a request makes at a moment
abbrev pub outcome_of : StoreState → TamsRequest → ℕ → Outcome
outcome_of s r moment = outcome_by s r.body moment (asked_in s r)

-- the bytes of an object, where the reply is that they follow
abbrev pub object_bytes : Archive → Result Ask Refusal → Reply → List ℕ
object_bytes archive (Ok (GetMedia object)) (replies.Media size) =
    bytes_of object archive.library.objects archive.held
object_bytes archive asked reply = []

-- the bytes of the answer with a reply: the response, and behind it those of an object
abbrev pub answer_bytes : List ℕ → StoreState → TamsRequest → Reply → List ℕ
answer_bytes base s r reply =
    response_to (context_of s.archive.library.id base r) reply
    ++ body_unless (is_head_only (method_kind r.head.method))
    (object_bytes s.archive (asked_in s r) reply)

-- the answer to a request at a moment, and the state after its change where it has one
abbrev pub answer_in : List ℕ → TamsRequest → ℕ → StoreState → runs.MachineReply StoreState
answer_in base r moment s =
    let outcome = outcome_of s r moment in
    record {
      bytes = answer_bytes base s r outcome.reply;
      change = option_map (λ change. state_with_change s change r.body) outcome.change;
    }

-- ---- the turn

-- a delete request is unfinished, or an object is due
abbrev pub is_turn_due : ℕ → StoreState → Bool
is_turn_due moment s = is_some (turn s.archive.library moment)

-- the state after a turn's change, where it has one that fits
abbrev pub turned_by : StoreState → Option Change → Option StoreState
turned_by s None = None
turned_by s (Some change) =
    if journals.fits (journal_of_state s) change then Some (state_with_change s change []) else None

-- the state after a turn at a moment, where it changes something
abbrev pub turn_in : ℕ → StoreState → Option StoreState
turn_in moment s = turned_by s (turn s.archive.library moment)

-- ---- the bytes that are handed to the device

-- the bytes of the object that a change stores
abbrev pub object_handed : Change → ℕ
object_handed (changes.Store moment object start size digest) = size
object_handed change = 0

-- the bytes of a checkpoint before a change: where its record doesn't fit the room, the snapshot
-- rows of the library and 10 more
abbrev pub checkpoint_handed : StoreState → Change → ℕ
checkpoint_handed s change =
    if journals.fits_room (journal_of_state s) change then 0
    else journals.snapshot_size s.archive.library + 10

-- those of a change: its payload and 6 more, the object that it stores, and a checkpoint
abbrev pub change_handed : StoreState → Change → ℕ
change_handed s change =
    (journals.change_size change + 6) + (object_handed change + checkpoint_handed s change)

-- the same of a change, if there is one
abbrev pub handed_if : StoreState → Option Change → ℕ
handed_if s None = 0
handed_if s (Some change) = change_handed s change

-- those of the change of an answer to a request at a moment
abbrev pub answer_handed : TamsRequest → ℕ → StoreState → ℕ
answer_handed r moment s = handed_if s (outcome_of s r moment).change

-- a turn's change, where one is due that fits
abbrev pub fitting_turn : StoreState → Option Change → Option Change
fitting_turn s None = None
fitting_turn s (Some change) =
    if journals.fits (journal_of_state s) change then Some change else None

-- those of the change of a turn at a moment
abbrev pub turn_handed : ℕ → StoreState → ℕ
turn_handed moment s = handed_if s (fitting_turn s (turn s.archive.library moment))

-- how many bytes of a text stand behind the head in front of it, where that is whole
abbrev pub size_behind_head : List ℕ → Looked → ℕ
size_behind_head text (Still place) = 0
size_behind_head text (Ended end) = length text - end

-- how many bytes of a request's body were heard
abbrev pub heard_body : List ℕ → ℕ
heard_body text = size_behind_head text (head_end text)
