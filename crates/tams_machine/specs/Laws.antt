-- Laws of the machine: what stands at the front of bytes, that states stay good, and that what is
-- stored keeps its bytes and its digest.
use Rattle.std.specs.Prelude.{◌≡◌, ◌++◌, ℕ, Bool, true, false, List, Contains, IfOk, IfSome, IsTrue}
use Rattle.http_wire.specs.declared.head.MethodKind.{MethodKind}
use Rattle.media_rows.specs.declared.command.Command.TheVariants as commands
use Rattle.media_rows.specs.declared.object.ObjectRow.{ObjectRow}
use Rattle.media_rows.specs.Media.{Archive, HasDigests, is_good_question}
use Rattle.media_rows.specs.Moments.{is_moment}
use Rattle.media_rows.specs.Objects.{digest_in_state, is_stored}
use Rattle.library_laws.specs.MediaLaws.{IsGoodArchive, bytes_in}
use Rattle.store_states.specs.States.{StoreState}
use Rattle.tams_http.specs.Asked.{ask_of}
use Rattle.tams_http.specs.declared.ask.Ask.{Ask}
use Rattle.tams_http.specs.declared.ask.Ask.TheVariants.{Run}
use Rattle.tams_machine.specs.Requests.{SpellsRequest, TamsRequest}
use Rattle.tams_machine.specs.Answers.{answer_in, asked_in, question_of, turn_in}

-- ---- what stands at the front of bytes

-- Behind so many requests the front of bytes spells one request at most: bytes that are a whole
-- request, and longer ones that begin with them and are one too, are the same.
abbrev pub RequestsAreOne : Type 0
RequestsAreOne = (n : ℕ) (text other rest other_rest : List ℕ) (r s : TamsRequest)
    → SpellsRequest n text r → SpellsRequest n other s → text ++ rest ≡ other ++ other_rest
    → (other ≡ text) × (s ≡ r)

-- ---- what requests ask for

-- a request keeps the bytes of an object by a media PUT alone
abbrev pub is_sent : Ask → Bool
is_sent (Run (commands.Keep object start size digest)) = false
is_sent _ = true

abbrev pub RequestsSendBytes : Type 0
RequestsSendBytes = (store : ℕ) (method : MethodKind) (target body : List ℕ)
    → IfOk (ask_of store method target body) (λ ask. IsTrue (is_sent ask))

-- ---- states stay good

-- what a request asks for is good: the commands of requests are, since their bodies were read so
abbrev pub AsksGood : StoreState → TamsRequest → Type 0
AsksGood s r = IfOk (asked_in s r)
    (λ ask. IsTrue (is_good_question s.archive.library (question_of ask r.body)))

-- the state after an answer's change is good
abbrev pub AnswersKeepGood : Type 0
AnswersKeepGood = (base : List ℕ) (r : TamsRequest) (moment : ℕ) (s : StoreState)
    → IsGoodArchive s.archive → IsTrue (is_moment moment) → AsksGood s r
    → IfSome (answer_in base r moment s).change (λ next. IsGoodArchive next.archive)

-- and so is the state after a turn's
abbrev pub TurnsKeepGood : Type 0
TurnsKeepGood = (moment : ℕ) (s : StoreState) → IsGoodArchive s.archive
    → IsTrue (is_moment moment) → IfSome (turn_in moment s) (λ next. IsGoodArchive next.archive)

-- ---- bytes stay

-- an object has the same bytes and the same digest in two archives
pub record IsSameObject (archive next : Archive) (old new : ObjectRow) : Type 0 where
  pub bytes : bytes_in next new.id ≡ bytes_in archive old.id
  pub digest : digest_in_state new.state ≡ digest_in_state old.state

-- each object that is stored in both, known by its serial, has the same bytes and the same digest
abbrev pub KeepsBytes : StoreState → StoreState → Type 0
KeepsBytes s next = (old new : ObjectRow) → Contains s.archive.library.objects old
    → Contains next.archive.library.objects new → new.serial ≡ old.serial
    → IsTrue (is_stored old.state) → IsSameObject s.archive next.archive old new

-- an answer's change keeps the bytes and the digest of what is stored
abbrev pub AnswersKeepBytes : Type 0
AnswersKeepBytes = (base : List ℕ) (r : TamsRequest) (moment : ℕ) (s : StoreState)
    → IsGoodArchive s.archive → IsTrue (is_moment moment) → AsksGood s r
    → IfSome (answer_in base r moment s).change (KeepsBytes s)

-- and so does a turn's
abbrev pub TurnsKeepBytes : Type 0
TurnsKeepBytes = (moment : ℕ) (s : StoreState) → IsGoodArchive s.archive
    → IsTrue (is_moment moment) → IfSome (turn_in moment s) (KeepsBytes s)

-- ---- digests stay true

-- where each stored object has the digest of its bytes, so it has in this state
abbrev pub KeepsDigests : StoreState → StoreState → Type 0
KeepsDigests s next = HasDigests s.archive → HasDigests next.archive

-- an answer's change leaves it so, since a media PUT stores the digest of its body
abbrev pub AnswersKeepDigests : Type 0
AnswersKeepDigests = (base : List ℕ) (r : TamsRequest) (moment : ℕ) (s : StoreState)
    → IsGoodArchive s.archive → IsTrue (is_moment moment) → AsksGood s r
    → IfSome (answer_in base r moment s).change (KeepsDigests s)

-- and so does a turn's
abbrev pub TurnsKeepDigests : Type 0
TurnsKeepDigests = (moment : ℕ) (s : StoreState) → IsGoodArchive s.archive
    → IsTrue (is_moment moment) → IfSome (turn_in moment s) (KeepsDigests s)
