-- A library together with the bytes of its objects: their digests, what may be asked of both, and
-- the bytes after a change. Our own rules.
use Rattle.std.specs.Prelude.{◌≡◌, ℕ, ◌==◌, List, Contains, Bool, true, IsTrue, Option, Some, if◌then◌else◌, map, length, bytes_eq}
use Rattle.media_rows.specs.declared.change.Change.{Change}
use Rattle.media_rows.specs.declared.change.Change.TheVariants as changes
use Rattle.media_rows.specs.declared.command.Command.{Command}
use Rattle.media_rows.specs.declared.object.Digest.{Digest}
use Rattle.media_rows.specs.declared.object.ObjectRow.{ObjectRow}
use Rattle.media_rows.specs.declared.reply.Reply.{Reply}
use Rattle.media_rows.specs.Answer.{Outcome, unchanged, answer, put_media_answer, media_reply}
use Rattle.media_rows.specs.Changes.{after}
use Rattle.media_rows.specs.Digests.{digest_of}
use Rattle.media_rows.specs.Library.{Library}
use Rattle.media_rows.specs.Objects.{object_of, digest_in_state, is_stored, bytes_of, are_bytes_of}
use Rattle.media_rows.specs.Sound.{is_good_command}

-- a library, and the bytes of its objects as a list along them
pub record Archive : Type 0 where
  pub library : Library
  pub held : List (List ℕ)

-- each object's bytes have its length, and one that isn't stored has none
abbrev pub is_held : Archive → Bool
is_held archive = are_bytes_of archive.library.objects archive.held

-- ---- digests

-- this is the digest of these bytes
abbrev pub IsDigestOf : List ℕ → Option Digest → Type 0
IsDigestOf bytes digest = digest ≡ Some (digest_of bytes)

-- each stored object has the digest of its bytes
abbrev pub HasDigests : Archive → Type 0
HasDigests archive = (row : ObjectRow) → Contains archive.library.objects row
    → IsTrue (is_stored row.state)
    → IsDigestOf (bytes_of row.id archive.library.objects archive.held) (digest_in_state row.state)

-- ---- questions

-- what may be asked: a command, to keep bytes as those of an object, or to give an object's bytes
pub data Question : Type 0 where
  asks : Command → Question
  puts : List ℕ → List ℕ → Question
  gets : List ℕ → Question

-- the reply to a GET of an object's bytes: their length, where the object is kept and stored and
-- they have the digest that is kept of them
abbrev pub get_media_reply : Archive → List ℕ → Reply
get_media_reply archive object =
    media_reply (object_of object archive.library.objects)
    (bytes_of object archive.library.objects archive.held)

-- the reply to a question at a moment, and its change
abbrev pub answer_to : Archive → Question → ℕ → Outcome
answer_to archive (asks command) moment = answer archive.library command moment
answer_to archive (puts object bytes) moment =
    put_media_answer archive.library archive.held object bytes moment
answer_to archive (gets object) moment = unchanged (get_media_reply archive object)

-- what a question brings is good
abbrev pub is_good_question : Library → Question → Bool
is_good_question library (asks command) = is_good_command library command
is_good_question library (puts object bytes) = true
is_good_question library (gets object) = true

-- ---- bytes after a change

-- the bytes of the object of an id after a change: those that came for it, or those that it had
abbrev pub bytes_after : Change → List ℕ → Archive → List ℕ → List ℕ
bytes_after (changes.Store moment object start size digest) came archive id =
    if bytes_eq id object then came else bytes_of id archive.library.objects archive.held
bytes_after other came archive id = bytes_of id archive.library.objects archive.held

-- an archive after a change, for which these bytes came if it is the storing of an object
abbrev pub archive_after : Change → List ℕ → Archive → Archive
archive_after change came archive = record {
  library = after change archive.library;
  held = map (λ row. bytes_after change came archive row.id) (after change archive.library).objects;
}

-- the bytes that came have the length that the change names, if it stores an object
abbrev pub fits_bytes : Change → List ℕ → Bool
fits_bytes (changes.Store moment object start size digest) came = length came == size
fits_bytes other came = true

-- the digest that the change names is that of the bytes that came, if it stores an object
abbrev pub NamesDigest : Change → List ℕ → Type 0
NamesDigest (changes.Store moment object start size digest) came = IsDigestOf came digest
NamesDigest other came = Unit {0}
