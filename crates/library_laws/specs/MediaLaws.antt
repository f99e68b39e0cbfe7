-- Laws of a library together with the bytes of its objects.
use Rattle.std.specs.Prelude.{◌≡◌, ℕ, IsTrue, List, Contains, Option, Some, None, IfSome, length}
use Rattle.media_rows.specs.declared.change.Change.{Change}
use Rattle.media_rows.specs.declared.change.Change.TheVariants as changes
use Rattle.media_rows.specs.declared.object.Digest.{Digest}
use Rattle.media_rows.specs.declared.object.ObjectRow.{ObjectRow}
use Rattle.media_rows.specs.declared.object.ObjectState.TheVariants.{Stored}
use Rattle.media_rows.specs.declared.reply.Reply.TheVariants.{Media}
use Rattle.media_rows.specs.Apply.{is_allowed, applied}
use Rattle.media_rows.specs.Changes.{after}
use Rattle.media_rows.specs.Digests.{digest_of}
use Rattle.media_rows.specs.Good.{Good}
use Rattle.media_rows.specs.Library.{Library}
use Rattle.media_rows.specs.Media.{Archive, is_held, Question, puts, answer_to, is_good_question, archive_after, fits_bytes, get_media_reply, HasDigests, NamesDigest}
use Rattle.media_rows.specs.Moments.{is_moment}
use Rattle.media_rows.specs.Objects.{is_stored, object_of, bytes_of, blocks_of}
use Rattle.library_laws.specs.Laws.{AppliesWithin, IsLeastPlace}

-- a good library, whose objects' bytes have their lengths
pub record IsGoodArchive (archive : Archive) : Type 0 where
  pub good : Good archive.library
  pub held : IsTrue (is_held archive)

-- each stored object's bytes have its length after a change too
abbrev pub BytesFit : Type 0
BytesFit = (archive : Archive) (change : Change) (came : List ℕ) → IsGoodArchive archive
    → IsTrue (is_allowed archive.library change) → IsTrue (fits_bytes change came)
    → IsTrue (is_held (archive_after change came archive))

-- the bytes of an object in an archive
abbrev pub bytes_in : Archive → List ℕ → List ℕ
bytes_in archive id = bytes_of id archive.library.objects archive.held

-- an object that is stored keeps its bytes while it is kept, known by its serial
abbrev pub BytesStay : Type 0
BytesStay = (archive : Archive) (change : Change) (came : List ℕ) → IsGoodArchive archive
    → IsTrue (is_allowed archive.library change) → (old new : ObjectRow)
    → Contains archive.library.objects old → Contains (after change archive.library).objects new
    → new.serial ≡ old.serial → IsTrue (is_stored old.state)
    → bytes_in (archive_after change came archive) new.id ≡ bytes_in archive old.id

-- Where each stored object has the digest of its bytes, so it has after a change, whose digest is
-- that of the bytes that came.
abbrev pub DigestsStay : Type 0
DigestsStay = (archive : Archive) (change : Change) (came : List ℕ) → IsGoodArchive archive
    → IsTrue (is_allowed archive.library change) → NamesDigest change came
    → HasDigests archive → HasDigests (archive_after change came archive)

-- the bytes of an object are stored by this change with their digest, at the least free place for
-- them
pub record TakesPlace (library : Library) (object bytes : List ℕ) (moment : ℕ) (change : Change)
    : Type 0 where
  pub start : ℕ
  pub is : change ≡ changes.Store moment object start (length bytes) (Some (digest_of bytes))
  pub least : IsLeastPlace library.objects library.blocks (blocks_of (length bytes)) start
  pub applies : applied change library ≡ Some (after change library)

-- where bytes that are to be kept are answered with a change, it takes the least place, and applies
abbrev pub PutsApply : Type 0
PutsApply = (archive : Archive) (object bytes : List ℕ) (moment : ℕ) → Good archive.library
    → IsTrue (is_moment moment)
    → IfSome (answer_to archive (puts object bytes) moment).change
    (TakesPlace archive.library object bytes moment)

-- where any question is answered with a change, the change applies, unless the serials would end
abbrev pub QuestionsApply : Type 0
QuestionsApply = (archive : Archive) (question : Question) (moment : ℕ) → Good archive.library
    → IsTrue (is_good_question archive.library question) → IsTrue (is_moment moment)
    → IfSome (answer_to archive question moment).change (AppliesWithin archive.library)

-- where each stored object has the digest of its bytes, a question for the bytes of one is answered
-- with their length, and never as damage
abbrev pub WholeAreGiven : Type 0
WholeAreGiven = (archive : Archive) (object : List ℕ) (row : ObjectRow) (start size : ℕ)
    (digest : Option Digest) → HasDigests archive
    → object_of object archive.library.objects ≡ Some row
    → row.state ≡ Stored start size digest → get_media_reply archive object ≡ Media size
