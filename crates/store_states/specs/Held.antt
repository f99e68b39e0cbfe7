-- The bytes of the objects of a library, and those of the next one. Our own rules.
use Rattle.std.specs.Prelude.{◌≡◌, ◌≤◌, ◌*◌, ◌+◌, ℕ, List, length, IsTrue}
use Rattle.media_rows.specs.declared.change.Change.{Change}
use Rattle.media_rows.specs.declared.change.Change.TheVariants as changes
use Rattle.media_rows.specs.declared.object.ObjectState.TheVariants.{Stored}
use Rattle.media_rows.specs.Apply.{is_allowed}
use Rattle.media_rows.specs.Changes.{after}
use Rattle.media_rows.specs.Good.{Good}
use Rattle.media_rows.specs.Library.{Library}
use Rattle.media_rows.specs.Media.{Archive, archive_after, fits_bytes, is_held}
use Rattle.store_states.specs.States.{held_in, state_bytes}

-- what comes for the storing of an object stands at its place in the image
abbrev pub StandsThere : List ℕ → ℕ → Change → List ℕ → Type 0
StandsThere image area (changes.Store moment object start size digest) came =
    came ≡ state_bytes image area (Stored start size digest)
StandsThere image area other came = Unit {0}

-- an archive of what an image has: the library, and the bytes of its objects there
abbrev pub archive_in : List ℕ → ℕ → Library → Archive
archive_in image area library =
    record { library = library; held = held_in image area library.objects }

-- the media blocks of a library lie in the image
abbrev pub HasBlocks : List ℕ → ℕ → Library → Type 0
HasBlocks image area library = area + 4096 * library.blocks ≤ length image

-- the bytes of a good library's objects have their lengths there
abbrev pub BytesHaveTheirLengths : Type 0
BytesHaveTheirLengths =
    (image : List ℕ) (area : ℕ) (library : Library) → Good library → HasBlocks image area library
    → IsTrue (is_held (archive_in image area library))

-- A change that is allowed leaves the image with the bytes of the next library's objects: those of
-- before, and those that came for the object that it stores.
abbrev pub ChangesFindBytes : Type 0
ChangesFindBytes =
    (image : List ℕ) (area : ℕ) (library : Library) (change : Change) (came : List ℕ)
    → Good library → HasBlocks image area library → IsTrue (is_allowed library change)
    → IsTrue (fits_bytes change came) → StandsThere image area change came
    → held_in image area (after change library).objects
    ≡ (archive_after change came (archive_in image area library)).held
