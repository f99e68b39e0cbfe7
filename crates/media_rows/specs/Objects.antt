-- Media objects by rising serial: what refers to them, where their bytes lie, which are due to be
-- swept, and what each change of them makes. Our own rules.
use Rattle.std.specs.Prelude.{ℕ, ◌+◌, ◌-◌, ◌/◌, ◌==◌, nat_lt, nat_le, List, [], ◌∷◌, Bool, true, false, not, ◌&&◌, ◌||◌, Option, Some, None, if◌then◌else◌, filter, map, find, take, length, bytes_eq}
use Rattle.std.specs.List.{list_any, list_all}
use Rattle.disk_trait.specs.Forms.{form_in_use}
use Rattle.media_rows.specs.declared.object.Digest.{Digest}
use Rattle.media_rows.specs.declared.object.ObjectRow.{ObjectRow}
use Rattle.media_rows.specs.declared.object.ObjectState.{ObjectState}
use Rattle.media_rows.specs.declared.object.ObjectState.TheVariants.{Allocated, Stored}
use Rattle.media_rows.specs.declared.segment.SegmentRow.{SegmentRow}
use Rattle.media_rows.specs.Lists.{in_order, placed_all, numbers_below}

-- ---- look-ups

-- the object of an id, if it is kept, be it allocated or stored
abbrev pub object_of : List ℕ → List ObjectRow → Option ObjectRow
object_of id objects = find (λ row. bytes_eq row.id id) objects

-- an object in this state has its bytes
abbrev pub is_stored : ObjectState → Bool
is_stored Allocated = false
is_stored (Stored start size digest) = true

-- the digest that is kept of an object's bytes, if there is one
abbrev pub digest_in_state : ObjectState → Option Digest
digest_in_state Allocated = None
digest_in_state (Stored start size digest) = digest

-- the object is kept, and its bytes are stored
abbrev pub is_stored_row : Option ObjectRow → Bool
is_stored_row None = false
is_stored_row (Some row) = is_stored row.state

-- the object of an id is kept, and its bytes are stored; no other may be named by a segment
abbrev pub is_stored_object : List ObjectRow → List ℕ → Bool
is_stored_object objects id = is_stored_row (object_of id objects)

-- ---- references, counted by a scan of all segments

-- the segments, of one flow or of several, that name the object
abbrev pub references : List SegmentRow → List ℕ → List SegmentRow
references segments object = filter (λ row. bytes_eq row.segment.object object) segments

-- how many segments name the object
abbrev pub reference_count : List SegmentRow → List ℕ → ℕ
reference_count segments object = length (references segments object)

-- some segment names the object
abbrev pub is_named : List SegmentRow → List ℕ → Bool
is_named segments object = list_any (λ row. bytes_eq row.segment.object object) segments

-- the flows whose segments name the object, by rising id, each once
abbrev pub flows_naming : List SegmentRow → List ℕ → List ℕ
flows_naming segments object =
    placed_all nat_lt (map (λ row. row.flow) (references segments object))

-- ---- places of media blocks

-- the bytes of a block
abbrev pub block_size : ℕ
block_size = 4096

-- the blocks that so many bytes take
abbrev pub blocks_of : ℕ → ℕ
blocks_of bytes = (bytes + (block_size - 1)) / block_size

-- two places of so many blocks have no block in common
abbrev pub are_apart : ℕ → ℕ → ℕ → ℕ → Bool
are_apart start count other_start other_count =
    nat_le (start + count) other_start || nat_le (other_start + other_count) start

-- no stored object has a block of this place
abbrev pub is_clear_of : ℕ → ℕ → ObjectState → Bool
is_clear_of start count Allocated = true
is_clear_of start count (Stored other_start size digest) =
    are_apart start count other_start (blocks_of size)

-- the place lies within the media blocks and is free
abbrev pub is_free : List ObjectRow → ℕ → ℕ → ℕ → Bool
is_free objects blocks count start =
    nat_le (start + count) blocks && list_all (λ row. is_clear_of start count row.state) objects

-- the least free place for so many blocks, where there is one; no blocks are placed at 0
abbrev pub free_place : List ObjectRow → ℕ → ℕ → Option ℕ
free_place objects blocks count =
    if count == 0 then Some 0 else find (is_free objects blocks count) (numbers_below blocks)

-- ---- what changes make

-- the rows of an allocation, without bytes and idle since this moment, with rising serials in list
-- order
abbrev pub allocated_rows : ℕ → ℕ → List (List ℕ) → List ObjectRow
allocated_rows serial moment [] = []
allocated_rows serial moment (id ∷ later) =
    record { id = id; serial = serial; state = Allocated; idle_since = moment }
    ∷ allocated_rows (serial + 1) moment later

-- the digest that is kept of an object's bytes: one in form 2, and none in form 1
abbrev pub kept_digest : Digest → Option Digest
kept_digest digest = if form_in_use == 2 then Some digest else None

-- an object with its bytes at a place, idle since this moment, and with their digest where one is
-- kept
abbrev pub stored_row : ℕ → ℕ → Option Digest → ℕ → ObjectRow → ObjectRow
stored_row start size digest moment row =
    record row { state = Stored start size digest; idle_since = moment }

-- the objects once the one of an id was changed in this way; all others stay
abbrev pub with_object : List ℕ → (ObjectRow → ObjectRow) → List ObjectRow → List ObjectRow
with_object id change objects =
    map (λ row. if bytes_eq row.id id then change row else row) objects

-- an object that loses its last reference is idle since this moment
abbrev pub idled_row : List SegmentRow → List SegmentRow → ℕ → ObjectRow → ObjectRow
idled_row before after moment row =
    if is_named before row.id
    && not (is_named after row.id) then record row { idle_since = moment } else row

-- the objects once segments went; an object that was named by none before stays as it was
abbrev pub idled : List SegmentRow → List SegmentRow → ℕ → List ObjectRow → List ObjectRow
idled before after moment objects = map (idled_row before after moment) objects

-- ---- sweeping

-- seconds for which an object that no segment names is kept
abbrev pub idle_time : ℕ
idle_time = 86400

-- the most objects that one sweep removes
abbrev pub sweep_size : ℕ
sweep_size = 16

-- no segment names the object, and its time is over
abbrev pub is_due : List SegmentRow → ℕ → ObjectRow → Bool
is_due segments moment row =
    not (is_named segments row.id) && nat_le (row.idle_since + idle_time) moment

-- by idle moment, then by serial
abbrev pub idles_before : ObjectRow → ObjectRow → Bool
idles_before a b =
    nat_lt a.idle_since b.idle_since || ((a.idle_since == b.idle_since) && nat_lt a.serial b.serial)

-- the objects that are due, in the order in which they go
abbrev pub due_objects : List SegmentRow → List ObjectRow → ℕ → List ObjectRow
due_objects segments objects moment =
    in_order idles_before (filter (is_due segments moment) objects)

-- the objects that the next sweep removes
abbrev pub swept_objects : List SegmentRow → List ObjectRow → ℕ → List ObjectRow
swept_objects segments objects moment = take sweep_size (due_objects segments objects moment)

-- the objects without these, which are known by their serials
abbrev pub without_objects : List ObjectRow → List ObjectRow → List ObjectRow
without_objects gone objects =
    filter (λ row. not (list_any (λ other. other.serial == row.serial) gone)) objects

-- ---- the bytes of objects, which stand beside a library as a list along its objects

-- a stored object's bytes have its length, and one that isn't stored has none
abbrev pub fits_state : ObjectState → List ℕ → Bool
fits_state Allocated bytes = length bytes == 0
fits_state (Stored start size digest) bytes = length bytes == size

-- these are the bytes of these objects, one list for each
abbrev pub are_bytes_of : List ObjectRow → List (List ℕ) → Bool
are_bytes_of [] [] = true
are_bytes_of [] (bytes ∷ more) = false
are_bytes_of (row ∷ rows) [] = false
are_bytes_of (row ∷ rows) (bytes ∷ more) = fits_state row.state bytes && are_bytes_of rows more

-- the bytes of an object among those of all
abbrev pub bytes_of : List ℕ → List ObjectRow → List (List ℕ) → List ℕ
bytes_of id [] all = []
bytes_of id (row ∷ rows) [] = []
bytes_of id (row ∷ rows) (bytes ∷ more) =
    if bytes_eq row.id id then bytes else bytes_of id rows more
