-- Whether a change fits the journal, and what room is left after it. A record takes 5 bytes beside
-- its payload, and needs one more for the gate behind it. Where the room is too small for that, a
-- checkpoint first makes the snapshot rows of the library all that the other half holds, with 8
-- bytes for their length. Our own rules.
use Rattle.std.specs.Prelude.{ℕ, nat_le, ◌+◌, ◌-◌, Bool, ◌&&◌, ◌||◌, length, if◌then◌else◌}
use Rattle.std.specs.List.{flat_map}
use Rattle.disk_trait.specs.Forms.{form_in_use}
use Rattle.media_rows.specs.declared.change.Change.{Change}
use Rattle.media_rows.specs.Changes.{after}
use Rattle.media_rows.specs.Library.{Library, last_serial}
use Rattle.media_rows.specs.Snapshot.{rows_of}
use Rattle.change_codec.specs.Changes.{change_spelling}
use Rattle.change_codec.specs.Rows.{row_spelling}

-- A library in a journal: the bytes that are left from the closed gate to the end of the half in
-- use, and the bytes of a half.
pub record State : Type 0 where
  pub library : Library
  pub room : ℕ
  pub half : ℕ

-- the length of a change's bytes
abbrev pub change_size : Change → ℕ
change_size change = length ((change_spelling form_in_use).meaning.spell change)

-- the length of the snapshot rows of a library
abbrev pub snapshot_size : Library → ℕ
snapshot_size library = length (flat_map (row_spelling form_in_use).meaning.spell (rows_of library))

-- the record of a change fits the room
abbrev pub fits_room : State → Change → Bool
fits_room state change = nat_le (change_size change + 6) state.room

-- it fits a half behind the snapshot rows of the library before it
abbrev pub fits_behind_rows : State → Change → Bool
fits_behind_rows state change =
    nat_le (snapshot_size state.library + change_size change + 14) state.half

-- A change fits where its serials do, and where its record fits the room, or fits it once a
-- checkpoint was made.
abbrev pub fits : State → Change → Bool
fits state change =
    nat_le (after change state.library).next_serial last_serial
    && (fits_room state change || fits_behind_rows state change)

-- the room before the record of a change that fits: where it's too small, that behind a checkpoint
abbrev pub room_before : State → Change → ℕ
room_before state change =
    if fits_room state change then state.room
    else state.half - (snapshot_size state.library + 8)

-- the state after a change that fits
abbrev pub with_record : State → Change → State
with_record state change = record {
  library = after change state.library;
  room = room_before state change - (change_size change + 5);
  half = state.half;
}
