-- Words that the calls within this crate cite, and no other crate.
use Rattle.std.specs.Prelude.{◌≡◌, ◌+◌, ℕ, nat_le, Bool, true, false, ◌||◌, List, length, Option, Some, None, IfSome, IsTrue, IsFalse}
use Rattle.disk_trait.specs.Forms.{form_in_use}
use Rattle.media_rows.specs.declared.change.Change.{Change}
use Rattle.media_rows.specs.declared.change.Change.TheVariants as changes
use Rattle.media_rows.specs.declared.command.Command.TheVariants as commands
use Rattle.media_rows.specs.declared.object.Digest.{Digest}
use Rattle.media_rows.specs.declared.object.Extent.{Extent}
use Rattle.media_rows.specs.declared.object.ObjectRow.{ObjectRow}
use Rattle.media_rows.specs.declared.object.ObjectState.TheVariants.{Allocated}
use Rattle.media_rows.specs.declared.reply.Reply.{Reply}
use Rattle.media_rows.specs.declared.reply.Reply.TheVariants.{Created}
use Rattle.media_rows.specs.Answer.{Outcome, changed}
use Rattle.media_rows.specs.Library.{Library}
use Rattle.media_rows.specs.Sound.{is_good_command}
use Rattle.change_codec.specs.Codec.{SpellsChange}
use Rattle.change_codec.specs.Digests.{HasHalves}
use Rattle.change_codec.specs.Fitting.{State, fits, fits_behind_rows, fits_room, snapshot_size}
use Rattle.core_parts.specs.Parts.{HeldLibrary}
use Rattle.media_journal.specs.Journal.{Position}
use Rattle.store_core.specs.declared.prepare.Prepared.{Prepared}
use Rattle.store_core.specs.Prepared.{AppliesTo, HoldsStored, preparation, prepared_by, would_pass_serials}
use Rattle.store_states.specs.States.{IsTextOf}
use Rattle.store_plans.specs.declared.outcome.Planned.{Planned}
use Rattle.store_plans.specs.declared.outcome.Written.{Written}
use Rattle.store_plans.specs.declared.puts.StorePlan.{StorePlan}
use Rattle.store_plans.specs.declared.room.Recorded.{Recorded}
use Rattle.store_states.specs.Fitting.{FitsJournal}
use Rattle.store_plans.specs.Plans.{CanTakeDigest, ComesFirst, IsPlanned, PlanFits, planned_with}

-- ---- the record of a change

-- a record has the room that it needs
abbrev pub RecordFits : Position → Recorded → Type 0
RecordFits position recorded = FitsJournal position recorded.rows recorded.frame

-- the journal has a place for the record of a change, whatever its serials are
abbrev pub has_place : State → Change → Bool
has_place journal change = fits_room journal change || fits_behind_rows journal change

-- the record of a change that has a place, and the rows before it
pub record IsRecord (journal : State) (change : Change) (recorded : Recorded) : Type 0 where
  pub place : IsTrue (has_place journal change)
  pub spells : SpellsChange form_in_use recorded.frame change
  pub first : ComesFirst journal change recorded.rows

-- there is none exactly where it has no place
abbrev pub IsRecorded : State → Change → Option Recorded → Type 0
IsRecorded journal change None = IsFalse (has_place journal change)
IsRecorded journal change (Some recorded) = IsRecord journal change recorded

-- a half has room for the record of a payload of so many bytes behind the library's rows
abbrev pub has_room_behind : State → ℕ → Bool
has_room_behind journal size = nat_le (snapshot_size journal.library + size + 14) journal.half

-- the record of a payload behind the rows of the library
pub record IsRecordBehind (journal : State) (payload : List ℕ) (recorded : Recorded) : Type 0 where
  pub place : IsTrue (has_room_behind journal (length payload))
  pub frame : recorded.frame ≡ payload
  pub text : List ℕ
  pub rows : recorded.rows ≡ Some text
  pub snapshot : IsTextOf form_in_use journal.library.id journal.library.blocks text journal.library
  pub size : length text ≡ snapshot_size journal.library

-- there is none exactly where a half has no room for both
abbrev pub IsBehindRows : State → List ℕ → Option Recorded → Type 0
IsBehindRows journal payload None = IsFalse (has_room_behind journal (length payload))
IsBehindRows journal payload (Some recorded) = IsRecordBehind journal payload recorded

-- ---- the plan of what was prepared

-- the outcome of which something was prepared
abbrev pub prepared_outcome : Prepared → Outcome
prepared_outcome prepared = record { reply = prepared.reply; change = prepared.change }

-- what is known of what was prepared of a library
pub record IsPreparedFor (library : Library) (prepared : Prepared) : Type 0 where
  pub past : prepared.past ≡ would_pass_serials library prepared.change
  pub same : prepared.change ≡ None → prepared.core.library ≡ library
  pub applies : AppliesTo library (preparation prepared)

-- a change fits the journal, if there is one
abbrev pub fits_if : State → Option Change → Bool
fits_if journal None = true
fits_if journal (Some change) = fits journal change

-- the plan of an outcome, and none exactly where its change doesn't fit the journal
abbrev pub IsFitted : State → Outcome → Option Planned → Type 0
IsFitted journal outcome None = IsFalse (fits_if journal outcome.change)
IsFitted journal outcome (Some planned) =
    IsTrue (fits_if journal outcome.change) × IsPlanned journal outcome planned

-- the plan of what was prepared, with what is written for it
abbrev pub plan_with : Prepared → Written → Planned
plan_with prepared written = record {
  next = prepared.core;
  frame = written.frame;
  rows = written.rows;
  reply = prepared.reply;
}

-- the record that is written, if there is one, has its room
abbrev pub WrittenFits : Position → Written → Type 0
WrittenFits position written = IfSome written.frame (FitsJournal position written.rows)

-- the plan that leaves a library as it is
abbrev pub still : HeldLibrary → Reply → Planned
still held reply = record { next = held; frame = None; rows = None; reply = reply }

-- ---- turns and puts

-- a change is a delete step
abbrev pub is_delete_step : Option Change → Bool
is_delete_step (Some (changes.DeleteStep moment)) = true
is_delete_step other = false

-- an object is kept, and has no bytes yet
pub record IsAllocated (found : Option ObjectRow) : Type 0 where
  pub row : ObjectRow
  pub kept : found ≡ Some row
  pub state : row.state ≡ Allocated

-- the change that stores an object's bytes at an extent, with a digest
abbrev pub store_change : List ℕ → Extent → ℕ → Digest → Change
store_change object extent moment digest =
    changes.Store moment object extent.start extent.length (Some digest)

-- what is made of bytes with this digest that come for such an object
abbrev pub storing : List ℕ → Extent → ℕ → Digest → Outcome
storing object extent moment digest = changed Created (store_change object extent moment digest)

-- what was prepared stores an object's bytes at an extent, with some digest, and holds the object's
-- row apart
pub record IsPreparedStore (library : Library) (object : List ℕ) (extent : Extent) (moment : ℕ)
    (prepared : Prepared) : Type 0 where
  pub digest : Digest
  pub good : IsTrue (is_good_command library
      (commands.Keep object extent.start extent.length digest))
  pub made : prepared_by library (storing object extent moment digest) ≡ preparation prepared
  pub applies : AppliesTo library (preparation prepared)
  pub holds : HoldsStored library prepared

-- The record of a change that was prepared: there is none where it would end the serials, and else
-- exactly where it has no place.
abbrev pub IsRecordIn : State → Bool → Option Change → Option Recorded → Type 0
IsRecordIn journal past None found = found ≡ None
IsRecordIn journal true (Some change) found = found ≡ None
IsRecordIn journal false (Some change) found = IsRecorded journal change found

-- the plan of what was prepared, with its record
abbrev pub store_plan_of : Prepared → Recorded → StorePlan
store_plan_of prepared recorded = record {
  prepared = prepared;
  frame = recorded.frame;
  rows = recorded.rows;
}

-- The plan stores an object's bytes at an extent: with whatever digest it is given, the change that
-- stores them with that digest fits the journal, is planned, and its record has its room.
pub record IsStorePlan (position : Position) (journal : State) (object : List ℕ) (extent : Extent)
    (moment : ℕ) (plan : StorePlan) : Type 0 where
  pub fits : (digest : Digest) → IsTrue (fits journal (store_change object extent moment digest))
  pub makes : (digest : Digest) → HasHalves digest
      → IsPlanned journal (storing object extent moment digest) (planned_with digest plan)
  pub room : (digest : Digest) → PlanFits position (planned_with digest plan)
  pub takes : CanTakeDigest plan

-- there is none exactly where that change doesn't fit the journal
abbrev pub IsStorePlanned : Position → State → List ℕ → Extent → ℕ → Option StorePlan → Type 0
IsStorePlanned position journal object extent moment None =
    (digest : Digest) → IsFalse (fits journal (store_change object extent moment digest))
IsStorePlanned position journal object extent moment (Some plan) =
    IsStorePlan position journal object extent moment plan
