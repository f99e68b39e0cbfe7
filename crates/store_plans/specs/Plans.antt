-- What is planned of a store before anything is written to it: the library that a command, a turn
-- or a put of an object's bytes makes of it, the record of the change, and the rows of a checkpoint
-- that must come first. Our own rules.
use Rattle.std.specs.Prelude.{◌≡◌, ◌≤◌, ◌+◌, ◌*◌, ℕ, List, length, bytes_eq, Option, Some, None, is_some, IfSome, IsTrue, IsFalse}
use Rattle.disk_trait.specs.Forms.{form_in_use}
use Rattle.media_rows.specs.declared.change.Change.{Change}
use Rattle.media_rows.specs.declared.change.Change.TheVariants as changes
use Rattle.media_rows.specs.declared.object.Digest.{Digest}
use Rattle.media_rows.specs.declared.object.Extent.{Extent}
use Rattle.media_rows.specs.declared.object.ObjectRow.{ObjectRow}
use Rattle.media_rows.specs.declared.object.ObjectState.TheVariants.{Stored}
use Rattle.media_rows.specs.declared.reply.Reply.TheVariants as replies
use Rattle.media_rows.specs.Answer.{Outcome, changed, stored_put, unchanged}
use Rattle.media_rows.specs.Apply.{applied, applies, turn}
use Rattle.media_rows.specs.Digests.{digest_of}
use Rattle.media_rows.specs.Library.{Library}
use Rattle.media_rows.specs.Media.{Archive, answer_to, puts}
use Rattle.media_rows.specs.Objects.{blocks_of, free_place, object_of}
use Rattle.change_codec.specs.Codec.{SpellsChange}
use Rattle.change_codec.specs.Digests.{HasHalves, digest_bytes, ending_in}
use Rattle.change_codec.specs.Fitting.{State, fits, fits_room, snapshot_size}
use Rattle.library_laws.specs.MediaLaws.{bytes_in}
use Rattle.core_parts.specs.Parts.{library_digested}
use Rattle.media_journal.specs.Journal.{Position}
use Rattle.store_states.specs.Fitting.{FitsJournal, fitted}
use Rattle.store_states.specs.Laws.{is_clear}
use Rattle.store_states.specs.States.{IsTextOf}
use Rattle.store_plans.specs.declared.changes.ChangePlan.{ChangePlan}
use Rattle.store_plans.specs.declared.changes.ChangePlan.TheVariants as plans
use Rattle.store_plans.specs.declared.outcome.Planned.{Planned}
use Rattle.store_plans.specs.declared.puts.PutPlan.{PutPlan}
use Rattle.store_plans.specs.declared.puts.StorePlan.{StorePlan}
use Rattle.store_plans.specs.declared.puts.PutPlan.TheVariants.{Refused, Kept, Write}
use Rattle.store_plans.specs.declared.turns.TurnPlan.{TurnPlan}
use Rattle.store_plans.specs.declared.turns.TurnPlan.TheVariants.{Nothing, NoRoom, Delete, Sweep}

-- a library, in a journal that stands at this position
abbrev pub journal_in : Library → Position → State
journal_in library position = record {
  library = library;
  room = position.room;
  half = 4096 * position.half;
}

-- ---- what is written

-- The rows of a checkpoint before a change: its record doesn't fit the room, and the rows are the
-- text of the library as it is.
pub record IsCheckpoint (journal : State) (change : Change) (rows : List ℕ) : Type 0 where
  pub needed : IsFalse (fits_room journal change)
  pub text : IsTextOf form_in_use journal.library.id journal.library.blocks rows journal.library
  pub size : length rows ≡ snapshot_size journal.library

-- what comes before a change: nothing exactly where its record fits the room
abbrev pub ComesFirst : State → Change → Option (List ℕ) → Type 0
ComesFirst journal change None = IsTrue (fits_room journal change)
ComesFirst journal change (Some rows) = IsCheckpoint journal change rows

-- the plan makes a change: its record spells it, and the library afterwards is what it makes
pub record MakesChange (journal : State) (change : Change) (planned : Planned) : Type 0 where
  pub payload : List ℕ
  pub frame : planned.frame ≡ Some payload
  pub spells : SpellsChange form_in_use payload change
  pub made : applied change journal.library ≡ Some planned.next.library
  pub first : ComesFirst journal change planned.rows

-- the plan makes none: it leaves the library as it is, and nothing is written
pub record MakesNone (journal : State) (planned : Planned) : Type 0 where
  pub frame : planned.frame ≡ None
  pub rows : planned.rows ≡ None
  pub same : planned.next.library ≡ journal.library

-- the plan makes a change, if there is one
abbrev pub MakesStep : State → Option Change → Planned → Type 0
MakesStep journal None planned = MakesNone journal planned
MakesStep journal (Some change) planned = MakesChange journal change planned

-- ---- the plan of an outcome

-- the plan has the reply of an outcome, and makes its change
pub record IsPlanned (journal : State) (outcome : Outcome) (planned : Planned) : Type 0 where
  pub reply : planned.reply ≡ outcome.reply
  pub step : MakesStep journal outcome.change planned

-- the plan of an outcome in a journal: a change that doesn't fit it is refused after all else
abbrev pub IsPlanOf : State → Outcome → Planned → Type 0
IsPlanOf journal outcome planned = IsPlanned journal (fitted journal outcome) planned

-- ---- the room of a record

-- the record of a plan, if it has one, has its room
abbrev pub PlanFits : Position → Planned → Type 0
PlanFits position planned = IfSome planned.frame (FitsJournal position planned.rows)

-- ---- a turn

-- something is due whose change doesn't fit
pub record HasNoRoom (journal : State) (due : Option Change) : Type 0 where
  pub change : Change
  pub is : due ≡ Some change
  pub full : IsFalse (fits journal change)

-- this change is due and fits, and the plan makes it
pub record IsStepPlan (journal : State) (due : Option Change) (change : Change)
    (planned : Planned) : Type 0 where
  pub is : due ≡ Some change
  pub fits : IsTrue (fits journal change)
  pub plan : IsPlanOf journal (changed replies.Done change) planned

-- what is planned of a turn, by the change that is due
abbrev pub IsTurnPlan : State → ℕ → TurnPlan → Type 0
IsTurnPlan journal moment Nothing = turn journal.library moment ≡ None
IsTurnPlan journal moment NoRoom = HasNoRoom journal (turn journal.library moment)
IsTurnPlan journal moment (Delete planned) =
    IsStepPlan journal (turn journal.library moment) (changes.DeleteStep moment) planned
IsTurnPlan journal moment (Sweep planned) =
    IsStepPlan journal (turn journal.library moment) (changes.SweepStep moment) planned

-- the record of a turn has its room
abbrev pub TurnFits : Position → TurnPlan → Type 0
TurnFits position Nothing = Unit {0}
TurnFits position NoRoom = Unit {0}
TurnFits position (Delete planned) = PlanFits position planned
TurnFits position (Sweep planned) = PlanFits position planned

-- ---- a change without a command

-- a change that applies to the library doesn't fit
pub record HasNoPlace (journal : State) (change : Change) : Type 0 where
  pub applies : IsTrue (applies journal.library change)
  pub full : IsFalse (fits journal change)

-- a change applies and fits, and the plan makes it
pub record IsMadePlan (journal : State) (change : Change) (planned : Planned) : Type 0 where
  pub applies : IsTrue (applies journal.library change)
  pub fits : IsTrue (fits journal change)
  pub makes : MakesChange journal change planned
  pub reply : planned.reply ≡ replies.Done

-- what is planned of a change that comes without a command
abbrev pub IsChangePlan : State → Change → ChangePlan → Type 0
IsChangePlan journal change plans.Refused = IsFalse (applies journal.library change)
IsChangePlan journal change plans.NoRoom = HasNoPlace journal change
IsChangePlan journal change (plans.Made planned) = IsMadePlan journal change planned

-- the record of such a change has its room
abbrev pub ChangeFits : Position → ChangePlan → Type 0
ChangeFits position plans.Refused = Unit {0}
ChangeFits position plans.NoRoom = Unit {0}
ChangeFits position (plans.Made planned) = PlanFits position planned

-- ---- a put of an object's bytes

-- The plan with the digest of the bytes that came: it stands last in the record, and the library
-- has it.
abbrev pub planned_with : Digest → StorePlan → Planned
planned_with digest plan = record {
  next = library_digested digest plan.prepared.core;
  frame = Some (ending_in (digest_bytes digest) plan.frame);
  rows = plan.rows;
  reply = plan.prepared.reply;
}

-- A digest can be put into the plan: its record has room for one, and what was prepared holds the
-- object's row apart.
pub record CanTakeDigest (plan : StorePlan) : Type 0 where
  pub long : 32 ≤ length plan.frame
  pub apart : IsTrue (is_some plan.prepared.core.apart)

-- What is planned of bytes that come for an object of an archive: the refusal that is answered to
-- them, a look at the bytes that the object has, or the plan of the answer, once it has their
-- digest.
abbrev pub PlansPut : State → Archive → List ℕ → List ℕ → ℕ → PutPlan → Type 0
PlansPut journal archive object bytes moment (Refused why) =
    fitted journal (answer_to archive (puts object bytes) moment)
    ≡ unchanged (replies.Refused why)
PlansPut journal archive object bytes moment (Kept extent) =
    answer_to archive (puts object bytes) moment
    ≡ stored_put (bytes_eq (bytes_in archive object) bytes)
PlansPut journal archive object bytes moment (Write extent plan) =
    IsPlanOf journal (answer_to archive (puts object bytes) moment)
    (planned_with (digest_of bytes) plan)

-- this holds of all bytes of the size, whatever bytes the library's objects have
abbrev pub IsPutPlan : State → List ℕ → ℕ → ℕ → PutPlan → Type 0
IsPutPlan journal object size moment plan =
    (archive : Archive) (bytes : List ℕ) → archive.library ≡ journal.library
    → length bytes ≡ size → PlansPut journal archive object bytes moment plan

-- an object is stored at this extent
pub record IsStoredAt (objects : List ObjectRow) (object : List ℕ) (extent : Extent) : Type 0 where
  pub row : ObjectRow
  pub kept : object_of object objects ≡ Some row
  pub digest : Option Digest
  pub stored : row.state ≡ Stored extent.start extent.length digest

-- The extent is the least free place for so many bytes: it lies in the media blocks, and no stored
-- object has a block of it. The plan stores the object there, with whatever digest it is given.
pub record TakesExtent (journal : State) (object : List ℕ) (size moment : ℕ) (extent : Extent)
    (plan : StorePlan) : Type 0 where
  pub sized : extent.length ≡ size
  pub least : free_place journal.library.objects journal.library.blocks (blocks_of size)
      ≡ Some extent.start
  pub clear : is_clear journal.library.objects extent.start (blocks_of extent.length)
  pub within : extent.start + blocks_of extent.length ≤ journal.library.blocks
  pub makes : (digest : Digest) → HasHalves digest
      → MakesChange journal
      (changes.Store moment object extent.start extent.length (Some digest))
      (planned_with digest plan)
  pub takes : CanTakeDigest plan

-- the extent of a plan: that of the object's bytes, or the one that they take
abbrev pub HasExtent : State → List ℕ → ℕ → ℕ → PutPlan → Type 0
HasExtent journal object size moment (Refused why) = Unit {0}
HasExtent journal object size moment (Kept extent) =
    IsStoredAt journal.library.objects object extent
HasExtent journal object size moment (Write extent plan) =
    TakesExtent journal object size moment extent plan

-- the record of a put has its room, whatever its digest is
abbrev pub PutFits : Position → PutPlan → Type 0
PutFits position (Refused why) = Unit {0}
PutFits position (Kept extent) = Unit {0}
PutFits position (Write extent plan) =
    (digest : Digest) → PlanFits position (planned_with digest plan)
