-- The ends of `manifest`.
use Rattle.std.specs.Prelude.{◌≡◌, ◌⊎◌, true, false}
use Rattle.disk_trait.specs.Calls.{Elapses}
use Rattle.disk_trait.specs.Device.{Device, Left}
use Rattle.store_manifest.specs.Telling.{PlaylistAsked, PlaylistEnds}
use Rattle.store_states.specs.States.{StandsFor, StoreState}
use Rattle.tams_outcomes.specs.Statuses.{exit_of}
use Rattle.tams_outcomes.specs.Touching.{IsDoneOrRefused, NoneRose, Untouched}
use Rattle.tams_outcomes.specs.declared.outcome.RunOutcome.{RunOutcome}
use Rattle.tams_outcomes.specs.declared.outcome.RunOutcome.TheVariants.{Playlist, NoPlaylist, NotStore, Damaged, OldForm, DiskFault, NoMemory, LinkFault}
use Rattle.store_commands.specs.Opening.{DamageFound, NoStoreFound, OtherFormFound, StandsForOne}
use Rattle.store_commands.specs.ServeEnds.{LinkFaults}

-- Each outcome has its cause in the file.
abbrev pub ManifestCause : Device → Device → RunOutcome → Type 0
ManifestCause old new (Playlist objects) = old.shows ≡ true → StandsForOne old.seen
ManifestCause old new (NoPlaylist refusal) = old.shows ≡ true → StandsForOne old.seen
ManifestCause old new LinkFault = old.shows ≡ true → StandsForOne old.seen
ManifestCause old new NotStore = NoStoreFound old new
ManifestCause old new (Damaged at) = DamageFound old new at
ManifestCause old new OldForm = OtherFormFound old new
ManifestCause old new DiskFault = Untouched old new
ManifestCause old new NoMemory = Untouched old new
ManifestCause old new _ = ⊥

-- an end at which the file was opened, and not before
abbrev pub OnOpened : RunOutcome → Type 0 → Type 0
OnOpened (Playlist objects) says = says
OnOpened (NoPlaylist refusal) says = says
OnOpened LinkFault says = says
OnOpened _ says = Unit {0}

-- a step that leaves the file as it is
abbrev pub LeavesImage : Left → Left → Type 0
LeavesImage old new = new.image ≡ old.image

-- What `manifest` leaves of a device: nothing is written or handed to it, and at each moment a crash
-- leaves the file as it could before.
pub record WritesNothing (old new : Device) : Type 0 where
  pub seen : new.seen ≡ old.seen
  pub handed : new.handed ≡ old.handed
  pub time : Elapses LeavesImage LeavesImage old new

-- a run whose calls all held ended as was asked, or was refused by name
abbrev pub IsDoneOrNamed : RunOutcome → Type 0
IsDoneOrNamed o = IsDoneOrRefused o ⊎ (exit_of o ≡ 7)

-- The ends of `manifest`: each outcome has its cause; over a file that stands for a state the peer
-- was told the playlist of that state's library, as far as the calls of the link held, or the flow
-- isn't kept; the link fails exactly at a link fault, behind a disk fault and want of memory; where
-- no call failed it is done, or refused by its cause. It writes nothing, leaves no connection open,
-- and dials nobody.
pub record ManifestEnds (asked : PlaylistAsked) (old new : Device) (o : RunOutcome) : Type 0 where
  pub causes : ManifestCause old new o
  pub told : old.shows ≡ true → (from : StoreState) → StandsFor old.seen from
      → OnOpened o (PlaylistEnds asked from.archive.library old new o)
  pub link : LinkFaults o old.link.faults new.link.faults
  pub completeness : NoneRose old new → IsDoneOrNamed o
  pub unwritten : WritesNothing old new
  pub closed : old.link.under_way ≡ false → new.link.under_way ≡ false
  pub dials : new.link.dials ≡ old.link.dials

-- The same as it is proved, which proofs alone need.
pub record ManifestRun (asked : PlaylistAsked) (old new : Device) (o : RunOutcome) : Type 0 where
  pub cause : ManifestCause old new o
  pub told : old.shows ≡ true → (from : StoreState) → StandsFor old.seen from
      → OnOpened o (PlaylistEnds asked from.archive.library old new o)
  pub link : LinkFaults o old.link.faults new.link.faults
  pub unwritten : WritesNothing old new
  pub closed : old.link.under_way ≡ false → new.link.under_way ≡ false
  pub dials : new.link.dials ≡ old.link.dials
