-- The line that each outcome puts into the notes, and what a sink took of a line.
use Rattle.std.specs.Prelude.{◌≡◌, ℕ, zero, suc, Bool, true, false, List, ◌++◌, codes}
use Rattle.std.specs.Fmt.{decimal}
use Rattle.disk_trait.specs.Calls.{IsCounted}
use Rattle.site_edge.specs.Sinks.{Puts}
use Rattle.tams_outcomes.specs.declared.outcome.StoreCounts.{StoreCounts}
use Rattle.tams_outcomes.specs.declared.outcome.WorkloadRun.{WorkloadRun}
use Rattle.tams_outcomes.specs.declared.outcome.DamagedObject as damaged_object
use Rattle.tams_outcomes.specs.declared.outcome.PlaylistRefusal.{PlaylistRefusal}
use Rattle.tams_outcomes.specs.declared.outcome.PlaylistRefusal.TheVariants as playlist
use Rattle.tams_outcomes.specs.declared.outcome.RunOutcome.{RunOutcome}
use Rattle.tams_outcomes.specs.declared.outcome.RunOutcome.TheVariants.{Formatted, Checked, Migrated, AlreadyMigrated, Worked, Delivered, Served, Playlist, NoPlaylist, Generated, Cut, BadWords, NotStore, AlreadyStore, TooSmall, Damaged, DamagedObject, OldForm, DiskFault, NoMemory, LinkFault}

-- bytes within a line
abbrev pub named : List ℕ → List ℕ → List ℕ → List ℕ
named front bytes rest = (front ++ bytes) ++ rest

-- a number within a line
abbrev pub numbered : List ℕ → ℕ → List ℕ → List ℕ
numbered front n rest = named front (decimal n) rest

-- the end of the line of a run that served
abbrev pub changes_end : ℕ → List ℕ
changes_end zero = codes " changes\n"
changes_end (suc n) = numbered (codes " changes, ") (suc n) (codes " turns skipped\n")

-- the line of a run that served: its answers, its changes, and the turns that it skipped where
-- there are any
abbrev pub served_line : ℕ → ℕ → ℕ → List ℕ
served_line requests changes skipped =
    numbered (codes "ok: ") requests (numbered (codes " requests, ") changes (changes_end skipped))

-- the end of the line of a run that delivered
abbrev pub events_end : Bool → List ℕ
events_end true = codes " events, no room\n"
events_end false = codes " events\n"

-- the line of a run that delivered: its events, those that waited, and whether the journal had no
-- room for the change of one
abbrev pub delivered_line : ℕ → ℕ → Bool → List ℕ
delivered_line delivered waiting full =
    numbered (codes "delivered: ") delivered (numbered (codes " of ") waiting (events_end full))

-- the line of a store that was made: its blocks, those of a half, and those for media
abbrev pub formatted_line : ℕ → ℕ → ℕ → List ℕ
formatted_line blocks half media =
    numbered (codes "formatted ") blocks (numbered (codes " blocks, ") half
    (numbered (codes " per half, ") media (codes " for media\n")))

-- the line of a store that was checked: how much it keeps
abbrev pub checked_line : StoreCounts → List ℕ
checked_line n =
    numbered (codes "ok: ") n.flows (numbered (codes " flows, ") n.segments
    (numbered (codes " segments, ") n.objects (numbered (codes " objects, ") n.requests
    (numbered (codes " requests, ") n.hooks
    (numbered (codes " hooks, ") n.events (codes " events\n"))))))

-- the line of a store that was moved to the form in use: how many objects it has, and how long its
-- rows are
abbrev pub migrated_line : ℕ → ℕ → List ℕ
migrated_line objects rows =
    numbered (codes "migrated: ") objects (numbered (codes " objects, ") rows
    (codes " bytes of rows\n"))

-- the line of a run of generated requests: their two numbers, its answers and changes, and what the
-- store keeps then
abbrev pub generated_line : WorkloadRun → List ℕ
generated_line n =
    numbered (codes "workload ") n.number (numbered (codes " ") n.count
    (numbered (codes ": requests ") n.requests (numbered (codes ", changes ") n.changes
    (numbered (codes ", flows ") n.kept.flows (numbered (codes ", segments ") n.kept.segments
    (numbered (codes ", objects ") n.kept.objects
    (numbered (codes ", bytes ") n.bytes (codes "\n"))))))))

-- the line of a damaged object: its id, the digest that is kept of its bytes, and the one that they
-- have
abbrev pub damaged_line : damaged_object.DamagedObject → List ℕ
damaged_line damaged =
    named (codes "damaged object ") damaged.object (named (codes ": kept ") damaged.kept
    (named (codes ", found ") damaged.found (codes "\n")))

-- the line of a playlist that was said: how many objects it names
abbrev pub playlist_line : ℕ → List ℕ
playlist_line objects = numbered (codes "manifest: ") objects (codes " objects\n")

-- the line of a playlist that isn't said
abbrev pub no_playlist_line : PlaylistRefusal → List ℕ
no_playlist_line playlist.NoFlow = codes "manifest refused: NoFlow\n"
no_playlist_line playlist.NoPeer = codes "manifest refused: NoPeer\n"

-- the line of each end in the notes
abbrev pub line_of : RunOutcome → List ℕ
line_of (Formatted blocks half media) = formatted_line blocks half media
line_of (Checked counts) = checked_line counts
line_of (Migrated objects rows) = migrated_line objects rows
line_of AlreadyMigrated = codes "already migrated\n"
line_of (Worked turns) = numbered (codes "worked: ") turns (codes " turns\n")
line_of (Delivered delivered waiting full) = delivered_line delivered waiting full
line_of (Served requests changes skipped) = served_line requests changes skipped
line_of (Playlist objects) = playlist_line objects
line_of (NoPlaylist refusal) = no_playlist_line refusal
line_of (Generated run) = generated_line run
line_of BadWords = codes "bad words\n"
line_of NotStore = codes "not a store\n"
line_of AlreadyStore = codes "already a store\n"
line_of TooSmall = codes "too small\n"
line_of (Damaged at) = numbered (codes "damaged at ") at (codes "\n")
line_of (DamagedObject damaged) = damaged_line damaged
line_of OldForm = codes "old store\n"
line_of DiskFault = codes "disk fault\n"
line_of NoMemory = codes "no memory\n"
line_of LinkFault = codes "link fault\n"
line_of Cut = codes "input ended within a request\n"

-- A sink took these bytes, or a prefix of them where its count of faults rose.
pub record TakesPart (ok tells : Bool) (bytes : List ℕ) (faults faults_after : ℕ)
    (taken taken_after : List ℕ) : Type 0 where
  pub counted : IsCounted ok faults faults_after
  pub puts : tells ≡ true → Puts ok bytes taken taken_after
