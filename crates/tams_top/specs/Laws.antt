-- Laws of the ends of a run: what its status, its line and its words say.
use Rattle.std.specs.Prelude.{◌≡◌, ◌≢◌, ◌≤◌, ◌<◌, ◌⊎◌, ℕ, Bool, true, false, List, Option, None, IsSome}
use Rattle.disk_trait.specs.Calls.{Rose}
use Rattle.disk_trait.specs.Device.{Device, Left}
use Rattle.disk_trait.specs.Forms.{form_in_use}
use Rattle.media_journal.specs.File.{HasOpenHeader}
use Rattle.media_rows.specs.Media.{Archive}
use Rattle.store_commands.specs.CheckEnds.{counts_in}
use Rattle.store_commands.specs.Formatting.{formatted_state}
use Rattle.store_commands.specs.Probing.{AreWhole}
use Rattle.store_commands.specs.Completeness.{AreServedWhole, IsServedWhole}
use Rattle.store_commands.specs.Histories.{OnePeer, Replayed, ServedAll}
use Rattle.store_commands.specs.Beginning.{BeginsFrom, beginning}
use Rattle.store_migration.specs.Migration.{HasArchiveBy, HasEither}
use Rattle.store_states.specs.States.{StandsFor, StoreState}
use Rattle.tams_outcomes.specs.Lines.{checked_line, generated_line}
use Rattle.tams_outcomes.specs.Statuses.{exit_of}
use Rattle.tams_outcomes.specs.Touching.{IsSettled, NoneRose, ServesNobody, Untouched}
use Rattle.tams_outcomes.specs.declared.outcome.RunOutcome.{RunOutcome}
use Rattle.tams_outcomes.specs.declared.outcome.RunOutcome.TheVariants as outcome
use Rattle.tams_outcomes.specs.declared.outcome.WorkloadRun.{WorkloadRun}
use Rattle.tams_top.specs.Ends.{EndsByWords, NotesSeen, PutsLine, RunSeen}
use Rattle.tams_top.specs.Refusals.{RefusedFor}
use Rattle.tams_words.specs.Words.{IsCommand, IsNoCommand}
use Rattle.tams_words.specs.declared.words.Invocation.{Invocation}
use Rattle.tams_words.specs.declared.words.Invocation.TheVariants.{Format, Check, Migrate, Work, Deliver, Replay, Serve, Manifest, Workload}
use Rattle.store_commands.specs.Delivering.{DeliveredOff}
use Rattle.store_commands.specs.ManifestEnds.{WritesNothing}
use Rattle.store_commands.specs.Working.{WorkedOff}
use Rattle.hls_manifest.specs.Manifests.{counted}
use Rattle.media_rows.specs.Catalog.{flow_of}
use Rattle.media_rows.specs.Library.{Library}
use Rattle.store_manifest.specs.Telling.{HasToldPart, HasToldWhole, PlaylistAsked, named_in, playlist_in}
use Rattle.tams_outcomes.specs.Lines.{no_playlist_line, playlist_line}
use Rattle.tams_outcomes.specs.declared.outcome.PlaylistRefusal.TheVariants.{NoFlow, NoPeer}
use Rattle.time_range.specs.declared.ranges.Span.{Span}
use Rattle.store_commands.specs.Generating.{IsWorkloadRun}

-- What is said of each run from one device to another, by its words, by what it met and left, and
-- by its status.
abbrev pub OfRuns : Device → Device → (List (List ℕ) → RunSeen → ℕ → Type 0) → Type 0
OfRuns old new Says =
    (words : List (List ℕ)) (clock : Bool) (begun given : List ℕ) (notes : NotesSeen) (status : ℕ)
    → EndsByWords words record {
      old = old;
      new = new;
      clock = clock;
      begun = begun;
      given = given;
      notes = notes;
    } status
    → Says words record {
      old = old;
      new = new;
      clock = clock;
      begun = begun;
      given = given;
      notes = notes;
    } status

-- The words are a `replay` with this base, over a file from which a run may begin.
pub record IsReplayFrom (base : List ℕ) (from : StoreState) (words : List (List ℕ)) (old : Device)
    (clock : Bool) (begun : List ℕ) : Type 0 where
  pub command : (path : List ℕ) × IsCommand words (Replay path base)
  pub begins : BeginsFrom from old clock begun

-- They are a `work` over one.
pub record IsWorkFrom (from : StoreState) (words : List (List ℕ)) (old : Device) (clock : Bool)
    (begun : List ℕ) : Type 0 where
  pub command : (path : List ℕ) × IsCommand words (Work path)
  pub begins : BeginsFrom from old clock begun

-- They are a `deliver` over one.
pub record IsDeliverFrom (from : StoreState) (words : List (List ℕ)) (old : Device) (clock : Bool)
    (begun : List ℕ) : Type 0 where
  pub command : (path : List ℕ) × IsCommand words (Deliver path)
  pub begins : BeginsFrom from old clock begun

-- They are a `serve` of so many connections over one.
pub record IsServeFrom (base : List ℕ) (from : StoreState) (connections : ℕ)
    (words : List (List ℕ)) (old : Device) (clock : Bool) (begun : List ℕ) : Type 0 where
  pub command : (path : List ℕ) × (port : ℕ) × IsCommand words (Serve path port base connections)
  pub begins : BeginsFrom from old clock begun

-- ---- statuses

-- the statuses are 0 to 7
abbrev pub StatusIsKnown : List (List ℕ) → RunSeen → ℕ → Type 0
StatusIsKnown words run status = status ≤ 7

-- Status 1 is that of words that are no command. Nothing was touched, and only want of memory comes
-- before it.
pub record BadWordsAreTold (words : List (List ℕ)) (run : RunSeen) (status : ℕ) : Type 0 where
  pub bad_words : status ≡ 1 → IsNoCommand words × Untouched run.old run.new
  pub bad_words_only : IsNoCommand words → (status ≡ 1) ⊎ (status ≡ 4)
  pub nobody : IsNoCommand words → ServesNobody run.old run.new run.begun run.given

-- Status 2 is that of a command that the file refuses. Nothing was touched and no clock read, and
-- only a disk fault or want of memory comes before it.
pub record RefusalsAreTold (words : List (List ℕ)) (run : RunSeen) (status : ℕ) : Type 0 where
  pub refused : status ≡ 2 → Untouched run.old run.new × (run.given ≡ run.begun)
      × ((command : Invocation) × IsCommand words command
      × (run.old.shows ≡ true → RefusedFor run.old.seen command))
  pub refused_only : (command : Invocation) → IsCommand words command → run.old.shows ≡ true
      → RefusedFor run.old.seen command → (status ≡ 2) ⊎ ((status ≡ 3) ⊎ (status ≡ 4))

-- Status 3 comes wherever the count of disk faults rose, and only where it rose or stands at its
-- last value.
pub record DiskFaultsAreTold (words : List (List ℕ)) (run : RunSeen) (status : ℕ) : Type 0 where
  pub disk : status ≡ 3 → Rose run.old.faults run.new.faults
  pub disk_only : run.old.faults < run.new.faults → status ≡ 3

-- So does status 5 by the count of link faults in `replay` and `manifest`, and in `serve` by that of
-- peer faults, where waiting for a peer failed. Status 5 is never that of `deliver`, and status 6 never that of
-- `serve`.
pub record LinkFaultsAreTold (words : List (List ℕ)) (run : RunSeen) (status : ℕ) : Type 0 where
  pub link : status ≡ 5 → Rose run.old.link.faults run.new.link.faults
  pub link_only : (path base : List ℕ) → IsCommand words (Replay path base)
      → run.old.link.faults < run.new.link.faults
      → (status ≡ 3) ⊎ ((status ≡ 4) ⊎ (status ≡ 5))
  pub peers : (path base : List ℕ) (port connections : ℕ)
      → IsCommand words (Serve path port base connections) → status ≡ 5
      → Rose run.old.link.peer_faults run.new.link.peer_faults
  pub peers_only : (path base : List ℕ) (port connections : ℕ)
      → IsCommand words (Serve path port base connections)
      → run.old.link.peer_faults < run.new.link.peer_faults → status ≡ 5
  pub unlinked : (path : List ℕ) → IsCommand words (Deliver path) → status ≢ 5
  pub cut : (path base : List ℕ) (port connections : ℕ)
      → IsCommand words (Serve path port base connections) → status ≢ 6

-- Without memory `format` and `migrate` write nothing, `serve` ends before it waits for a peer, and
-- `replay` there or with a request of its one connection.
pub record StarvingIsTold (words : List (List ℕ)) (run : RunSeen) (status : ℕ) : Type 0 where
  pub starved_format : (path : List ℕ) (blocks half id : ℕ)
      → IsCommand words (Format path blocks half id) → status ≡ 4 → Untouched run.old run.new
  pub starved_migrate : (path : List ℕ) → IsCommand words (Migrate path) → status ≡ 4
      → Untouched run.old run.new
  pub starved_serve : (path base : List ℕ) (port connections : ℕ)
      → IsCommand words (Serve path port base connections) → status ≡ 4
      → ServesNobody run.old run.new run.begun run.given
  pub starved : status ≡ 4 → ServesNobody run.old run.new run.begun run.given
      ⊎ (((path : List ℕ) × IsCommand words (Work path))
      ⊎ (((path : List ℕ) × IsCommand words (Deliver path))
      ⊎ ((base : List ℕ) (from : StoreState)
      → IsReplayFrom base from words run.old run.clock run.begun
      → OnePeer base (beginning from run.old run.begun) run.new run.given outcome.NoMemory)))

-- ---- what is touched

-- `workload` touches nothing of the outside, and `check` nothing but by reading; `format`,
-- `migrate`, `work` and `deliver` wait for no peer, and `manifest` writes nothing. No connection is left open, and nobody is
-- dialled but by `deliver`.
pub record LittleIsTouched (words : List (List ℕ)) (run : RunSeen) (status : ℕ) : Type 0 where
  pub untouched_workload : (number count : ℕ) → IsCommand words (Workload number count)
      → Untouched run.old run.new × (run.given ≡ run.begun)
  pub untouched_check : (path : List ℕ) → IsCommand words (Check path)
      → Untouched run.old run.new × (run.given ≡ run.begun)
  pub nobody_formats : (path : List ℕ) (blocks half id : ℕ)
      → IsCommand words (Format path blocks half id)
      → ServesNobody run.old run.new run.begun run.given
  pub nobody_migrates : (path : List ℕ) → IsCommand words (Migrate path)
      → ServesNobody run.old run.new run.begun run.given
  pub nobody_works : (path : List ℕ) → IsCommand words (Work path) → run.new.link ≡ run.old.link
  pub unwritten : (path base : List ℕ) (flow : ℕ) (range : Option Span)
      → IsCommand words (Manifest path base flow range)
      → WritesNothing run.old run.new × (run.given ≡ run.begun)
  pub nobody_delivers : (path : List ℕ) → IsCommand words (Deliver path)
      → run.new.link.peer_faults ≡ run.old.link.peer_faults
  pub closed : run.old.link.under_way ≡ false → run.new.link.under_way ≡ false
  pub dials : ((path : List ℕ) → ¬ (IsCommand words (Deliver path)))
      → run.new.link.dials ≡ run.old.link.dials

-- ---- what is done

-- At status 0 of `format` the file stands for the empty library, and at each moment of it over a
-- device without a store a crash leaves none, or that one. `check` of a file that stands for a
-- state puts the counts of its library, each object of which is whole, and `workload` the numbers
-- of one run of its requests. At each moment of `migrate` over a file that stands for an archive,
-- by a half of form 1 or of the form in use, a crash leaves that one, and at status 0 the file
-- stands for it by a half of the form in use.
pub record DoneIsTold (words : List (List ℕ)) (run : RunSeen) (status : ℕ) : Type 0 where
  pub formatted : status ≡ 0 → run.old.shows ≡ true → (path : List ℕ) (blocks half id : ℕ)
      → IsCommand words (Format path blocks half id) → StandsFor run.new.seen
      (formatted_state record { blocks = blocks; half = half; id = id })
  pub formatting : (path : List ℕ) (blocks half id : ℕ)
      → IsCommand words (Format path blocks half id) → run.old.honest ≡ true
      → run.old.shows ≡ true → IsSettled run.old → ¬ (HasOpenHeader run.old.seen)
      → (p : Left) → run.new.left_since run.old.moment p
      → (¬ (HasOpenHeader p.image)) ⊎ StandsFor p.image
      (formatted_state record { blocks = blocks; half = half; id = id })
  pub checked : status ≡ 0 → run.old.shows ≡ true → (path : List ℕ)
      → IsCommand words (Check path) → (from : StoreState) → StandsFor run.old.seen from
      → PutsLine run.notes (checked_line (counts_in from))
  pub whole : status ≡ 0 → run.old.shows ≡ true → (path : List ℕ) → IsCommand words (Check path)
      → (from : StoreState) → StandsFor run.old.seen from → AreWhole from.archive
  pub migrating : (path : List ℕ) → IsCommand words (Migrate path) → run.old.honest ≡ true
      → run.old.shows ≡ true → IsSettled run.old
      → (archive : Archive) → HasEither run.old.seen archive
      → (p : Left) → run.new.left_since run.old.moment p → HasEither p.image archive
  pub migrated : status ≡ 0 → run.old.shows ≡ true → (path : List ℕ)
      → IsCommand words (Migrate path) → (archive : Archive) → HasEither run.old.seen archive
      → HasArchiveBy form_in_use run.new.seen archive
  pub generated : status ≡ 0 → (number count : ℕ) → IsCommand words (Workload number count)
      → (numbers : WorkloadRun) × IsWorkloadRun number count numbers
      × PutsLine run.notes (generated_line numbers)

-- Over a file that stands for a state, one history from it gives all that a run of `replay` or
-- `serve` heard, told and left, whatever failed, and how many bytes it handed to its device, unless
-- that failed; and so does one history of its turns for `work`, and one of its exchanges and marks
-- for `deliver`. The outcome by it has the status.
pub record HistoriesAreTold (words : List (List ℕ)) (run : RunSeen) (status : ℕ) : Type 0 where
  pub replayed : (base : List ℕ) (from : StoreState)
      → IsReplayFrom base from words run.old run.clock run.begun
      → (o : RunOutcome) × (status ≡ exit_of o)
      × Replayed base (beginning from run.old run.begun) run.new run.given o
  pub served : (base : List ℕ) (from : StoreState) (connections : ℕ)
      → IsServeFrom base from connections words run.old run.clock run.begun
      → (o : RunOutcome) × (status ≡ exit_of o)
      × ServedAll base (beginning from run.old run.begun) run.old run.new run.given connections o
  pub worked : (from : StoreState) → IsWorkFrom from words run.old run.clock run.begun
      → (o : RunOutcome) × (status ≡ exit_of o)
      × WorkedOff (beginning from run.old run.begun) run.new run.given o
  pub delivered : (from : StoreState) → IsDeliverFrom from words run.old run.clock run.begun
      → (o : RunOutcome) × (status ≡ exit_of o)
      × DeliveredOff (beginning from run.old run.begun) run.old run.new run.given o

-- Where nothing failed over such a file, each request that was heard whole was answered by the
-- machine, each answer was said whole, and the status is 0, or in `replay` 6 by the input alone.
-- `format`, `check`, `migrate`, `work`, `deliver` and `manifest` end with 0 then, or as the file
-- refuses them, `manifest` also with a refusal by name, and `workload` with 0; each of them may want
-- memory.
pub record WholeIsTold (words : List (List ℕ)) (run : RunSeen) (status : ℕ) : Type 0 where
  pub complete : (base : List ℕ) (from : StoreState)
      → IsReplayFrom base from words run.old run.clock run.begun
      → NoneRose run.old run.new → status ≢ 4
      → IsServedWhole base from run.old run.new run.begun run.given status
  pub complete_serve : (base : List ℕ) (from : StoreState) (connections : ℕ)
      → IsServeFrom base from connections words run.old run.clock run.begun
      → NoneRose run.old run.new → status ≢ 4
      → AreServedWhole base from run.old run.new run.begun run.given connections status
  pub complete_format : (path : List ℕ) (blocks half id : ℕ)
      → IsCommand words (Format path blocks half id) → NoneRose run.old run.new
      → (status ≡ 0) ⊎ ((status ≡ 2) ⊎ (status ≡ 4))
  pub complete_work : (path : List ℕ) → IsCommand words (Work path) → NoneRose run.old run.new
      → (status ≡ 0) ⊎ ((status ≡ 2) ⊎ (status ≡ 4))
  pub complete_deliver : (path : List ℕ) → IsCommand words (Deliver path)
      → NoneRose run.old run.new → (status ≡ 0) ⊎ ((status ≡ 2) ⊎ (status ≡ 4))
  pub complete_check : (path : List ℕ) → IsCommand words (Check path)
      → NoneRose run.old run.new → (status ≡ 0) ⊎ ((status ≡ 2) ⊎ (status ≡ 4))
  pub complete_migrate : (path : List ℕ) → IsCommand words (Migrate path)
      → NoneRose run.old run.new → (status ≡ 0) ⊎ ((status ≡ 2) ⊎ (status ≡ 4))
  pub complete_manifest : (path base : List ℕ) (flow : ℕ) (range : Option Span)
      → IsCommand words (Manifest path base flow range) → NoneRose run.old run.new
      → ((status ≡ 0) ⊎ ((status ≡ 2) ⊎ (status ≡ 4))) ⊎ (status ≡ 7)
  pub complete_workload : (number count : ℕ) → IsCommand words (Workload number count)
      → (status ≡ 0) ⊎ (status ≡ 4)

-- ---- playlists

-- What came of a `manifest` over a file that stands for a state. At status 0 a peer was told the
-- playlist of the whole objects of the flow within the range, and the line has their number; at
-- status 5 it was told a prefix of it at most. At status 7 either the flow isn't kept, and nothing
-- was touched, or it is kept and nobody came, and the line says which.
pub record IsPlaylistTold (run : RunSeen) (status : ℕ) (library : Library) (asked : PlaylistAsked)
    : Type 0 where
  pub said : status ≡ 0
      → (run.old.tells ≡ true → HasToldWhole (playlist_in library asked)
      run.old.link.connections run.new.link.connections)
      × PutsLine run.notes (playlist_line (counted (named_in library asked)))
  pub part : status ≡ 5 → run.old.tells ≡ true → HasToldPart (playlist_in library asked)
      run.old.link.connections run.new.link.connections
  pub refused : status ≡ 7
      → ((flow_of asked.flow library.catalog.flows ≡ None) × Untouched run.old run.new
      × PutsLine run.notes (no_playlist_line NoFlow))
      ⊎ (IsSome (flow_of asked.flow library.catalog.flows)
      × (run.old.tells ≡ true → Rose run.old.link.closed run.new.link.closed)
      × PutsLine run.notes (no_playlist_line NoPeer))
  pub unknown : flow_of asked.flow library.catalog.flows ≡ None
      → (status ≡ 3) ⊎ ((status ≡ 4) ⊎ (status ≡ 7))

-- Status 7 is that of `manifest` alone. `manifest` ends with 3, 4 or 5 where the count of link
-- faults rose, never with 6, and without memory it touches nothing.
pub record PlaylistsAreTold (words : List (List ℕ)) (run : RunSeen) (status : ℕ) : Type 0 where
  pub named : status ≡ 7 → (path base : List ℕ) × (flow : ℕ) × (range : Option Span)
      × IsCommand words (Manifest path base flow range)
  pub told : (path base : List ℕ) (flow : ℕ) (range : Option Span)
      → IsCommand words (Manifest path base flow range) → run.old.shows ≡ true
      → (from : StoreState) → StandsFor run.old.seen from
      → IsPlaylistTold run status from.archive.library
      record { base = base; flow = flow; range = range }
  pub link_only : (path base : List ℕ) (flow : ℕ) (range : Option Span)
      → IsCommand words (Manifest path base flow range)
      → run.old.link.faults < run.new.link.faults
      → (status ≡ 3) ⊎ ((status ≡ 4) ⊎ (status ≡ 5))
  pub cut : (path base : List ℕ) (flow : ℕ) (range : Option Span)
      → IsCommand words (Manifest path base flow range) → status ≢ 6
  pub starved : (path base : List ℕ) (flow : ℕ) (range : Option Span)
      → IsCommand words (Manifest path base flow range) → status ≡ 4
      → Untouched run.old run.new
