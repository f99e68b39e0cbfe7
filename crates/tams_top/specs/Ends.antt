-- What a run of the top call ends with: by the words that were read, the ends of that command, or
-- of words that are none.
use Rattle.std.specs.Prelude.{◌≡◌, ◌⊎◌, ℕ, Bool, List}
use Rattle.disk_trait.specs.Device.{Device}
use Rattle.disk_trait.specs.Calls.{IsCounted}
use Rattle.store_commands.specs.CheckEnds.{CheckEnds}
use Rattle.store_commands.specs.DeliverEnds.{DeliverEnds}
use Rattle.store_commands.specs.FormatEnds.{FormatEnds}
use Rattle.store_commands.specs.ManifestEnds.{ManifestEnds}
use Rattle.store_commands.specs.MigrateEnds.{MigrateEnds}
use Rattle.store_commands.specs.ServeEnds.{ReplayEnds, ServeEnds}
use Rattle.tams_outcomes.specs.Lines.{TakesPart, line_of}
use Rattle.tams_outcomes.specs.Statuses.{exit_of, no_disk_fault}
use Rattle.tams_outcomes.specs.Touching.{Untouched}
use Rattle.tams_outcomes.specs.declared.outcome.RunOutcome.{RunOutcome}
use Rattle.tams_outcomes.specs.declared.outcome.RunOutcome.TheVariants.{BadWords, NoMemory}
use Rattle.tams_words.specs.Words.{IsCommand, IsNoCommand}
use Rattle.tams_words.specs.declared.words.Invocation.{Invocation}
use Rattle.tams_words.specs.declared.words.Invocation.TheVariants.{Format, Check, Migrate, Work, Deliver, Replay, Serve, Manifest, Workload}
use Rattle.store_commands.specs.WorkEnds.{WorkEnds}
use Rattle.store_commands.specs.WorkloadEnds.{WorkloadEnds}

-- what a run met and left of its notes: whether they tell, their count of faults, and their bytes
pub record NotesSeen : Type 0 where
  pub tells : Bool
  pub faults : ℕ
  pub faults_after : ℕ
  pub taken : List ℕ
  pub taken_after : List ℕ

-- What a run met and left: its site before it and behind it, whether its clock tells, and the
-- moments that the clock gave before and by then; and its notes.
pub record RunSeen : Type 1 where
  pub old : Device
  pub new : Device
  pub clock : Bool
  pub begun : List ℕ
  pub given : List ℕ
  pub notes : NotesSeen

-- this line went into the notes, or a prefix of it where their count of faults rose
abbrev pub PutsLine : NotesSeen → List ℕ → Type 0
PutsLine notes line = (put : Bool)
    × TakesPart put notes.tells line notes.faults notes.faults_after notes.taken notes.taken_after

-- The ends of each command. `format`, `check`, `migrate`, `manifest` and `workload` are handed no
-- clock, and `workload` no site.
abbrev pub CommandEnds : Invocation → RunSeen → RunOutcome → Type 0
CommandEnds (Format path blocks half id) run o =
    FormatEnds record { blocks = blocks; half = half; id = id } run.old run.new o
    × (run.given ≡ run.begun)
CommandEnds (Check path) run o = CheckEnds run.old run.new o × (run.given ≡ run.begun)
CommandEnds (Migrate path) run o = MigrateEnds run.old run.new o × (run.given ≡ run.begun)
CommandEnds (Work path) run o = WorkEnds run.old run.new run.clock run.begun run.given o
CommandEnds (Deliver path) run o =
    DeliverEnds run.old run.new run.clock run.begun run.given o
CommandEnds (Replay path base) run o =
    ReplayEnds base run.old run.new run.clock run.begun run.given o
CommandEnds (Serve path port base connections) run o =
    ServeEnds base run.old run.new run.clock run.begun run.given connections o
CommandEnds (Manifest path base flow range) run o =
    ManifestEnds record { base = base; flow = flow; range = range } run.old run.new o
    × (run.given ≡ run.begun)
CommandEnds (Workload number count) run o =
    WorkloadEnds number count o × Untouched run.old run.new × (run.given ≡ run.begun)

-- The ends of words that are no command: they are told so, or there was no memory. Nothing is
-- touched, and no clock is read.
pub record NoCommandEnds (run : RunSeen) (o : RunOutcome) : Type 0 where
  pub causes : (o ≡ BadWords) ⊎ (o ≡ NoMemory)
  pub untouched : Untouched run.old run.new
  pub unread : run.given ≡ run.begun

-- What came of reading the words: there was no memory for them, and nothing was touched; they are
-- no command; or they spell one.
abbrev pub AreRead : List (List ℕ) → RunSeen → RunOutcome → Type 0
AreRead words run o =
    ((o ≡ NoMemory) × Untouched run.old run.new × (run.given ≡ run.begun))
    ⊎ (IsNoCommand words ⊎ ((command : Invocation) × IsCommand words command))

-- A run has one outcome, which gives its status and its line, and says whether the disk failed. It
-- ends as the command does that its words spell, or as words that are none.
pub record EndsByWords (words : List (List ℕ)) (run : RunSeen) (status : ℕ) : Type 0 where
  pub outcome : RunOutcome
  pub exit : status ≡ exit_of outcome
  pub line : PutsLine run.notes (line_of outcome)
  pub disk : IsCounted (no_disk_fault outcome) run.old.faults run.new.faults
  pub read : AreRead words run outcome
  pub command : (command : Invocation) → IsCommand words command → CommandEnds command run outcome
  pub none : IsNoCommand words → NoCommandEnds run outcome
