-- What the status, the line and the words of a run say of its end.
use Rattle.std.proofs.Common.{◌≡◌, ◌≢◌, ◌≤◌, ◌<◌, ◌⊎◌, ◌∙◌, ℕ, Bool, true, false, IsTrue, List, Option, refl, sym, ap, subst, inl, inr, arith}
use Rattle.disk_trait.specs.Calls.{Rose}
use Rattle.store_opening.specs.Laws.{RefusedStandForNone}
use Rattle.store_states.specs.States.{StoreState}
use Rattle.store_commands.proofs.CheckEndLemmas.{check_only, check_refused, check_unlinked, check_words}
use Rattle.store_commands.specs.CheckEnds.{CheckEnds}
use Rattle.store_commands.proofs.DeliverEndLemmas.{deliver_only, deliver_refused, deliver_unlinked, deliver_words}
use Rattle.store_commands.specs.DeliverEnds.{DeliverEnds}
use Rattle.store_commands.proofs.FormatEndLemmas.{format_only, format_refused, format_unlinked, format_untouched, format_words}
use Rattle.store_commands.specs.FormatEnds.{FormatEnds}
use Rattle.store_commands.proofs.ManifestEndLemmas.{manifest_linked, manifest_only, manifest_refused, manifest_uncut, manifest_untouched, manifest_words}
use Rattle.store_commands.specs.ManifestEnds.{ManifestEnds}
use Rattle.tams_top.proofs.PlaylistLemmas.{is_told, link_rose, named_only}
use Rattle.store_commands.proofs.MigrateEndLemmas.{migrate_only, migrate_refused, migrate_unlinked, migrate_untouched, migrate_words}
use Rattle.store_commands.specs.MigrateEnds.{MigrateEnds}
use Rattle.store_commands.proofs.ServeEndLemmas.{peers_rose, replay_linked, replay_linked_only}
use Rattle.store_commands.specs.ServeEnds.{ReplayEnds, ServeEnds}
use Rattle.store_commands.specs.Histories.{OnePeer}
use Rattle.store_commands.proofs.OpeningLemmas.{opened_only, opened_refused, opened_words}
use Rattle.store_commands.specs.Beginning.{beginning}
use Rattle.tams_outcomes.proofs.ExitLemmas.{cut_by, disk_fault_by, exit_at_most, link_fault_by, no_memory_by}
use Rattle.tams_outcomes.proofs.TouchingLemmas.{none_dialled, stays_idle}
use Rattle.tams_outcomes.specs.Statuses.{exit_of, no_disk_fault}
use Rattle.tams_outcomes.specs.Touching.{ServesNobody, Untouched}
use Rattle.tams_outcomes.specs.declared.outcome.RunOutcome.{RunOutcome}
use Rattle.tams_outcomes.specs.declared.outcome.RunOutcome.TheVariants.{DiskFault, NoMemory}
use Rattle.tams_top.specs.Ends.{CommandEnds, EndsByWords, RunSeen}
use Rattle.tams_top.specs.Laws.{BadWordsAreTold, DiskFaultsAreTold, DoneIsTold, HistoriesAreTold, IsReplayFrom, LinkFaultsAreTold, LittleIsTouched, PlaylistsAreTold, RefusalsAreTold, StarvingIsTold, StatusIsKnown, WholeIsTold}
use Rattle.tams_top.specs.Refusals.{RefusedFor}
use Rattle.tams_words.proofs.WordTheorems.{one_command}
use Rattle.tams_words.specs.Words.{IsCommand, IsNoCommand}
use Rattle.time_range.specs.declared.ranges.Span.{Span}
use Rattle.tams_words.specs.declared.words.Invocation.{Invocation}
use Rattle.tams_words.specs.declared.words.Invocation.TheVariants.{Format, Check, Migrate, Work, Deliver, Replay, Serve, Manifest, Workload}
use Rattle.store_commands.proofs.WorkEndLemmas.{work_only, work_refused, work_unlinked, work_words}
use Rattle.store_commands.specs.WorkEnds.{WorkEnds}
use Rattle.store_commands.specs.WorkloadEnds.{WorkloadEnds}

-- the disk failed where no other end says so
disk_failed : (o : RunOutcome) → no_disk_fault o ≡ false → exit_of o ≡ 3
disk_failed DiskFault e = refl
disk_failed _ e = absurd cc

disk_rose : (o : RunOutcome) (held : Bool) (before now : ℕ) → no_disk_fault o ≡ held → (IsTrue held → now ≡ before) → before < now → exit_of o ≡ 3
disk_rose o true before now e stays rose = absurd (omega (arith, stays refl, rose))
disk_rose o false before now e stays rose = disk_failed o e

module _ (run : RunSeen) (o : RunOutcome) where
  -- a `workload` is done or starved
  unless_workload : (n : ℕ) → n ≢ 0 → n ≢ 4 → (exit_of o ≡ 0) ⊎ (exit_of o ≡ 4) → exit_of o ≢ n
  unless_workload n done fed whole s = elim whole [ inl e ↦ done (sym s ∙ e) | inr e ↦ fed (sym s ∙ e) ]

  command_words : (command : Invocation) → CommandEnds command run o → exit_of o ≢ 1
  command_words (Format path blocks half id) ends s =
      format_words run.old run.new (record { blocks = blocks; half = half; id = id }) o ends.0.causes s
  command_words (Check path) ends s = check_words run.old run.new o ends.0.causes s
  command_words (Migrate path) ends s = migrate_words run.old run.new o ends.0.causes s
  command_words (Work path) ends s = work_words run.old run.new o ends.causes s
  command_words (Deliver path) ends s = deliver_words run.old run.new o ends.causes s
  command_words (Replay path base) ends s = opened_words run.old run.new o ends.causes.file s
  command_words (Serve path port base connections) ends s = opened_words run.old run.new o ends.causes.file s
  command_words (Manifest path base flow range) ends s = manifest_words run.old run.new o ends.0.causes s
  command_words (Workload number count) ends s = unless_workload 1 (λ e. omega (arith, e)) (λ e. omega (arith, e)) ends.0.completeness s

  command_refused : RefusedStandForNone → (command : Invocation) → CommandEnds command run o → exit_of o ≡ 2
      → Untouched run.old run.new × (run.old.shows ≡ true → RefusedFor run.old.seen command)
  command_refused damaged (Format path blocks half id) ends s =
      format_refused run.old run.new (record { blocks = blocks; half = half; id = id }) o ends.0.causes s
  command_refused damaged (Check path) ends s = check_refused run.old run.new damaged o ends.0.causes s
  command_refused damaged (Migrate path) ends s = migrate_refused run.old run.new damaged o ends.0.causes s
  command_refused damaged (Work path) ends s = work_refused run.old run.new damaged o ends.causes s
  command_refused damaged (Deliver path) ends s = deliver_refused run.old run.new damaged o ends.causes s
  command_refused damaged (Replay path base) ends s = opened_refused run.old run.new damaged o ends.causes.file s
  command_refused damaged (Serve path port base connections) ends s = opened_refused run.old run.new damaged o ends.causes.file s
  command_refused damaged (Manifest path base flow range) ends s = manifest_refused run.old run.new damaged o ends.0.causes s
  command_refused damaged (Workload number count) ends s =
      absurd (unless_workload 2 (λ e. omega (arith, e)) (λ e. omega (arith, e)) ends.0.completeness s)

  command_unread : (command : Invocation) → CommandEnds command run o → exit_of o ≡ 2 → run.given ≡ run.begun
  command_unread (Format path blocks half id) ends s = ends.1
  command_unread (Check path) ends s = ends.1
  command_unread (Migrate path) ends s = ends.1
  command_unread (Work path) ends s = ends.unread s
  command_unread (Deliver path) ends s = ends.unread s
  command_unread (Replay path base) ends s = ends.causes.unread s
  command_unread (Serve path port base connections) ends s = ends.causes.unread s
  command_unread (Manifest path base flow range) ends s = ends.1
  command_unread (Workload number count) ends s = ends.2

  command_only : RefusedStandForNone → (command : Invocation) → CommandEnds command run o → run.old.shows ≡ true → RefusedFor run.old.seen command
      → (exit_of o ≡ 2) ⊎ ((exit_of o ≡ 3) ⊎ (exit_of o ≡ 4))
  command_only damaged (Format path blocks half id) ends shows cause =
      format_only run.old run.new (record { blocks = blocks; half = half; id = id }) o ends.0.causes shows cause
  command_only damaged (Check path) ends shows cause = check_only run.old run.new o ends.0.causes shows cause
  command_only damaged (Migrate path) ends shows cause = migrate_only run.old run.new damaged o ends.0.causes shows cause
  command_only damaged (Work path) ends shows cause = work_only run.old run.new o ends.causes shows cause
  command_only damaged (Deliver path) ends shows cause = deliver_only run.old run.new o ends.causes shows cause
  command_only damaged (Replay path base) ends shows cause = opened_only run.old run.new o ends.causes.file shows cause
  command_only damaged (Serve path port base connections) ends shows cause = opened_only run.old run.new o ends.causes.file shows cause
  command_only damaged (Manifest path base flow range) ends shows cause = manifest_only run.old run.new o ends.0.causes shows cause
  command_only damaged (Workload number count) ends shows cause = absurd cause

  command_linked : (command : Invocation) → CommandEnds command run o → exit_of o ≡ 5 → Rose run.old.link.faults run.new.link.faults
  command_linked (Format path blocks half id) ends s =
      absurd (format_unlinked run.old run.new (record { blocks = blocks; half = half; id = id }) o ends.0.causes s)
  command_linked (Check path) ends s = absurd (check_unlinked run.old run.new o ends.0.causes s)
  command_linked (Migrate path) ends s = absurd (migrate_unlinked run.old run.new o ends.0.causes s)
  command_linked (Work path) ends s = absurd (work_unlinked run.old run.new o ends.causes s)
  command_linked (Deliver path) ends s = absurd (deliver_unlinked run.old run.new o ends.causes s)
  command_linked (Replay path base) ends s = replay_linked o run.old.link.faults run.new.link.faults ends.causes.link (link_fault_by o s)
  command_linked (Serve path port base connections) ends s = ends.causes.link (link_fault_by o s)
  command_linked (Manifest path base flow range) ends s = manifest_linked run.old run.new o ends.0.link s
  command_linked (Workload number count) ends s =
      absurd (unless_workload 5 (λ e. omega (arith, e)) (λ e. omega (arith, e)) ends.0.completeness s)

  command_closed : (command : Invocation) → CommandEnds command run o → run.old.link.under_way ≡ false → run.new.link.under_way ≡ false
  command_closed (Format path blocks half id) ends idle = stays_idle run.old run.new ends.0.link idle
  command_closed (Check path) ends idle = stays_idle run.old run.new ends.0.untouched.link idle
  command_closed (Migrate path) ends idle = stays_idle run.old run.new ends.0.link idle
  command_closed (Work path) ends idle = stays_idle run.old run.new ends.link idle
  command_closed (Deliver path) ends idle = ends.closed idle
  command_closed (Replay path base) ends idle = ends.closed idle
  command_closed (Serve path port base connections) ends idle = ends.closed idle
  command_closed (Manifest path base flow range) ends idle = ends.0.closed idle
  command_closed (Workload number count) ends idle = stays_idle run.old run.new ends.1.link idle

  command_dials : (command : Invocation) → ((path : List ℕ) → command ≢ Deliver path) → CommandEnds command run o
      → run.new.link.dials ≡ run.old.link.dials
  command_dials (Format path blocks half id) other ends = none_dialled run.old run.new ends.0.link
  command_dials (Check path) other ends = none_dialled run.old run.new ends.0.untouched.link
  command_dials (Migrate path) other ends = none_dialled run.old run.new ends.0.link
  command_dials (Work path) other ends = none_dialled run.old run.new ends.link
  command_dials (Deliver path) other ends = absurd (other path refl)
  command_dials (Replay path base) other ends = ends.dials
  command_dials (Serve path port base connections) other ends = ends.dials
  command_dials (Manifest path base flow range) other ends = ends.0.dials
  command_dials (Workload number count) other ends = none_dialled run.old run.new ends.1.link

module _ (words : List (List ℕ)) (run : RunSeen) (status : ℕ) (ends : EndsByWords words run status) where
  abbrev o : RunOutcome
  o = ends.outcome

  by : (n : ℕ) → status ≡ n → exit_of o ≡ n
  by n s = sym ends.exit ∙ s

  pub status_is_known : StatusIsKnown words run status
  status_is_known = subst (λ (n : ℕ). n ≤ 7) (sym ends.exit) (exit_at_most o)

  -- words that are no command
  bad_words : status ≡ 1 → IsNoCommand words × Untouched run.old run.new
  bad_words s =
      let none : IsNoCommand words = λ command is. command_words run o command (ends.command command is) (by 1 s) in
      (none, (ends.none none).untouched)

  only_words : IsNoCommand words → (status ≡ 1) ⊎ (status ≡ 4)
  only_words none = elim (ends.none none).causes [
    | inl is ↦ inl (ends.exit ∙ ap exit_of is)
    | inr is ↦ inr (ends.exit ∙ ap exit_of is)
  ]

  pub bad_words_are_told : BadWordsAreTold words run status
  bad_words_are_told = record {
    bad_words = bad_words;
    bad_words_only = only_words;
    nobody = λ none. let end = ends.none none in record { link = end.untouched.link; given_is = end.unread };
  }

  -- which command ended so, where no other end has the status
  did : (n : ℕ) → n ≢ 1 → n ≢ 4 → status ≡ n → (command : Invocation) × IsCommand words command
  did n told fed s = elim ends.read [
    | inl starved ↦ absurd (fed (sym (by n s) ∙ ap exit_of starved.0))
    | inr other ↦ elim other [
      | inl none ↦
          absurd (elim (ends.none none).causes [
            | inl is ↦ told (sym (by n s) ∙ ap exit_of is)
            | inr is ↦ fed (sym (by n s) ∙ ap exit_of is)
          ])
      | inr is ↦ is
    ]
  ]

  -- a command that the file refuses
  refused : RefusedStandForNone → status ≡ 2 → Untouched run.old run.new × (run.given ≡ run.begun)
      × ((command : Invocation) × IsCommand words command × (run.old.shows ≡ true → RefusedFor run.old.seen command))
  refused damaged s =
      let is = did 2 (λ e. omega (arith, e)) (λ e. omega (arith, e)) s in
      let end = ends.command is.0 is.1 in
      let cause = command_refused run o damaged is.0 end (by 2 s) in
      (cause.0, command_unread run o is.0 end (by 2 s), (is.0, is.1, cause.1))

  pub refusals_are_told : RefusedStandForNone → RefusalsAreTold words run status
  refusals_are_told damaged = record {
    refused = refused damaged;
    refused_only = λ command is shows cause. rw ends.exit (command_only run o damaged command (ends.command command is) shows cause);
  }

  -- faults
  pub disk_faults_are_told : DiskFaultsAreTold words run status
  disk_faults_are_told = record {
    disk = λ s. ends.disk.rises (rw (disk_fault_by o (by 3 s)) refl);
    disk_only = λ rose. ends.exit ∙ disk_rose o (no_disk_fault o) run.old.faults run.new.faults refl ends.disk.stays rose;
  }

  linked : status ≡ 5 → Rose run.old.link.faults run.new.link.faults
  linked s =
      let is = did 5 (λ e. omega (arith, e)) (λ e. omega (arith, e)) s in
      command_linked run o is.0 (ends.command is.0 is.1) (by 5 s)

  serve_end : (path base : List ℕ) (port connections : ℕ) → IsCommand words (Serve path port base connections)
      → ServeEnds base run.old run.new run.clock run.begun run.given connections o
  serve_end path base port connections is = ends.command (Serve path port base connections) is

  replay_end : (path base : List ℕ) → IsCommand words (Replay path base) → ReplayEnds base run.old run.new run.clock run.begun run.given o
  replay_end path base is = ends.command (Replay path base) is

  work_end : (path : List ℕ) → IsCommand words (Work path) → WorkEnds run.old run.new run.clock run.begun run.given o
  work_end path is = ends.command (Work path) is

  deliver_end : (path : List ℕ) → IsCommand words (Deliver path) → DeliverEnds run.old run.new run.clock run.begun run.given o
  deliver_end path is = ends.command (Deliver path) is

  check_end : (path : List ℕ) → IsCommand words (Check path) → CheckEnds run.old run.new o × (run.given ≡ run.begun)
  check_end path is = ends.command (Check path) is

  migrate_end : (path : List ℕ) → IsCommand words (Migrate path) → MigrateEnds run.old run.new o × (run.given ≡ run.begun)
  migrate_end path is = ends.command (Migrate path) is

  workload_end : (number count : ℕ) → IsCommand words (Workload number count)
      → WorkloadEnds number count o × Untouched run.old run.new × (run.given ≡ run.begun)
  workload_end number count is = ends.command (Workload number count) is

  manifest_end : (path base : List ℕ) (flow : ℕ) (range : Option Span) → IsCommand words (Manifest path base flow range)
      → ManifestEnds (record { base = base; flow = flow; range = range }) run.old run.new o × (run.given ≡ run.begun)
  manifest_end path base flow range is = ends.command (Manifest path base flow range) is

  format_end : (path : List ℕ) (blocks half id : ℕ) → IsCommand words (Format path blocks half id)
      → FormatEnds (record { blocks = blocks; half = half; id = id }) run.old run.new o × (run.given ≡ run.begun)
  format_end path blocks half id is = ends.command (Format path blocks half id) is

  pub link_faults_are_told : LinkFaultsAreTold words run status
  link_faults_are_told = record {
    link = linked;
    link_only = λ path base is rose.
        rw ends.exit (replay_linked_only o run.old.link.faults run.new.link.faults (replay_end path base is).causes.link rose);
    peers = λ path base port connections is s. (serve_end path base port connections is).causes.peers.rises (rw (link_fault_by o (by 5 s)) refl);
    peers_only = λ path base port connections is rose.
        ends.exit ∙ peers_rose o _ run.old.link.peer_faults run.new.link.peer_faults refl (serve_end path base port connections is).causes.peers.stays rose;
    unlinked = λ path is s. deliver_unlinked run.old run.new o (deliver_end path is).causes (by 5 s);
    cut = λ path base port connections is s. (serve_end path base port connections is).causes.uncut (cut_by o (by 6 s));
  }

  -- want of memory
  abbrev StarvedSo : Type 0
  StarvedSo = ServesNobody run.old run.new run.begun run.given
      ⊎ (((path : List ℕ) × IsCommand words (Work path))
      ⊎ (((path : List ℕ) × IsCommand words (Deliver path))
      ⊎ ((base : List ℕ) (from : StoreState) → IsReplayFrom base from words run.old run.clock run.begun
      → OnePeer base (beginning from run.old run.begun) run.new run.given NoMemory)))

  -- a base is that of the words
  same_base : (path base : List ℕ) (from : StoreState) → IsCommand words (Replay path base) → (other : List ℕ)
      → IsReplayFrom other from words run.old run.clock run.begun → other ≡ base
  same_base path base from is other replay =
      let same : Replay replay.command.0 other ≡ Replay path base =
      one_command words (Replay replay.command.0 other) (Replay path base) replay.command.1 is in
      cc

  command_starved : (command : Invocation) → IsCommand words command → CommandEnds command run o → exit_of o ≡ 4 → StarvedSo
  command_starved (Format path blocks half id) it end s = inl (record { link = end.0.link; given_is = end.1 })
  command_starved (Check path) it end s = inl (record { link = end.0.untouched.link; given_is = end.1 })
  command_starved (Migrate path) it end s = inl (record { link = end.0.link; given_is = end.1 })
  command_starved (Work path) it end s = inr (inl (path, it))
  command_starved (Deliver path) it end s = inr (inr (inl (path, it)))
  command_starved (Replay path base) it end s =
      let is = no_memory_by o s in
      elim (end.causes.memory is) [
        | inl nobody ↦ inl nobody
        | inr served ↦
            inr (inr (inr (λ other from replay.
            subst (λ (word : List ℕ). OnePeer word (beginning from run.old run.begun) run.new run.given NoMemory)
            (sym (same_base path base from it other replay))
            (subst (OnePeer base (beginning from run.old run.begun) run.new run.given) is (served from replay.begins)))))
      ]
  command_starved (Serve path port base connections) it end s = inl (end.causes.memory (no_memory_by o s))
  command_starved (Manifest path base flow range) it end s =
      inl (record { link = (manifest_untouched run.old run.new o end.0.causes s).link; given_is = end.1 })
  command_starved (Workload number count) it end s = inl (record { link = end.1.link; given_is = end.2 })

  starved : status ≡ 4 → StarvedSo
  starved s = elim ends.read [
    | inl none ↦ inl (record { link = none.1.link; given_is = none.2 })
    | inr other ↦ elim other [
      | inl none ↦ let end = ends.none none in inl (record { link = end.untouched.link; given_is = end.unread })
      | inr is ↦ command_starved is.0 is.1 (ends.command is.0 is.1) (by 4 s)
    ]
  ]

  pub starving_is_told : StarvingIsTold words run status
  starving_is_told = record {
    starved_format = λ path blocks half id is s.
        format_untouched run.old run.new (record { blocks = blocks; half = half; id = id }) o (format_end path blocks half id is).0.causes (by 4 s);
    starved_migrate = λ path is s. migrate_untouched run.old run.new o (migrate_end path is).0.causes (by 4 s);
    starved_serve = λ path base port connections is s. (serve_end path base port connections is).causes.memory (no_memory_by o (by 4 s));
    starved = starved;
  }

  -- what is touched
  closed : run.old.link.under_way ≡ false → run.new.link.under_way ≡ false
  closed idle = elim ends.read [
    | inl none ↦ stays_idle run.old run.new none.1.link idle
    | inr other ↦ elim other [
      | inl none ↦ stays_idle run.old run.new (ends.none none).untouched.link idle
      | inr is ↦ command_closed run o is.0 (ends.command is.0 is.1) idle
    ]
  ]

  dials : ((path : List ℕ) → ¬ (IsCommand words (Deliver path))) → run.new.link.dials ≡ run.old.link.dials
  dials other = elim ends.read [
    | inl none ↦ none_dialled run.old run.new none.1.link
    | inr read ↦ elim read [
      | inl none ↦ none_dialled run.old run.new (ends.none none).untouched.link
      | inr is ↦
          command_dials run o is.0 (λ path same. other path (subst (λ (command : Invocation). IsCommand words command) same is.1))
          (ends.command is.0 is.1)
    ]
  ]

  pub little_is_touched : LittleIsTouched words run status
  little_is_touched = record {
    untouched_workload = λ number count is. let end = workload_end number count is in (end.1, end.2);
    untouched_check = λ path is. let end = check_end path is in (end.0.untouched, end.1);
    nobody_formats = λ path blocks half id is. let end = format_end path blocks half id is in record { link = end.0.link; given_is = end.1 };
    nobody_migrates = λ path is. let end = migrate_end path is in record { link = end.0.link; given_is = end.1 };
    nobody_works = λ path is. (work_end path is).link;
    unwritten = λ path base flow range is. let end = manifest_end path base flow range is in (end.0.unwritten, end.1);
    nobody_delivers = λ path is. (deliver_end path is).peers;
    closed = closed;
    dials = dials;
  }

  -- what is done
  pub done_is_told : DoneIsTold words run status
  done_is_told = record {
    formatted = λ s shows path blocks half id is. (format_end path blocks half id is).0.exit (by 0 s) shows;
    formatting = λ path blocks half id is honest shows settled bare p left.
        (format_end path blocks half id is).0.moments.each honest shows settled bare p left;
    checked = λ s shows path is from stands.
        (ends.line.0, rw ((check_end path is).0.line (by 0 s) shows from stands) at ends.line.1);
    whole = λ s shows path is from stands. (check_end path is).0.whole (by 0 s) shows from stands;
    migrating = λ path is honest shows settled archive has p left. (migrate_end path is).0.moments.each honest shows settled archive has p left;
    migrated = λ s shows path is archive has. (migrate_end path is).0.exit (by 0 s) shows archive has;
    generated = λ s number count is.
        let end = (workload_end number count is).0.line (by 0 s) in (end.0, end.1, (ends.line.0, rw end.2 at ends.line.1));
  }

  pub histories_are_told : HistoriesAreTold words run status
  histories_are_told = record {
    replayed = λ base from replay. (o, ends.exit, (replay_end replay.command.0 base replay.command.1).history from replay.begins);
    served = λ base from connections serve.
        (o, ends.exit, (serve_end serve.command.0 base serve.command.1 connections serve.command.2).history from serve.begins);
    worked = λ from work. (o, ends.exit, (work_end work.command.0 work.command.1).history from work.begins);
    delivered = λ from deliver. (o, ends.exit, (deliver_end deliver.command.0 deliver.command.1).history from deliver.begins);
  }

  pub whole_is_told : WholeIsTold words run status
  whole_is_told = record {
    complete = λ base from replay none fed.
        rw ends.exit
        ((replay_end replay.command.0 base replay.command.1).completeness from replay.begins none (λ four. fed (ends.exit ∙ four)));
    complete_serve = λ base from connections serve none fed.
        rw ends.exit
        ((serve_end serve.command.0 base serve.command.1 connections serve.command.2).completeness from serve.begins none
        (λ four. fed (ends.exit ∙ four)));
    complete_format = λ path blocks half id is none. rw ends.exit ((format_end path blocks half id is).0.completeness none);
    complete_work = λ path is none. rw ends.exit ((work_end path is).completeness none);
    complete_deliver = λ path is none. rw ends.exit ((deliver_end path is).completeness none.disk);
    complete_check = λ path is none. rw ends.exit ((check_end path is).0.completeness none);
    complete_migrate = λ path is none. rw ends.exit ((migrate_end path is).0.completeness none);
    complete_manifest = λ path base flow range is none. rw ends.exit ((manifest_end path base flow range is).0.completeness none);
    complete_workload = λ number count is. rw ends.exit (workload_end number count is).0.completeness;
  }

  -- playlists
  named : status ≡ 7 → (path base : List ℕ) × (flow : ℕ) × (range : Option Span) × IsCommand words (Manifest path base flow range)
  named s =
      let is = did 7 (λ e. omega (arith, e)) (λ e. omega (arith, e)) s in
      named_only words run o is.0 is.1 (ends.command is.0 is.1) (by 7 s)

  pub playlists_are_told : RefusedStandForNone → PlaylistsAreTold words run status
  playlists_are_told damaged = record {
    named = named;
    told = λ path base flow range is shows from stands.
        is_told run status (record { base = base; flow = flow; range = range }) from.archive.library o ends.exit ends.line
        (λ s. (manifest_refused run.old run.new damaged o (manifest_end path base flow range is).0.causes s).1 shows from stands)
        (manifest_end path base flow range is).0.causes ((manifest_end path base flow range is).0.told shows from stands);
    link_only = λ path base flow range is rose.
        rw ends.exit (link_rose o run.old.link.faults run.new.link.faults (manifest_end path base flow range is).0.link rose);
    cut = λ path base flow range is s. manifest_uncut run.old run.new o (manifest_end path base flow range is).0.causes (by 6 s);
    starved = λ path base flow range is s. manifest_untouched run.old run.new o (manifest_end path base flow range is).0.causes (by 4 s);
  }
