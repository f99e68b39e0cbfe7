-- The end of a run by what came of its words gives the ends of whatever command they spell.
use Rattle.std.proofs.Common.{◌≡◌, ℕ, List, sym, subst, inl, inr}
use Rattle.disk_trait.specs.Device.{IsDevice}
use Rattle.store_commands.proofs.CheckEndLemmas.{check_starved}
use Rattle.store_commands.proofs.DeliverEndLemmas.{deliver_starved}
use Rattle.store_commands.proofs.FormatEndLemmas.{format_starved}
use Rattle.store_commands.proofs.ManifestEndLemmas.{manifest_starved}
use Rattle.store_commands.proofs.MigrateEndLemmas.{migrate_starved}
use Rattle.store_commands.proofs.ServeEndLemmas.{replay_starved, serve_starved}
use Rattle.tams_outcomes.specs.Lines.{line_of}
use Rattle.tams_outcomes.specs.Statuses.{exit_of}
use Rattle.tams_outcomes.specs.Touching.{Untouched}
use Rattle.tams_outcomes.specs.declared.outcome.RunOutcome.{RunOutcome}
use Rattle.tams_outcomes.specs.declared.outcome.RunOutcome.TheVariants.{NoMemory}
use Rattle.tams_top.specs.Ends.{AreRead, CommandEnds, NoCommandEnds, PutsLine, EndsByWords, RunSeen}
use Rattle.tams_top.specs.Within.{EndsBy, EndsWithCause}
use Rattle.tams_words.proofs.WordTheorems.{one_command}
use Rattle.tams_words.specs.Words.{IsCommand, IsNoCommand}
use Rattle.tams_words.specs.declared.words.Invocation.{Invocation}
use Rattle.tams_words.specs.declared.words.Invocation.TheVariants.{Format, Check, Migrate, Work, Deliver, Replay, Serve, Manifest, Workload}
use Rattle.store_commands.proofs.WorkEndLemmas.{work_starved}
use Rattle.store_commands.proofs.WorkloadEndLemmas.{workload_starved}

-- the ends of a command are those of its words
same_ends : (run : RunSeen) (o : RunOutcome) (command : Invocation) → EndsBy run.old run.new run.clock run.begun run.given o command
    → CommandEnds command run o
same_ends run o (Format path blocks half id) ends = ends
same_ends run o (Check path) ends = ends
same_ends run o (Migrate path) ends = ends
same_ends run o (Work path) ends = ends
same_ends run o (Deliver path) ends = ends
same_ends run o (Replay path base) ends = ends
same_ends run o (Serve path port base connections) ends = ends
same_ends run o (Manifest path base flow range) ends = ends
same_ends run o (Workload number count) ends = ends

-- each command may find no memory before it begins
starved_at : (run : RunSeen) → IsDevice run.old → Untouched run.old run.new → (command : Invocation) (given : List ℕ) → given ≡ run.begun
    → EndsBy run.old run.new run.clock run.begun given NoMemory command
starved_at run sound untouched (Format path blocks half id) given unread =
    (format_starved run.old run.new (record { blocks = blocks; half = half; id = id }) untouched, unread)
starved_at run sound untouched (Check path) given unread = (check_starved run.old run.new untouched, unread)
starved_at run sound untouched (Migrate path) given unread = (migrate_starved run.old run.new untouched, unread)
starved_at run sound untouched (Work path) given unread = rw unread (work_starved run.old run.new run.clock run.begun sound untouched)
starved_at run sound untouched (Deliver path) given unread = rw unread (deliver_starved run.old run.new run.clock run.begun sound untouched)
starved_at run sound untouched (Replay path base) given unread = rw unread (replay_starved base run.old run.new run.clock run.begun sound untouched)
starved_at run sound untouched (Serve path port base connections) given unread =
    rw unread (serve_starved base run.old run.new run.clock run.begun sound untouched connections)
starved_at run sound untouched (Manifest path base flow range) given unread =
    (manifest_starved run.old run.new (record { base = base; flow = flow; range = range }) untouched, unread)
starved_at run sound untouched (Workload number count) given unread = (workload_starved number count, untouched, unread)

module _ (words : List (List ℕ)) (run : RunSeen) (o : RunOutcome) (sound : IsDevice run.old)
    (end : EndsWithCause words run.old run.new run.clock run.begun run.given o) where
  are_read : AreRead words run o
  are_read = elim end.cause [
    | inl starved ↦ inl (starved.0, starved.2, starved.1)
    | inr other ↦ elim other [ inl bad ↦ inr (inl bad.1) | inr did ↦ inr (inr (did.0, did.1)) ]
  ]

  ends_as : (command : Invocation) → IsCommand words command → CommandEnds command run o
  ends_as command is = elim end.cause [
    | inl starved ↦
        same_ends run o command
        (subst (λ (p : RunOutcome). EndsBy run.old run.new run.clock run.begun run.given p command) (sym starved.0)
        (starved_at run sound starved.2 command run.given starved.1))
    | inr other ↦ elim other [
      | inl bad ↦ absurd (bad.1 command is)
      | inr did ↦
          same_ends run o command
          (subst (EndsBy run.old run.new run.clock run.begun run.given o) (one_command words did.0 command did.1 is) did.2)
    ]
  ]

  ends_as_none : IsNoCommand words → NoCommandEnds run o
  ends_as_none none = elim end.cause [
    | inl starved ↦ record { causes = inr starved.0; untouched = starved.2; unread = starved.1 }
    | inr other ↦ elim other [
      | inl bad ↦ record { causes = inl bad.0; untouched = bad.2; unread = bad.3 }
      | inr did ↦ absurd (none did.0 did.1)
    ]
  ]

  pub run_ends : (status : ℕ) → status ≡ exit_of o → PutsLine run.notes (line_of o) → EndsByWords words run status
  run_ends status exit line = record {
    outcome = o;
    exit = exit;
    line = line;
    disk = end.disk;
    read = are_read;
    command = ends_as;
    none = ends_as_none;
  }
