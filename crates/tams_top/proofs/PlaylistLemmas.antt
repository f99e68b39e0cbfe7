-- What the status and the line of a `manifest` say of its end.
use Rattle.std.proofs.Common.{◌≡◌, ◌≢◌, ◌<◌, ◌⊎◌, ◌∙◌, ℕ, List, Option, None, IsSome, is_some, true≢false, refl, sym, ap, subst, inl, inr, arith}
use Rattle.disk_trait.specs.Device.{Device}
use Rattle.media_journal.specs.declared.header.Header.{Header}
use Rattle.media_rows.specs.Catalog.{flow_of}
use Rattle.media_rows.specs.declared.flow.FlowRow.{FlowRow}
use Rattle.media_rows.specs.Library.{Library}
use Rattle.store_manifest.specs.Telling.{PlaylistAsked, PlaylistEnds}
use Rattle.store_commands.specs.CheckEnds.{CheckCause}
use Rattle.store_commands.specs.DeliverEnds.{DeliverCause}
use Rattle.store_commands.specs.FormatEnds.{FormatCause}
use Rattle.store_commands.specs.ManifestEnds.{ManifestCause, OnOpened}
use Rattle.store_commands.specs.MigrateEnds.{MigrateCause}
use Rattle.store_commands.specs.Opening.{OpenedCause}
use Rattle.store_commands.specs.WorkEnds.{WorkCause}
use Rattle.store_commands.specs.ServeEnds.{LinkFaults}
use Rattle.tams_outcomes.specs.Lines.{line_of, playlist_line}
use Rattle.tams_outcomes.specs.Statuses.{exit_of}
use Rattle.tams_outcomes.specs.declared.outcome.PlaylistRefusal.TheVariants.{NoFlow, NoPeer}
use Rattle.tams_outcomes.specs.declared.outcome.RunOutcome.{RunOutcome}
use Rattle.tams_outcomes.specs.declared.outcome.RunOutcome.TheVariants.{Playlist, NoPlaylist, NotStore, Damaged, OldForm, DiskFault, NoMemory, LinkFault}
use Rattle.tams_top.specs.Ends.{CommandEnds, PutsLine, RunSeen}
use Rattle.tams_top.specs.Laws.{IsPlaylistTold}
use Rattle.tams_words.specs.Words.{IsCommand}
use Rattle.tams_words.specs.declared.words.Invocation.{Invocation}
use Rattle.tams_words.specs.declared.words.Invocation.TheVariants.{Format, Check, Migrate, Work, Deliver, Replay, Serve, Manifest, Workload}
use Rattle.time_range.specs.declared.ranges.Span.{Span}

-- the count of link faults rises with a link fault alone, unless another end comes before it
pub link_rose : (o : RunOutcome) (before now : ℕ) → LinkFaults o before now → before < now → (exit_of o ≡ 3) ⊎ ((exit_of o ≡ 4) ⊎ (exit_of o ≡ 5))
link_rose LinkFault before now link rose = inr (inr refl)
link_rose DiskFault before now link rose = inl refl
link_rose NoMemory before now link rose = inr (inl refl)
link_rose _ before now link rose = absurd (omega (arith, link, rose))

-- a flow that is kept is one
no_flow : (library : Library) (asked : PlaylistAsked) → IsSome (flow_of asked.flow library.catalog.flows)
    → flow_of asked.flow library.catalog.flows ≡ None → ⊥
no_flow library asked kept none = true≢false (sym kept ∙ ap (λ (row : Option FlowRow). is_some row) none)

-- status 7 is that of a `manifest` alone
named_by : (o : RunOutcome) (n : ℕ) → exit_of o ≡ 7 → (exit_of o ≡ 0) ⊎ (exit_of o ≡ n) → n ≢ 7 → ⊥
named_by o n s whole other = elim whole [ inl e ↦ omega (arith, s, e) | inr e ↦ other (sym e ∙ s) ]

module _ (old new : Device) where
  unnamed_format : (ask : Header) (o : RunOutcome) → FormatCause old new ask o → exit_of o ≢ 7
  unnamed_format ask (NoPlaylist refusal) cause s = cause
  unnamed_format ask _ cause s = omega (arith, s)

  unnamed_check : (o : RunOutcome) → CheckCause old new o → exit_of o ≢ 7
  unnamed_check (NoPlaylist refusal) cause s = cause
  unnamed_check _ cause s = omega (arith, s)

  unnamed_migrate : (o : RunOutcome) → MigrateCause old new o → exit_of o ≢ 7
  unnamed_migrate (NoPlaylist refusal) cause s = cause
  unnamed_migrate _ cause s = omega (arith, s)

  unnamed_work : (o : RunOutcome) → WorkCause old new o → exit_of o ≢ 7
  unnamed_work (NoPlaylist refusal) cause s = cause
  unnamed_work _ cause s = omega (arith, s)

  unnamed_deliver : (o : RunOutcome) → DeliverCause old new o → exit_of o ≢ 7
  unnamed_deliver (NoPlaylist refusal) cause s = cause
  unnamed_deliver _ cause s = omega (arith, s)

  unnamed_opened : (o : RunOutcome) → OpenedCause old new o → exit_of o ≢ 7
  unnamed_opened (NoPlaylist refusal) cause s = cause
  unnamed_opened _ cause s = omega (arith, s)

module _ (words : List (List ℕ)) (run : RunSeen) (o : RunOutcome) where
  pub named_only : (command : Invocation) → IsCommand words command → CommandEnds command run o → exit_of o ≡ 7
      → (path base : List ℕ) × (flow : ℕ) × (range : Option Span) × IsCommand words (Manifest path base flow range)
  named_only (Manifest path base flow range) is ends s = (path, base, flow, range, is)
  named_only (Workload number count) is ends s = absurd (named_by o 4 s ends.0.completeness (λ e. omega (arith, e)))
  named_only (Format path blocks half id) is ends s = absurd (unnamed_format run.old run.new (record { blocks = blocks; half = half; id = id }) o ends.0.causes s)
  named_only (Check path) is ends s = absurd (unnamed_check run.old run.new o ends.0.causes s)
  named_only (Migrate path) is ends s = absurd (unnamed_migrate run.old run.new o ends.0.causes s)
  named_only (Work path) is ends s = absurd (unnamed_work run.old run.new o ends.causes s)
  named_only (Deliver path) is ends s = absurd (unnamed_deliver run.old run.new o ends.causes s)
  named_only (Replay path base) is ends s = absurd (unnamed_opened run.old run.new o ends.causes.file s)
  named_only (Serve path port base connections) is ends s = absurd (unnamed_opened run.old run.new o ends.causes.file s)

module _ (run : RunSeen) (status : ℕ) (asked : PlaylistAsked) (library : Library) where
  -- an end that says nothing of a playlist
  untold : (o : RunOutcome) → status ≡ exit_of o → exit_of o ≢ 0 → exit_of o ≢ 5 → exit_of o ≢ 7 → (status ≡ 3) ⊎ ((status ≡ 4) ⊎ (status ≡ 7))
      → IsPlaylistTold run status library asked
  untold o exit done linked named ends = record {
    said = λ s. absurd (done (sym exit ∙ s));
    part = λ s. absurd (linked (sym exit ∙ s));
    refused = λ s. absurd (named (sym exit ∙ s));
    unknown = λ none. ends;
  }

  pub is_told : (o : RunOutcome) → status ≡ exit_of o → PutsLine run.notes (line_of o) → exit_of o ≢ 2 → ManifestCause run.old run.new o
      → OnOpened o (PlaylistEnds asked library run.old run.new o) → IsPlaylistTold run status library asked
  is_told (Playlist objects) exit line stood cause ends = record {
    said = λ s. (
      λ tells. (ends.tells.told tells).1,
      subst (λ n. PutsLine run.notes (playlist_line n)) ends.tells.outcome line,
    );
    part = λ s. absurd (omega (arith, s, exit));
    refused = λ s. absurd (omega (arith, s, exit));
    unknown = λ none. absurd (no_flow library asked ends.kept none);
  }
  is_told (NoPlaylist NoFlow) exit line stood cause ends = record {
    said = λ s. absurd (omega (arith, s, exit));
    part = λ s. absurd (omega (arith, s, exit));
    refused = λ s. inl (ends.0, ends.1, line);
    unknown = λ none. inr (inr exit);
  }
  is_told (NoPlaylist NoPeer) exit line stood cause ends = record {
    said = λ s. absurd (omega (arith, s, exit));
    part = λ s. absurd (omega (arith, s, exit));
    refused = λ s. inr (ends.kept, λ tells. (ends.tells.told tells).1.rises refl, line);
    unknown = λ none. absurd (no_flow library asked ends.kept none);
  }
  is_told LinkFault exit line stood cause ends = record {
    said = λ s. absurd (omega (arith, s, exit));
    part = λ s tells. ends.tells.told tells;
    refused = λ s. absurd (omega (arith, s, exit));
    unknown = λ none. absurd (no_flow library asked ends.kept none);
  }
  is_told DiskFault exit line stood cause ends = untold DiskFault exit (λ e. omega (arith, e)) (λ e. omega (arith, e)) (λ e. omega (arith, e)) (inl exit)
  is_told NoMemory exit line stood cause ends = untold NoMemory exit (λ e. omega (arith, e)) (λ e. omega (arith, e)) (λ e. omega (arith, e)) (inr (inl exit))
  is_told NotStore exit line stood cause ends = absurd (stood refl)
  is_told (Damaged at) exit line stood cause ends = absurd (stood refl)
  is_told OldForm exit line stood cause ends = absurd (stood refl)
  is_told _ exit line stood cause ends = absurd cause
