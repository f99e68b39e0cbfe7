-- What the status of `migrate` says of its end. A status of another end is another number.
use Rattle.std.proofs.Common.{◌≡◌, ◌≢◌, ◌⊎◌, ◌∙◌, ◌<◌, ◌+◌, ℕ, true, List, Result, Ok, Err, refl, sym, ap, subst, inl, inr, arith}
use Rattle.std.specs.Prelude.{OnOk, is_ok}
use Rattle.change_codec.specs.Fitting.{snapshot_size}
use Rattle.disk_trait.specs.Calls.{DiskCalls, DiskReads, Elapses, IsCounted}
use Rattle.disk_trait.specs.Device.{Device, Left}
use Rattle.disk_trait.specs.Forms.{form_in_use}
use Rattle.media_rows.specs.Media.{Archive}
use Rattle.store_migration.specs.Migration.{HasArchiveBy, HasEither, IsMigrated, IsTooFull, MigrateAnswer, Migrates, MigrationEnds}
use Rattle.store_migration.specs.Within.{is_refused, not_disk}
use Rattle.store_migration.specs.declared.fault.MigrateFault.{MigrateFault}
use Rattle.store_migration.specs.declared.fault.MigrateFault.TheVariants as faults
use Rattle.store_migration.specs.declared.migration.Migrated as migration
use Rattle.store_opening.specs.Laws.{RefusedStandForNone}
use Rattle.store_states.specs.States.{StandsBy, StoreState}
use Rattle.store_states.proofs.Standing.{one_state}
use Rattle.tams_outcomes.specs.Statuses.{exit_of, no_disk_fault}
use Rattle.tams_outcomes.specs.Touching.{IsDoneOrRefused, IsSettled, Untouched}
use Rattle.tams_outcomes.specs.declared.outcome.RunOutcome.{RunOutcome}
use Rattle.tams_outcomes.specs.declared.outcome.RunOutcome.TheVariants.{Formatted, Checked, Migrated, AlreadyMigrated, Worked, Delivered, Served, Playlist, Generated, BadWords, NotStore, AlreadyStore, TooSmall, Damaged, DamagedObject, OldForm, DiskFault, NoMemory, LinkFault}
use Rattle.tams_outcomes.proofs.TouchingLemmas.{no_disk}
use Rattle.store_commands.specs.MigrateEnds.{MigrateCause, MigrateEnds, MigrateMoments, RefusesMigrate, migrated_outcome}
use Rattle.store_commands.proofs.OpeningLemmas.{no_state, untouched_by}

-- ---- the archive of an image

-- an image stands for one archive at most
same_by : (form other : ℕ) (image : List ℕ) (a b : Archive) → HasArchiveBy form image a → HasArchiveBy other image b → a ≡ b
same_by form other image a b has too =
    sym has.same ∙ ap (λ (s : StoreState). s.archive) (one_state image other form too.state has.state too.stands has.stands) ∙ too.same

one_archive : (form : ℕ) (image : List ℕ) (a b : Archive) → HasArchiveBy form image a → HasEither image b → a ≡ b
one_archive form image a b has (inl too) = same_by form 1 image a b has too
one_archive form image a b has (inr too) = same_by form form_in_use image a b has too

-- an image that stands for no state has none
none_either : (image : List ℕ) → ((form : ℕ) (s : StoreState) → StandsBy form image s → ⊥) → (archive : Archive) → HasEither image archive → ⊥
none_either image none archive (inl has) = none 1 has.state has.stands
none_either image none archive (inr has) = none form_in_use has.state has.stands

-- rows that have room in a half, and have none
not_both : (image other : List ℕ) (migrated : migration.Migrated) → IsMigrated image other migrated → IsTooFull image → ⊥
not_both image other migrated is full =
    let same = one_state image 1 1 is.from full.from is.stands full.stands in
    let none : is.from.half < snapshot_size is.from.archive.library + 9 =
    subst (λ (s : StoreState). s.half < snapshot_size s.archive.library + 9) same full.full in
    omega (arith, none, is.rows, is.room)

module _ (old new : Device) where
  -- ---- causes

  pub migrate_refused : RefusedStandForNone → (o : RunOutcome) → MigrateCause old new o → exit_of o ≡ 2
      → Untouched old new × (old.shows ≡ true → RefusesMigrate old.seen)
  migrate_refused none NotStore ends s = (ends.1, λ shows. inl (none_either old.seen (λ form. no_state form old.seen (ends.0 shows))))
  migrate_refused none (Damaged at) ends s =
      (ends.1, λ shows. inl (none_either old.seen (λ form s stands. none.damaged old.seen at form s (ends.0 shows).1 stands)))
  migrate_refused none TooSmall ends s = (ends.1, λ shows. inr (ends.0 shows))
  migrate_refused none AlreadyStore ends s = absurd ends
  migrate_refused none OldForm ends s = absurd ends
  migrate_refused none (DamagedObject damaged) ends s = absurd ends
  migrate_refused none _ ends s = absurd (omega (arith, s))

  stood : (form : ℕ) (s : StoreState) → StandsBy form old.seen s → HasArchiveBy form old.seen s.archive
  stood form s stands = record { state = s; stands = stands; same = refl }

  pub migrate_only : RefusedStandForNone → (o : RunOutcome) → MigrateCause old new o → old.shows ≡ true → RefusesMigrate old.seen
      → (exit_of o ≡ 2) ⊎ ((exit_of o ≡ 3) ⊎ (exit_of o ≡ 4))
  migrate_only none (Migrated objects rows) ends shows (inl stood_none) = let is = ends shows in absurd (stood_none is.from.archive (inl (stood 1 is.from is.stands)))
  migrate_only none (Migrated objects rows) ends shows (inr full) = absurd (not_both old.seen new.seen _ (ends shows) full)
  migrate_only none AlreadyMigrated ends shows (inl stood_none) =
      let is = ends.0 shows in
      absurd (stood_none is.0.archive (inr (stood form_in_use is.0 is.1)))
  migrate_only none AlreadyMigrated ends shows (inr full) =
      let is = ends.0 shows in
      absurd (none.other old.seen is.0 (record { form = 1; other = λ same. omega (arith, same); state = full.from; stands = full.stands }) is.1)
  migrate_only none NotStore ends shows refuses = inl refl
  migrate_only none (Damaged at) ends shows refuses = inl refl
  migrate_only none TooSmall ends shows refuses = inl refl
  migrate_only none DiskFault ends shows refuses = inr (inl refl)
  migrate_only none NoMemory ends shows refuses = inr (inr refl)
  migrate_only none _ ends shows refuses = absurd ends

  pub migrate_untouched : (o : RunOutcome) → MigrateCause old new o → exit_of o ≡ 4 → Untouched old new
  migrate_untouched NoMemory ends s = ends
  migrate_untouched LinkFault ends s = absurd ends
  migrate_untouched _ ends s = absurd (omega (arith, s))

  -- the file stands for the archive by the form in use
  migrate_done : (o : RunOutcome) → MigrateCause old new o → exit_of o ≡ 0 → old.shows ≡ true → (archive : Archive) → HasEither old.seen archive
      → HasArchiveBy form_in_use new.seen archive
  migrate_done (Migrated objects rows) ends s shows archive has =
      let is = ends shows in
      subst (HasArchiveBy form_in_use new.seen) (one_archive 1 old.seen is.from.archive archive (stood 1 is.from is.stands) has) is.archive
  migrate_done AlreadyMigrated ends s shows archive has =
      let is = ends.0 shows in
      let here = stood form_in_use is.0 is.1 in
      subst (HasArchiveBy form_in_use new.seen) (one_archive form_in_use old.seen is.0.archive archive here has)
      (subst (λ (image : List ℕ). HasArchiveBy form_in_use image is.0.archive) (sym ends.1.seen) here)
  migrate_done (Formatted blocks half media) ends s shows archive has = absurd ends
  migrate_done (Checked counts) ends s shows archive has = absurd ends
  migrate_done (Worked turns) ends s shows archive has = absurd ends
  migrate_done (Delivered delivered waiting full) ends s shows archive has = absurd ends
  migrate_done (Playlist objects) ends s shows archive has = absurd ends
  migrate_done (Served requests changes skipped) ends s shows archive has = absurd ends
  migrate_done (Generated run) ends s shows archive has = absurd ends
  migrate_done _ ends s shows archive has = absurd (omega (arith, s))

  -- where no call of the disk failed
  migrate_whole : (o : RunOutcome) → MigrateCause old new o → (o ≡ DiskFault → ⊥) → IsDoneOrRefused o
  migrate_whole (Migrated objects rows) ends held = inl refl
  migrate_whole AlreadyMigrated ends held = inl refl
  migrate_whole NotStore ends held = inr (inl refl)
  migrate_whole (Damaged at) ends held = inr (inl refl)
  migrate_whole TooSmall ends held = inr (inl refl)
  migrate_whole NoMemory ends held = inr (inr refl)
  migrate_whole DiskFault ends held = absurd (held refl)
  migrate_whole _ ends held = absurd ends

  -- words were read, and the link didn't fail
  pub migrate_words : (o : RunOutcome) → MigrateCause old new o → exit_of o ≢ 1
  migrate_words BadWords ends s = ends
  migrate_words _ ends s = omega (arith, s)

  pub migrate_unlinked : (o : RunOutcome) → MigrateCause old new o → exit_of o ≢ 5
  migrate_unlinked LinkFault ends s = ends
  migrate_unlinked _ ends s = omega (arith, s)

  -- ---- moments

  each_has : (archive : Archive) (ended : Left → Left → Type 0) → Elapses (Migrates archive) ended old new → IsSettled old → HasEither old.seen archive
      → (p : Left) → new.left_since old.moment p → HasEither p.image archive
  each_has archive ended time settled has p left = elim (time.since old.moment p (omega arith) left) [
    | inl was ↦ subst (λ (image : List ℕ). HasEither image archive) (sym (settled p was)) has
    | inr from ↦ from.2.image
  ]

  -- what is only read stays settled
  still_settled : Untouched old new → IsSettled old → IsSettled new
  still_settled untouched settled p left =
      let from = untouched.time.now p left in
      ap (λ (l : Left). l.image) from.2 ∙ settled from.0 from.1 ∙ sym untouched.seen

  -- ---- the record

  pub migrate_ends : (o : RunOutcome) → IsCounted (no_disk_fault o) old.faults new.faults → MigrateCause old new o → MigrateMoments old new o
      → new.link ≡ old.link → MigrateEnds old new o
  migrate_ends o disk cause moments link = record {
    causes = cause;
    moments = moments;
    exit = migrate_done o cause;
    completeness = λ none. migrate_whole o cause (no_disk old new o disk none);
    link = link;
  }

  -- there was no memory before it began
  pub migrate_starved : Untouched old new → MigrateEnds old new NoMemory
  migrate_starved untouched = record {
    causes = untouched;
    moments = record {
      each = λ honest shows settled archive has p left. elim (untouched.time.since old.moment p (omega arith) left) [
        | inl was ↦ subst (λ (image : List ℕ). HasEither image archive) (sym (settled p was)) has
        | inr from ↦
            subst (λ (image : List ℕ). HasEither image archive) (sym (ap (λ (l : Left). l.image) from.2 ∙ settled from.0 from.1)) has
      ];
      settled = λ honest settled s. absurd (omega (arith, s));
    };
    exit = λ s. absurd (omega (arith, s));
    completeness = λ none. inr (inr refl);
    link = untouched.link;
  }

  -- ---- what migration answers

  cause_by : (answer : Result migration.Migrated MigrateFault) → (old.shows ≡ true → MigrateAnswer old.seen new.seen answer)
      → (is_refused answer ≡ true → DiskReads true old new) → MigrateCause old new (migrated_outcome answer)
  cause_by (Ok migrated) is reads = is
  cause_by (Err faults.NotStore) is reads = (is, untouched_by true old new (reads refl))
  cause_by (Err (faults.Damaged at)) is reads = (is, untouched_by true old new (reads refl))
  cause_by (Err faults.NotOld) is reads = (is, untouched_by true old new (reads refl))
  cause_by (Err faults.Full) is reads = (is, untouched_by true old new (reads refl))
  cause_by (Err faults.Disk) is reads = tt
  cause_by (Err faults.Memory) is reads = untouched_by true old new (reads refl)

  pub counted_by : (answer : Result migration.Migrated MigrateFault) → IsCounted (not_disk answer) old.faults new.faults
      → IsCounted (no_disk_fault (migrated_outcome answer)) old.faults new.faults
  counted_by (Ok migrated) counted = counted
  counted_by (Err faults.NotStore) counted = counted
  counted_by (Err (faults.Damaged at)) counted = counted
  counted_by (Err faults.NotOld) counted = counted
  counted_by (Err faults.Full) counted = counted
  counted_by (Err faults.Disk) counted = counted
  counted_by (Err faults.Memory) counted = counted

  settled_by : (answer : Result migration.Migrated MigrateFault) → OnOk answer (IsSettled new)
      → (is_refused answer ≡ true → DiskReads true old new) → IsSettled old → exit_of (migrated_outcome answer) ≡ 0 → IsSettled new
  settled_by (Ok migrated) durable reads settled s = durable
  settled_by (Err faults.NotOld) durable reads settled s = still_settled (untouched_by true old new (reads refl)) settled
  settled_by (Err faults.NotStore) durable reads settled s = absurd (omega (arith, s))
  settled_by (Err (faults.Damaged at)) durable reads settled s = absurd (omega (arith, s))
  settled_by (Err faults.Full) durable reads settled s = absurd (omega (arith, s))
  settled_by (Err faults.Disk) durable reads settled s = absurd (omega (arith, s))
  settled_by (Err faults.Memory) durable reads settled s = absurd (omega (arith, s))

  pub ends_by : (answer : Result migration.Migrated MigrateFault) → (old.shows ≡ true → MigrateAnswer old.seen new.seen answer)
      → (old.honest ≡ true → old.shows ≡ true → IsSettled old → (archive : Archive) → HasEither old.seen archive
      → Elapses (Migrates archive) (MigrationEnds (is_ok answer) archive) old new)
      → (old.honest ≡ true → OnOk answer (IsSettled new))
      → (is_refused answer ≡ true → DiskReads true old new) → DiskCalls (not_disk answer) old new → MigrateEnds old new (migrated_outcome answer)
  ends_by answer is moments durable reads calls =
      migrate_ends (migrated_outcome answer) (counted_by answer calls.counted) (cause_by answer is reads)
      (record {
        each = λ honest shows settled archive has p left.
            each_has archive (MigrationEnds (is_ok answer) archive) (moments honest shows settled archive has) settled has p left;
        settled = λ honest settled s. settled_by answer (durable honest) reads settled s;
      })
      calls.link
