-- A store that is read, and then migrated: what is answered, and what a crash leaves meanwhile.
use Rattle.std.proofs.Common.{◌≡◌, ◌≤◌, ◌<◌, ◌+◌, ◌-◌, ◌*◌, ◌≢◌, ◌∙◌, ℕ, Bool, true, false, List, Result, Err, length, refl, sym, ap, subst, arith, inl, inr}
use Rattle.disk_trait.specs.Calls.{DiskCalls, DiskReads, Elapses, LeavesOnly, Unchanged}
use Rattle.disk_trait.specs.Device.{Device, Left, may_leave}
use Rattle.disk_trait.specs.DiskMoments.{Then, WithinTwo}
use Rattle.disk_trait.specs.Forms.{IsForm, form_in_use}
use Rattle.disk_trait.proofs.Theorems.{calls_twice, elapses_twice, elapses_weaker}
use Rattle.library_laws.proofs.ChangesKept.{good_is_tested}
use Rattle.library_laws.specs.RowLaws.{RowsGiveTheLibrary}
use Rattle.media_journal.specs.Checkpoint.{CheckpointEnds, KeepsOrSwitches, WritesOther, after_checkpoint, with_rows}
use Rattle.media_journal.specs.Journal.{Contents, Gives, Position}
use Rattle.media_journal.specs.JournalMoments.{EachGives}
use Rattle.media_rows.specs.Good.{Good}
use Rattle.media_rows.specs.Media.{Archive}
use Rattle.media_rows.specs.Snapshot.{rows_of}
use Rattle.snapshot_rows.specs.Texts.{SpellsRows}
use Rattle.store_opening.specs.Opening.{IsKeptBy, ReadAnswer, archive_read, contents_in, state_read}
use Rattle.store_opening.proofs.Kept.{read_stands}
use Rattle.store_states.specs.Kept.{StoreView}
use Rattle.store_states.specs.States.{IsSnapshot, IsTextOf, StandsBy, StandsFor, StoreState, blocks_before, media_start}
use Rattle.store_states.proofs.Digested.{good_in}
use Rattle.store_states.proofs.Making.{libraries_are_good, old_states_have_digests}
use Rattle.store_states.proofs.Snapshots.{size_of, text_of}
use Rattle.store_states.proofs.Standing.{one_state}
use Rattle.change_codec.specs.Fitting.{snapshot_size}
use Rattle.std.proofs.lemmas.Bool.{false≢true}
use Rattle.std.proofs.lemmas.Bool.Decides.{leb_tells}
use Rattle.media_journal.specs.declared.fault.AppendFault.{AppendFault}
use Rattle.media_journal.specs.declared.fault.AppendFault.TheVariants as writing
use Rattle.media_journal.specs.declared.fault.JournalFault.{JournalFault}
use Rattle.media_journal.specs.declared.fault.JournalFault.TheVariants as opening
use Rattle.media_journal.specs.Answers.{not_disk as not_disk_fault}
use Rattle.store_migration.specs.Migration.{HasArchiveBy, HasEither, IsMigrated, IsTooFull, MigrateAnswer, Migrates, MigrationEnds}
use Rattle.store_migration.specs.Within.{AreRowsOf, is_refused, not_disk, opening_fault, rows_fault, rows_read, writing_fault}
use Rattle.store_migration.specs.declared.digests.LibraryRows.{LibraryRows}
use Rattle.store_migration.specs.declared.fault.MigrateFault.{MigrateFault}
use Rattle.store_migration.specs.declared.fault.RowsFault.{RowsFault}
use Rattle.store_migration.specs.declared.fault.RowsFault.TheVariants as rows
use Rattle.store_migration.specs.declared.migration.Migrated.{Migrated}
use Rattle.store_migration.proofs.Moving.{after_stands, migrates}

-- ---- what is only read

-- reads change nothing of what a crash leaves
pub settled_on : (image : List ℕ) (old new : Device) → LeavesOnly image old → Elapses Unchanged Unchanged old new → LeavesOnly image new
settled_on image old new settled time p left =
    let from = time.now p left in
    ap (λ (l : Left). l.image) from.2 ∙ settled from.0 from.1

module _ (image : List ℕ) (archive : Archive) (has : HasEither image archive) (old : Device) (settled : LeavesOnly image old) where
  still : (q p : Left) → may_leave old q → p ≡ q → Migrates archive q p
  still q p could same = record {
    told = ap (λ (l : Left). l.told) same;
    image = subst (λ (i : List ℕ). HasEither i archive) (sym (ap (λ (l : Left). l.image) same ∙ settled q could)) has;
  }

  -- at each moment of them the archive is there
  pub only_read : (new : Device) → Elapses Unchanged Unchanged old new → Elapses (Migrates archive) (Migrates archive) old new
  only_read new time =
      elapses_weaker Unchanged Unchanged (Migrates archive) (Migrates archive) old new time (λ q p could same. still q p could same)
      (λ q p could left same. still q p could same)

  -- and so it is where a checkpoint follows
  pub read_first : (ok : Bool) (mid new : Device) → Elapses Unchanged Unchanged old mid → Elapses (Migrates archive) (MigrationEnds ok archive) mid new
      → Elapses (Migrates archive) (MigrationEnds ok archive) old new
  read_first ok mid new time then =
      elapses_weaker (WithinTwo Unchanged Unchanged (Migrates archive)) (Then Unchanged (MigrationEnds ok archive)) (Migrates archive)
      (MigrationEnds ok archive) old new
      (elapses_twice Unchanged Unchanged (Migrates archive) (MigrationEnds ok archive) old mid new time then)
      (λ q p could now. elim now [
        | inl same ↦ still q p could same
        | inr later ↦ subst (λ (m : Left). Migrates archive m p) later.1 later.2
      ])
      (λ q p could left now. subst (λ (m : Left). MigrationEnds ok archive m p) now.1 now.2)

-- ---- the store that was read

module _ (image : List ℕ) (kept : StoreView) (is : IsKeptBy 1 image kept) where
  abbrev pub archive : Archive
  archive = archive_read 1 image kept

  pub good_archive : Good archive.library
  good_archive =
      good_in 1 image (media_start kept.journal.half) kept.library (libraries_are_good 1 is.header is.text is.records kept.library is.makes).0

  -- its rows with the digests are a snapshot in the form in use
  pub snapshot_of : RowsGiveTheLibrary → (rows : List ℕ) → SpellsRows form_in_use rows (rows_of archive.library)
      → IsSnapshot form_in_use is.header rows archive.library
  snapshot_of law rows spells =
      let under = (libraries_are_good 1 is.header is.text is.records kept.library is.makes).1 in
      subst (λ (n : ℕ). IsTextOf form_in_use n (is.header.blocks - blocks_before is.header.half) rows archive.library) under.id
      (subst (λ (n : ℕ). IsTextOf form_in_use archive.library.id n rows archive.library) under.blocks
      (text_of law good_is_tested archive.library good_archive rows spells))

  -- each image that a crash may leave gives what was read
  pub each_gives : (d : Device) → LeavesOnly image d → EachGives d kept.journal (contents_in 1 is.header is.text is.records)
  each_gives d settled = record {
    gives = λ left could. subst (λ (i : List ℕ). Gives i kept.journal (contents_in 1 is.header is.text is.records)) (sym (settled left could)) is.gives;
  }

  pub stands : StandsBy 1 image (state_read 1 image kept)
  stands = read_stands 1 image kept is

  -- it is the one archive for which the image stands
  one_by : (form : ℕ) (other : Archive) → HasArchiveBy form image other → archive ≡ other
  one_by form other has = ap (λ (s : StoreState). s.archive) (one_state image form 1 has.state (state_read 1 image kept) has.stands stands) ∙ has.same

  pub one_archive : (other : Archive) → HasEither image other → archive ≡ other
  one_archive other (inl has) = one_by 1 other has
  one_archive other (inr has) = one_by form_in_use other has

  pub has : HasEither image archive
  has = inl (record { state = state_read 1 image kept; stands = stands; same = refl })

  -- reads behind it leave the archive
  pub still_read : (old new : Device) → LeavesOnly image old → Elapses Unchanged Unchanged old new → Elapses (Migrates archive) (Migrates archive) old new
  still_read old new settled time = only_read image archive has old settled new time

-- ---- what was read and hashed

module _ (law : RowsGiveTheLibrary) (image : List ℕ) (kept : StoreView) (is : IsKeptBy 1 image kept) (rows : LibraryRows)
    (are : AreRowsOf (archive_read 1 image kept).library rows) (text : List ℕ) (text_is : text ≡ rows.text) where
  spells : SpellsRows form_in_use text (rows_of (archive image kept is).library)
  spells = subst (λ (t : List ℕ). SpellsRows form_in_use t (rows_of (archive image kept is).library)) (sym text_is) are.spells

  size : length text ≡ snapshot_size (archive image kept is).library
  size = size_of (archive image kept is).library text spells

  snapshot : IsSnapshot form_in_use is.header text (archive image kept is).library
  snapshot = snapshot_of image kept is law text spells

  -- the rows have no room
  pub too_full : 4096 * kept.journal.half < length text + 9 → IsTooFull image
  too_full none = record { from = state_read 1 image kept; stands = stands image kept is; full = omega (arith, none, size) }

  -- they have
  module _ (fits : length text + 9 ≤ 4096 * kept.journal.half) where
    pub moved : (ok : Bool) (old mid new : Device) → LeavesOnly image old → Elapses Unchanged Unchanged old mid
        → ((held : Contents) → EachGives mid kept.journal held
        → Elapses (KeepsOrSwitches kept.journal text held) (CheckpointEnds ok kept.journal text held) mid new)
        → Elapses (Migrates (archive image kept is)) (MigrationEnds ok (archive image kept is)) old new
    moved ok old mid new settled time writes =
        let still = settled_on image old mid settled time in
        read_first image (archive image kept is) (has image kept is) old settled ok mid new time
        (migrates image kept is text snapshot fits mid still ok new
        (writes (contents_in 1 is.header is.text is.records) (each_gives image kept is mid still)))

    pub made : (mid new : Device) (next : Position) (migrated : Migrated) → mid.seen ≡ image → next ≡ after_checkpoint kept.journal (length text)
        → WritesOther kept.journal (length text) mid.seen new.seen
        → ((held : Contents) → Gives mid.seen kept.journal held → Gives new.seen next (with_rows text held))
        → migrated.objects ≡ rows.stored → migrated.rows ≡ length text → IsMigrated image new.seen migrated
    made mid new next migrated seen place writes gives objects long =
        let held = contents_in 1 is.header is.text is.records in
        let given : Gives mid.seen kept.journal held = subst (λ (i : List ℕ). Gives i kept.journal held) (sym seen) is.gives in
        record {
          from = state_read 1 image kept;
          stands = stands image kept is;
          archive = after_stands image kept is text snapshot fits new.seen
              (subst (λ (i : List ℕ). WritesOther kept.journal (length text) i new.seen) seen writes)
              (subst (λ (p : Position). Gives new.seen p (with_rows text held)) place (gives held given));
          digests = old_states_have_digests image (state_read 1 image kept) (stands image kept is);
          objects = objects ∙ are.stored;
          rows = long ∙ size;
          room = omega (arith, long, fits);
        }

  -- ---- what the checkpoint fails with

  -- without room for the rows it is `Full`
  pub fits_by : ((4096 * kept.journal.half < length text + 9) → ⊥) → length text + 9 ≤ 4096 * kept.journal.half
  fits_by none = elim (leb_tells (length text + 9) (4096 * kept.journal.half)) [ inl does ↦ does.1 | inr not ↦ absurd (none not.1) ]

  pub not_written : (e : AppendFault) (other : List ℕ) → (e ≡ writing.Full → 4096 * kept.journal.half < length text + 9)
      → MigrateAnswer image other (Err (writing_fault e))
  not_written writing.Full other full = too_full (full refl)
  not_written writing.Disk other full = tt

  pub moved_by : (e : AppendFault) (old mid new : Device) → LeavesOnly image old → Elapses Unchanged Unchanged old mid
      → ((4096 * kept.journal.half < length text + 9) → e ≡ writing.Full) → (e ≡ writing.Full → new ≡ mid)
      → ((held : Contents) → EachGives mid kept.journal held
      → Elapses (KeepsOrSwitches kept.journal text held) (KeepsOrSwitches kept.journal text held) mid new)
      → Elapses (Migrates (archive image kept is)) (Migrates (archive image kept is)) old new
  moved_by writing.Full old mid new settled time full same writes =
      still_read image kept is old new settled (subst (λ (d : Device). Elapses Unchanged Unchanged old d) (sym (same refl)) time)
  moved_by writing.Disk old mid new settled time full same writes = moved (fits_by (λ none. not_full (full none))) false old mid new settled time writes
    where
      not_full : writing.Disk ≡ writing.Full → ⊥
      not_full e = cc

-- ---- faults

-- what reading the rows fails with says nothing of the file
pub no_rows : (image other : List ℕ) (e : RowsFault) → MigrateAnswer image other (Err (rows_fault e))
no_rows image other rows.Disk = tt
no_rows image other rows.Memory = tt

module _ (old new : Device) where
  pub no_rows_reads : (e : RowsFault) → DiskReads (rows_read {X = Unit {0}} (Err e)) old new → is_refused {X = Unit {0}} (Err (rows_fault e)) ≡ true
      → DiskReads true old new
  no_rows_reads rows.Disk reads is = absurd (false≢true is)
  no_rows_reads rows.Memory reads is = reads

  pub no_rows_calls : (e : RowsFault) → DiskReads (rows_read {X = Unit {0}} (Err e)) old new → DiskCalls (not_disk {X = Unit {0}} (Err (rows_fault e))) old new
  no_rows_calls rows.Disk reads = reads.calls
  no_rows_calls rows.Memory reads = reads.calls

module _ (old mid new : Device) (reads : DiskReads true old mid) where
  pub not_written_reads : (e : AppendFault) → (e ≡ writing.Full → new ≡ mid) → is_refused {X = Unit {0}} (Err (writing_fault e)) ≡ true
      → DiskReads true old new
  not_written_reads writing.Full same is = subst (λ (d : Device). DiskReads true old d) (sym (same refl)) reads
  not_written_reads writing.Disk same is = absurd (false≢true is)

  pub not_written_calls : (e : AppendFault) → (e ≡ writing.Full → new ≡ mid) → (e ≡ writing.Disk → DiskCalls false mid new)
      → DiskCalls (not_disk {X = Unit {0}} (Err (writing_fault e))) old new
  not_written_calls writing.Full same failed = subst (λ (d : Device). DiskCalls true old d) (sym (same refl)) reads.calls
  not_written_calls writing.Disk same failed = calls_twice false old mid new reads.calls (failed refl)

-- ---- the store that is migrated

-- what reading fails with is told as it is
pub no_store : (image other : List ℕ) (e : JournalFault) → ReadAnswer image (Err e) → MigrateAnswer image other (Err (opening_fault e))
no_store image other opening.NotStore answer = answer
no_store image other (opening.Damaged at) answer = answer
no_store image other opening.OldForm answer = absurd answer
no_store image other opening.Disk answer = tt
no_store image other opening.Memory answer = tt

module _ (old new : Device) where
  pub no_store_reads : (e : JournalFault) → DiskReads (not_disk_fault {T = Unit {0}} (Err e)) old new
      → is_refused {X = Unit {0}} (Err (opening_fault e)) ≡ true → DiskReads true old new
  no_store_reads opening.NotStore reads is = reads
  no_store_reads (opening.Damaged at) reads is = reads
  no_store_reads opening.OldForm reads is = reads
  no_store_reads opening.Disk reads is = absurd (false≢true is)
  no_store_reads opening.Memory reads is = reads

  pub no_store_calls : (e : JournalFault) → DiskReads (not_disk_fault {T = Unit {0}} (Err e)) old new
      → DiskCalls (not_disk {X = Unit {0}} (Err (opening_fault e))) old new
  no_store_calls opening.NotStore reads = reads.calls
  no_store_calls (opening.Damaged at) reads = reads.calls
  no_store_calls opening.OldForm reads = reads.calls
  no_store_calls opening.Disk reads = reads.calls
  no_store_calls opening.Memory reads = reads.calls

-- the form of a store that isn't in use is 1
pub old_form : (form : ℕ) → IsForm form → form ≢ form_in_use → form ≡ 1
old_form form (inl one) other = one
old_form form (inr two) other = absurd (other two)

-- one in use stands as it was read
pub in_use : (form : ℕ) (image : List ℕ) (kept : StoreView) → form ≡ form_in_use → IsKeptBy form image kept → (s : StoreState) × StandsFor image s
in_use form image kept same is =
    (state_read form image kept, subst (λ (f : ℕ). StandsBy f image (state_read form image kept)) same (read_stands form image kept is))

module _ (old mid new : Device) (reads : DiskReads true old mid) (form : ℕ) (one : form ≡ 1) (kept : StoreView)
    (is : old.shows ≡ true → IsKeptBy form old.seen kept) where
  kept_then : old.shows ≡ true → IsKeptBy 1 mid.seen kept
  kept_then shows =
      subst (λ (i : List ℕ). IsKeptBy 1 i kept) (sym reads.seen) (subst (λ (f : ℕ). IsKeptBy f old.seen kept) one (is shows))

  pub answer_over : (result : Result Migrated MigrateFault)
      → (mid.shows ≡ true → IsKeptBy 1 mid.seen kept → MigrateAnswer mid.seen new.seen result) → old.shows ≡ true → MigrateAnswer old.seen new.seen result
  answer_over result answer shows =
      subst (λ (i : List ℕ). MigrateAnswer i new.seen result) reads.seen (answer (reads.calls.same.shows ∙ shows) (kept_then shows))

  pub moments_over : (ok : Bool)
      → (mid.honest ≡ true → mid.shows ≡ true → LeavesOnly mid.seen mid → IsKeptBy 1 mid.seen kept
      → Elapses (Migrates (archive_read 1 mid.seen kept)) (MigrationEnds ok (archive_read 1 mid.seen kept)) mid new)
      → old.honest ≡ true → old.shows ≡ true → LeavesOnly old.seen old → (archive : Archive) → HasEither old.seen archive
      → Elapses (Migrates archive) (MigrationEnds ok archive) old new
  moments_over ok moments honest shows settled archive has =
      let here = kept_then shows in
      let still = subst (λ (i : List ℕ). LeavesOnly i mid) (sym reads.seen) (settled_on old.seen old mid settled reads.time) in
      let same : archive_read 1 mid.seen kept ≡ archive =
      one_archive mid.seen kept here archive (subst (λ (i : List ℕ). HasEither i archive) (sym reads.seen) has) in
      read_first old.seen archive has old settled ok mid new reads.time
      (subst (λ (a : Archive). Elapses (Migrates a) (MigrationEnds ok a) mid new) same
      (moments (reads.calls.same.honest ∙ honest) (reads.calls.same.shows ∙ shows) still here))
