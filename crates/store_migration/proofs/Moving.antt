-- A checkpoint of a library with its digests: at each moment the image stands for the archive, by a half of form 1
-- or of the form in use.
use Rattle.std.proofs.Common.{◌≡◌, ◌≤◌, ◌+◌, ◌*◌, ◌==◌, ◌∷◌, ℕ, Bool, true, false, List, [], Some, length, get_or, drop, refl, ap, ap₂, subst, ◌∙◌, arith, inl, inr}
use Rattle.disk_trait.specs.Device.{Device, Left, may_leave}
use Rattle.disk_trait.specs.Calls.{Elapses, LeavesOnly}
use Rattle.disk_trait.proofs.Theorems.{elapses_weaker}
use Rattle.disk_trait.specs.Forms.{form_in_use}
use Rattle.media_journal.specs.Checkpoint.{CheckpointEnds, KeepsOrSwitches, WritesOther, after_checkpoint, other_start, with_rows}
use Rattle.media_journal.specs.Journal.{Contents, Gives}
use Rattle.media_rows.specs.declared.object.ObjectRow.{ObjectRow}
use Rattle.media_rows.specs.declared.object.ObjectState.{ObjectState}
use Rattle.media_rows.specs.declared.object.ObjectState.TheVariants.{Allocated, Stored}
use Rattle.media_rows.specs.Digests.{digest_of}
use Rattle.media_rows.specs.Media.{Archive}
use Rattle.store_opening.specs.Opening.{IsKeptBy, archive_read, contents_in, state_read}
use Rattle.store_opening.proofs.Kept.{read_stands}
use Rattle.store_states.specs.Kept.{StoreView}
use Rattle.store_states.specs.States.{IsSnapshot, Makes, digested, digested_state, held_in, media_start, state_bytes}
use Rattle.store_states.proofs.Bytes.{early_writes}
use Rattle.store_states.proofs.Checking.{other_by}
use Rattle.store_migration.specs.Migration.{HasArchiveBy, Migrates, MigrationEnds}

-- ---- where images have the same bytes of objects

same_state : (area : ℕ) (image other : List ℕ) (state : ObjectState) → state_bytes image area state ≡ state_bytes other area state
    → digested_state image area state ≡ digested_state other area state
same_state area image other Allocated same = refl
same_state area image other (Stored start size digest) same = ap (λ bytes. Stored start size (Some (digest_of bytes))) same

-- their digests are the same
same_digests : (area : ℕ) (image other : List ℕ) (objects : List ObjectRow) → held_in image area objects ≡ held_in other area objects
    → digested image area objects ≡ digested other area objects
same_digests area image other [] same = refl
same_digests area image other (row ∷ rows) same =
    ap₂ (λ (r : ObjectRow) (l : List ObjectRow). r ∷ l)
    (ap (λ s. record row { state = s }) (same_state area image other row.state (ap (λ l. get_or l 0 []) same)))
    (same_digests area image other rows (ap (drop 1) same))

-- ---- a checkpoint

module _ (image : List ℕ) (kept : StoreView) (is : IsKeptBy 1 image kept) (rows : List ℕ)
    (snapshot : IsSnapshot form_in_use is.header rows (archive_read 1 image kept).library) (fits : length rows + 9 ≤ 4096 * kept.journal.half) where
  abbrev area : ℕ
  area = media_start kept.journal.half

  abbrev pub archive : Archive
  archive = archive_read 1 image kept

  -- what is kept behind it
  abbrev pub behind : StoreView
  behind = record { library = archive.library; journal = after_checkpoint kept.journal (length rows) }

  abbrev pub contents : Contents
  contents = contents_in 1 is.header is.text is.records

  after_makes : Makes form_in_use is.header rows [] archive.library
  after_makes = record { first = archive.library; snapshot = snapshot; folds = refl }

  module _ (other : List ℕ) (writes : WritesOther kept.journal (length rows) image other) where
    early : other_start kept.journal + (9 + length rows) ≤ area
    early = other_by kept.journal.half (length rows) (kept.journal.start == 8192) fits

    bytes : (objects : List ObjectRow) → held_in other area objects ≡ held_in image area objects
    bytes objects =
        early_writes writes.between other area 4096 1 objects writes.selector (omega arith)
        ∙ early_writes image writes.between area (other_start kept.journal) (9 + length rows) objects writes.half early

    -- the archive by form 1 is the same
    same_archive : archive_read 1 other kept ≡ archive
    same_archive =
        ap (λ (objects : List ObjectRow). record { library = record kept.library { objects = objects }; held = held_in other area objects })
        (same_digests area other image kept.library.objects (bytes kept.library.objects))
        ∙ ap (λ (held : List (List ℕ)). record { library = archive.library; held = held }) (bytes archive.library.objects)

    pub before_stands : Gives other kept.journal contents → HasArchiveBy 1 other archive
    before_stands gives = record {
      state = state_read 1 other kept;
      stands = read_stands 1 other kept (record { header = is.header; text = is.text; records = is.records; gives = gives; makes = is.makes });
      same = same_archive;
    }

    pub after_stands : Gives other behind.journal (with_rows rows contents) → HasArchiveBy form_in_use other archive
    after_stands gives = record {
      state = state_read form_in_use other behind;
      stands = read_stands form_in_use other behind
          (record { header = is.header; text = rows; records = []; gives = gives; makes = after_makes });
      same = ap (λ (held : List (List ℕ)). record { library = archive.library; held = held }) (bytes archive.library.objects);
    }

  module _ (old : Device) (settled : LeavesOnly image old) where
    from_here : (q p : Left) → may_leave old q → WritesOther kept.journal (length rows) q.image p.image → WritesOther kept.journal (length rows) image p.image
    from_here q p could writes = subst (λ (i : List ℕ). WritesOther kept.journal (length rows) i p.image) (settled q could) writes

    so_far : (q p : Left) → may_leave old q → KeepsOrSwitches kept.journal rows contents q p → Migrates archive q p
    so_far q p could now = record {
      told = now.told;
      image = elim now.image [
        | inl gives ↦ inl (before_stands p.image (from_here q p could now.elsewhere) gives)
        | inr gives ↦ inr (after_stands p.image (from_here q p could now.elsewhere) gives)
      ];
    }

    ended : (ok : Bool) (q p : Left) → may_leave old q → CheckpointEnds ok kept.journal rows contents q p → MigrationEnds ok archive q p
    ended true q p could now = record { told = now.told; image = after_stands p.image (from_here q p could now.elsewhere) now.image }
    ended false q p could now = so_far q p could now

    pub migrates : (ok : Bool) (new : Device)
        → Elapses (KeepsOrSwitches kept.journal rows contents) (CheckpointEnds ok kept.journal rows contents) old new
        → Elapses (Migrates archive) (MigrationEnds ok archive) old new
    migrates ok new time = elapses_weaker _ _ _ _ old new time (λ q p could now. so_far q p could now) (λ q p could left now. ended ok q p could now)
