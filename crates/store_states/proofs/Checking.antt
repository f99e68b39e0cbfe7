-- A checkpoint keeps the library, and at each moment the state before it or the one after it stands.
use Rattle.std.proofs.Common.{◌≡◌, ◌≤◌, ◌+◌, ◌*◌, ◌==◌, ℕ, Bool, true, false, cond, List, [], length, refl, subst, ◌∙◌, arith, inl, inr}
use Rattle.disk_trait.specs.Device.{Device, Left, may_leave}
use Rattle.disk_trait.specs.Calls.{Elapses}
use Rattle.disk_trait.proofs.Theorems.{elapses_weaker}
use Rattle.disk_trait.specs.Forms.{form_in_use}
use Rattle.media_journal.specs.Checkpoint.{CheckpointEnds, KeepsOrSwitches, WritesOther, after_checkpoint, other_start, with_rows}
use Rattle.media_journal.specs.Journal.{Contents, Gives}
use Rattle.store_states.specs.Kept.{AgreesWith, StoreView, MoveEnds, Moves, half_of, kept_checked, kept_state}
use Rattle.store_states.specs.States.{IsSnapshot, Makes, StandsFor, held_in, media_start}
use Rattle.store_states.proofs.Agreeing.{image_stands}
use Rattle.store_states.proofs.Bytes.{early_writes}

pub other_by : (half n : ℕ) (first : Bool) → n + 9 ≤ 4096 * half → cond first (8192 + 4096 * half) 8192 + (9 + n) ≤ 4096 * (2 * half + 2)
other_by half n true fits = omega (arith, fits)
other_by half n false fits = omega (arith, fits)

module _ (old : Device) (kept : StoreView) (held : List (List ℕ)) (agrees : AgreesWith old kept held) (rows : List ℕ)
    (snapshot : IsSnapshot form_in_use agrees.header rows kept.library) (fits : length rows + 9 ≤ 4096 * kept.journal.half) where
  abbrev pub before : Contents
  before = half_of agrees.header agrees.text agrees.records

  abbrev pub behind : Contents
  behind = with_rows rows before

  after_makes : Makes form_in_use agrees.header rows [] kept.library
  after_makes = record { first = kept.library; snapshot = snapshot; folds = refl }

  module _ (q p : Left) (could : may_leave old q) (writes : WritesOther kept.journal (length rows) q.image p.image) where
    gives_before : Gives q.image kept.journal before
    gives_before = agrees.gives.gives q could

    early : other_start kept.journal + (9 + length rows) ≤ media_start agrees.header.half
    early =
        subst (λ (h : ℕ). other_start kept.journal + (9 + length rows) ≤ media_start h) gives_before.half.half_blocks
        (other_by kept.journal.half (length rows) (kept.journal.start == 8192) fits)

    bytes : held_in p.image (media_start agrees.header.half) kept.library.objects ≡ held
    bytes =
        early_writes writes.between p.image (media_start agrees.header.half) 4096 1 kept.library.objects writes.selector (omega arith)
        ∙ early_writes q.image writes.between (media_start agrees.header.half) (other_start kept.journal) (9 + length rows) kept.library.objects
        writes.half early
        ∙ agrees.bytes q could

    before_stands : Gives p.image kept.journal before → StandsFor p.image (kept_state kept held)
    before_stands gives = image_stands kept held agrees.header agrees.text agrees.records agrees.makes p.image gives bytes

    after_stands : Gives p.image (after_checkpoint kept.journal (length rows)) behind
        → StandsFor p.image (kept_state (kept_checked kept (length rows)) held)
    after_stands gives = image_stands (kept_checked kept (length rows)) held agrees.header rows [] after_makes p.image gives bytes

  so_far : (q p : Left) → may_leave old q → KeepsOrSwitches kept.journal rows before q p
      → Moves (kept_state kept held) (kept_state (kept_checked kept (length rows)) held) q p
  so_far q p could now = record {
    told = now.told;
    image = elim now.image [
      | inl gives ↦ inl (before_stands q p could now.elsewhere gives)
      | inr gives ↦ inr (after_stands q p could now.elsewhere gives)
    ];
  }

  ended : (ok : Bool) (q p : Left) → may_leave old q → CheckpointEnds ok kept.journal rows before q p
      → MoveEnds ok (kept_state kept held) (kept_state (kept_checked kept (length rows)) held) q p
  ended true q p could now = record { told = now.told; image = after_stands q p could now.elsewhere now.image }
  ended false q p could now = so_far q p could now

  pub checkpoints_stand : (ok : Bool) (new : Device)
      → Elapses (KeepsOrSwitches kept.journal rows before) (CheckpointEnds ok kept.journal rows before) old new
      → Elapses (Moves (kept_state kept held) (kept_state (kept_checked kept (length rows)) held))
      (MoveEnds ok (kept_state kept held) (kept_state (kept_checked kept (length rows)) held)) old new
  checkpoints_stand ok new time =
      elapses_weaker _ _ _ _ old new time (λ q p could now. so_far q p could now) (λ q p could left now. ended ok q p could now)

  pub checkpoints_keep : (new : Device)
      → Elapses (KeepsOrSwitches kept.journal rows before) (CheckpointEnds true kept.journal rows before) old new
      → AgreesWith new (kept_checked kept (length rows)) held
  checkpoints_keep new time = record {
    header = agrees.header;
    text = rows;
    records = [];
    makes = after_makes;
    gives = record { gives = λ left could. let from = time.now left could in from.2.image };
    bytes = λ left could. let from = time.now left could in bytes from.0 left from.1 from.2.elsewhere;
  }
