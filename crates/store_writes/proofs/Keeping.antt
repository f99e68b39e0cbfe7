-- What is kept, over each call.
use Rattle.std.proofs.Common.{◌≡◌, ◌≤◌, ◌+◌, ◌*◌, ◌∙◌, ◌==◌, ℕ, Bool, true, false, List, length, arith, subst, ap, inl, inr}
use Rattle.disk_trait.specs.Forms.{form_in_use}
use Rattle.media_rows.specs.declared.object.Extent.{Extent}
use Rattle.media_rows.specs.declared.object.ObjectRow.{ObjectRow}
use Rattle.media_rows.specs.Library.{Library}
use Rattle.media_rows.specs.Objects.{blocks_of}
use Rattle.disk_trait.specs.Device.{Device, Left}
use Rattle.disk_trait.specs.Calls.{Elapses, LeavesOnly, TornWrite, Unchanged}
use Rattle.disk_trait.specs.DiskMoments.{Then, WithinTwo}
use Rattle.disk_trait.proofs.Theorems.{elapses_twice, elapses_weaker}
use Rattle.object_blobs.specs.Extents.{extent_start}
use Rattle.media_journal.specs.Checkpoint.{CheckpointEnds, KeepsOrSwitches, WritesOther, other_start}
use Rattle.media_journal.specs.Journal.{Contents, Position}
use Rattle.media_journal.specs.JournalMoments.{AppendEnds, EachGives, KeepsOrAdds}
use Rattle.store_states.specs.Kept.{AgreesWith, HoldsEach, MoveEnds, Moves, StoreView, half_of, kept_after, kept_checked, kept_state}
use Rattle.store_states.specs.Laws.{AreInBlocks}
use Rattle.store_states.specs.States.{IsTextOf, StepOf, StoreState, held_in, media_start}
use Rattle.store_states.proofs.Agreeing.{agreed_images_stand, free_writes_keep, free_writes_stand, quiet_calls_keep, quiet_calls_stand}
use Rattle.store_states.proofs.Appending.{appends_keep, appends_stand}
use Rattle.store_states.proofs.Bytes.{early_writes}
use Rattle.store_states.proofs.Checking.{checkpoints_keep, checkpoints_stand, other_by}
use Rattle.store_states.proofs.Making.{text_under}
use Rattle.store_writes.specs.Writes.{Advances, IsFree, Keeps}

-- ---- pieces

pub quiet : (old new : Device) (kept : StoreView) (held : List (List ℕ)) → Elapses Unchanged Unchanged old new → AgreesWith old kept held
    → Keeps kept held old new
quiet old new kept held time agrees = record {
  agrees = quiet_calls_keep old new kept held time agrees;
  moments = quiet_calls_stand old new kept held time agrees;
}

within_blocks : (area start size at n : ℕ) → at + n ≤ size → AreInBlocks area start (blocks_of size) (area + 4096 * start + at) n
within_blocks area start size at n inside = record { from = omega arith; to = omega (arith, inside) }

pub free : (old new : Device) (kept : StoreView) (held : List (List ℕ)) (area : ℕ) (extent : Extent) (at n : ℕ) → at + n ≤ extent.length
    → Elapses (TornWrite (extent_start area extent + at) n) (TornWrite (extent_start area extent + at) n) old new → AgreesWith old kept held
    → area ≡ media_start kept.journal.half → IsFree kept.library.objects extent → Keeps kept held old new
free old new kept held area extent at n inside time agrees place clear =
    let blocks = subst (λ (a : ℕ). AreInBlocks a extent.start (blocks_of extent.length) (extent_start area extent + at) n) place
    (within_blocks area extent.start extent.length at n inside) in
    record {
      agrees = free_writes_keep old new kept held extent.start (blocks_of extent.length) (extent_start area extent + at) n time clear blocks agrees;
      moments = free_writes_stand old new kept held extent.start (blocks_of extent.length) (extent_start area extent + at) n time clear blocks agrees;
    }

-- ---- records

module _ (old new : Device) (kept : StoreView) (held : List (List ℕ)) (next : Library) (payload : List ℕ) (ok : Bool) (agrees : AgreesWith old kept held)
    (step : StepOf form_in_use payload kept.library next) (fits : length payload + 6 ≤ kept.journal.room)
    (time : (contents : Contents) → EachGives old kept.journal contents
    → Elapses (KeepsOrAdds kept.journal payload contents) (AppendEnds ok kept.journal payload contents) old new)
    (next_held : List (List ℕ)) (holds : HoldsEach old (media_start kept.journal.half) next.objects next_held) where
  there : HoldsEach old (media_start agrees.header.half) next.objects next_held
  there = λ left could.
      subst (λ (h : ℕ). held_in left.image (media_start h) next.objects ≡ next_held) (agrees.gives.gives left could).half.half_blocks (holds left could)

  elapsed : Elapses (KeepsOrAdds kept.journal payload (half_of agrees.header agrees.text agrees.records))
      (AppendEnds ok kept.journal payload (half_of agrees.header agrees.text agrees.records)) old new
  elapsed = time (half_of agrees.header agrees.text agrees.records) agrees.gives

  pub appended : Advances ok (kept_state kept held) (kept_after kept next (length payload)) next_held old new
  appended = record {
    moments = appends_stand old kept held agrees payload next step next_held there fits ok new elapsed;
    agrees = λ is.
        appends_keep old kept held agrees payload next step next_held there fits new
        (subst (λ (b : Bool). Elapses (KeepsOrAdds kept.journal payload (half_of agrees.header agrees.text agrees.records))
        (AppendEnds b kept.journal payload (half_of agrees.header agrees.text agrees.records)) old new) is elapsed);
  }

pub appended_at : (old new : Device) (kept : StoreView) (held : List (List ℕ)) (next : Library) (payload : List ℕ) (ok : Bool) (journal : Position)
    → AgreesWith old kept held → StepOf form_in_use payload kept.library next → (next_held : List (List ℕ))
    → HoldsEach old (media_start kept.journal.half) next.objects next_held → kept.journal ≡ journal → length payload + 6 ≤ journal.room
    → ((contents : Contents) → EachGives old journal contents
    → Elapses (KeepsOrAdds journal payload contents) (AppendEnds ok journal payload contents) old new)
    → Advances ok (kept_state kept held) (kept_after kept next (length payload)) next_held old new
appended_at old new kept held next payload ok journal agrees step next_held holds same =
    subst (λ (j : Position). length payload + 6 ≤ j.room
    → ((contents : Contents) → EachGives old j contents → Elapses (KeepsOrAdds j payload contents) (AppendEnds ok j payload contents) old new)
    → Advances ok (kept_state kept held) (kept_after kept next (length payload)) next_held old new)
    same (λ fits time. appended old new kept held next payload ok agrees step fits time next_held holds)

-- ---- a sync before a record

stays_first : (s t : StoreState) (q p : Left) → Moves s s q p → Moves s t q p
stays_first s t q p now = record { told = now.told; image = elim now.image [ inl is ↦ inl is | inr is ↦ inl is ] }

-- a sync that failed
pub not_synced : (old mid : Device) (kept : StoreView) (held : List (List ℕ)) (next : StoreView) (next_held : List (List ℕ))
    → Elapses Unchanged Unchanged old mid → AgreesWith old kept held → Advances false (kept_state kept held) next next_held old mid
not_synced old mid kept held next next_held time agrees =
    let s = kept_state kept held in
    let t = kept_state next next_held in
    record {
      moments = elapses_weaker (Moves s s) (Moves s s) (Moves s t) (Moves s t) old mid (quiet_calls_stand old mid kept held time agrees)
          (λ q p could now. stays_first s t q p now) (λ q p could left now. stays_first s t q p now);
      agrees = λ is. cc;
    }

-- a sync, and then what makes the next state
pub synced : (old mid new : Device) (kept : StoreView) (held : List (List ℕ)) (ok : Bool) (next : StoreView) (next_held : List (List ℕ))
    → Elapses Unchanged Unchanged old mid → AgreesWith old kept held → Advances ok (kept_state kept held) next next_held mid new
    → Advances ok (kept_state kept held) next next_held old new
synced old mid new kept held ok next next_held time agrees then =
    let s = kept_state kept held in
    let t = kept_state next next_held in
    record {
      moments = elapses_weaker (WithinTwo Unchanged Unchanged (Moves s t)) (Then Unchanged (MoveEnds ok s t)) (Moves s t) (MoveEnds ok s t) old new
          (elapses_twice Unchanged Unchanged (Moves s t) (MoveEnds ok s t) old mid new time then.moments)
          (λ q p could now. elim now [
            | inl same ↦ record {
              told = ap (λ (left : Left). left.told) same;
              image = inl (rw same (agreed_images_stand old kept held agrees q could));
            }
            | inr later ↦ subst (λ (m : Left). Moves s t m p) later.1 later.2
          ])
          (λ q p could left now. subst (λ (m : Left). MoveEnds ok s t m p) now.1 now.2);
      agrees = then.agrees;
    }

-- where nothing is pending, the bytes are those that a read gives
pub holds_settled : (d : Device) (area : ℕ) (objects : List ObjectRow) → LeavesOnly d.seen d → HoldsEach d area objects (held_in d.seen area objects)
holds_settled d area objects settled = λ left could. ap (λ (image : List ℕ). held_in image area objects) (settled left could)

-- ---- checkpoints

pub checked : (old new : Device) (kept : StoreView) (held : List (List ℕ)) (rows : List ℕ) (ok : Bool) → AgreesWith old kept held
    → IsTextOf form_in_use kept.library.id kept.library.blocks rows kept.library → length rows + 9 ≤ 4096 * kept.journal.half
    → ((contents : Contents) → EachGives old kept.journal contents
    → Elapses (KeepsOrSwitches kept.journal rows contents) (CheckpointEnds ok kept.journal rows contents) old new)
    → Advances ok (kept_state kept held) (kept_checked kept (length rows)) held old new
checked old new kept held rows ok agrees text fits time =
    let snapshot = text_under agrees.header agrees.text rows agrees.records kept.library agrees.makes text in
    let contents = half_of agrees.header agrees.text agrees.records in
    let elapsed : Elapses (KeepsOrSwitches kept.journal rows contents) (CheckpointEnds ok kept.journal rows contents) old new =
    time contents agrees.gives in
    record {
      moments = checkpoints_stand old kept held agrees rows snapshot fits ok new elapsed;
      agrees = λ is.
          checkpoints_keep old kept held agrees rows snapshot fits new
          (subst (λ (b : Bool). Elapses (KeepsOrSwitches kept.journal rows contents) (CheckpointEnds b kept.journal rows contents) old new) is elapsed);
    }

pub checked_at : (old new : Device) (kept : StoreView) (held : List (List ℕ)) (rows : List ℕ) (ok : Bool) (journal : Position) → AgreesWith old kept held
    → IsTextOf form_in_use kept.library.id kept.library.blocks rows kept.library → kept.journal ≡ journal → length rows + 9 ≤ 4096 * journal.half
    → ((contents : Contents) → EachGives old journal contents
    → Elapses (KeepsOrSwitches journal rows contents) (CheckpointEnds ok journal rows contents) old new)
    → Advances ok (kept_state kept held) (kept_checked kept (length rows)) held old new
checked_at old new kept held rows ok journal agrees text same =
    subst (λ (j : Position). length rows + 9 ≤ 4096 * j.half
    → ((contents : Contents) → EachGives old j contents → Elapses (KeepsOrSwitches j rows contents) (CheckpointEnds ok j rows contents) old new)
    → Advances ok (kept_state kept held) (kept_checked kept (length rows)) held old new)
    same (λ fits time. checked old new kept held rows ok agrees text fits time)

-- where a checkpoint writes, no object has bytes
other_bytes : (p : Position) (n : ℕ) (image other : List ℕ) (objects : List ObjectRow) → n + 9 ≤ 4096 * p.half → WritesOther p n image other
    → held_in other (media_start p.half) objects ≡ held_in image (media_start p.half) objects
other_bytes p n image other objects fits writes =
    let early : other_start p + (9 + n) ≤ media_start p.half = other_by p.half n (p.start == 8192) fits in
    early_writes writes.between other (media_start p.half) 4096 1 objects writes.selector (omega arith)
    ∙ early_writes image writes.between (media_start p.half) (other_start p) (9 + n) objects writes.half early

ends_elsewhere : (ok : Bool) (p : Position) (rows : List ℕ) (held : Contents) (old new : Left) → CheckpointEnds ok p rows held old new
    → WritesOther p (length rows) old.image new.image
ends_elsewhere true p rows held old new now = now.elsewhere
ends_elsewhere false p rows held old new now = now.elsewhere

pub checked_bytes : (old new : Device) (kept : StoreView) (held : List (List ℕ)) (rows : List ℕ) (ok : Bool) (journal : Position) → AgreesWith old kept held
    → kept.journal ≡ journal → length rows + 9 ≤ 4096 * journal.half
    → ((contents : Contents) → EachGives old journal contents
    → Elapses (KeepsOrSwitches journal rows contents) (CheckpointEnds ok journal rows contents) old new)
    → (objects : List ObjectRow) (bytes : List (List ℕ)) → HoldsEach old (media_start kept.journal.half) objects bytes
    → HoldsEach new (media_start kept.journal.half) objects bytes
checked_bytes old new kept held rows ok journal agrees same =
    subst (λ (j : Position). length rows + 9 ≤ 4096 * j.half
    → ((contents : Contents) → EachGives old j contents → Elapses (KeepsOrSwitches j rows contents) (CheckpointEnds ok j rows contents) old new)
    → (objects : List ObjectRow) (bytes : List (List ℕ)) → HoldsEach old (media_start kept.journal.half) objects bytes
    → HoldsEach new (media_start kept.journal.half) objects bytes)
    same (λ fits time objects bytes holds left could.
    let contents = half_of agrees.header agrees.text agrees.records in
    let from = (time contents agrees.gives).now left could in
    other_bytes kept.journal (length rows) from.0.image left.image objects fits
    (ends_elsewhere ok kept.journal rows contents from.0 left from.2)
    ∙ holds from.0 from.1)
