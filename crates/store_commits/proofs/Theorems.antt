-- Laws of what carries an archive, over any device, for those who call.
use Rattle.std.proofs.Common.{◌≡◌, ◌∙◌, ◌*◌, ℕ, Bool, true, false, List, refl, sym, subst, inl, inr}
use Rattle.media_rows.specs.Media.{Archive}
use Rattle.disk_trait.specs.Device.{Device, Left, may_leave}
use Rattle.disk_trait.specs.Calls.{DiskReads, Elapses, Unchanged}
use Rattle.disk_trait.specs.DiskMoments.{Then, WithinTwo}
use Rattle.disk_trait.proofs.Theorems.{elapses_twice, elapses_weaker, no_time}
use Rattle.store_states.specs.Kept.{AgreesWith, MoveEnds, Moves, StoreView, kept_state}
use Rattle.store_states.specs.States.{StandsFor, StoreState}
use Rattle.store_states.proofs.Agreeing.{agreed_images_stand}
use Rattle.store_writes.specs.Writes.{Advances, Keeps}
use Rattle.store_writes.proofs.Keeping.{quiet}
use Rattle.store_commits.specs.Carrying.{Carries, HasArchive, ReplaceEnds, Replaced, Replaces}

-- ---- images

-- an image that stands for a state has its archive
pub state_has : (half : ℕ) (s : StoreState) (image : List ℕ) → s.half ≡ half → StandsFor image s → HasArchive half s.archive image
state_has half s image same stands = subst (λ (h : ℕ). HasArchive h s.archive image) same (record { room = s.room; stands = stands })

-- where what is kept agrees with a device, each image that a crash now may leave has its archive
pub agreed_images_have : (d : Device) (kept : StoreView) (held : List (List ℕ)) → AgreesWith d kept held → (left : Left) → may_leave d left
    → HasArchive (kept_state kept held).half (kept_state kept held).archive left.image
agreed_images_have d kept held agrees left could =
    state_has (kept_state kept held).half (kept_state kept held) left.image refl (agreed_images_stand d kept held agrees left could)

-- ---- steps

-- a step from one state to another is one from archive to archive
move_replaces : (half : ℕ) (s t : StoreState) → s.half ≡ half → t.half ≡ half → (q p : Left) → Moves s t q p → Replaces half s.archive t.archive q p
move_replaces half s t before after q p now = record {
  told = now.told;
  image = elim now.image [
    | inl is ↦ inl (state_has half s p.image before is)
    | inr is ↦ inr (state_has half t p.image after is)
  ];
}

move_end_replaces : (ok : Bool) (half : ℕ) (s t : StoreState) → s.half ≡ half → t.half ≡ half → (q p : Left) → MoveEnds ok s t q p
    → ReplaceEnds ok half s.archive t.archive q p
move_end_replaces true half s t before after q p now = record { told = now.told; image = state_has half t p.image after now.image }
move_end_replaces false half s t before after q p now = move_replaces half s t before after q p now

-- a step that leaves an archive may be the first one of a change
stays_first : (half : ℕ) (archive after : Archive) (q p : Left) → Replaces half archive archive q p → Replaces half archive after q p
stays_first half archive after q p now = record { told = now.told; image = elim now.image [ inl is ↦ inl is | inr is ↦ inl is ] }

-- it leaves that archive at its end, however it ends
stays_last : (ok : Bool) (half : ℕ) (archive : Archive) (q p : Left) → Replaces half archive archive q p → ReplaceEnds ok half archive archive q p
stays_last true half archive q p now = record { told = now.told; image = elim now.image [ inl is ↦ is | inr is ↦ is ] }
stays_last false half archive q p now = now

end_replaces : (ok : Bool) (half : ℕ) (before after : Archive) (q p : Left) → ReplaceEnds ok half before after q p → Replaces half before after q p
end_replaces true half before after q p now = record { told = now.told; image = inr now.image }
end_replaces false half before after q p now = now

-- one that has left an archive, and then a step of a change
then_replaces : (half : ℕ) (before after : Archive) (q m p : Left) → Replaced half before q m → Replaces half before after m p
    → Replaces half before after q p
then_replaces half before after q m p first then = record { told = then.told ∙ first.told; image = then.image }

then_ends : (ok : Bool) (half : ℕ) (before after : Archive) (q m p : Left) → Replaced half before q m → ReplaceEnds ok half before after m p
    → ReplaceEnds ok half before after q p
then_ends true half before after q m p first then = record { told = then.told ∙ first.told; image = then.image }
then_ends false half before after q m p first then = then_replaces half before after q m p first then

-- ---- calls

-- a call that makes one state of another carries its archive
pub advances_carry : (ok : Bool) (before : StoreState) (next : StoreView) (held : List (List ℕ)) (old new : Device)
    → before.half ≡ (kept_state next held).half → Advances ok before next held old new → Carries ok before.archive next held old new
advances_carry ok before next held old new halves made =
    let t = kept_state next held in
    record {
      moments = elapses_weaker (Moves before t) (MoveEnds ok before t) (Replaces t.half before.archive t.archive)
          (ReplaceEnds ok t.half before.archive t.archive)
          old new made.moments
          (λ q p could now. move_replaces t.half before t halves refl q p now)
          (λ q p could left now. move_end_replaces ok t.half before t halves refl q p now);
      agrees = made.agrees;
    }

-- a call that keeps what is kept, as a piece in free blocks does, carries its archive to itself, however it ends
pub keeps_carry : (ok : Bool) (kept : StoreView) (held : List (List ℕ)) (old new : Device) → Keeps kept held old new
    → Carries ok (kept_state kept held).archive kept held old new
keeps_carry ok kept held old new keeps =
    let s = kept_state kept held in
    record {
      moments = elapses_weaker (Moves s s) (Moves s s) (Replaces s.half s.archive s.archive) (ReplaceEnds ok s.half s.archive s.archive) old new keeps.moments
          (λ q p could now. move_replaces s.half s s refl refl q p now)
          (λ q p could left now. stays_last ok s.half s.archive q p (move_replaces s.half s s refl refl q p now));
      agrees = λ is. keeps.agrees;
    }

-- so do calls that only read, and syncs
pub quiet_carries : (ok : Bool) (kept : StoreView) (held : List (List ℕ)) (old new : Device) → Elapses Unchanged Unchanged old new → AgreesWith old kept held
    → Carries ok (kept_state kept held).archive kept held old new
quiet_carries ok kept held old new time agrees = keeps_carry ok kept held old new (quiet old new kept held time agrees)

pub reads_carry : (ok : Bool) (kept : StoreView) (held : List (List ℕ)) (old new : Device) → DiskReads ok old new → AgreesWith old kept held
    → Carries ok (kept_state kept held).archive kept held old new
reads_carry ok kept held old new reads agrees = quiet_carries ok kept held old new reads.time agrees

-- and so does no call at all
pub nothing_carries : (ok : Bool) (kept : StoreView) (held : List (List ℕ)) (d : Device) → AgreesWith d kept held
    → Carries ok (kept_state kept held).archive kept held d d
nothing_carries ok kept held d agrees = quiet_carries ok kept held d d (no_time Unchanged d (λ p. refl)) agrees

-- at each moment of such a call a crash leaves that archive
pub archive_stays : (ok : Bool) (kept : StoreView) (held : List (List ℕ)) (old new : Device) → Carries ok (kept_state kept held).archive kept held old new
    → Elapses (Replaced (kept_state kept held).half (kept_state kept held).archive)
    (Replaced (kept_state kept held).half (kept_state kept held).archive) old new
archive_stays ok kept held old new carries =
    let s = kept_state kept held in
    elapses_weaker (Replaces s.half s.archive s.archive) (ReplaceEnds ok s.half s.archive s.archive) (Replaced s.half s.archive) (Replaced s.half s.archive)
    old new carries.moments
    (λ q p could now. stays_last true s.half s.archive q p now)
    (λ q p could left now. stays_last true s.half s.archive q p (end_replaces ok s.half s.archive s.archive q p now))

-- ---- calls in a row

module _ (kept : StoreView) (held : List (List ℕ)) (next : StoreView) (next_held : List (List ℕ)) (halves : next.journal.half ≡ kept.journal.half) where
  abbrev archive : Archive
  archive = (kept_state kept held).archive

  abbrev after : Archive
  after = (kept_state next next_held).archive

  abbrev half : ℕ
  half = 4096 * next.journal.half

  carried : (ok : Bool) (old new : Device) → Carries ok archive kept held old new → Elapses (Replaces half archive archive)
      (ReplaceEnds ok half archive archive) old new
  carried ok old new first =
      subst (λ (h : ℕ). Elapses (Replaces (4096 * h) archive archive) (ReplaceEnds ok (4096 * h) archive archive) old new) (sym halves) first.moments

  -- what is kept stays, or only its journal moves, and then comes a change
  pub carries_on : (ok : Bool) (old mid new : Device) → Carries true archive kept held old mid → Carries ok archive next next_held mid new
      → Carries ok archive next next_held old new
  carries_on ok old mid new first then = record {
    moments = elapses_weaker (WithinTwo (Replaces half archive archive) (Replaced half archive) (Replaces half archive after))
        (Then (Replaced half archive) (ReplaceEnds ok half archive after)) (Replaces half archive after) (ReplaceEnds ok half archive after) old new
        (elapses_twice (Replaces half archive archive) (Replaced half archive) (Replaces half archive after) (ReplaceEnds ok half archive after) old mid new
        (carried true old mid first) then.moments)
        (λ q p could now. elim now [
          | inl so_far ↦ stays_first half archive after q p so_far
          | inr later ↦ then_replaces half archive after q later.0 p later.1 later.2
        ])
        (λ q p could left now. then_ends ok half archive after q now.0 p now.1 now.2);
    agrees = then.agrees;
  }

  -- where a call before a change fails, the change has failed
  pub carries_nothing : (ok : Bool) (old new : Device) → Carries ok archive kept held old new → Carries false archive next next_held old new
  carries_nothing ok old new first = record {
    moments = elapses_weaker (Replaces half archive archive) (ReplaceEnds ok half archive archive) (Replaces half archive after)
        (Replaces half archive after) old new
        (carried ok old new first)
        (λ q p could now. stays_first half archive after q p now)
        (λ q p could left now. stays_first half archive after q p (end_replaces ok half archive archive q p now));
    agrees = λ is. cc;
  }
