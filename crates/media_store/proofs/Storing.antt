-- The change of a put, for which the bytes came that a read gives at the object's extent.
use Rattle.std.proofs.Common.{◌≡◌, ◌≤◌, ◌+◌, ◌*◌, ◌∙◌, ℕ, Bool, true, false, List, length, drop, sym, ap, ap₂, subst, arith, inl, inr, length-take, length-drop}
use Rattle.std.proofs.lemmas.Bool.{eq-eqb}
use Rattle.media_rows.specs.declared.change.Change.{Change}
use Rattle.media_rows.specs.declared.change.Change.TheVariants as changes
use Rattle.media_rows.specs.declared.object.Extent.{Extent}
use Rattle.media_rows.specs.Media.{Archive, fits_bytes}
use Rattle.disk_trait.specs.Calls.{Elapses, LeavesOnly, Unchanged}
use Rattle.disk_trait.specs.Device.{Device, IsDevice, Left, may_leave}
use Rattle.disk_trait.specs.DiskMoments.{Then, WithinTwo}
use Rattle.disk_trait.proofs.Theorems.{elapses_twice, elapses_weaker}
use Rattle.object_blobs.specs.Extents.{IsOnDevice, extent_bytes, extent_start}
use Rattle.store_states.specs.Held.{StandsThere}
use Rattle.store_states.specs.Kept.{AgreesWith, StoreView}
use Rattle.store_states.specs.States.{media_start}
use Rattle.store_states.proofs.Agreeing.{quiet_calls_keep}
use Rattle.store_commits.specs.Carrying.{ReplaceEnds, Replaces}
use Rattle.store_commits.proofs.Theorems.{agreed_images_have}
use Rattle.store_plans.specs.declared.outcome.Planned.{Planned}
use Rattle.store_plans.specs.Plans.{MakesChange}
use Rattle.media_store.specs.Changes.{CameThere, ChangesStore, archive_next, kept_by}
use Rattle.media_store.specs.Puts.{bytes_at_extent}
use Rattle.media_store.specs.Stores.{archive_of, journal_of}
use Rattle.media_store.specs.Within.{StoresAt}

-- ---- the bytes at an extent are those that came

pub stored_there : (image : List ℕ) (area : ℕ) (change : Change) (extent : Extent) → StoresAt extent change
    → StandsThere image area change (extent_bytes area extent image)
stored_there image area (changes.Store moment object start size digest) extent is =
    ap₂ (λ (s n : ℕ). extent_bytes area (record { start = s; length = n }) image) (sym is.0) (sym is.1)
stored_there image area (changes.PutFlow moment flow) extent is = absurd is
stored_there image area (changes.SetFlow moment flow part) extent is = absurd is
stored_there image area (changes.SetSource moment source part) extent is = absurd is
stored_there image area (changes.DropFlow moment flow) extent is = absurd is
stored_there image area (changes.Allocate moment flow ids) extent is = absurd is
stored_there image area (changes.AddSegments moment flow posts) extent is = absurd is
stored_there image area (changes.CutSegments moment flow range) extent is = absurd is
stored_there image area (changes.AskDelete moment flow range delete_flow) extent is = absurd is
stored_there image area (changes.DeleteStep moment) extent is = absurd is
stored_there image area (changes.SweepStep moment) extent is = absurd is
stored_there image area (changes.PutHook moment hook) extent is = absurd is
stored_there image area (changes.DropHook moment url) extent is = absurd is
stored_there image area (changes.Delivered moment event) extent is = absurd is

pub extent_length : (image : List ℕ) (area : ℕ) (extent : Extent) → extent_start area extent + extent.length ≤ length image
    → length (extent_bytes area extent image) ≡ extent.length
extent_length image area extent there =
    let at = extent_start area extent in
    omega (arith, length-take extent.length (drop at image), length-drop at image, there)

pub fits_there : (image : List ℕ) (area : ℕ) (change : Change) (extent : Extent) → extent_start area extent + extent.length ≤ length image
    → StoresAt extent change → fits_bytes change (extent_bytes area extent image) ≡ true
fits_there image area (changes.Store moment object start size digest) extent there is =
    eq-eqb (length (extent_bytes area extent image)) size (extent_length image area extent there ∙ sym is.1)
fits_there image area (changes.PutFlow moment flow) extent there is = absurd is
fits_there image area (changes.SetFlow moment flow part) extent there is = absurd is
fits_there image area (changes.SetSource moment source part) extent there is = absurd is
fits_there image area (changes.DropFlow moment flow) extent there is = absurd is
fits_there image area (changes.Allocate moment flow ids) extent there is = absurd is
fits_there image area (changes.AddSegments moment flow posts) extent there is = absurd is
fits_there image area (changes.CutSegments moment flow range) extent there is = absurd is
fits_there image area (changes.AskDelete moment flow range delete_flow) extent there is = absurd is
fits_there image area (changes.DeleteStep moment) extent there is = absurd is
fits_there image area (changes.SweepStep moment) extent there is = absurd is
fits_there image area (changes.PutHook moment hook) extent there is = absurd is
fits_there image area (changes.DropHook moment url) extent there is = absurd is
fits_there image area (changes.Delivered moment event) extent there is = absurd is

-- ---- a sync before a change

module _ (kept next : StoreView) (held : List (List ℕ)) (change : Change) (came : List ℕ) where
  abbrev half : ℕ
  half = 4096 * kept.journal.half

  abbrev before : Archive
  before = archive_of kept held

  abbrev after : Archive
  after = archive_next kept held change came

  -- a crash leaves the archive that is kept
  stays : (old : Device) → AgreesWith old kept held → (q p : Left) → may_leave old q → Unchanged q p → Replaces half before after q p
  stays old agrees q p could same = record {
    told = ap (λ (left : Left). left.told) same;
    image = inl (rw same (agreed_images_have old kept held agrees q could));
  }

  -- the sync was made, and then the change
  pub synced : (ok : Bool) (old mid new : Device) → Elapses Unchanged Unchanged old mid → AgreesWith old kept held
      → ChangesStore ok change came kept next held mid new → ChangesStore ok change came kept next held old new
  synced ok old mid new time agrees then = record {
    moments = elapses_weaker (WithinTwo Unchanged Unchanged (Replaces half before after)) (Then Unchanged (ReplaceEnds ok half before after))
        (Replaces half before after) (ReplaceEnds ok half before after) old new
        (elapses_twice Unchanged Unchanged (Replaces half before after) (ReplaceEnds ok half before after) old mid new time then.moments)
        (λ q p could now. elim now [
          | inl same ↦ stays old agrees q p could same
          | inr later ↦ subst (λ (m : Left). Replaces half before after m p) later.1 later.2
        ])
        (λ q p could left now. subst (λ (m : Left). ReplaceEnds ok half before after m p) now.1 now.2);
    agrees = then.agrees;
  }

  -- the sync failed
  pub unsynced : (old mid : Device) → Elapses Unchanged Unchanged old mid → AgreesWith old kept held → ChangesStore false change came kept next held old mid
  unsynced old mid time agrees = record {
    moments = elapses_weaker Unchanged Unchanged (Replaces half before after) (Replaces half before after) old mid time
        (λ q p could same. stays old agrees q p could same) (λ q p could left same. stays old agrees q p could same);
    agrees = λ is. cc;
  }

-- ---- a put that was written

-- after the sync each image has the bytes that a read gives
came_there : (mid : Device) (seen : List ℕ) (kept : StoreView) (change : Change) (extent : Extent) → LeavesOnly mid.seen mid → mid.seen ≡ seen
    → StoresAt extent change → CameThere mid kept change (bytes_at_extent kept extent seen)
came_there mid seen kept change extent settled same stores left could =
    let area = media_start kept.journal.half in
    subst (λ (image : List ℕ). StandsThere image area change (bytes_at_extent kept extent seen)) (sym (settled left could ∙ same))
    (stored_there seen area change extent stores)

pub store_makes : (ok : Bool) (old mid new : Device) (kept : StoreView) (held : List (List ℕ)) (change : Change) (extent : Extent) (planned : Planned)
    → IsDevice old → old.shows ≡ true → IsOnDevice (media_start kept.journal.half) extent old.size → Elapses Unchanged Unchanged old mid
    → mid.seen ≡ old.seen → LeavesOnly mid.seen mid → AgreesWith old kept held → MakesChange (journal_of kept) change planned → StoresAt extent change
    → ((came : List ℕ) → AgreesWith mid kept held → fits_bytes change came ≡ true → CameThere mid kept change came
    → ChangesStore ok change came kept (kept_by kept planned) held mid new)
    → ChangesStore ok change (bytes_at_extent kept extent old.seen) kept (kept_by kept planned) held old new
store_makes ok old mid new kept held change extent planned device shows on time seen settled agrees makes stores writes =
    let area = media_start kept.journal.half in
    let came = bytes_at_extent kept extent old.seen in
    let there : extent_start (media_start kept.journal.half) extent + extent.length ≤ length old.seen = omega (arith, on, device.length shows) in
    synced kept (kept_by kept planned) held change came ok old mid new time agrees
    (writes came (quiet_calls_keep old mid kept held time agrees) (fits_there old.seen area change extent there stores)
    (came_there mid old.seen kept change extent settled seen stores))
