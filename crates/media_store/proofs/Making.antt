-- A change that is written makes the archive after it, whose bytes are there.
use Rattle.std.proofs.Common.{◌≡◌, ◌≤◌, ◌+◌, ◌*◌, ℕ, Bool, true, List, length, Option, Some, None, sym, ap, subst, ◌∙◌, arith}
use Rattle.disk_trait.specs.Forms.{form_in_use}
use Rattle.media_rows.specs.declared.change.Change.{Change}
use Rattle.media_rows.specs.Apply.{applied}
use Rattle.media_rows.specs.Changes.{after}
use Rattle.media_rows.specs.Library.{Library}
use Rattle.media_rows.specs.Media.{archive_after, fits_bytes}
use Rattle.disk_trait.specs.Calls.{Elapses}
use Rattle.disk_trait.specs.Device.{Device, Left, may_leave}
use Rattle.library_laws.proofs.SoundLemmas.{applied_is_sound}
use Rattle.change_codec.specs.Codec.{SpellsChange}
use Rattle.media_journal.specs.Journal.{Position}
use Rattle.store_states.specs.Held.{StandsThere}
use Rattle.store_states.specs.Kept.{AgreesWith, HoldsEach, StoreView, kept_state}
use Rattle.store_states.specs.States.{StepOf, held_in, media_start}
use Rattle.store_states.proofs.Held.{changes_find_bytes}
use Rattle.store_states.proofs.Making.{libraries_are_good}
use Rattle.store_commits.specs.Carrying.{AreRowsOf, Carries, ReplaceEnds, Replaces, kept_written}
use Rattle.store_plans.specs.declared.outcome.Planned.{Planned}
use Rattle.store_plans.specs.Plans.{ComesFirst, MakesChange}
use Rattle.media_store.specs.Changes.{CameThere, ChangesStore, archive_next, kept_by, kept_with}
use Rattle.media_store.specs.Stores.{archive_of, journal_of}
use Rattle.store_commits.proofs.Writing.{half_for}

-- ---- the bytes of the next library's objects

-- an image that may be left has them, where those that came stand there
pub image_bytes : (d : Device) (kept : StoreView) (held : List (List ℕ)) (change : Change) (came : List ℕ) (next : Library) (left : Left)
    → AgreesWith d kept held → may_leave d left → applied change kept.library ≡ Some next → fits_bytes change came ≡ true
    → StandsThere left.image (media_start kept.journal.half) change came
    → held_in left.image (media_start kept.journal.half) next.objects ≡ (archive_next kept held change came).held
image_bytes d kept held change came next left agrees could made fits there =
    let area = media_start kept.journal.half in
    let gives = agrees.gives.gives left could in
    let good = libraries_are_good form_in_use agrees.header agrees.text agrees.records kept.library agrees.makes in
    let sound = applied_is_sound kept.library change next made in
    let sizes = gives.half.sizes in
    let has : media_start kept.journal.half + 4096 * kept.library.blocks ≤ length left.image =
    omega (arith, good.1.blocks, sizes.fits, sizes.within, gives.half.half_blocks) in
    let found = changes_find_bytes left.image area kept.library change came good.0 has sound.allowed fits there in
    let bytes : held_in left.image area kept.library.objects ≡ held =
    ap (λ (half : ℕ). held_in left.image (media_start half) kept.library.objects) gives.half.half_blocks ∙ agrees.bytes left could in
    ap (λ (library : Library). held_in left.image area library.objects) sound.gives ∙ found
    ∙ ap (λ (some : List (List ℕ)). (archive_after change came (record { library = kept.library; held = some })).held) bytes

-- each image has them
pub next_bytes : (d : Device) (kept : StoreView) (held : List (List ℕ)) (change : Change) (came : List ℕ) (next : Library) → AgreesWith d kept held
    → applied change kept.library ≡ Some next → fits_bytes change came ≡ true → CameThere d kept change came
    → HoldsEach d (media_start kept.journal.half) next.objects (archive_next kept held change came).held
next_bytes d kept held change came next agrees made fits there left could =
    image_bytes d kept held change came next left agrees could made fits (there left could)

-- ---- a change that was written

pub carried : (ok : Bool) (old new : Device) (kept : StoreView) (held : List (List ℕ)) (change : Change) (came : List ℕ) (rows : Option (List ℕ))
    (next : Library) (payload : List ℕ) → next ≡ after change kept.library
    → Carries ok (archive_of kept held) (kept_written kept rows next payload) (archive_next kept held change came).held old new
    → ChangesStore ok change came kept (kept_written kept rows next payload) held old new
carried ok old new kept held change came rows next payload is carries =
    let bytes = (archive_next kept held change came).held in
    let halved = subst
    (λ (half : ℕ). Elapses (Replaces (4096 * half) (archive_of kept held) (record { library = next; held = bytes }))
    (ReplaceEnds ok (4096 * half) (archive_of kept held) (record { library = next; held = bytes })) old new)
    (half_for kept.journal rows) carries.moments in
    record {
      moments = subst
          (λ (library : Library). Elapses
          (Replaces (4096 * kept.journal.half) (archive_of kept held) (record { library = library; held = bytes }))
          (ReplaceEnds ok (4096 * kept.journal.half) (archive_of kept held) (record { library = library; held = bytes })) old new)
          is halved;
      agrees = carries.agrees;
    }

-- ---- a plan that was written

pub rows_are : (kept : StoreView) (change : Change) (rows : Option (List ℕ)) → ComesFirst (journal_of kept) change rows → AreRowsOf rows kept.library
rows_are kept change None first = tt
rows_are kept change (Some text) first = first.text

-- the step of a plan's record
pub step_is : (kept : StoreView) (change : Change) (planned : Planned) (payload : List ℕ) → MakesChange (journal_of kept) change planned
    → planned.frame ≡ Some payload → StepOf form_in_use payload kept.library planned.next.library
step_is kept change planned payload makes is =
    let same : makes.payload ≡ payload = cc in
    record { change = change; spells = subst (λ (bytes : List ℕ). SpellsChange form_in_use bytes change) same makes.spells; made = makes.made }

-- a plan whose record was written makes its change
pub commit_makes : (ok : Bool) (old new : Device) (kept : StoreView) (held : List (List ℕ)) (change : Change) (came : List ℕ) (planned : Planned)
    (payload : List ℕ) (journal : Position) → planned.frame ≡ Some payload → kept.journal ≡ journal → AgreesWith old kept held
    → MakesChange (journal_of kept) change planned → fits_bytes change came ≡ true → CameThere old kept change came
    → ((k : StoreView) (h : List (List ℕ)) (next : Library) (next_held : List (List ℕ)) → AgreesWith old k h → k.journal ≡ journal
    → AreRowsOf planned.rows k.library → StepOf form_in_use payload k.library next → HoldsEach old (media_start k.journal.half) next.objects next_held
    → Carries ok (kept_state k h).archive (kept_written k planned.rows next payload) next_held old new)
    → ChangesStore ok change came kept (kept_by kept planned) held old new
commit_makes ok old new kept held change came planned payload journal is same agrees makes fits there carries =
    let next = planned.next.library in
    let step = step_is kept change planned payload makes is in
    let bytes = next_bytes old kept held change came next agrees makes.made fits there in
    let made = carries kept held next (archive_next kept held change came).held agrees same (rows_are kept change planned.rows makes.first) step bytes in
    subst (λ (frame : Option (List ℕ)). ChangesStore ok change came kept (kept_with kept planned frame) held old new) (sym is)
    (carried ok old new kept held change came planned.rows next payload (applied_is_sound kept.library change next makes.made).gives made)
