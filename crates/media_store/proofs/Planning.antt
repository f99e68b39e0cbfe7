-- What is known of a plan: its library has the file's media blocks, its record what fits, and what is kept behind it.
use Rattle.std.proofs.Common.{◌≡◌, ◌+◌, ◌-◌, ◌*◌, ℕ, Bool, cond, List, length, Option, Some, None, refl, sym, ap, ap₂, subst, ◌∙◌, arith}
use Rattle.disk_trait.specs.Forms.{form_in_use}
use Rattle.media_rows.specs.declared.change.Change.{Change}
use Rattle.media_rows.specs.Changes.{after}
use Rattle.media_rows.specs.Library.{Library}
use Rattle.change_codec.specs.Codec.{SpellsChange}
use Rattle.change_codec.specs.Fitting.{State, change_size, fits_room, room_before, snapshot_size}
use Rattle.library_laws.proofs.ChangeFacts.{store_stays}
use Rattle.library_laws.proofs.SoundLemmas.{applied_is_sound}
use Rattle.store_states.specs.Kept.{StoreView}
use Rattle.store_commits.specs.Carrying.{kept_written, written_bytes}
use Rattle.store_plans.specs.declared.outcome.Planned.{Planned}
use Rattle.store_plans.specs.Plans.{ComesFirst, MakesChange, MakesStep}
use Rattle.media_store.specs.Changes.{IsAfterChange, bytes_by, bytes_of_change, bytes_with, kept_by, kept_with}
use Rattle.media_store.specs.Stores.{journal_of}

-- ---- media blocks

pub step_blocks : (journal : State) (change : Option Change) (planned : Planned) → MakesStep journal change planned
    → planned.next.library.blocks ≡ journal.library.blocks
step_blocks journal None planned makes = ap (λ (x : Library). x.blocks) makes.same
step_blocks journal (Some change) planned makes =
    ap (λ (x : Library). x.blocks) (applied_is_sound journal.library change planned.next.library makes.made).gives
    ∙ (store_stays journal.library change).blocks

-- ---- what is kept behind a change

-- the bytes of a record's payload are those of its change
payload_size : (payload : List ℕ) (change : Change) → SpellsChange form_in_use payload change → length payload ≡ change_size change
payload_size payload change spells = ap length spells.whole

-- a library in a journal
abbrev state_with : ℕ → Library → ℕ → State
state_with half library room = record { library = library; room = room; half = half }

pub next_is : (kept : StoreView) (change : Change) (rows : Option (List ℕ)) (next : Library) (payload : List ℕ)
    → ComesFirst (journal_of kept) change rows → SpellsChange form_in_use payload change → next ≡ after change kept.library
    → IsAfterChange kept change (kept_written kept rows next payload)
next_is kept change None next payload first spells is =
    let size = payload_size payload change spells in
    let before : room_before (journal_of kept) change ≡ kept.journal.room =
    ap (λ (b : Bool). cond b kept.journal.room (4096 * kept.journal.half - (snapshot_size kept.library + 8))) first in
    let room : kept.journal.room - (length payload + 5) ≡ room_before (journal_of kept) change - (change_size change + 5) =
    omega (arith, size, before) in
    record { journal = ap₂ (state_with (4096 * kept.journal.half)) is room; blocks = refl }
next_is kept change (Some text) next payload first spells is =
    let size = payload_size payload change spells in
    let before : room_before (journal_of kept) change ≡ 4096 * kept.journal.half - (snapshot_size kept.library + 8) =
    ap (λ (b : Bool). cond b kept.journal.room (4096 * kept.journal.half - (snapshot_size kept.library + 8))) first.needed in
    let long = first.size in
    let room : (4096 * kept.journal.half - (8 + length text)) - (length payload + 5)
    ≡ room_before (journal_of kept) change - (change_size change + 5) =
    omega (arith, size, before, long) in
    record { journal = ap₂ (state_with (4096 * kept.journal.half)) is room; blocks = refl }

-- ---- the bytes that are handed

pub bytes_are : (kept : StoreView) (change : Change) (rows : Option (List ℕ)) (payload : List ℕ) → ComesFirst (journal_of kept) change rows
    → SpellsChange form_in_use payload change → written_bytes rows payload ≡ bytes_of_change (journal_of kept) change
bytes_are kept change None payload first spells =
    let size = payload_size payload change spells in
    let none : cond (fits_room (journal_of kept) change) 0 (snapshot_size kept.library + 10) ≡ 0 =
    ap (λ (b : Bool). cond b 0 (snapshot_size kept.library + 10)) first in
    omega (arith, size, none)
bytes_are kept change (Some text) payload first spells =
    let size = payload_size payload change spells in
    let some : cond (fits_room (journal_of kept) change) 0 (snapshot_size kept.library + 10) ≡ snapshot_size kept.library + 10 =
    ap (λ (b : Bool). cond b 0 (snapshot_size kept.library + 10)) first.needed in
    let long = first.size in
    omega (arith, size, some, long)

-- ---- the same of a plan

-- what is kept behind a plan's change
pub planned_next : (kept : StoreView) (change : Change) (planned : Planned) → MakesChange (journal_of kept) change planned
    → IsAfterChange kept change (kept_by kept planned)
planned_next kept change planned makes =
    subst (λ (frame : Option (List ℕ)). IsAfterChange kept change (kept_with kept planned frame)) (sym makes.frame)
    (next_is kept change planned.rows planned.next.library makes.payload makes.first makes.spells
    (applied_is_sound kept.library change planned.next.library makes.made).gives)

-- the bytes that it hands to the disk
pub planned_bytes : (kept : StoreView) (change : Change) (planned : Planned) → MakesChange (journal_of kept) change planned
    → bytes_by planned ≡ bytes_of_change (journal_of kept) change
planned_bytes kept change planned makes =
    ap (bytes_with planned) makes.frame ∙ bytes_are kept change planned.rows makes.payload makes.first makes.spells
