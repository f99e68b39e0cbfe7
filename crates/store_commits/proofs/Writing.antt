-- What the rows of a checkpoint and a record make in a row.
use Rattle.std.proofs.Common.{◌≡◌, ℕ, Bool, true, false, List, length, refl, sym, subst}
use Rattle.std.specs.Prelude.{Option, Some, None}
use Rattle.media_rows.specs.declared.object.ObjectRow.{ObjectRow}
use Rattle.media_rows.specs.Library.{Library}
use Rattle.disk_trait.specs.Device.{Device}
use Rattle.disk_trait.specs.Calls.{Elapses, Unchanged}
use Rattle.media_journal.specs.Journal.{Position}
use Rattle.store_states.specs.Fitting.{FitsJournal}
use Rattle.store_states.specs.Kept.{AgreesWith, HoldsEach, StoreView, kept_after, kept_checked, kept_state}
use Rattle.store_states.specs.States.{media_start}
use Rattle.store_writes.specs.Writes.{Advances}
use Rattle.store_commits.specs.Carrying.{Carries, journal_for, kept_written}
use Rattle.store_commits.specs.Within.{kept_with_rows}
use Rattle.store_commits.proofs.Theorems.{advances_carry, carries_nothing, carries_on, nothing_carries, quiet_carries}

-- ---- the journal behind the rows

pub half_for : (p : Position) (rows : Option (List ℕ)) → (journal_for p rows).half ≡ p.half
half_for p None = refl
half_for p (Some rows) = refl

-- ---- the rows

-- no rows, and no call
pub no_rows : (kept : StoreView) (held : List (List ℕ)) (d : Device) → AgreesWith d kept held
    → Carries true (kept_state kept held).archive (kept_with_rows kept None) held d d
no_rows kept held d agrees = nothing_carries true kept held d agrees

-- the rows of the library that is kept
pub some_rows : (ok : Bool) (kept : StoreView) (held : List (List ℕ)) (text : List ℕ) (old new : Device)
    → Advances ok (kept_state kept held) (kept_checked kept (length text)) held old new
    → Carries ok (kept_state kept held).archive (kept_with_rows kept (Some text)) held old new
some_rows ok kept held text old new made = advances_carry ok (kept_state kept held) (kept_checked kept (length text)) held old new refl made

-- ---- the record behind them

module _ (kept : StoreView) (held : List (List ℕ)) (rows : Option (List ℕ)) (next : Library) (frame : List ℕ) (next_held : List (List ℕ)) where
  abbrev last : StoreView
  last = kept_written kept rows next frame

  -- the rows were written, and the record then, or not
  pub written : (ok : Bool) (old mid new : Device) → Carries true (kept_state kept held).archive (kept_with_rows kept rows) held old mid
      → Advances ok (kept_state (kept_with_rows kept rows) held) (kept_after (kept_with_rows kept rows) next (length frame)) next_held mid new
      → Carries ok (kept_state kept held).archive last next_held old new
  written ok old mid new first then =
      carries_on (kept_with_rows kept rows) held last next_held refl ok old mid new first
      (advances_carry ok (kept_state (kept_with_rows kept rows) held) last next_held mid new refl then)

  -- the rows weren't written
  pub rows_failed : (old new : Device) → Carries false (kept_state kept held).archive (kept_with_rows kept rows) held old new
      → Carries false (kept_state kept held).archive last next_held old new
  rows_failed old new first = carries_nothing (kept_with_rows kept rows) held last next_held refl false old new first

  -- a sync, and then the rows and the record
  pub synced : (ok : Bool) (old mid new : Device) → Elapses Unchanged Unchanged old mid → AgreesWith old kept held
      → Carries ok (kept_state kept held).archive last next_held mid new → Carries ok (kept_state kept held).archive last next_held old new
  synced ok old mid new time agrees then =
      carries_on kept held last next_held (half_for kept.journal rows) ok old mid new (quiet_carries true kept held old mid time agrees) then

  -- the sync failed
  pub sync_failed : (old new : Device) → Elapses Unchanged Unchanged old new → AgreesWith old kept held
      → Carries false (kept_state kept held).archive last next_held old new
  sync_failed old new time agrees =
      carries_nothing kept held last next_held (half_for kept.journal rows) false old new (quiet_carries false kept held old new time agrees)

-- ---- what lies between

-- the bytes of objects are there behind the rows as before them
pub holds_for : (d : Device) (p : Position) (rows : Option (List ℕ)) (objects : List ObjectRow) (bytes : List (List ℕ))
    → HoldsEach d (media_start p.half) objects bytes → HoldsEach d (media_start (journal_for p rows).half) objects bytes
holds_for d p rows objects bytes holds = subst (λ (h : ℕ). HoldsEach d (media_start h) objects bytes) (sym (half_for p rows)) holds
