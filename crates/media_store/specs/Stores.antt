-- What a store is seen as, and what opening one answers. Our own rules.
use Rattle.std.specs.Prelude.{◌≡◌, ◌≤◌, ◌+◌, ◌-◌, ◌*◌, ℕ, Bool, List, Option, Some, None, Result, Ok, Err}
use Rattle.sha2.specs.declared.Sha256.{Sha256}
use Rattle.media_rows.specs.declared.object.Extent.{Extent}
use Rattle.media_rows.specs.declared.object.ObjectRow.{ObjectRow}
use Rattle.media_rows.specs.declared.object.ObjectState.{ObjectState}
use Rattle.media_rows.specs.declared.object.ObjectState.TheVariants.{Allocated, Stored}
use Rattle.media_rows.specs.Media.{Archive}
use Rattle.change_codec.specs.Fitting.{State}
use Rattle.media_journal.specs.declared.fault.JournalFault.{JournalFault}
use Rattle.media_journal.specs.Journal.{IsWhole}
use Rattle.store_states.specs.Kept.{StoreView}
use Rattle.store_states.specs.States.{blocks_before}
use Rattle.store_opening.specs.Opening.{IsKept, StoreAnswer}
use Rattle.store_plans.specs.declared.puts.PutPlan.{PutPlan}
use Rattle.store_plans.specs.Plans.{journal_in}

-- What a put is seen as: its object, how many bytes were announced, its moment, how many were
-- handed to it so far, what is planned of them, the hasher that takes the bytes that are written,
-- and for an object that is stored whether its bytes are the same so far.
pub record PutSeen : Type 0 where
  pub object : List ℕ
  pub size : ℕ
  pub moment : ℕ
  pub handed : ℕ
  pub plan : PutPlan
  pub hasher : Sha256
  pub same : Bool

-- What a store is seen as: its library and where its journal stands, whether a call of the disk
-- failed, after which it must be opened again, and the put that is under way, if there is one.
pub record StoreSeen : Type 0 where
  pub kept : StoreView
  pub spent : Bool
  pub put : Option PutSeen

-- A store's journal goes to the end of its half, its halves lie in the file, and its library has
-- all media blocks of the file.
pub record IsSoundStore (kept : StoreView) : Type 0 where
  pub whole : IsWhole kept.journal
  pub sizes : 2 * kept.journal.half + 3 ≤ kept.journal.blocks
  pub blocks : kept.library.blocks ≡ kept.journal.blocks - blocks_before kept.journal.half

-- the library of a store in its journal
abbrev pub journal_of : StoreView → State
journal_of kept = journal_in kept.library kept.journal

-- the archive of a store, where these are the bytes of its objects
abbrev pub archive_of : StoreView → List (List ℕ) → Archive
archive_of kept held = record { library = kept.library; held = held }

-- the least device that a store works on, in bytes
abbrev pub size_of : StoreView → ℕ
size_of kept = 4096 * kept.journal.blocks

-- What opening answers over an image: a store of what the image has, or why it has none.
abbrev pub OpensAs : List ℕ → Result StoreSeen JournalFault → Type 0
OpensAs image (Ok store) = IsKept image store.kept
OpensAs image (Err fault) = StoreAnswer image (Err fault)

-- ---- looks

-- where the bytes of an object in this state lie, if it has some
abbrev pub extent_in : ObjectState → Option Extent
extent_in Allocated = None
extent_in (Stored start size digest) = Some (record { start = start; length = size })

-- where the bytes of an object lie, if it is kept and stored
abbrev pub extent_of : Option ObjectRow → Option Extent
extent_of None = None
extent_of (Some row) = extent_in row.state
