-- Where the bytes of objects lie on a device.
use Rattle.std.proofs.Common.{◌≡◌, ◌≤◌, ◌+◌, ◌*◌, ◌/◌, ℕ, true, sym, ap, ◌∙◌, arith, nat_le}
use Rattle.std.specs.Prelude.{nat_lt, ◌==◌, ◌||◌}
use Rattle.std.specs.List.{list_all}
use Rattle.std.proofs.lemmas.Bool.{and_parts}
use Rattle.std.proofs.lemmas.Bool.Decides.{nat_tests}
use Rattle.media_rows.specs.declared.object.Extent.{Extent}
use Rattle.media_rows.specs.declared.object.ObjectRow.{ObjectRow}
use Rattle.media_rows.specs.declared.object.ObjectState.TheVariants.{Stored}
use Rattle.media_rows.specs.Good.{Good, are_states_apart, is_extent_good}
use Rattle.media_rows.specs.Library.{Library}
use Rattle.media_rows.specs.Lists.{each_pair}
use Rattle.media_rows.specs.Objects.{blocks_of}
use Rattle.library_laws.proofs.ListLemmas.{In-from_Contains, list_all-In}
use Rattle.object_blobs.specs.Extents.{IsOnDevice}
use Rattle.store_states.specs.Kept.{StoreView}
use Rattle.store_states.specs.States.{media_start}
use Rattle.media_store.specs.Pieces.{IsExtent}
use Rattle.media_store.specs.Stores.{IsSoundStore}

-- the extent of a stored object lies in the media blocks
pub extent_within : (library : Library) (extent : Extent) → Good library → IsExtent library extent
    → extent.start + blocks_of extent.length ≤ library.blocks
extent_within library extent good is =
    let parts = and_parts (each_pair (λ a b. are_states_apart a.state b.state) library.objects)
    (list_all (λ row. is_extent_good library.blocks row.state) library.objects) good.extents in
    let one = list_all-In (λ (row : ObjectRow). is_extent_good library.blocks row.state) library.objects parts.1 is.row
    (In-from_Contains library.objects is.row is.kept) in
    let stored : is_extent_good library.blocks (Stored extent.start extent.length is.digest) ≡ true =
    ap (is_extent_good library.blocks) (sym is.stored) ∙ one in
    let within = and_parts (nat_le (extent.start + blocks_of extent.length) library.blocks) (nat_lt 0 extent.length || (extent.start == 0)) stored in
    grind (arith, nat_tests)

-- and so on each device of the file's blocks
pub on_device : (kept : StoreView) (extent : Extent) (size : ℕ) → IsSoundStore kept → 4096 * kept.journal.blocks ≤ size
    → extent.start + blocks_of extent.length ≤ kept.library.blocks
    → IsOnDevice (media_start kept.journal.half) extent size
on_device kept extent size store device within =
    let blocks = store.blocks in
    let sizes = store.sizes in
    let few : extent.start + (extent.length + 4095) / 4096 ≤ kept.library.blocks = within in
    omega (arith, blocks, sizes, device, few)
