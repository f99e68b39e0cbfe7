-- What a store keeps stays over calls that leave each image.
use Rattle.std.proofs.Common.{◌≡◌, Bool, true, false, List, None, ℕ, refl, sym, ap, ◌∙◌, subst}
use Rattle.disk_trait.specs.Calls.{Elapses, Unchanged}
use Rattle.disk_trait.specs.Device.{Device, IsDevice, Left}
use Rattle.site_edge.specs.Links.{Tells}
use Rattle.media_store.specs.Stores.{StoreSeen}
use Rattle.store_states.specs.Kept.{AgreesWith, StoreView, kept_state}
use Rattle.store_states.specs.States.{StoreState, held_in, media_start}
use Rattle.connection_loop.specs.Turns.{SameImages}
use Rattle.tams_service.specs.Keeping.{KeepsState}
use Rattle.tams_service.specs.KeepingLaws.{keeps_images}
use Rattle.tams_service.proofs.Holding.{held_seen}

pub same_told : (ok : Bool) (bytes : List ℕ) (old new : Device) → Elapses (Tells false bytes) (Tells ok bytes) old new → SameImages old new
same_told ok bytes old new time = record { images = λ p could. let from = time.now p could in (from.0, from.1, from.2.image) }

pub same_unchanged : (old new : Device) → Elapses Unchanged Unchanged old new → SameImages old new
same_unchanged old new time = record { images = λ p could. let from = time.now p could in (from.0, from.1, ap (λ (l : Left). l.image) from.2) }

pub keeps_told : (store : StoreSeen) (s : StoreState) (ok : Bool) (bytes : List ℕ) (old new : Device) → KeepsState store old s
    → Elapses (Tells false bytes) (Tells ok bytes) old new → KeepsState store new s
keeps_told store s ok bytes old new keeps time = keeps_images store old new s keeps (same_told ok bytes old new time)

-- so is what is kept
pub agrees_told : (kept : StoreView) (held : List (List ℕ)) (ok : Bool) (bytes : List ℕ) (old new : Device) → AgreesWith old kept held
    → Elapses (Tells false bytes) (Tells ok bytes) old new → AgreesWith new kept held
agrees_told kept held ok bytes old new agrees time =
    (keeps_told (record { kept = kept; spent = false; put = None }) (kept_state kept held) ok bytes old new
    (record { unspent = refl; agrees = agrees; state = refl }) time).agrees

-- a store that keeps the same, and agrees with a device, keeps the state
pub keeps_so : (store next : StoreSeen) (old new : Device) (s : StoreState) → KeepsState store old s → next.kept ≡ store.kept → next.spent ≡ false
    → AgreesWith new store.kept s.archive.held → KeepsState next new s
keeps_so store next old new s keeps same unspent agrees = record {
  unspent = unspent;
  agrees = subst (λ (k : StoreView). AgreesWith new k s.archive.held) (sym same) agrees;
  state = keeps.state ∙ ap (λ (k : StoreView). kept_state k s.archive.held) (sym same);
}

-- a read of an honest device gives the bytes of the objects that are kept
pub bytes_seen : (store : StoreSeen) (d : Device) (s : StoreState) → IsDevice d → d.shows ≡ true → KeepsState store d s
    → held_in d.seen (media_start store.kept.journal.half) s.archive.library.objects ≡ s.archive.held
bytes_seen store d s device shows keeps =
    ap (λ (t : StoreState). held_in d.seen (media_start store.kept.journal.half) t.archive.library.objects) keeps.state
    ∙ held_seen d store.kept s.archive.held device shows keeps.agrees
