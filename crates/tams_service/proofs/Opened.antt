-- A store that was opened keeps the state for which its file stood.
use Rattle.std.proofs.Common.{◌≡◌, false, List, ℕ, sym, ap, ◌∙◌, subst}
use Rattle.disk_trait.specs.Device.{Device}
use Rattle.disk_trait.specs.Forms.{form_in_use}
use Rattle.media_store.specs.Stores.{StoreSeen}
use Rattle.store_opening.specs.Opening.{IsKept, bytes_in_image}
use Rattle.store_states.specs.Kept.{AgreesWith, StoreView, kept_state}
use Rattle.store_states.specs.Laws.{IsOneState}
use Rattle.store_states.specs.States.{StandsFor, StoreState, held_in, media_start}
use Rattle.store_states.proofs.Agreeing.{image_stands}
use Rattle.tams_service.specs.Keeping.{KeepsState}

-- it is the state that is kept of the image
kept_is : IsOneState → (image : List ℕ) (kept : StoreView) (from : StoreState) → IsKept image kept → StandsFor image from
    → from ≡ kept_state kept (bytes_in_image image kept)
kept_is one image kept from is stands =
    let half = sym (ap (λ (h : ℕ). held_in image (media_start h) kept.library.objects) is.gives.half.half_blocks) in
    one image form_in_use form_in_use (kept_state kept (bytes_in_image image kept)) from
    (image_stands kept (bytes_in_image image kept) is.header is.text is.records is.makes image is.gives half) stands

pub opened_keeps : IsOneState → (store : StoreSeen) (d : Device) (image : List ℕ) (from : StoreState) → store.spent ≡ false → IsKept image store.kept
    → AgreesWith d store.kept (bytes_in_image image store.kept) → StandsFor image from → KeepsState store d from
opened_keeps one store d image from unspent is agrees stands =
    let same = kept_is one image store.kept from is stands in
    let bytes = ap (λ (s : StoreState). s.archive.held) same in
    record {
      unspent = unspent;
      agrees = subst (AgreesWith d store.kept) (sym bytes) agrees;
      state = same ∙ ap (kept_state store.kept) (sym bytes);
    }
