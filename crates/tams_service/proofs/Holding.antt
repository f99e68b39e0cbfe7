-- What a put has of the first bytes of its object, piece after piece.
use Rattle.std.proofs.Common.{◌≡◌, ◌&&◌, ◌==◌, ℕ, Bool, true, false, List, [], ◌∷◌, ◌++◌, length, map, take, drop, get_or, refl, sym, ap, ◌∙◌, subst, inl, inr, arith}
use Rattle.std.specs.Prelude.{bytes_eq}
use Rattle.std.proofs.lemmas.List.{length-append}
use Rattle.media_rows.specs.declared.object.Extent.{Extent}
use Rattle.media_rows.specs.declared.object.ObjectRow.{ObjectRow}
use Rattle.disk_trait.specs.Device.{Device, IsDevice, read_with}
use Rattle.library_laws.proofs.ListLemmas.{In, In-from_Contains}
use Rattle.store_states.specs.Kept.{AgreesWith, StoreView}
use Rattle.store_states.specs.States.{held_in, media_start, state_bytes}
use Rattle.store_plans.specs.declared.puts.PutPlan.{PutPlan}
use Rattle.store_plans.specs.declared.puts.PutPlan.TheVariants.{Kept, Refused, Write}
use Rattle.store_plans.specs.Plans.{HasExtent}
use Rattle.media_store.specs.Pieces.{IsExtent}
use Rattle.media_store.specs.Puts.{PutMovesOn, TakesPiece, bytes_at_extent, may_be_same}
use Rattle.media_store.specs.Stores.{PutSeen, journal_of}
use Rattle.media_store.proofs.PutFacts.{stored_extent}
use Rattle.tams_service.specs.Taking.{HoldsPart}
use Rattle.tams_service.proofs.Fronts.{same_more}

-- ---- the bytes of stored objects

at_same : {X Y : Type 0} (f g : X → Y) (xs : List X) → map f xs ≡ map g xs → (x : X) → In x xs → f x ≡ g x
at_same f g [] is x none = absurd none
at_same f g (y ∷ ys) is x (inl same) = ap f same ∙ ap (λ l. get_or l 0 (f y)) is ∙ ap g (sym same)
at_same f g (y ∷ ys) is x (inr later) = at_same f g ys (ap (drop 1) is) x later

-- a device as it reads has the bytes that each crash leaves of the stored objects
pub held_seen : (d : Device) (kept : StoreView) (held : List (List ℕ)) → IsDevice d → d.shows ≡ true → AgreesWith d kept held
    → held_in d.seen (media_start kept.journal.half) kept.library.objects ≡ held
held_seen d kept held device shows agrees =
    let could = device.itself shows in
    let shown = read_with d could.0 in
    subst (λ (h : ℕ). held_in d.seen (media_start h) kept.library.objects ≡ held) (sym (agrees.gives.gives shown could.1).half.half_blocks)
    (agrees.bytes shown could.1)

-- so where what is kept agrees before and after, they are the same
pub stored_same : (old new : Device) (kept : StoreView) (held : List (List ℕ)) → IsDevice old → IsDevice new → new.shows ≡ old.shows
    → old.shows ≡ true → AgreesWith old kept held → AgreesWith new kept held → (extent : Extent) → IsExtent kept.library extent
    → bytes_at_extent kept extent new.seen ≡ bytes_at_extent kept extent old.seen
stored_same old new kept held old_sound new_sound as_shows shows before after extent is =
    let area = media_start kept.journal.half in
    let both = held_seen new kept held new_sound (as_shows ∙ shows) after ∙ sym (held_seen old kept held old_sound shows before) in
    subst (λ state. state_bytes new.seen area state ≡ state_bytes old.seen area state) is.stored
    (at_same (λ (row : ObjectRow). state_bytes new.seen area row.state) (λ (row : ObjectRow). state_bytes old.seen area row.state) kept.library.objects both
    is.row
    (In-from_Contains kept.library.objects is.row is.kept))

-- ---- parts

and_true : (x : Bool) → (x && true) ≡ x
and_true true = refl
and_true false = refl

-- none at first
pub holds_none : (kept : StoreView) (put : PutSeen) (plan : PutPlan) (seen : List ℕ) → put.same ≡ may_be_same put.size plan
    → HoldsPart kept put plan [] seen
holds_none kept put (Refused why) seen same = tt
holds_none kept put (Kept extent) seen same = same ∙ sym (and_true (extent.length == put.size))
holds_none kept put (Write extent plan) seen same = refl

-- a piece more
pub holds_more : (kept : StoreView) (put later : PutSeen) (plan : PutPlan) (part piece object : List ℕ) (size moment : ℕ) (old new : Device)
    → put.handed ≡ length part → PutMovesOn put later piece → HasExtent (journal_of kept) object size moment plan
    → ((extent : Extent) → IsExtent kept.library extent → bytes_at_extent kept extent new.seen ≡ bytes_at_extent kept extent old.seen)
    → HoldsPart kept put plan part old.seen → TakesPiece kept plan piece put later old new → HoldsPart kept later plan (part ++ piece) new.seen
holds_more kept put later (Refused why) part piece object size moment old new handed goes is stays holds takes = tt
holds_more kept put later (Kept extent) part piece object size moment old new handed goes is stays holds takes =
    let bytes = bytes_at_extent kept extent old.seen in
    takes
    ∙ ap (λ h. put.same && bytes_eq (take (length piece) (drop h bytes)) piece) handed
    ∙ ap (λ s. s && bytes_eq (take (length piece) (drop (length part) bytes)) piece) holds
    ∙ same_more (extent.length == put.size) bytes part piece
    ∙ ap (λ k. (extent.length == k) && bytes_eq (take (length (part ++ piece)) bytes) (part ++ piece)) (sym goes.sized)
    ∙ ap (λ b. (extent.length == later.size) && bytes_eq (take (length (part ++ piece)) b) (part ++ piece)) (sym (stays extent (stored_extent kept.library object extent is)))
holds_more kept put later (Write extent plan) part piece object size moment old new handed goes is stays holds takes =
    let count : length (part ++ piece) ≡ later.handed = omega (arith, length-append part piece, goes.handed, handed) in
    ap (λ k. take k (bytes_at_extent kept extent new.seen)) count
    ∙ takes
    ∙ ap (λ h. take h (bytes_at_extent kept extent old.seen) ++ piece) handed
    ∙ ap (λ l. l ++ piece) holds

-- what a piece makes of a put hangs on what the device shows before it
pub takes_from : (kept : StoreView) (plan : PutPlan) (piece : List ℕ) (put later : PutSeen) (before old new : Device) → old.seen ≡ before.seen
    → TakesPiece kept plan piece put later old new → TakesPiece kept plan piece put later before new
takes_from kept (Refused why) piece put later before old new same takes = tt
takes_from kept (Kept extent) piece put later before old new same takes = rw (← same) takes
takes_from kept (Write extent plan) piece put later before old new same takes = rw (← same) takes
