-- A record that is appended takes what is kept to the state after its change, and at each moment the state
-- before it or the one after it stands.
use Rattle.std.proofs.Common.{◌≡◌, ◌≤◌, ◌+◌, ℕ, Bool, true, false, List, ◌∷◌, [], ◌++◌, length, refl, sym, ◌∙◌, arith, inl, inr}
use Rattle.disk_trait.specs.Device.{Device, Left, may_leave}
use Rattle.disk_trait.specs.Calls.{Elapses, Torn}
use Rattle.disk_trait.proofs.Theorems.{elapses_weaker}
use Rattle.disk_trait.specs.Forms.{form_in_use}
use Rattle.media_rows.specs.Library.{Library}
use Rattle.media_journal.specs.Journal.{Contents, Gives, after_append}
use Rattle.media_journal.specs.JournalMoments.{AddsRecord, AppendEnds, KeepsOrAdds, with_payload}
use Rattle.media_journal.proofs.Theorems.{gives_before_media}
use Rattle.store_states.specs.Kept.{AgreesWith, HoldsEach, StoreView, MoveEnds, Moved, Moves, half_of, kept_after, kept_state}
use Rattle.store_states.specs.States.{Makes, StandsFor, StoreState, StepOf, held_in, media_start}
use Rattle.store_states.proofs.Agreeing.{image_stands}
use Rattle.store_states.proofs.Bytes.{early_writes}
use Rattle.store_states.proofs.Folding.{fold_push}

module _ (old : Device) (kept : StoreView) (held : List (List ℕ)) (agrees : AgreesWith old kept held) (payload : List ℕ) (next : Library)
    (step : StepOf form_in_use payload kept.library next) (next_held : List (List ℕ))
    (holds : HoldsEach old (media_start agrees.header.half) next.objects next_held) (fits : length payload + 6 ≤ kept.journal.room) where
  abbrev pub before : Contents
  before = half_of agrees.header agrees.text agrees.records

  abbrev pub behind : Contents
  behind = with_payload kept.journal payload before

  after_makes : Makes form_in_use agrees.header agrees.text behind.records next
  after_makes = record {
    first = agrees.makes.first;
    snapshot = agrees.makes.snapshot;
    folds = fold_push form_in_use agrees.records _ agrees.makes.first kept.library next agrees.makes.folds step;
  }

  module _ (q p : Left) (could : may_leave old q) (torn : Torn kept.journal.gate (length payload + 6) q.image p.image) where
    early : kept.journal.gate + (length payload + 6) ≤ media_start agrees.header.half
    early = omega (arith, fits, gives_before_media q.image kept.journal before (agrees.gives.gives q could))

    before_bytes : held_in p.image (media_start agrees.header.half) kept.library.objects ≡ held
    before_bytes =
        early_writes q.image p.image (media_start agrees.header.half) kept.journal.gate (length payload + 6) kept.library.objects torn early
        ∙ agrees.bytes q could

    after_bytes : held_in p.image (media_start agrees.header.half) next.objects ≡ next_held
    after_bytes =
        early_writes q.image p.image (media_start agrees.header.half) kept.journal.gate (length payload + 6) next.objects torn early ∙ holds q could

    before_stands : Gives p.image kept.journal before → StandsFor p.image (kept_state kept held)
    before_stands gives = image_stands kept held agrees.header agrees.text agrees.records agrees.makes p.image gives before_bytes

    after_stands : Gives p.image (after_append kept.journal (length payload)) behind
        → StandsFor p.image (kept_state (kept_after kept next (length payload)) next_held)
    after_stands gives =
        image_stands (kept_after kept next (length payload)) next_held agrees.header agrees.text behind.records after_makes p.image gives after_bytes

  so_far : (q p : Left) → may_leave old q → KeepsOrAdds kept.journal payload before q p
      → Moves (kept_state kept held) (kept_state (kept_after kept next (length payload)) next_held) q p
  so_far q p could now = record {
    told = now.told;
    image = elim now.image [
      | inl gives ↦ inl (before_stands q p could now.elsewhere gives)
      | inr gives ↦ inr (after_stands q p could now.elsewhere gives)
    ];
  }

  ended : (ok : Bool) (q p : Left) → may_leave old q → AppendEnds ok kept.journal payload before q p
      → MoveEnds ok (kept_state kept held) (kept_state (kept_after kept next (length payload)) next_held) q p
  ended true q p could now = record { told = now.told; image = after_stands q p could now.elsewhere now.image }
  ended false q p could now = so_far q p could now

  pub appends_stand : (ok : Bool) (new : Device)
      → Elapses (KeepsOrAdds kept.journal payload before) (AppendEnds ok kept.journal payload before) old new
      → Elapses (Moves (kept_state kept held) (kept_state (kept_after kept next (length payload)) next_held))
      (MoveEnds ok (kept_state kept held) (kept_state (kept_after kept next (length payload)) next_held)) old new
  appends_stand ok new time =
      elapses_weaker _ _ _ _ old new time (λ q p could now. so_far q p could now) (λ q p could left now. ended ok q p could now)

  pub appends_keep : (new : Device)
      → Elapses (KeepsOrAdds kept.journal payload before) (AppendEnds true kept.journal payload before) old new
      → AgreesWith new (kept_after kept next (length payload)) next_held
  appends_keep new time = record {
    header = agrees.header;
    text = agrees.text;
    records = behind.records;
    makes = after_makes;
    gives = record { gives = λ left could. let from = time.now left could in from.2.image };
    bytes = λ left could. let from = time.now left could in after_bytes from.0 left from.1 from.2.elsewhere;
  }
