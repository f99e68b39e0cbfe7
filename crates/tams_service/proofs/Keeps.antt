-- Calls that keep what a store keeps, one after another.
use Rattle.std.proofs.Common.{ℕ, Bool, true, false, List, ◌∙◌, refl}
use Rattle.disk_trait.specs.Device.{Device, Left}
use Rattle.disk_trait.specs.Calls.{Unchanged}
use Rattle.disk_trait.proofs.Theorems.{elapses_along, elapses_weaker, no_time}
use Rattle.store_states.specs.Kept.{AgreesWith, Moves, StoreView, kept_state}
use Rattle.store_states.specs.States.{StoreState}
use Rattle.store_writes.specs.Writes.{Keeps}
use Rattle.store_writes.proofs.Keeping.{quiet}
use Rattle.request_hearing.specs.Hearing.{HearPart, HearsAndSays}
use Rattle.request_hearing.proofs.SiteLemmas.{tells_none}

moves_twice : (s : StoreState) (q m p : Left) → Moves s s q m → Moves s s m p → Moves s s q p
moves_twice s q m p one two = record { told = two.told ∙ one.told; image = two.image }

-- calls that keep it, one after another
pub keeps_twice : (kept : StoreView) (held : List (List ℕ)) (old mid new : Device) → Keeps kept held old mid → Keeps kept held mid new → Keeps kept held old new
keeps_twice kept held old mid new one two = record {
  agrees = two.agrees;
  moments = elapses_along (Moves (kept_state kept held) (kept_state kept held)) old mid new (moves_twice (kept_state kept held)) one.moments two.moments;
}

-- a hearing keeps it, and tells nothing
pub hearing_keeps : {parts : List HearPart} (bytes : List ℕ) (linked ended : Bool) (old new : Device) (kept : StoreView) (held : List (List ℕ))
    → HearsAndSays parts bytes false true linked ended old new → AgreesWith old kept held → Keeps kept held old new
hearing_keeps bytes linked ended old new kept held h agrees =
    quiet old new kept held
    (elapses_weaker _ _ Unchanged Unchanged old new h.call.time (λ q p could tells. tells_none false q p tells)
    (λ q p could left tells. tells_none true q p tells))
    agrees

-- so does no call at all
pub keeps_none : (kept : StoreView) (held : List (List ℕ)) (d : Device) → AgreesWith d kept held → Keeps kept held d d
keeps_none kept held d agrees = quiet d d kept held (no_time Unchanged d (λ p. refl)) agrees
