-- What the parts of an exchange leave of a device: those on the connection that was dialled.
use Rattle.std.specs.Prelude.{◌≡◌, ℕ, true, false, List, [], ◌∷◌, ◌++◌}
use Rattle.disk_trait.specs.Device.{Connection, Device}
use Rattle.disk_trait.specs.Calls.{Unchanged}
use Rattle.site_edge.specs.Links.{LinkCall, SamePeers, Tells, fresh}
use Rattle.hook_delivery.specs.Exchanging.{IsAnswer, has_held}
use Rattle.hook_delivery.specs.declared.exchanging.Answered.{Answered}

-- on a connection that was told the request nothing failed, these bytes were heard, and more may
-- come
pub record HasHeard (request bytes : List ℕ) (c : Connection) : Type 0 where
  pub told : c.told ≡ request
  pub heard : c.heard ≡ bytes
  pub ended : c.ended ≡ false
  pub unsaid : c.unsaid ≡ false
  pub unheard : c.unheard ≡ false

-- Calls of `hear` so far, of which none failed: these bytes were heard on the last connection, on
-- which nothing had been heard before.
pub record HearsSoFar (bytes : List ℕ) (old new : Device) : Type 0 where
  pub call : LinkCall Unchanged Unchanged true old new
  pub peers : SamePeers old new
  pub under_way : new.link.under_way ≡ old.link.under_way
  pub connections : old.tells ≡ true → (before : List Connection) (first : Connection)
      → old.link.connections ≡ before ++ first ∷ [] → HasHeard first.told [] first
      → (c : Connection) × (new.link.connections ≡ before ++ c ∷ []) × HasHeard first.told bytes c

-- All calls of `hear`, by the answer that the last connection had to what it had been told.
pub record HearsAnswer (answer : Answered) (old new : Device) : Type 0 where
  pub call : LinkCall Unchanged Unchanged (has_held answer) old new
  pub peers : SamePeers old new
  pub under_way : new.link.under_way ≡ old.link.under_way
  pub connections : old.tells ≡ true → (before : List Connection) (first : Connection)
      → old.link.connections ≡ before ++ first ∷ [] → HasHeard first.told [] first
      → (c : Connection) × (new.link.connections ≡ before ++ c ∷ []) × IsAnswer answer first.told c

-- The request was said on the last connection, which is a new one, and answered so.
pub record HasAsked (request : List ℕ) (answer : Answered) (old new : Device) : Type 0 where
  pub call : LinkCall (Tells false request) (Tells (has_held answer) request) (has_held answer) old
      new
  pub peers : SamePeers old new
  pub connections : old.tells ≡ true → (before : List Connection)
      → old.link.connections ≡ before ++ fresh ∷ []
      → (c : Connection) × (new.link.connections ≡ before ++ c ∷ []) × IsAnswer answer request c
