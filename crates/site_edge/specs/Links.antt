-- What the calls to a peer leave of a site, whether they succeed or fail. Our own model: file calls
-- and said bytes have one order of moments, and saying bytes adds each prefix of them to what a
-- crash leaves told.
use Rattle.std.specs.Prelude.{◌≡◌, ℕ, zero, suc, Bool, true, false, ◌||◌, not, List, [], ◌∷◌, ◌++◌, length, slice_set, take, Result, Ok, Err, IsTrue, if◌then◌else◌}
use Rattle.disk_trait.specs.Device.{AtEnd, Connection, Device, Dials, Gave, HearCall, HearEnd, Left, Unheard}
use Rattle.disk_trait.specs.Calls.{SameDevice, IsCounted, Elapses, Unchanged}

-- what was sent of these bytes: all of them, or a prefix where the call failed
pub record Sends (ok : Bool) (bytes sent : List ℕ) : Type 0 where
  pub prefix : (rest : List ℕ) × (bytes ≡ sent ++ rest)
  pub whole : IsTrue ok → sent ≡ bytes

-- a list whose last item was changed
abbrev pub change_last : {A : Type 0} → (A → A) → List A → List A
change_last f [] = []
change_last f (x ∷ []) = f x ∷ []
change_last f (x ∷ y ∷ xs) = x ∷ change_last f (y ∷ xs)

-- What each call to a peer leaves: the disk's count of faults, its bytes and what was handed to it,
-- and the count of link faults unless it fails. The steps are what it may do to what a crash
-- leaves, so far at a moment within it, and once it has ended.
pub record LinkCall (within ended : Left → Left → Type 0) (ok : Bool) (old new : Device) : Type 0
  where
    pub same : SameDevice old new
    pub faults : new.faults ≡ old.faults
    pub seen : new.seen ≡ old.seen
    pub handed : new.handed ≡ old.handed
    pub counted : IsCounted ok old.link.faults new.link.faults
    pub time : Elapses within ended old new

-- A step that tells the last connection these bytes, or a prefix of them where the call failed. So
-- far it may have told any prefix.
pub record Tells (ok : Bool) (bytes : List ℕ) (old new : Left) : Type 0 where
  pub image : new.image ≡ old.image
  pub told : (sent : List ℕ) × Sends ok bytes sent ×
      (new.told ≡ change_last (λ t. t ++ sent) old.told)

-- a step that adds a connection that was told nothing yet
pub record AddsConnection (old new : Left) : Type 0 where
  pub image : new.image ≡ old.image
  pub told : new.told ≡ old.told ++ [] ∷ []

-- what a call that waits for a peer does to what a crash leaves
abbrev pub Begins : {E : Type 0} → Result Bool E → Left → Left → Type 0
Begins (Ok true) = AddsConnection
Begins (Ok false) = Unchanged
Begins (Err _) = Unchanged

-- a connection at its beginning
abbrev pub fresh : Connection
fresh = record {
  heard = [];
  told = [];
  ended = false;
  unheard = false;
  unsaid = false;
  hearings = [];
}

-- the connections, with another one behind them where one began
abbrev pub with_next : Bool → List Connection → List Connection
with_next true connections = connections ++ fresh ∷ []
with_next false connections = connections

-- what a call that waits for a peer said, whether one came, or this where it failed
abbrev pub came_or : {E : Type 0} → Result Bool E → Bool → Bool
came_or (Ok came) other = came
came_or (Err _) other = other

-- The site after a call that waits for a peer. The count of its closings is one like those of
-- faults: it rises where the call says that no more will come, or stands at the last value of a
-- u64.
pub record NextPeer {E : Type 0} (result : Result Bool E) (old new : Device) : Type 0 where
  pub under_way : new.link.under_way ≡ came_or result old.link.under_way
  pub connections : old.tells ≡ true
      → new.link.connections ≡ with_next (came_or result false) old.link.connections
  pub closed : old.tells ≡ true
      → IsCounted (came_or result true) old.link.closed new.link.closed
  pub dials : new.link.dials ≡ old.link.dials

-- what hearing, saying and closing leave
pub record SamePeers (old new : Device) : Type 0 where
  pub peer_faults : new.link.peer_faults ≡ old.link.peer_faults
  pub closed : new.link.closed ≡ old.link.closed
  pub dials : new.link.dials ≡ old.link.dials

-- the hearings of a connection after one more, which is listed unless one failed before
abbrev pub hearings_with : HearEnd → Connection → List HearCall
hearings_with end c =
    if c.unheard then c.hearings
    else c.hearings
    ++ record { heard = length c.heard; told = length c.told; unsaid = c.unsaid; end = end } ∷ []

-- a connection after a `hear`: so many of the bytes in `out` more, or at its end, or failed
abbrev pub after_hear : {E : Type 0} → Result ℕ E → List ℕ → Connection → Connection
after_hear (Ok zero) out c = record c { ended = true; hearings = hearings_with AtEnd c }
after_hear (Ok (suc n)) out c = record c {
  heard = c.heard ++ take (suc n) out;
  hearings = hearings_with (Gave (suc n)) c;
}
after_hear (Err _) out c = record c { unheard = true; hearings = hearings_with Unheard c }

-- the site after a `hear`
pub record SiteHeard {E : Type 0} (result : Result ℕ E) (out : List ℕ)
    (old new : Device) : Type 0 where
  pub peers : SamePeers old new
  pub under_way : new.link.under_way ≡ old.link.under_way
  pub connections : old.tells ≡ true
      → new.link.connections ≡ change_last (after_hear result out) old.link.connections

-- a connection that was told these bytes more, by a call that succeeded or failed
abbrev pub after_say : Bool → List ℕ → Connection → Connection
after_say ok sent c = record c { told = c.told ++ sent; unsaid = c.unsaid || not ok }

-- the site after a `say`
pub record Said (ok : Bool) (bytes : List ℕ) (old new : Device) : Type 0 where
  pub peers : SamePeers old new
  pub under_way : new.link.under_way ≡ old.link.under_way
  pub connections : old.tells ≡ true
      → (sent : List ℕ) × Sends ok bytes sent ×
      (new.link.connections ≡ change_last (after_say ok sent) old.link.connections)

-- the site after its connection was ended
pub record Closed (old new : Device) : Type 0 where
  pub peers : SamePeers old new
  pub under_way : new.link.under_way ≡ false
  pub connections : new.link.connections ≡ old.link.connections

-- ---- dialling

-- what a call of `dial` that succeeds or fails does to what a crash leaves
abbrev pub DialStep : Bool → Left → Left → Type 0
DialStep true = AddsConnection
DialStep false = Unchanged

-- The calls of `dial` after one more, to a port, behind so many connections: it began one there,
-- or failed, which marks its port for good.
abbrev pub dials_after : Bool → ℕ → ℕ → Dials → Dials
dials_after true port place d =
    record d { begun = d.begun ++ record { place = place; port = port } ∷ [] }
dials_after false port place d = record d { missed = slice_set d.missed port true }

-- the site after a call of `dial`
pub record HasDialled (ok : Bool) (port : ℕ) (old new : Device) : Type 0 where
  pub peer_faults : new.link.peer_faults ≡ old.link.peer_faults
  pub closed : new.link.closed ≡ old.link.closed
  pub under_way : new.link.under_way ≡ (ok || old.link.under_way)
  pub connections : old.tells ≡ true
      → new.link.connections ≡ with_next ok old.link.connections
  pub dials : old.tells ≡ true
      → new.link.dials ≡ dials_after ok port (length old.link.connections) old.link.dials
