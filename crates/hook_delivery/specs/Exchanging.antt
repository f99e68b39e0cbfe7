-- An exchange with a hook's peer: a connection that is dialled, a request that is told and an
-- answer that is heard. Our own model of the links to the outside.
use Rattle.std.specs.Prelude.{◌≡◌, ◌⊎◌, ℕ, Bool, true, false, ◌&&◌, ◌||◌, nat_le, if◌then◌else◌, List, [], ◌∷◌, ◌++◌, length}
use Rattle.disk_trait.specs.Device.{Connection, Device, Left, Link}
use Rattle.site_edge.specs.Links.{LinkCall, dials_after}
use Rattle.site_edge.specs.Saying.{IsPrefix}
use Rattle.hook_delivery.specs.Judging.{IsVerdict}
use Rattle.hook_delivery.specs.declared.judging.Verdict.TheVariants as verdicts
use Rattle.hook_delivery.specs.declared.exchanging.Answered.{Answered}
use Rattle.hook_delivery.specs.declared.exchanging.Answered.TheVariants.{Accepted, Other, Silent, Failed}

-- ---- answers

-- a status that accepts an event (RFC 9110, section 15.3)
abbrev pub is_accepted : ℕ → Bool
is_accepted status = nat_le 200 status && nat_le status 299

-- the answer of a status
abbrev pub answer_of : ℕ → Answered
answer_of status = if is_accepted status then Accepted else Other status

-- the bytes that came say this answer, whether they were the last or not
abbrev pub SaysAnswer : Answered → List ℕ → Bool → Type 0
SaysAnswer Accepted bytes ended =
    (status : ℕ) × IsVerdict bytes ended (verdicts.Status status) × (is_accepted status ≡ true)
SaysAnswer (Other status) bytes ended =
    IsVerdict bytes ended (verdicts.Status status) × (is_accepted status ≡ false)
SaysAnswer Silent bytes ended = IsVerdict bytes ended verdicts.Silent
SaysAnswer Failed bytes ended = ⊥

-- No call failed on a connection, which was told the whole request, and what it heard says this
-- answer.
pub record IsHeardOut (answer : Answered) (request : List ℕ) (c : Connection) : Type 0 where
  pub told : c.told ≡ request
  pub unsaid : c.unsaid ≡ false
  pub unheard : c.unheard ≡ false
  pub says : SaysAnswer answer c.heard c.ended

-- A saying or a hearing failed on a connection, which was told a prefix of the request.
pub record IsBroken (request : List ℕ) (c : Connection) : Type 0 where
  pub told : IsPrefix c.told request
  pub failed : (c.unsaid || c.unheard) ≡ true

-- the answer to a request that a connection had
abbrev pub IsAnswer : Answered → List ℕ → Connection → Type 0
IsAnswer Accepted request c = IsHeardOut Accepted request c
IsAnswer (Other status) request c = IsHeardOut (Other status) request c
IsAnswer Silent request c = IsHeardOut Silent request c
IsAnswer Failed request c = IsBroken request c

-- a connection had one answer to a request
abbrev pub IsOneAnswer : Type 0
IsOneAnswer =
    (request : List ℕ) (c : Connection) (answer other : Answered)
    → IsAnswer answer request c → IsAnswer other request c → answer ≡ other

-- no call failed
abbrev pub has_held : Answered → Bool
has_held Accepted = true
has_held (Other status) = true
has_held Silent = true
has_held Failed = false

-- ---- what a crash leaves

-- a step that may begin a connection and tell it a prefix of these bytes
pub record MayTell (bytes : List ℕ) (old new : Left) : Type 0 where
  pub image : new.image ≡ old.image
  pub told : (new.told ≡ old.told)
      ⊎ ((sent : List ℕ) × IsPrefix sent bytes × (new.told ≡ old.told ++ sent ∷ []))

-- a step that begins a connection and tells it these bytes
pub record HasTold (bytes : List ℕ) (old new : Left) : Type 0 where
  pub image : new.image ≡ old.image
  pub told : new.told ≡ old.told ++ bytes ∷ []

-- what an exchange does, once it has ended, by whether all its calls held
abbrev pub HasTalked : Bool → List ℕ → Left → Left → Type 0
HasTalked true request = HasTold request
HasTalked false request = MayTell request

-- ---- the exchange

-- The call of `dial` failed, which marks its port.
pub record HasMissed (port : ℕ) (answer : Answered) (old new : Link) : Type 0 where
  pub failed : answer ≡ Failed
  pub connections : new.connections ≡ old.connections
  pub dials : new.dials ≡ dials_after false port (length old.connections) old.dials

-- It began a connection, which had the answer to the request.
pub record HasConversed (port : ℕ) (request : List ℕ) (answer : Answered) (old new : Link) : Type 0
  where
    pub last : Connection
    pub connections : new.connections ≡ old.connections ++ last ∷ []
    pub dials : new.dials ≡ dials_after true port (length old.connections) old.dials
    pub answered : IsAnswer answer request last

-- What an exchange leaves of a device: one call of `dial`, to this port, and no call of the disk.
-- The count of link faults rises exactly where the exchange failed, or stands at its last value. No
-- connection that it began is under way behind it.
pub record HasExchanged (port : ℕ) (request : List ℕ) (answer : Answered) (old new : Device)
    : Type 0 where
  pub call : LinkCall (MayTell request) (HasTalked (has_held answer) request) (has_held answer)
      old new
  pub peer_faults : new.link.peer_faults ≡ old.link.peer_faults
  pub closed : new.link.closed ≡ old.link.closed
  pub under_way : old.link.under_way ≡ false → new.link.under_way ≡ false
  pub dialled : old.tells ≡ true
      → HasMissed port answer old.link new.link
      ⊎ HasConversed port request answer old.link new.link
