-- What a hearing comes to, and a turn of hearing a request: what stands between two turns.
use Rattle.std.specs.Prelude.{◌≡◌, ◌<◌, ◌≤◌, ◌+◌, ℕ, zero, suc, Bool, true, false, ◌==◌, ◌&&◌, not, List, [], ◌∷◌, ◌++◌, length, take, Result, Ok, Err, IsTrue, ◌↔◌}
use Rattle.std.specs.List.{AllByRecursion}
use Rattle.disk_trait.specs.Device.{AtEnd, Device, Gave, HearEnd, Unheard}
use Rattle.http_wire.specs.Agreeing.{MayTurn}
use Rattle.http_wire.specs.Feeds.{Fed, IsInterimDue, feed_room, heard, kept_count}
use Rattle.http_wire.specs.declared.stage.FeedStep.{FeedStep}
use Rattle.http_wire.specs.declared.stage.FeedStep.TheVariants as steps
use Rattle.request_hearing.specs.Hearing.{HearPart, HearsAndSays, HearsWaiting, IsHeardAs, has_ended, interim_bytes, link_held, saying_held}
use Rattle.request_hearing.specs.declared.heard.Heard.{Heard}
use Rattle.request_hearing.specs.declared.heard.Heard.TheVariants.{Cut, Ended, MediaUnsaid, Unsaid}
use Rattle.request_hearing.specs.declared.heard.Turn.{Turn}
use Rattle.request_hearing.specs.declared.heard.Turn.TheVariants.{Done, Waits}

-- ---- a hearing

-- the bytes that a hearing gave, at the front of a buffer
abbrev pub heard_bytes : {E : Type 0} → Result ℕ E → List ℕ → List ℕ
heard_bytes (Ok count) buffer = take count buffer
heard_bytes (Err e) buffer = []

-- it came to the end of the peer's bytes
abbrev pub heard_end : {E : Type 0} → Result ℕ E → Bool
heard_end (Ok count) = count == 0
heard_end (Err e) = false

-- how it ended
abbrev pub hearing_end : {E : Type 0} → Result ℕ E → HearEnd
hearing_end (Ok zero) = AtEnd
hearing_end (Ok (suc n)) = Gave (suc n)
hearing_end (Err e) = Unheard

-- a call of `hear` in front of all else, by how it ended
abbrev pub one_part : HearEnd → List HearPart
one_part end = record { heard = []; told = []; end = end } ∷ []

-- So many bytes were heard, none at the end of the peer's. The feed had room for them.
pub record HearsBytes (count : ℕ) (old new : Fed) (before now : Device) : Type 0 where
  pub end : HearEnd
  pub bytes : List ℕ
  pub size : length bytes ≡ count
  pub few : kept_count old + count ≤ feed_room
  pub feed : new ≡ heard old bytes
  pub leaves : HearsAndSays (one_part end) bytes false true true (count == 0) before now

-- what a hearing comes to
abbrev pub HearsMore : {E : Type 0} → Result ℕ E → Fed → Fed → Device → Device → Type 0
HearsMore (Ok count) old new before now = HearsBytes count old new before now
HearsMore (Err e) old new before now =
    (new ≡ old) × HearsAndSays (one_part Unheard) [] false true false false before now

-- ---- a turn

-- whether an interim response is due to the request of which a feed gave this step
abbrev pub IsDueBy : Fed → FeedStep → Bool → Type 0
IsDueBy fed steps.More due = IsTrue due ↔ IsInterimDue fed.unread
IsDueBy fed (steps.Head shown) due = due ≡ shown.wants_interim
IsDueBy fed (steps.Whole shown) due = due ≡ shown.wants_interim
IsDueBy fed (steps.Refused fault) due = IsTrue due ↔ IsInterimDue fed.unread

-- what a step comes to where saying the interim response failed
abbrev pub unsaid_of : FeedStep → Heard
unsaid_of steps.More = Unsaid
unsaid_of (steps.Head shown) = MediaUnsaid
unsaid_of (steps.Whole shown) = Unsaid
unsaid_of (steps.Refused fault) = Unsaid

-- Hearing goes on: all these bytes are unread, behind so many requests, and the interim response
-- was said only where it is due.
pub record HearingGoesOn (taken : ℕ) (all : List ℕ) (said : Bool) (new : Fed) : Type 0 where
  pub unread : new.unread ≡ all
  pub requests : new.requests ≡ taken
  pub may : MayTurn new
  pub due : said ≡ true → IsInterimDue all

-- no saying failed in a turn
abbrev pub turn_said : Turn → Bool
turn_said (Waits said) = true
turn_said (Done heard) = saying_held heard

-- no call of the link failed in it
abbrev pub turn_held : Turn → Bool
turn_held (Waits said) = true
turn_held (Done heard) = link_held heard

-- the end of the peer's bytes was heard in it
abbrev pub turn_ended : Turn → Bool
turn_ended (Waits said) = false
turn_ended (Done heard) = has_ended heard

-- what a turn comes to, in which these bytes were heard behind the unread ones
abbrev pub TurnComesTo : ℕ → List ℕ → List ℕ → Bool → Fed → Turn → Type 0
TurnComesTo taken unread bytes said new (Waits later) =
    (later ≡ said) × (0 < length bytes) × (length (unread ++ bytes) ≤ feed_room)
    × HearingGoesOn taken (unread ++ bytes) said new
TurnComesTo taken unread bytes said new (Done result) =
    IsHeardAs taken (unread ++ bytes) said new result

-- What follows behind so many requests, with these bytes unread, up to the end of a turn. The
-- interim response is said in it where `says` is true, and `said` is whether it was by then.
pub record FollowsTurn (says said : Bool) (taken : ℕ) (unread : List ℕ) (new : Fed)
    (before now : Device) (turn : Turn) : Type 0 where
  pub parts : List HearPart
  pub bytes : List ℕ
  pub leaves : HearsAndSays parts bytes says (turn_said turn) (turn_held turn) (turn_ended turn)
      before now
  pub waits : AllByRecursion (HearsWaiting unread (interim_bytes (said && not says))) parts
  pub comes : TurnComesTo taken unread bytes said new turn

-- A turn: the interim response is said where it is due and wasn't said yet.
pub record TurnsTo (said : Bool) (taken : ℕ) (unread : List ℕ) (new : Fed) (before now : Device)
    (turn : Turn) : Type 0 where
  pub due : Bool
  pub stays : said ≡ true → due ≡ true
  pub follows : FollowsTurn (due && not said) due taken unread new before now turn

-- how the peer's bytes ended, by what is unread of them
abbrev pub end_of : List ℕ → Heard
end_of [] = Ended
end_of (byte ∷ bytes) = Cut

-- ---- turns in a row

-- Turns so far: none of their calls failed, and each heard a byte at least.
pub record HasHeard (first now : Fed) (before after : Device) (said : Bool) (turns : ℕ) : Type 0
  where
    pub parts : List HearPart
    pub bytes : List ℕ
    pub leaves : HearsAndSays parts bytes said true true false before after
    pub waits : AllByRecursion (HearsWaiting first.unread []) parts
    pub goes : HearingGoesOn first.requests (first.unread ++ bytes) said now
    pub moved : turns ≤ length bytes
    pub few : length bytes ≤ feed_room
