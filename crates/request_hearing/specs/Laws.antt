-- What a service concludes from what was heard: the step of a connection that a request is, by the
-- machine of the media store.
use Rattle.std.specs.Prelude.{◌≡◌, ◌≢◌, ◌<◌, ℕ, Bool, true, false, List, [], ◌++◌, length, Some, None}
use Rattle.httparse.specs.Grammar.{RequestHead}
use Rattle.http_wire.specs.Feeds.{Fed}
use Rattle.http_wire.specs.Heads.{more}
use Rattle.http_wire.specs.Requests.{IsNext}
use Rattle.http_wire.specs.declared.framing.WireFault.{WireFault}
use Rattle.http_wire.specs.declared.stage.Head.{Head}
use Rattle.store_states.specs.States.{StoreState}
use Rattle.run_history.specs.Sessions.{IsUnfinished}
use Rattle.run_history.specs.Steps.{Cut, IsStep, Refused}
use Rattle.tams_machine.specs.Answers.{heard_body}
use Rattle.tams_machine.specs.Machine.{tams_machine}
use Rattle.tams_machine.specs.Requests.{Heads, IsCut, SpellsRequest, TamsRequest, interim_text, wire_response}
use Rattle.request_hearing.specs.Asking.{WaitsFor}
use Rattle.request_hearing.specs.Hearing.{HearPart, HearsWaiting, IsRefusedByWire, IsUnsaid, IsWaiting, OpensMedia, interim_bytes, interim_where}

-- what the wire refuses
abbrev pub RefusalsAreSteps : Type 0
RefusalsAreSteps = (base : List ℕ) (n : ℕ) (s : StoreState) (all : List ℕ) (said : Bool) (new : Fed)
    (fault : WireFault) → IsRefusedByWire all said new fault
    → IsStep (tams_machine base) n s
    (Refused all (record { interim = interim_where said; response = wire_response base fault }))

-- a request that isn't whole is cut
abbrev pub WaitingIsCut : Type 0
WaitingIsCut = (base : List ℕ) (n : ℕ) (s : StoreState) (all : List ℕ) (said : Bool) (new : Fed)
    → all ≢ [] → IsWaiting all said new
    → IsStep (tams_machine base) n s (Cut all (interim_where said) None)

-- and no whole one, nor a refusal, stands in front of it
abbrev pub WaitingIsUnfinished : Type 0
WaitingIsUnfinished = (base : List ℕ) (n : ℕ) (all : List ℕ) → IsNext all more
    → IsUnfinished (tams_machine base) n all

-- a hearing that began where nothing whole stood waits for such a request, and owes it nothing
abbrev pub WaitingOwesNothing : Type 0
WaitingOwesNothing = (base : List ℕ) (n : ℕ) (unread : List ℕ) (part : HearPart)
    → HearsWaiting unread [] part
    → WaitsFor (tams_machine base) n (unread ++ part.heard) part.told

-- a request whose interim response couldn't be said is cut
abbrev pub UnsaidIsCut : Type 0
UnsaidIsCut = (base : List ℕ) (n : ℕ) (s : StoreState) (all : List ℕ) (said : Bool)
    (u : IsUnsaid all said false)
    → IsStep (tams_machine base) n s (Cut u.text (Some interim_text) None)

-- and so is a media PUT, which took its moment
abbrev pub MediaUnsaidIsCut : Type 0
MediaUnsaidIsCut = (base : List ℕ) (n : ℕ) (s : StoreState) (moment : ℕ) (all : List ℕ)
    (said : Bool) (u : IsUnsaid all said true)
    → IsStep (tams_machine base) n s (Cut u.text (Some interim_text) (Some moment))

-- a media PUT, by what was heard of its body
abbrev pub media_request : RequestHead → Bool → List ℕ → TamsRequest
media_request head ends body = record { head = head; body = body; ends = ends }

-- What a media PUT is by a part of its body: a whole request, or the head of one, which may be cut,
-- and in front of which no whole one stands, nor a refusal. All that stands behind its head is of
-- its body.
pub record OpenedAs (taken : ℕ) (said : Bool) (text : List ℕ) (head : RequestHead) (shown : Head)
    (part : List ℕ) : Type 0 where
  pub whole : length part ≡ shown.length
      → SpellsRequest taken (text ++ part) (media_request head shown.ends part)
  pub begun : length part < shown.length
      → Heads taken (text ++ part) (media_request head shown.ends part)
  pub cut : length part < shown.length
      → IsCut (text ++ part) (record { interim = interim_where said; takes_moment = true })
  pub unfinished : (base : List ℕ) → length part < shown.length
      → IsUnfinished (tams_machine base) taken (text ++ part)
  pub waits : (base : List ℕ) → length part < shown.length
      → WaitsFor (tams_machine base) taken (text ++ part) (interim_bytes said)
  pub heard : heard_body (text ++ part) ≡ length part

abbrev pub MediaIsOpened : Type 0
MediaIsOpened = (taken : ℕ) (all : List ℕ) (said : Bool) (new : Fed) (shown : Head)
    (o : OpensMedia taken all said new shown) (part : List ℕ)
    → OpenedAs taken said o.text o.head shown part
