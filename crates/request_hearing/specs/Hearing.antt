-- What hearing a request comes to: what it leaves of a site, and what is given of the bytes that
-- were heard (RFC 9112, sections 2 and 9; RFC 9110, section 10.1.1).
use Rattle.std.specs.Prelude.{◌≡◌, ◌≢◌, ◌<◌, ◌≤◌, ◌+◌, ℕ, Bool, true, false, ◌&&◌, ◌||◌, not, List, [], ◌++◌, length, map, take, Option, Some, None, if◌then◌else◌}
use Rattle.std.specs.List.{AllByRecursion}
use Rattle.httparse.specs.Grammar.{RequestHead}
use Rattle.disk_trait.specs.Device.{Connection, Device, HearCall, HearEnd}
use Rattle.disk_trait.specs.Device as devices
use Rattle.site_edge.specs.Links.{LinkCall, SamePeers, Sends, Tells, change_last}
use Rattle.site_edge.specs.Saying.{IsPrefix}
use Rattle.http_wire.specs.Feeds.{Fed, TellsBody, TellsHead, feed_room, handed_on, heard, left_of}
use Rattle.http_wire.specs.Framing.{is_media, wants_interim}
use Rattle.http_wire.specs.Heads.{more, refused, whole}
use Rattle.http_wire.specs.Requests.{IsNext, opened}
use Rattle.http_wire.specs.declared.framing.WireFault.{WireFault}
use Rattle.http_wire.specs.declared.stage.Head.{Head}
use Rattle.http_wire.specs.declared.stage.FeedStage.{FeedStage}
use Rattle.http_wire.specs.declared.stage.FeedStage.TheVariants as stages
use Rattle.run_history.specs.Steps.{Interim}
use Rattle.run_history.specs.Traces.{Trace}
use Rattle.run_history.specs.Growing.{with_piece}
use Rattle.tams_machine.specs.Requests.{HadInterim, IsCut, SpellsRequest, TamsRequest, ends_behind, interim_text}
use Rattle.request_hearing.specs.declared.heard.Heard.{Heard}
use Rattle.request_hearing.specs.declared.heard.Heard.TheVariants.{Whole, Media, Refused, Ended, Cut, Unheard, Unsaid, MediaUnsaid}
use Rattle.request_hearing.specs.declared.heard.Body.{Body}
use Rattle.request_hearing.specs.declared.heard.Body.TheVariants as bodies

-- ---- the site

-- the interim response, where it was said
abbrev pub interim_where : Bool → Option (List ℕ)
interim_where said = if said then Some interim_text else None

-- its bytes
abbrev pub interim_bytes : Bool → List ℕ
interim_bytes said = if said then interim_text else []

-- A call of `hear` among others on a connection: what these had heard and told before it, and how
-- it ended.
pub record HearPart : Type 0 where
  pub heard : List ℕ
  pub told : List ℕ
  pub end : HearEnd

-- the call at its place in its connection
abbrev pub place_call : Connection → HearPart → HearCall
place_call c part = record {
  heard = length (c.heard ++ part.heard);
  told = length (c.told ++ part.told);
  unsaid = c.unsaid;
  end = part.end;
}

-- the same call behind more that was heard and told
abbrev pub part_behind : List ℕ → List ℕ → HearPart → HearPart
part_behind heard told part =
    record { heard = heard ++ part.heard; told = told ++ part.told; end = part.end }

-- A connection that heard and was told these bytes more, by these calls of `hear`, that heard its
-- peer's end, or on which a hearing or a saying failed. The calls are listed unless one failed
-- before.
abbrev pub after_hearing : List HearPart → List ℕ → List ℕ → Bool → Bool → Bool → Connection
    → Connection
after_hearing parts bytes sent ended unheard unsaid c = record {
  heard = c.heard ++ bytes;
  told = c.told ++ sent;
  ended = ended || c.ended;
  unheard = unheard || c.unheard;
  unsaid = unsaid || c.unsaid;
  hearings = if c.unheard then c.hearings else c.hearings ++ map (place_call c) parts;
}

-- A call of `hear` among those that heard and told this. Only the last may have failed.
pub record IsPartOf (heard told : List ℕ) (unheard : Bool) (part : HearPart) : Type 0 where
  pub prefix : IsPrefix part.heard heard
  pub failed : part.end ≡ devices.Unheard
      → (unheard ≡ true) × (part.heard ≡ heard) × (part.told ≡ told)

-- What calls leave of a site that heard these bytes by these calls of `hear`, and said the interim
-- response where `said` is true: all of it where `whole` is, and otherwise a prefix. They are seen
-- as one call of the link, which succeeds where `held` is true: a hearing failed where it isn't,
-- and `whole` is. The end of the peer's bytes was heard where `ended` is.
pub record HearsAndSays (parts : List HearPart) (bytes : List ℕ) (said whole held ended : Bool)
    (old new : Device) : Type 0 where
  pub call : LinkCall (Tells false (interim_bytes said)) (Tells whole (interim_bytes said)) held
      old new
  pub peers : SamePeers old new
  pub under_way : new.link.under_way ≡ old.link.under_way
  pub parts_are : AllByRecursion (IsPartOf bytes (interim_bytes said) (whole && not held)) parts
  pub connections : old.tells ≡ true → (sent : List ℕ) × Sends whole (interim_bytes said) sent
      × (new.link.connections
      ≡ change_last (after_hearing parts bytes sent ended (whole && not held) (not whole))
      old.link.connections)

-- A call of `hear` on a connection of whose request these bytes were unread, and which had been
-- told this of its interim response, before the calls that it is among. When it began nothing whole
-- stood in what had been heard, and the interim response had been said exactly where it was due.
pub record HearsWaiting (unread before : List ℕ) (part : HearPart) : Type 0 where
  pub said : Bool
  pub told : before ++ part.told ≡ interim_bytes said
  pub next : IsNext (unread ++ part.heard) more
  pub interim : HadInterim (unread ++ part.heard) (interim_where said)

-- a trace, and the interim response where it was said
abbrev pub with_interim : {State : Type 0} → Bool → Trace State → Trace State
with_interim said t = if said then with_piece (Interim interim_text) t else t

-- ---- a request

-- no saying failed
abbrev pub saying_held : Heard → Bool
saying_held (Whole shown) = true
saying_held (Media shown) = true
saying_held (Refused fault) = true
saying_held Ended = true
saying_held Cut = true
saying_held Unheard = true
saying_held Unsaid = false
saying_held MediaUnsaid = false

-- no call of the link failed
abbrev pub link_held : Heard → Bool
link_held (Whole shown) = true
link_held (Media shown) = true
link_held (Refused fault) = true
link_held Ended = true
link_held Cut = true
link_held Unheard = false
link_held Unsaid = false
link_held MediaUnsaid = false

-- the end of the peer's bytes was heard
abbrev pub has_ended : Heard → Bool
has_ended (Whole shown) = false
has_ended (Media shown) = false
has_ended (Refused fault) = false
has_ended Ended = true
has_ended Cut = true
has_ended Unheard = false
has_ended Unsaid = false
has_ended MediaUnsaid = false

-- how a feed stands behind a request that was given, which so many came before
pub record StandsBehind (taken : ℕ) (stage : FeedStage) (shown : Head) (new : Fed) : Type 0 where
  pub stage_is : new.stage ≡ stage
  pub requests_are : new.requests ≡ taken + 1
  pub ended_is : new.ended ≡ shown.ends

-- A request came whole that is no media PUT. Its text stands in front of what is unread now.
pub record GivesRequest (taken : ℕ) (all : List ℕ) (said : Bool) (new : Fed) (shown : Head) : Type 0
  where
    pub text : List ℕ
    pub request : TamsRequest
    pub text_is : all ≡ text ++ new.unread
    pub spells : SpellsRequest taken text request
    pub other : is_media request.head.method request.head.target ≡ false
    pub interim : said ≡ wants_interim request.head
    pub ends : shown.ends ≡ request.ends
    pub tells : TellsHead new request.head (taken + 1) shown
    pub tells_body : TellsBody new request.body shown
    pub behind : StandsBehind taken stages.Open shown new

-- The head of a media PUT came whole.
pub record OpensMedia (taken : ℕ) (all : List ℕ) (said : Bool) (new : Fed) (shown : Head) : Type 0
  where
    pub text : List ℕ
    pub head : RequestHead
    pub text_is : all ≡ text ++ new.unread
    pub next : IsNext text (whole (opened head shown.length) (length text))
    pub interim : said ≡ wants_interim head
    pub ends : shown.ends ≡ ends_behind taken head
    pub tells : TellsHead new head (taken + 1) shown
    pub behind : StandsBehind taken (stages.Media shown.length) shown new
    pub room : length new.last < feed_room

-- The wire refuses what stands there.
pub record IsRefusedByWire (all : List ℕ) (said : Bool) (new : Fed) (fault : WireFault) : Type 0
  where
    pub next : IsNext all (refused fault)
    pub interim : HadInterim all (interim_where said)
    pub unread : new.unread ≡ all

-- Nothing whole stands there.
pub record IsWaiting (all : List ℕ) (said : Bool) (new : Fed) : Type 0 where
  pub next : IsNext all more
  pub interim : HadInterim all (interim_where said)
  pub silent : all ≡ [] → said ≡ false
  pub unread : new.unread ≡ all

-- Saying the interim failed, of a request of which this was heard, which is cut.
pub record IsUnsaid (all : List ℕ) (said takes : Bool) : Type 0 where
  pub text : List ℕ
  pub rest : List ℕ
  pub text_is : all ≡ text ++ rest
  pub some : text ≢ []
  pub said_is : said ≡ true
  pub cut : IsCut text (record { interim = Some interim_text; takes_moment = takes })

-- what stands in front of all bytes that were heard and not given, behind so many requests, by what
-- came of hearing them
abbrev pub IsHeardAs : ℕ → List ℕ → Bool → Fed → Heard → Type 0
IsHeardAs taken all said new (Whole shown) = GivesRequest taken all said new shown
IsHeardAs taken all said new (Media shown) = OpensMedia taken all said new shown
IsHeardAs taken all said new (Refused fault) = IsRefusedByWire all said new fault
IsHeardAs taken all said new Ended = (all ≡ []) × IsWaiting all said new
IsHeardAs taken all said new Cut = (all ≢ []) × IsWaiting all said new
IsHeardAs taken all said new Unheard = IsWaiting all said new
IsHeardAs taken all said new Unsaid = IsUnsaid all said false
IsHeardAs taken all said new MediaUnsaid = IsUnsaid all said true

-- What hearing a request comes to, from one state of the feed and the site to another.
pub record HearsRequest (old new : Fed) (before now : Device) (result : Heard) : Type 0 where
  pub parts : List HearPart
  pub bytes : List ℕ
  pub said : Bool
  pub leaves : HearsAndSays parts bytes said (saying_held result) (link_held result)
      (has_ended result) before now
  pub waits : AllByRecursion (HearsWaiting old.unread []) parts
  pub comes : IsHeardAs old.requests (old.unread ++ bytes) said new result

-- ---- the body of a media PUT

-- a hearing failed
abbrev pub body_held : Body → Bool
body_held (bodies.Piece count) = true
body_held bodies.Ended = true
body_held bodies.Unheard = false

-- the end of the peer's bytes was heard
abbrev pub body_ended : Body → Bool
body_ended (bodies.Piece count) = false
body_ended bodies.Ended = true
body_ended bodies.Unheard = false

-- The next bytes of the body stand at the front of `out`, in front of what is unread now.
pub record IsPiece (old : Fed) (bytes out : List ℕ) (count : ℕ) (new : Fed) : Type 0 where
  pub some : 0 < count
  pub within : count ≤ length out
  pub few : count ≤ left_of old.stage
  pub text_is : old.unread ++ bytes ≡ take count out ++ new.unread
  pub feed : new ≡ handed_on (heard old bytes) count

-- nothing came, and nothing was unread
pub record IsBare (old : Fed) (bytes : List ℕ) (new : Fed) : Type 0 where
  pub none : old.unread ≡ []
  pub silent : bytes ≡ []
  pub feed : new ≡ old

-- what came of hearing a piece
abbrev pub BodyComesTo : Fed → List ℕ → List ℕ → Fed → Body → Type 0
BodyComesTo old bytes out new (bodies.Piece count) = IsPiece old bytes out count new
BodyComesTo old bytes out new bodies.Ended = IsBare old bytes new
BodyComesTo old bytes out new bodies.Unheard = IsBare old bytes new

-- A call of `hear` for a piece of the body, in front of all else, where nothing was unread.
pub record HearsBare (old : Fed) (part : HearPart) : Type 0 where
  pub unread : old.unread ≡ []
  pub heard : part.heard ≡ []
  pub told : part.told ≡ []

-- What hearing a piece of the body of a media PUT comes to.
pub record HearsBody (old new : Fed) (out : List ℕ) (before now : Device) (result : Body) : Type 0
  where
    pub parts : List HearPart
    pub bytes : List ℕ
    pub leaves : HearsAndSays parts bytes false true (body_held result) (body_ended result) before
        now
    pub waits : AllByRecursion (HearsBare old) parts
    pub comes : BodyComesTo old bytes out new result
