-- What taking the body of a media PUT comes to: the bytes that were heard, the part of the body
-- that was taken of them and of the unread ones, and what the put has of it.
use Rattle.std.specs.Prelude.{◌≡◌, ◌≢◌, ◌<◌, ◌≤◌, ◌+◌, ◌==◌, ◌&&◌, ℕ, Bool, true, false, not, List, [], ◌++◌, length, take, bytes_eq, Option, IfSome}
use Rattle.std.specs.List.{AllByRecursion}
use Rattle.disk_trait.specs.Device.{Device}
use Rattle.site_edge.specs.Links.{change_last}
use Rattle.http_wire.specs.Feeds.{Fed, left_of, less_by}
use Rattle.store_states.specs.Kept.{AgreesWith, StoreView}
use Rattle.store_plans.specs.declared.puts.PutPlan.{PutPlan}
use Rattle.store_plans.specs.declared.puts.PutPlan.TheVariants.{Kept, Refused, Write}
use Rattle.media_store.specs.Puts.{HandsOn, HasHashed, IsPutOf, body_handed, bytes_at_extent, may_be_same, plan_of}
use Rattle.media_store.specs.Stores.{PutSeen}
use Rattle.request_hearing.specs.Hearing.{HearPart, IsPartOf, after_hearing}
use Rattle.tams_service.specs.declared.body.PieceTaken.{PieceTaken}
use Rattle.tams_service.specs.declared.body.PieceTaken.TheVariants as pieces
use Rattle.tams_service.specs.declared.body.BodyTaken.{BodyTaken}
use Rattle.tams_service.specs.declared.body.BodyTaken.TheVariants.{Ended, Failed, Unheard, Whole}

-- ---- how a body was taken

-- no hearing failed
abbrev pub is_heard : BodyTaken → Bool
is_heard Whole = true
is_heard Ended = true
is_heard Unheard = false
is_heard Failed = true

-- no call of the disk failed
abbrev pub is_taken_unfailed : BodyTaken → Bool
is_taken_unfailed Whole = true
is_taken_unfailed Ended = true
is_taken_unfailed Unheard = true
is_taken_unfailed Failed = false

-- the end of the peer's bytes was heard
abbrev pub has_end : BodyTaken → Bool
has_end Whole = false
has_end Ended = true
has_end Unheard = false
has_end Failed = false

-- ---- what was heard

-- A call of `hear` within a body: when it began more of the body was to come, and nothing was said.
pub record HearsWithin (old : Fed) (part : HearPart) : Type 0 where
  pub short : length (old.unread ++ part.heard) < left_of old.stage
  pub told : part.told ≡ []

-- These bytes were heard, and a part of the body was taken of them and of the unread ones. The end
-- of the peer's bytes was heard where `ended` is true, and a hearing failed where `failed` is.
pub record TakesOfBody (part : List ℕ) (ended failed : Bool) (old new : Fed)
    (before now : Device) : Type 0 where
  pub parts : List HearPart
  pub bytes : List ℕ
  pub parts_are : AllByRecursion (IsPartOf bytes [] failed) parts
  pub waits : AllByRecursion (HearsWithin old) parts
  pub text_is : old.unread ++ bytes ≡ part ++ new.unread
  pub few : length part ≤ left_of old.stage
  pub feed : new ≡ record old { unread = new.unread; stage = less_by (length part) old.stage }
  pub connections : before.tells ≡ true → now.link.connections
      ≡ change_last (after_hearing parts bytes [] ended failed false) before.link.connections

-- ---- what a put has

-- a put of so many bytes has begun, and none was handed to it
pub record IsPutBegun (kept : StoreView) (size : ℕ) (put : PutSeen) : Type 0 where
  pub of_store : IsPutOf kept put
  pub sized : put.size ≡ size
  pub none : put.handed ≡ 0
  pub unhashed : HasHashed put.plan put.hasher []
  pub same : put.same ≡ may_be_same size put.plan

-- all of so many bytes were handed to a put
pub record IsFilled (kept : StoreView) (size : ℕ) (put : PutSeen) : Type 0 where
  pub of_store : IsPutOf kept put
  pub sized : put.size ≡ size
  pub filled : put.handed ≡ put.size

-- at most so many bytes more were handed to a device
pub record HandedMost (most : ℕ) (before now : Device) : Type 0 where
  pub never_falls : before.handed ≤ now.handed
  pub few : now.handed ≤ before.handed + most

-- What a put has of the first bytes of its object over a device that shows these: those that it
-- writes stand at the object's place, and of those that it compares it has whether they are the
-- same.
abbrev pub HoldsPart : StoreView → PutSeen → PutPlan → List ℕ → List ℕ → Type 0
HoldsPart kept put (Refused why) part seen = Unit {0}
HoldsPart kept put (Kept extent) part seen = put.same
    ≡ ((extent.length == put.size)
    && bytes_eq (take (length part) (bytes_at_extent kept extent seen)) part)
HoldsPart kept put (Write extent plan) part seen =
    take (length part) (bytes_at_extent kept extent seen) ≡ part

-- a put, where there is one, has the digest of these bytes
abbrev pub HashedIf : Option PutSeen → List ℕ → Type 0
HashedIf put part = IfSome put (λ p. HasHashed p.plan p.hasher part)

-- the same of a put, where there is one
abbrev pub HoldsIf : StoreView → Option PutSeen → List ℕ → List ℕ → Type 0
HoldsIf kept put part seen = IfSome put (λ p. HoldsPart kept p p.plan part seen)

-- ---- a body

-- how much of a body was taken, and what is unread then
abbrev pub BodyIs : BodyTaken → ℕ → List ℕ → List ℕ → Type 0
BodyIs Whole size part unread = length part ≡ size
BodyIs Ended size part unread = (length part < size) × (unread ≡ [])
BodyIs Unheard size part unread = (length part < size) × (unread ≡ [])
BodyIs Failed size part unread = part ≢ []

-- What taking a body of so many bytes comes to. Where all of it was taken, the put has it. Unless
-- the disk failed, no more than was taken was handed to the device.
pub record TakesBody (kept : StoreView) (size : ℕ) (old new : Fed) (put : Option PutSeen)
    (before now : Device) (result : BodyTaken) : Type 0 where
  pub part : List ℕ
  pub takes : TakesOfBody part (has_end result) (not (is_heard result)) old new before now
  pub comes : BodyIs result size part new.unread
  pub holds : result ≡ Whole → before.shows ≡ true
      → (held : List (List ℕ)) → AgreesWith before kept held → HoldsIf kept put part now.seen
  pub hashed : result ≡ Whole → HashedIf put part
  pub handed : is_taken_unfailed result ≡ true → before.tells ≡ true
      → HandedMost (length part) before now
  pub handed_whole : result ≡ Whole → before.tells ≡ true
      → now.handed ≡ before.handed + body_handed (plan_of put) part

-- ---- a piece

-- no hearing failed
abbrev pub piece_heard : PieceTaken → Bool
piece_heard (pieces.Of count) = true
piece_heard pieces.Ended = true
piece_heard pieces.Unheard = false
piece_heard pieces.Failed = true

-- no call of the disk failed
abbrev pub piece_stored : PieceTaken → Bool
piece_stored (pieces.Of count) = true
piece_stored pieces.Ended = true
piece_stored pieces.Unheard = true
piece_stored pieces.Failed = false

-- the end of the peer's bytes was heard
abbrev pub piece_end : PieceTaken → Bool
piece_end (pieces.Of count) = false
piece_end pieces.Ended = true
piece_end pieces.Unheard = false
piece_end pieces.Failed = false

-- what came of taking a piece
abbrev pub PieceIs : PieceTaken → StoreView → List ℕ → List ℕ → Option PutSeen → Option PutSeen
    → Device → Device → Type 0
PieceIs (pieces.Of count) kept part unread put next before now =
    (0 < count) × (length part ≡ count) × HandsOn kept part put next before now
PieceIs pieces.Ended kept part unread put next before now = (part ≡ []) × (unread ≡ [])
PieceIs pieces.Unheard kept part unread put next before now = (part ≡ []) × (unread ≡ [])
PieceIs pieces.Failed kept part unread put next before now = part ≢ []

-- What taking a piece comes to.
pub record TakesNext (kept : StoreView) (old new : Fed) (put next : Option PutSeen)
    (before now : Device) (result : PieceTaken) : Type 0 where
  pub part : List ℕ
  pub takes : TakesOfBody part (piece_end result) (not (piece_heard result)) old new before now
  pub comes : PieceIs result kept part new.unread put next before now
  pub handed : piece_stored result ≡ true → before.tells ≡ true
      → now.handed ≡ before.handed + body_handed (plan_of put) part
