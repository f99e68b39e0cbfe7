-- A put of an object's bytes, and what its beginning, its pieces and its end make of a store. Our
-- own rules.
use Rattle.std.specs.Prelude.{◌≡◌, ◌≤◌, ◌+◌, ◌==◌, ◌&&◌, ℕ, Bool, true, false, List, [], ◌++◌, length, take, bytes_eq, Option, Some, None, option_map, IfSome}
use Rattle.sha2.specs.declared.Sha256.{Sha256}
use Rattle.sha2.specs.Hashers.{Holds256}
use Rattle.media_rows.specs.declared.change.Change.{Change}
use Rattle.media_rows.specs.declared.change.Change.TheVariants as changes
use Rattle.media_rows.specs.declared.object.Digest.{Digest}
use Rattle.media_rows.specs.declared.object.Extent.{Extent}
use Rattle.media_rows.specs.declared.refusal.Refusal.{Refusal}
use Rattle.media_rows.specs.declared.reply.Reply.{Reply}
use Rattle.media_rows.specs.declared.reply.Reply.TheVariants as replies
use Rattle.media_rows.specs.Answer.{stored_put}
use Rattle.disk_trait.specs.Calls.{bytes_at}
use Rattle.disk_trait.specs.Device.{Device}
use Rattle.object_blobs.specs.Extents.{extent_bytes}
use Rattle.store_states.specs.Kept.{StoreView}
use Rattle.store_states.specs.States.{media_start}
use Rattle.store_plans.specs.declared.puts.PutPlan.{PutPlan}
use Rattle.store_plans.specs.declared.puts.PutPlan.TheVariants.{Refused, Kept, Write}
use Rattle.store_plans.specs.Plans.{HasExtent, IsPutPlan, PutFits, planned_with}
use Rattle.store_commits.specs.Carrying.{written_bytes}
use Rattle.store_writes.specs.Writes.{Keeps}
use Rattle.media_store.specs.Changes.{ChangesStore, kept_by}
use Rattle.media_store.specs.Stores.{IsSoundStore, PutSeen, journal_of}

-- ---- a put of a store

-- whether bytes of an object may be the same as so many that come: there are as many
abbrev pub may_be_same : ℕ → PutPlan → Bool
may_be_same size (Refused why) = true
may_be_same size (Kept extent) = extent.length == size
may_be_same size (Write extent plan) = true

-- a hasher has taken these bytes, where they are written
abbrev pub HasHashed : PutPlan → Sha256 → List ℕ → Type 0
HasHashed (Refused why) hasher came = Unit {0}
HasHashed (Kept extent) hasher came = Unit {0}
HasHashed (Write extent plan) hasher came = Holds256 hasher came

-- a hasher takes a piece that is written, and no other
abbrev pub Hashes : PutPlan → Sha256 → List ℕ → Sha256 → Type 0
Hashes (Refused why) hasher piece next = next ≡ hasher
Hashes (Kept extent) hasher piece next = next ≡ hasher
Hashes (Write extent plan) hasher piece next =
    (came : List ℕ) → Holds256 hasher came → Holds256 next (came ++ piece)

-- A put is one of a store: what is planned of it is what the store's own library, in the journal as
-- it stands, makes of any bytes of its length for its object at its moment, at the extent that the
-- object has there or takes. No more was handed to it than was announced, its hasher has taken what
-- was written, and bytes that are the same so far may be so to the end.
pub record IsPutOf (kept : StoreView) (put : PutSeen) : Type 0 where
  pub plan : IsPutPlan (journal_of kept) put.object put.size put.moment put.plan
  pub extent : HasExtent (journal_of kept) put.object put.size put.moment put.plan
  pub fits : PutFits kept.journal put.plan
  pub few : put.handed ≤ put.size
  pub came : List ℕ
  pub hashed : HasHashed put.plan put.hasher came
  pub same : put.same ≡ true → may_be_same put.size put.plan ≡ true

-- A store that isn't spent is a sound one, and the put that is under way, if there is one, is its.
pub record IsStore (kept : StoreView) (put : Option PutSeen) : Type 0 where
  pub sound : IsSoundStore kept
  pub of_store : IfSome put (IsPutOf kept)

-- ---- a put that was planned

-- A put of so many bytes as those of an object was planned of a store, and none came.
pub record IsFreshPut (kept : StoreView) (object : List ℕ) (size moment : ℕ)
    (put : PutSeen) : Type 0 where
  pub of_store : IsPutOf kept put
  pub object_is : put.object ≡ object
  pub sized : put.size ≡ size
  pub moment_is : put.moment ≡ moment
  pub none : put.handed ≡ 0
  pub unhashed : HasHashed put.plan put.hasher []
  pub same : put.same ≡ may_be_same size put.plan

-- a put was planned, of some object of some store
pub record IsPlannedPut (put : PutSeen) : Type 0 where
  pub kept : StoreView
  pub object : List ℕ
  pub moment : ℕ
  pub fresh : IsFreshPut kept object put.size moment put

-- ---- pieces

-- a put is under way, of which so many bytes are to come at least
abbrev pub MayTake : Option PutSeen → ℕ → Type 0
MayTake None count = ⊥
MayTake (Some put) count = put.handed + count ≤ put.size

-- the bytes of an extent of a store in an image
abbrev pub bytes_at_extent : StoreView → Extent → List ℕ → List ℕ
bytes_at_extent kept extent image = extent_bytes (media_start kept.journal.half) extent image

-- What a piece makes of a put over a device that shows its bytes: bytes that are written stand
-- behind those of before, and those that are compared are the same so far as their pieces are.
abbrev pub TakesPiece : StoreView → PutPlan → List ℕ → PutSeen → PutSeen → Device → Device → Type 0
TakesPiece kept (Refused why) piece old new before after = Unit {0}
TakesPiece kept (Kept extent) piece old new before after =
    new.same ≡ (old.same
    && bytes_eq (bytes_at (bytes_at_extent kept extent before.seen) old.handed
    (length piece)) piece)
TakesPiece kept (Write extent plan) piece old new before after =
    take new.handed (bytes_at_extent kept extent after.seen)
    ≡ take old.handed (bytes_at_extent kept extent before.seen) ++ piece

-- a put goes on behind a piece
pub record PutMovesOn (old new : PutSeen) (piece : List ℕ) : Type 0 where
  pub object_is : new.object ≡ old.object
  pub sized : new.size ≡ old.size
  pub moment_is : new.moment ≡ old.moment
  pub handed : new.handed ≡ old.handed + length piece
  pub plan : new.plan ≡ old.plan
  pub hashed : Hashes old.plan old.hasher piece new.hasher

-- the same over a store and its device
pub record PutGoesOn (kept : StoreView) (piece : List ℕ) (put : PutSeen) (next : Option PutSeen)
    (before now : Device) : Type 0 where
  pub later : PutSeen
  pub is : next ≡ Some later
  pub goes : PutMovesOn put later piece
  pub of_store : IsPutOf kept later
  pub takes : before.shows ≡ true → TakesPiece kept put.plan piece put later before now

-- a piece was handed to the put that is under way, if there is one
abbrev pub HandsOn : StoreView → List ℕ → Option PutSeen → Option PutSeen → Device → Device → Type 0
HandsOn kept piece None next before now = next ≡ None
HandsOn kept piece (Some put) next before now = PutGoesOn kept piece put next before now

-- how many bytes of a piece are handed to the disk
abbrev pub handed_of_piece : PutPlan → List ℕ → ℕ
handed_of_piece (Refused why) piece = 0
handed_of_piece (Kept extent) piece = 0
handed_of_piece (Write extent plan) piece = length piece

-- what is planned, where there is a put
abbrev pub plan_of : Option PutSeen → Option PutPlan
plan_of put = option_map (λ p. p.plan) put

-- how many bytes of a part of its body are handed to the device
abbrev pub body_handed : Option PutPlan → List ℕ → ℕ
body_handed None part = 0
body_handed (Some plan) part = handed_of_piece plan part

-- whether a put asks anything of the disk for a piece: one that is refused doesn't, nor does one
-- whose bytes are other ones already
abbrev pub asks_disk : Bool → PutPlan → Bool
asks_disk same (Refused why) = false
asks_disk same (Kept extent) = same
asks_disk same (Write extent plan) = true

-- the same of the put that is under way
abbrev pub asks_disk_if : Option PutSeen → Bool
asks_disk_if None = false
asks_disk_if (Some put) = asks_disk put.same put.plan

-- the put has room for a piece of the bytes that it compares
abbrev pub HasRoomToCompare : PutPlan → ℕ → Type 0
HasRoomToCompare (Refused why) room = Unit {0}
HasRoomToCompare (Kept extent) room = room ≡ 65536
HasRoomToCompare (Write extent plan) room = Unit {0}

-- why a put is refused, if it is
abbrev pub put_plan_refusal : PutPlan → Option Refusal
put_plan_refusal (Refused why) = Some why
put_plan_refusal (Kept extent) = None
put_plan_refusal (Write extent plan) = None

-- whether the end of a put writes a change
abbrev pub writes_by : PutPlan → Bool
writes_by (Refused why) = false
writes_by (Kept extent) = false
writes_by (Write extent plan) = true

-- ---- the end

-- a put is under way, and all of its bytes were handed to it
abbrev pub AllCame : Option PutSeen → Type 0
AllCame None = ⊥
AllCame (Some put) = put.handed ≡ put.size

-- the hasher of the put that is under way has taken these bytes, where it writes any
abbrev pub HasCome : Option PutSeen → List ℕ → Type 0
HasCome None came = ⊥
HasCome (Some put) came = HasHashed put.plan put.hasher came

-- whether the end of the put that is under way writes a change
abbrev pub writes_if : Option PutSeen → Bool
writes_if None = false
writes_if (Some put) = writes_by put.plan

-- the reply to a put
abbrev pub put_reply : PutSeen → PutPlan → Reply
put_reply put (Refused why) = replies.Refused why
put_reply put (Kept extent) = (stored_put put.same).reply
put_reply put (Write extent plan) = plan.prepared.reply

-- the same of the put that is under way, if there is one
abbrev pub reply_if : Option PutSeen → Option Reply
reply_if put = option_map (λ p. put_reply p p.plan) put

-- what is kept behind a put, where the bytes that are written have this digest
abbrev pub kept_after_put : StoreView → PutPlan → Digest → StoreView
kept_after_put kept (Refused why) digest = kept
kept_after_put kept (Kept extent) digest = kept
kept_after_put kept (Write extent plan) digest = kept_by kept (planned_with digest plan)

-- the same behind the put that is under way, if there is one
abbrev pub kept_behind : StoreView → Option PutSeen → Digest → StoreView
kept_behind kept None digest = kept
kept_behind kept (Some put) digest = kept_after_put kept put.plan digest

-- how many bytes the end of a put hands to the disk
abbrev pub handed_at_end : PutPlan → ℕ
handed_at_end (Refused why) = 0
handed_at_end (Kept extent) = 0
handed_at_end (Write extent plan) = written_bytes plan.rows plan.frame

-- the same of the put that is under way, if there is one
abbrev pub end_handed : Option PutSeen → ℕ
end_handed None = 0
end_handed (Some put) = handed_at_end put.plan

-- the change that stores a put's object at this extent, with a digest
abbrev pub put_change : PutSeen → Extent → Digest → Change
put_change put extent digest =
    changes.Store put.moment put.object extent.start extent.length (Some digest)

-- What the end of a put makes of a store: its object is stored with this digest, for which those
-- bytes came that a read gives at the extent. Behind a put that writes nothing what is kept stays.
abbrev pub EndsPut : Bool → PutSeen → PutPlan → Digest → StoreView → List (List ℕ) → Device → Device
    → Type 0
EndsPut ok put (Refused why) digest kept held old new = Keeps kept held old new
EndsPut ok put (Kept extent) digest kept held old new = Keeps kept held old new
EndsPut ok put (Write extent plan) digest kept held old new =
    ChangesStore ok (put_change put extent digest) (bytes_at_extent kept extent old.seen) kept
    (kept_by kept (planned_with digest plan)) held old new

-- the same of the put that is under way
abbrev pub EndsIf : Bool → Option PutSeen → Digest → StoreView → List (List ℕ) → Device → Device
    → Type 0
EndsIf ok None digest kept held old new = ⊥
EndsIf ok (Some put) digest kept held old new =
    EndsPut ok put put.plan digest kept held old new
