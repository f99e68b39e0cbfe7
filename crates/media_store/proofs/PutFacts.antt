-- What is known of a put of a store: where its bytes lie, that it stays one of the store behind a piece, and what it was
-- planned as.
use Rattle.std.proofs.Common.{◌≡◌, ◌≤◌, ◌+◌, ◌++◌, ℕ, Bool, true, List, length, take, Option, None, Some, arith, refl, subst, sym}
use Rattle.std.specs.Prelude.{◌&&◌, IfSome, bytes_eq}
use Rattle.std.proofs.lemmas.Bool.{eqb-true}
use Rattle.sha2.specs.declared.Sha256.{Sha256}
use Rattle.sha2.specs.Hashers.{Holds256}
use Rattle.media_rows.specs.declared.object.Digest.{Digest}
use Rattle.media_rows.specs.declared.object.Extent.{Extent}
use Rattle.media_rows.specs.Digests.{digest_of}
use Rattle.media_rows.specs.Good.{Good}
use Rattle.media_rows.specs.Library.{Library}
use Rattle.disk_trait.specs.Calls.{Unchanged, bytes_at}
use Rattle.disk_trait.specs.Device.{Device}
use Rattle.disk_trait.proofs.Theorems.{no_time}
use Rattle.library_laws.proofs.ListLemmas.{Contains-from_In, find-In}
use Rattle.change_codec.specs.Digests.{digest_bytes, ending_in}
use Rattle.change_codec.proofs.DigestLemmas.{digests_have_halves}
use Rattle.store_commits.specs.Carrying.{written_bytes}
use Rattle.object_blobs.specs.Extents.{extent_bytes}
use Rattle.store_states.specs.Kept.{AgreesWith, StoreView}
use Rattle.store_states.specs.States.{media_start}
use Rattle.store_plans.specs.declared.outcome.Planned.{Planned}
use Rattle.store_plans.specs.declared.puts.PutPlan.{PutPlan}
use Rattle.store_plans.specs.declared.puts.StorePlan.{StorePlan}
use Rattle.store_plans.specs.declared.puts.PutPlan.TheVariants.{Refused, Kept, Write}
use Rattle.store_plans.specs.Plans.{CanTakeDigest, HasExtent, IsPutPlan, IsStoredAt, MakesChange, PlanFits, PutFits, TakesExtent, planned_with}
use Rattle.store_writes.specs.Writes.{Keeps}
use Rattle.store_writes.proofs.Keeping.{quiet}
use Rattle.store_plans.proofs.Storing.{digest_length, ending_sized}
use Rattle.media_store.specs.Changes.{FileStands, bytes_by}
use Rattle.media_store.specs.Pieces.{IsExtent}
use Rattle.media_store.specs.Puts.{HandsOn, HasCome, HasHashed, Hashes, IsFreshPut, IsPutOf, IsStore, MayTake, PutMovesOn, TakesPiece, bytes_at_extent, may_be_same, put_change}
use Rattle.media_store.specs.Stores.{IsSoundStore, PutSeen, journal_of, size_of}
use Rattle.media_store.specs.Within.{IsPlacedOn, LeavesObjects, TakesAt}
use Rattle.media_store.proofs.Places.{extent_within, on_device}
use Rattle.media_store.proofs.Planning.{step_blocks}

-- ---- where a put's bytes lie

-- where an object is stored is the extent of a stored object
pub stored_extent : (library : Library) (object : List ℕ) (extent : Extent) → IsStoredAt library.objects object extent → IsExtent library extent
stored_extent library object extent is = record {
  row = is.row;
  kept = Contains-from_In library.objects is.row (find-In _ library.objects is.row is.kept).0;
  digest = is.digest;
  stored = is.stored;
}

placed_by : (kept : StoreView) (device size moment end : ℕ) (object : List ℕ) (same : Bool) (plan : PutPlan) → Good kept.library → IsSoundStore kept
    → size_of kept ≤ device → end ≤ size → HasExtent (journal_of kept) object size moment plan → (same ≡ true → may_be_same size plan ≡ true)
    → IsPlacedOn (media_start kept.journal.half) device plan same end
placed_by kept device size moment end object same (Refused why) good store sized fits has may = tt
placed_by kept device size moment end object same (Kept extent) good store sized fits has may = (
  on_device kept extent device store sized (extent_within kept.library extent good (stored_extent kept.library object extent has)),
  λ so. let long = eqb-true extent.length size (may so) in omega (arith, fits, long),
)
placed_by kept device size moment end object same (Write extent plan) good store sized fits has may =
    (on_device kept extent device store sized has.within, omega (arith, fits, has.sized))

-- on each device of the file's blocks, up to as many as were announced
pub placed : (kept : StoreView) (device end : ℕ) (put : PutSeen) → Good kept.library → IsSoundStore kept → size_of kept ≤ device
    → end ≤ put.size → IsPutOf kept put → IsPlacedOn (media_start kept.journal.half) device put.plan put.same end
placed kept device end put good store sized fits is =
    placed_by kept device put.size put.moment end put.object put.same put.plan good store sized fits is.extent is.same

-- no stored object has a block of what is written
leaves_by : (kept : StoreView) (object : List ℕ) (size moment : ℕ) (plan : PutPlan) → HasExtent (journal_of kept) object size moment plan
    → LeavesObjects kept.library plan
leaves_by kept object size moment (Refused why) has = tt
leaves_by kept object size moment (Kept extent) has = tt
leaves_by kept object size moment (Write extent plan) has = has.clear

pub leaves : (kept : StoreView) (put : PutSeen) → IsPutOf kept put → LeavesObjects kept.library put.plan
leaves kept put is = leaves_by kept put.object put.size put.moment put.plan is.extent

-- ---- the put that is under way

pub put_of : (kept : StoreView) (put : Option PutSeen) (some : PutSeen) → IsStore kept put → put ≡ Some some → IsPutOf kept some
put_of kept put some store is = subst (λ (p : Option PutSeen). IfSome p (IsPutOf kept)) is store.of_store

pub may_take : (put : Option PutSeen) (some : PutSeen) (count : ℕ) → MayTake put count → put ≡ Some some → some.handed + count ≤ some.size
may_take put some count may is = subst (λ (p : Option PutSeen). MayTake p count) is may

-- ---- behind a piece

-- what a hasher has taken
pub hashed_by : (plan : PutPlan) (hasher : Sha256) (came : List ℕ) → Holds256 hasher came → HasHashed plan hasher came
hashed_by (Refused why) hasher came holds = tt
hashed_by (Kept extent) hasher came holds = tt
hashed_by (Write extent plan) hasher came holds = holds

-- a hasher that has taken what came has taken the piece behind it, where it is written
pub hashed_on : (plan : PutPlan) (hasher next : Sha256) (came piece : List ℕ) → Hashes plan hasher piece next → HasHashed plan hasher came
    → HasHashed plan next (came ++ piece)
hashed_on (Refused why) hasher next came piece hashes has = tt
hashed_on (Kept extent) hasher next came piece hashes has = tt
hashed_on (Write extent plan) hasher next came piece hashes has = hashes came has

-- a put of a store stays one
pub moves_on : (kept : StoreView) (old new : PutSeen) (piece : List ℕ) → IsPutOf kept old → PutMovesOn old new piece
    → old.handed + length piece ≤ old.size → (new.same ≡ true → old.same ≡ true) → IsPutOf kept new
moves_on kept old new piece is moves inside still = record {
  plan = rw (moves.object_is, moves.sized, moves.moment_is, moves.plan) is.plan;
  extent = rw (moves.object_is, moves.sized, moves.moment_is, moves.plan) is.extent;
  fits = rw moves.plan is.fits;
  few = omega (arith, inside, moves.handed, moves.sized);
  came = is.came ++ piece;
  hashed = rw moves.plan (hashed_on old.plan old.hasher new.hasher is.came piece moves.hashed is.hashed);
  same = λ so. rw (moves.sized, moves.plan) (is.same (still so));
}

-- what it takes there
takes_piece : (kept : StoreView) (area : ℕ) (plan : PutPlan) (piece : List ℕ) (old new : PutSeen) (before after : Device)
    → area ≡ media_start kept.journal.half → new.handed ≡ old.handed + length piece
    → TakesAt area plan piece old.handed old.same new.same before.seen after.seen → TakesPiece kept plan piece old new before after
takes_piece kept area (Refused why) piece old new before after place moved takes = tt
takes_piece kept area (Kept extent) piece old new before after place moved takes =
    subst
    (λ (a : ℕ). new.same ≡ (old.same && bytes_eq (bytes_at (extent_bytes a extent before.seen) old.handed (length piece)) piece)) place takes
takes_piece kept area (Write extent plan) piece old new before after place moved takes =
    subst (λ (n : ℕ). take n (bytes_at_extent kept extent after.seen) ≡ take old.handed (bytes_at_extent kept extent before.seen) ++ piece) (sym moved)
    (subst (λ (a : ℕ). take (old.handed + length piece) (extent_bytes a extent after.seen) ≡ take old.handed (extent_bytes a extent before.seen) ++ piece)
    place takes)

pub hands_on : (kept : StoreView) (area : ℕ) (piece : List ℕ) (old later : PutSeen) (put next : Option PutSeen) (before after : Device)
    → put ≡ Some old → next ≡ Some later → IsPutOf kept old → area ≡ media_start kept.journal.half → PutMovesOn old later piece
    → old.handed + length piece ≤ old.size → (later.same ≡ true → old.same ≡ true)
    → (before.shows ≡ true → TakesAt area old.plan piece old.handed old.same later.same before.seen after.seen)
    → HandsOn kept piece put next before after
hands_on kept area piece old later put next before after is then of_store place moves inside still takes =
    subst (λ (p : Option PutSeen). HandsOn kept piece p next before after) (sym is) (record {
      later = later;
      is = then;
      goes = moves;
      of_store = moves_on kept old later piece of_store moves inside still;
      takes = λ shows. takes_piece kept area old.plan piece old later before after place moves.handed (takes shows);
    })

-- ---- what it was planned as

pub fresh_plan : (kept : StoreView) (object : List ℕ) (size moment : ℕ) (put : PutSeen) → IsFreshPut kept object size moment put
    → IsPutPlan (journal_of kept) object size moment put.plan
fresh_plan kept object size moment put is = rw (← is.object_is, ← is.sized, ← is.moment_is) is.of_store.plan

pub fresh_extent : (kept : StoreView) (object : List ℕ) (size moment : ℕ) (put : PutSeen) → IsFreshPut kept object size moment put
    → HasExtent (journal_of kept) object size moment put.plan
fresh_extent kept object size moment put is = rw (← is.object_is, ← is.sized, ← is.moment_is) is.of_store.extent

-- ---- what is written for it

pub takes_extent : (kept : StoreView) (put : PutSeen) (extent : Extent) (plan : StorePlan) → IsPutOf kept put → put.plan ≡ Write extent plan
    → TakesExtent (journal_of kept) put.object put.size put.moment extent plan
takes_extent kept put extent plan is at = subst (HasExtent (journal_of kept) put.object put.size put.moment) at is.extent

-- the bytes that came for the put that is under way, which its hasher has taken
pub came_for : (put : Option PutSeen) (some : PutSeen) (extent : Extent) (plan : StorePlan) (came : List ℕ) → put ≡ Some some
    → some.plan ≡ Write extent plan → HasCome put came → Holds256 some.hasher came
came_for put some extent plan came is at come =
    subst (λ (p : PutPlan). HasHashed p some.hasher came) at (subst (λ (p : Option PutSeen). HasCome p came) is come)

-- the bytes that its hasher has taken
pub takes_bytes : (kept : StoreView) (put : PutSeen) (extent : Extent) (plan : StorePlan) → (is : IsPutOf kept put) → put.plan ≡ Write extent plan
    → Holds256 put.hasher is.came
takes_bytes kept put extent plan is at = subst (λ (p : PutPlan). HasHashed p put.hasher is.came) at is.hashed

module _ (kept : StoreView) (put : PutSeen) (extent : Extent) (plan : StorePlan) (is : IsPutOf kept put) (at : put.plan ≡ Write extent plan) (came : List ℕ)
    (planned : Planned) (finished : planned ≡ planned_with (digest_of came) plan) where
  -- the plan with the digest of some bytes makes the change with that digest
  pub takes_change : MakesChange (journal_of kept) (put_change put extent (digest_of came)) planned
  takes_change =
      subst (MakesChange (journal_of kept) (put_change put extent (digest_of came))) (sym finished)
      ((takes_extent kept put extent plan is at).makes (digest_of came) (digests_have_halves came))

  pub takes_room : PlanFits kept.journal planned
  takes_room = subst (PlanFits kept.journal) (sym finished) (subst (PutFits kept.journal) at is.fits (digest_of came))

  -- its library has the file's media blocks
  pub takes_blocks : planned.next.library.blocks ≡ kept.library.blocks
  takes_blocks = step_blocks (journal_of kept) (Some (put_change put extent (digest_of came))) planned takes_change

-- the end of a put hands on as much as its plan says
record_length : (plan : StorePlan) (digest : Digest) → CanTakeDigest plan → length (ending_in (digest_bytes digest) plan.frame) ≡ length plan.frame
record_length plan digest takes = ending_sized (digest_bytes digest) plan.frame (omega (arith, digest_length digest, takes.long))

pub takes_handed : (plan : StorePlan) (digest : Digest) → CanTakeDigest plan → bytes_by (planned_with digest plan) ≡ written_bytes plan.rows plan.frame
takes_handed plan digest takes = by_rows plan.rows (ending_in (digest_bytes digest) plan.frame) (record_length plan digest takes)
  where
    by_rows : (rows : Option (List ℕ)) (payload : List ℕ) → length payload ≡ length plan.frame → written_bytes rows payload ≡ written_bytes rows plan.frame
    by_rows None payload same = omega (arith, same)
    by_rows (Some text) payload same = omega (arith, same)

-- ---- no call

-- where what is kept stays, the file stands for it
pub keeps_stand : (kept : StoreView) (old new : Device) → ((held : List (List ℕ)) → AgreesWith old kept held → Keeps kept held old new)
    → FileStands old kept → FileStands new kept
keeps_stand kept old new keeps stands = record { held = stands.held; agrees = (keeps stands.held stands.agrees).agrees }

-- where none is made, what is kept stays
pub nothing_keeps : (kept : StoreView) (held : List (List ℕ)) (d : Device) → AgreesWith d kept held → Keeps kept held d d
nothing_keeps kept held d agrees = quiet d d kept held (no_time Unchanged d (λ p. refl)) agrees
