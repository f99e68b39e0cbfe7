-- What one more call does to what a crash may leave of a disk in memory.
use Rattle.std.proofs.Common.{length-append, ◌≡◌, ◌≤◌, ◌+◌, ◌⊎◌, ◌↔◌, ◌&&◌, not, cond, ◌++◌, ◌∷◌, [], ℕ, Bool, true, false, List, length, inl, inr, refl, sym, ap, subst, arith}
use Rattle.std.proofs.lemmas.List.{length_push}
use Rattle.std.proofs.lemmas.Bool.{cases_lt}
use Rattle.std.proofs.lemmas.Bool.Decides.{nat_tests}
use Rattle.std.proofs.lemmas.List.Sums.{sum_by_push}
use Rattle.std.specs.Prelude.{Result, Ok, Err, is_ok, OnOk, IsFalse, Contains}
use Rattle.disk_trait.specs.Device.{Left}
use Rattle.disk_trait.specs.Calls.{DiskRequest, ReadAt, WriteAt, SyncAll, LeavesOnly, SameDevice, Torn, Follows, Elapses, DiskCall, IsCounted, Rose, overwritten}
use Rattle.disk_trait.specs.History.{IsQuiet, Past, call_of, kept_bytes, seen_of, with_call, has_passed, has_failed}
use Rattle.disk_trait.specs.MemoryDisk.{DiskState, LeavesAt, LeavesSince, left_after, left_after_call, memory_device, MakesCall, FailsAsListed, DiskCalled, next_number, counted_on, after_make, step_of}
use Rattle.disk_trait.specs.MemoryDiskLaws.{torn-put_over, length-kept_bytes, length-seen_after_call, itself_after, leaves_at_last, leaves_at_more}
use Rattle.disk_trait.specs.declared.history.Call.{Call}
use Rattle.disk_trait.specs.declared.history.Call.TheVariants.{Read, Write, Sync}
use Rattle.disk_trait.proofs.TornLemmas.{torn_itself}
use Rattle.disk_trait.proofs.HistoryLemmas.{left_after-push, seen_after-push, seen_after-write}

-- an image after a call is one from before it, after the call's step
image_follows : (call : Call) (seen : List ℕ) (left : List ℕ → Type 0) (told : List (List ℕ)) (image : List ℕ) → left seen
    → left_after_call call seen left image
    → (old : List ℕ) × left old × step_of call (record { image = old; told = told }) (record { image = image; told = told })
image_follows (Read at n passed) seen left told image now after = (image, after, refl)
image_follows (Write at bytes passed) seen left told image now after = (after.0, after.1, record { image = after.2; told = refl })
image_follows (Sync true) seen left told image now after = (seen, now, ap (λ i. record { image = i; told = told }) after)
image_follows (Sync false) seen left told image now after = (image, after, refl)

step_itself : (call : Call) (p : Left) → step_of call p p
step_itself (Read at n passed) p = refl
step_itself (Write at bytes passed) p = record { image = torn_itself at (length bytes) p.image; told = refl }
step_itself (Sync passed) p = refl

-- a crash after the call leaves what one could leave before it, after the call's step
last_follows : (call : Call) (past : Past) (p : Left) → LeavesAt (with_call call past) (length past.calls + 1) p.image → p.told ≡ []
    → Follows (step_of call) (LeavesSince past (length past.calls)) p
last_follows call past p at_last told =
    let first : List ℕ → Type 0 = λ i. i ≡ past.first in
    let whole : length (past.calls ++ call ∷ []) ≡ length past.calls + 1 = length_push past.calls call in
    let all : left_after (past.calls ++ call ∷ []) past.first first p.image =
    subst (λ T. T) (leaves_at_last (with_call call past) p.image) (subst (λ n. LeavesAt (with_call call past) n p.image) (sym whole) at_last) in
    let after : left_after_call call (seen_of past) (left_after past.calls past.first first) p.image =
    subst (λ F. F p.image) (left_after-push past.calls call past.first first) all in
    let old =
    image_follows call (seen_of past) (left_after past.calls past.first first) p.told p.image (itself_after past.calls past.first first refl) after in (
      record { image = old.0; told = p.told },
      record {
        moment = length past.calls;
        later = omega arith;
        within = omega arith;
        image = subst (λ T. T) (sym (leaves_at_last past old.0)) old.1;
        told = told;
      },
      old.2,
    )

-- a moment since another is one of before, or the last one
since_noted : (call : Call) (past : Past) (t : ℕ) (p : Left) → LeavesSince (with_call call past) t p
    → LeavesSince past t p ⊎ Follows (step_of call) (LeavesSince past (length past.calls)) p
since_noted call past t p left =
    elim (cases_lt (length past.calls) left.moment) [
      | inl last ↦ inr (last_follows call past p (subst (λ n. LeavesAt (with_call call past) n p.image)
          (omega (arith, last, left.within, length_push past.calls call)) left.image) left.told)
      | inr earlier ↦ inl (record {
        moment = left.moment;
        later = left.later;
        within = earlier;
        image = subst (λ T. T) (leaves_at_more call past left.moment p.image earlier) left.image;
        told = left.told;
      })
    ]

ends_noted : (call : Call) (past : Past) (p : Left) → LeavesSince (with_call call past) (length past.calls + 1) p
    → Follows (step_of call) (LeavesSince past (length past.calls)) p
ends_noted call past p left =
    last_follows call past p (subst (λ n. LeavesAt (with_call call past) n p.image) (omega (arith, left.later, left.within, length_push past.calls call))
    left.image) left.told

keeps_noted : (call : Call) (past : Past) (t : ℕ) (p : Left) → LeavesSince past t p → LeavesSince (with_call call past) t p
keeps_noted call past t p left = record {
  moment = left.moment;
  later = left.later;
  within = omega (arith, left.within, length_push past.calls call);
  image = subst (λ T. T) (sym (leaves_at_more call past left.moment p.image left.within)) left.image;
  told = left.told;
}

-- time over a call, whether it was noted or starved
elapses : (call : Call) (noted : Bool) (disk : DiskState)
    → Elapses (step_of call) (step_of call) (memory_device disk) (memory_device (after_make noted call disk))
elapses call true disk = record {
  later = omega (arith, length_push disk.past.calls call);
  now = λ p left. ends_noted call disk.past p (rw length_push at left);
  since = λ t p le left. since_noted call disk.past t p left;
  keeps = λ t p le left. keeps_noted call disk.past t p left;
}
elapses call false disk = record {
  later = omega arith;
  now = λ p left. (p, left, step_itself call p);
  since = λ t p le left. inl left;
  keeps = λ t p le left. left;
}

same_device : (call : Call) (noted : Bool) (disk : DiskState) → SameDevice (memory_device disk) (memory_device (after_make noted call disk))
same_device call true disk = record {
  size = rw seen_after-push (length-seen_after_call call (seen_of disk.past));
  honest = refl;
  shows = refl;
  tells = refl;
}
same_device call false disk = record { size = refl; honest = refl; shows = refl; tells = refl }

-- a count that rises by one where a call failed
counted_by_answer : (passed : Bool) (failed starved now : ℕ) → now ≡ failed + cond (not passed) 1 0 → IsCounted passed (failed + starved) (now + starved)
counted_by_answer true failed starved now is = record { never_falls = omega arith; stays = λ _. omega arith; rises = λ wrong. cc }
counted_by_answer false failed starved now is = record { never_falls = omega arith; stays = λ wrong. cc; rises = λ _ _. omega arith }

counted_on_never_falls : (n : ℕ) → n ≤ counted_on n
counted_on_never_falls n = grind (arith, nat_tests)

counted_on_rises : (n : ℕ) → Rose n (counted_on n)
counted_on_rises n = λ room. grind (arith, nat_tests)

-- the count of faults over a call
counted : (call : Call) (noted : Bool) (disk : DiskState)
    → IsCounted (noted && has_passed call) (memory_device disk).faults (memory_device (after_make noted call disk)).faults
counted call true disk = counted_by_answer (has_passed call) _ disk.starved _ (sum_by_push (λ x. cond (has_failed x) 1 0) disk.past.calls call)
counted call false disk = record {
  never_falls = omega (arith, counted_on_never_falls disk.starved);
  stays = λ wrong. cc;
  rises = λ _ room. omega (arith, counted_on_rises disk.starved (omega arith));
}

one_moment : (call : Call) (noted : Bool) (old : DiskState)
    → length (after_make noted call old).past.calls ≤ length old.past.calls + 1
one_moment call true old = omega (arith, length-append old.past.calls (call ∷ []))
one_moment call false old = omega arith

pub disk_call : (call : Call) (old new : DiskState) (ok : Bool) → MakesCall call old new ok → DiskCall (step_of call) ok (memory_device old) (memory_device new)
disk_call call old new ok made = rw (made.after, made.answer) (record {
  same = same_device call made.noted old;
  link = elim made.noted as (λ noted. (memory_device (after_make noted call old)).link ≡ (memory_device old).link) [ true ↦ refl | false ↦ refl ];
  counted = counted call made.noted old;
  time = elapses call made.noted old;
  one_moment = one_moment call made.noted old;
})

fails_as_listed : (call : Call) (noted : Bool) (disk : DiskState) → (IsFalse (has_passed call) ↔ Contains disk.fail (next_number disk))
    → FailsAsListed (next_number disk) disk.fail disk.starved (after_make noted call disk).starved (noted && has_passed call)
fails_as_listed call true disk listed =
    record { never_falls = omega arith; listed = listed.1; starved = λ rose. absurd (omega arith); only = λ failed. inl (listed.0 failed) }
fails_as_listed call false disk listed =
    record { never_falls = counted_on_never_falls disk.starved; listed = λ _. refl; starved = λ _. refl; only = λ _. inr (counted_on_rises disk.starved) }

-- a call passed by what its entry says
passed_of : (asked : DiskRequest) (passed : Bool) → has_passed (call_of asked passed) ≡ passed
passed_of (ReadAt at n) passed = refl
passed_of (WriteAt at bytes) passed = refl
passed_of SyncAll passed = refl

called : (asked : DiskRequest) (passed noted : Bool) (disk : DiskState) → (IsFalse (has_passed (call_of asked passed)) ↔ Contains disk.fail (next_number disk))
    → DiskCalled asked disk (after_make noted (call_of asked passed) disk) (noted && has_passed (call_of asked passed))
called asked passed true disk listed = record {
  fails = fails_as_listed (call_of asked passed) true disk listed;
  fail = refl;
  past = inr (rw passed_of refl);
}
called asked passed false disk listed = record {
  fails = fails_as_listed (call_of asked passed) false disk listed;
  fail = refl;
  past = inl (record { past = refl; rose = counted_on_rises disk.starved });
}

pub disk_called : (asked : DiskRequest) (passed : Bool) (old new : DiskState) (ok : Bool) → MakesCall (call_of asked passed) old new ok
    → DiskCalled asked old new ok
disk_called asked passed old new ok made = rw (made.after, made.answer) (called asked passed made.noted old made.listed)

pub on_ok : {T E P : Type 0} (r : Result T E) → (is_ok r ≡ true → P) → OnOk r P
on_ok (Ok value) holds = holds refl
on_ok (Err error) holds = tt

-- a call that leaves the bytes leaves them, noted or starved
quiet_seen : (call : Call) (noted : Bool) (disk : DiskState) → IsQuiet call → seen_of (after_make noted call disk).past ≡ seen_of disk.past
quiet_seen call true disk quiet = rw seen_after-push (quiet (seen_of disk.past))
quiet_seen call false disk quiet = refl

pub same_seen : (call : Call) (old new : DiskState) (ok : Bool) → IsQuiet call → MakesCall call old new ok → seen_of new.past ≡ seen_of old.past
same_seen call old new ok quiet made = rw made.after (quiet_seen call made.noted old quiet)

-- after a sync that passed, a crash leaves what a read gives
synced : (noted passed : Bool) (disk : DiskState) → (noted && passed) ≡ true
    → LeavesOnly (seen_of disk.past) (memory_device (after_make noted (Sync passed) disk))
synced true true disk ok = λ p left.
    let call = Sync true in
    let after : LeavesAt (with_call call disk.past) (length (disk.past.calls ++ call ∷ [])) p.image =
    subst (λ n. LeavesAt (with_call call disk.past) n p.image) (omega (arith, left.later, left.within)) left.image in
    subst (λ F. F p.image) (left_after-push disk.past.calls call disk.past.first (λ i. i ≡ disk.past.first))
    (subst (λ T. T) (leaves_at_last (with_call call disk.past) p.image) after)
synced true false disk wrong = cc
synced false passed disk wrong = cc

pub durable : (passed : Bool) (old new : DiskState) (ok : Bool) → MakesCall (Sync passed) old new ok → ok ≡ true
    → LeavesOnly (seen_of new.past) (memory_device new)
durable passed old new ok made passes =
    rw (same_seen (Sync passed) old new ok (λ _. refl) made, made.after) (synced made.noted passed old (cc))

-- a write that passed wrote all its bytes
wrote : (at : ℕ) (bytes : List ℕ) (noted passed : Bool) (disk : DiskState) → at + length bytes ≤ length (seen_of disk.past) → (noted && passed) ≡ true
    → seen_of (after_make noted (Write at bytes passed) disk).past ≡ overwritten at bytes (seen_of disk.past)
wrote at bytes true true disk fits ok = seen_after-write disk.past.calls at bytes true disk.past.first (seen_of disk.past) refl fits
wrote at bytes true false disk fits wrong = cc
wrote at bytes false passed disk fits wrong = cc

pub written : (at : ℕ) (bytes : List ℕ) (passed : Bool) (old new : DiskState) (ok : Bool) → at + length bytes ≤ length (seen_of old.past)
    → MakesCall (Write at bytes passed) old new ok → ok ≡ true → seen_of new.past ≡ overwritten at bytes (seen_of old.past)
written at bytes passed old new ok fits made passes = rw made.after (wrote at bytes made.noted passed old fits (cc))

-- in any case it wrote nothing elsewhere
wrote_within : (at : ℕ) (bytes : List ℕ) (noted passed : Bool) (disk : DiskState)
    → Torn at (length bytes) (seen_of disk.past) (seen_of (after_make noted (Write at bytes passed) disk).past)
wrote_within at bytes true passed disk =
    rw seen_after-push (torn-put_over at (length bytes) (kept_bytes passed bytes) (seen_of disk.past) (length-kept_bytes passed bytes))
wrote_within at bytes false passed disk = torn_itself at (length bytes) (seen_of disk.past)

pub torn : (at : ℕ) (bytes : List ℕ) (passed : Bool) (old new : DiskState) (ok : Bool) → MakesCall (Write at bytes passed) old new ok
    → Torn at (length bytes) (seen_of old.past) (seen_of new.past)
torn at bytes passed old new ok made = rw made.after (wrote_within at bytes made.noted passed old)
