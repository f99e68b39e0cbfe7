-- The laws of a disk in memory: at every moment it means a device, as it reads it may be left, and
-- at first nothing is pending.
use Rattle.std.proofs.Common.{◌≡◌, ◌∙◌, ◌≤◌, ◌/◌, take, [], ◌∷◌, ℕ, Bool, true, false, List, length, refl, sym, ap, subst, arith, rules, length-append, length-take, length-drop}
use Rattle.std.proofs.lemmas.List.{places, same_lists, take_all, take-append-le}
use Rattle.disk_trait.specs.Device.{IsDevice}
use Rattle.disk_trait.specs.Calls.{Torn}
use Rattle.disk_trait.specs.History.{Past, put_over, kept_bytes, seen_after, seen_after_call, seen_of, with_call}
use Rattle.disk_trait.specs.MemoryDisk.{DiskState, LeavesAt, left_after, left_after_call, memory_device}
use Rattle.disk_trait.specs.declared.history.Call.{Call}
use Rattle.disk_trait.specs.declared.history.Call.TheVariants.{Read, Write, Sync}

-- a write keeps no more bytes than it was handed
pub length-kept_bytes : (passed : Bool) (bytes : List ℕ)
    → length (kept_bytes passed bytes) ≤ length bytes
length-kept_bytes true bytes = omega arith
length-kept_bytes false bytes = omega (arith, length-take (length bytes / 2) bytes)

-- an image keeps its length
pub length-put_over : (at : ℕ) (bytes image : List ℕ)
    → length (put_over at bytes image) ≡ length image
length-put_over at bytes image = simp (length-take, length-append, length-drop) (omega arith)

-- bytes that are written into a range, or a part of them, are one way to cut the write short
pub torn-put_over : (at n : ℕ) (bytes image : List ℕ) → length bytes ≤ n
    → Torn at n image (put_over at bytes image)
torn-put_over at n bytes image short = record {
  before = same_lists _ _ (search (rules, places)) (λ k d h. grind (arith, places));
  after = same_lists _ _ (search (rules, places)) (λ k d h. grind (arith, places));
  same_length = length-put_over at bytes image;
}

-- no call changes what a read gives in length
pub length-seen_after_call : (call : Call) (seen : List ℕ)
    → length (seen_after_call call seen) ≡ length seen
length-seen_after_call (Read at n passed) seen = refl
length-seen_after_call (Write at bytes passed) seen =
    length-put_over at (kept_bytes passed bytes) seen
length-seen_after_call (Sync passed) seen = refl

pub length-seen_after : (calls : List Call) (seen : List ℕ)
    → length (seen_after calls seen) ≡ length seen
length-seen_after [] seen = refl
length-seen_after (call ∷ later) seen =
    length-seen_after later (seen_after_call call seen) ∙ length-seen_after_call call seen

-- nor what a crash may leave
length-left_after_call : (call : Call) (seen : List ℕ) (left : List ℕ → Type 0)
    → ((i : List ℕ) → left i → length i ≡ length seen) → (image : List ℕ)
    → left_after_call call seen left image → length image ≡ length seen
length-left_after_call (Read at n passed) seen left sized image now = sized image now
length-left_after_call (Write at bytes passed) seen left sized image now =
    now.2.same_length ∙ sized now.0 now.1
length-left_after_call (Sync true) seen left sized image now = ap length now
length-left_after_call (Sync false) seen left sized image now = sized image now

length-left_after : (calls : List Call) (seen : List ℕ) (left : List ℕ → Type 0)
    → ((i : List ℕ) → left i → length i ≡ length seen) → (image : List ℕ)
    → left_after calls seen left image → length image ≡ length seen
length-left_after [] seen left sized image now = sized image now
length-left_after (call ∷ later) seen left sized image now =
    length-left_after later (seen_after_call call seen) (left_after_call call seen left)
    (λ i could. length-left_after_call call seen left sized i could ∙ sym
    (length-seen_after_call call seen)) image now ∙ length-seen_after_call call seen

pub length-leaves_at : (past : Past) (moment : ℕ) (image : List ℕ) → LeavesAt past moment image
    → length image ≡ length (seen_of past)
length-leaves_at past moment image now =
    length-left_after (take moment past.calls) past.first (λ i. i ≡ past.first)
    (λ i is. ap length is) image now ∙ sym (length-seen_after past.calls past.first)

-- a disk as it reads may be left, if it could before the call
itself_after_call : (call : Call) (seen : List ℕ) (left : List ℕ → Type 0) → left seen
    → left_after_call call seen left (seen_after_call call seen)
itself_after_call (Read at n passed) seen left now = now
itself_after_call (Write at bytes passed) seen left now = (
  seen,
  now,
  torn-put_over at (length bytes) (kept_bytes passed bytes) seen
      (length-kept_bytes passed bytes),
)
itself_after_call (Sync true) seen left now = refl
itself_after_call (Sync false) seen left now = now

-- the bytes that a read gives may be left after any calls
pub itself_after : (calls : List Call) (seen : List ℕ) (left : List ℕ → Type 0) → left seen
    → left_after calls seen left (seen_after calls seen)
itself_after [] seen left now = now
itself_after (call ∷ later) seen left now =
    itself_after later (seen_after_call call seen) (left_after_call call seen left)
    (itself_after_call call seen left now)

-- those at the last moment are those of all calls
pub leaves_at_last : (past : Past) (image : List ℕ)
    → LeavesAt past (length past.calls) image ≡ left_after past.calls past.first
    (λ i. i ≡ past.first) image
leaves_at_last past image =
    ap (λ calls. left_after calls past.first (λ i. i ≡ past.first) image)
    (take_all (length past.calls) past.calls (omega arith))

-- the images at an earlier moment stay what they were
pub leaves_at_more : (call : Call) (past : Past) (moment : ℕ) (image : List ℕ)
    → moment ≤ length past.calls
    → LeavesAt (with_call call past) moment image ≡ LeavesAt past moment image
leaves_at_more call past moment image within =
    ap (λ calls. left_after calls past.first (λ i. i ≡ past.first) image)
    (take-append-le moment past.calls (call ∷ []) within)

-- as it reads it may be left now
pub itself_at_last : (past : Past) → LeavesAt past (length past.calls) (seen_of past)
itself_at_last past =
    subst (λ T. T) (sym (leaves_at_last past (seen_of past)))
    (itself_after past.calls past.first (λ i. i ≡ past.first) refl)

-- a device in memory is a device
pub memory_device_is_sound : (disk : DiskState) → IsDevice (memory_device disk)
memory_device_is_sound disk = record {
  length = λ _. refl;
  images = λ _ t p left. length-leaves_at disk.past left.moment p.image left.image;
  earlier =
      λ t u p le within left. record {
        moment = left.moment;
        later = omega (arith, left.later);
        within = left.within;
        image = left.image;
        told = left.told;
      };
  itself = λ _. (
    [],
    record {
      moment = length disk.past.calls;
      later = omega arith;
      within = omega arith;
      image = itself_at_last disk.past;
      told = refl;
    },
  );
  told = λ _ _ p left. left.told;
}
