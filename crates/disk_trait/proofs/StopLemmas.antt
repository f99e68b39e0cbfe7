-- The image of a stop within a call.
use Rattle.std.proofs.Common.{◌≡◌, ◌<◌, ◌≤◌, ◌+◌, ◌++◌, ◌∷◌, [], ◌∙◌, ℕ, zero, suc, true, false, List, Some, Result, Ok, Err, length, take, get_or, refl, sym, ap, subst, arith, add-one, length-take}
use Rattle.std.specs.Prelude.{IfOk, IsSomeAnd, option_map, slice_get}
use Rattle.std.proofs.lemmas.List.{get_or_default, take_more}
use Rattle.disk_trait.specs.History.{IsReplayed, Past, length_of, range_end, range_length, seen_after, seen_after_call, stopped, stopped_within}
use Rattle.disk_trait.specs.MemoryDisk.{LeavesAt, left_after, left_after_call}
use Rattle.disk_trait.specs.MemoryDiskLaws.{itself_after, length-seen_after, torn-put_over}
use Rattle.disk_trait.specs.declared.history.Call.{Call}
use Rattle.disk_trait.specs.declared.history.Call.TheVariants.{Read, Write, Sync}
use Rattle.disk_trait.proofs.HistoryLemmas.{seen_after-push, left_after-push}

-- so many calls, and one more
pub seen_after_more : (calls : List Call) (n : ℕ) (call : Call) (image : List ℕ) → n < length calls → call ≡ get_or calls n call
    → seen_after (take (n + 1) calls) image ≡ seen_after_call call (seen_after (take n calls) image)
seen_after_more calls n call image within at =
    ap (λ cs. seen_after cs image) (take_more calls n call within ∙ ap (λ c. take n calls ++ c ∷ []) (sym at)) ∙ seen_after-push (take n calls) call image

-- an element by its place
slice_get_at : (calls : List Call) (n : ℕ) (call : Call) → n < length calls → call ≡ get_or calls n call → slice_get calls n ≡ Some call
slice_get_at [] n call within at = absurd (omega (arith, within))
slice_get_at (c ∷ calls) zero call within at = ap Some (sym at)
slice_get_at (c ∷ calls) (suc n) call within at = slice_get_at calls n call (omega (arith, within)) at

made_in : (calls : List Call) (n : ℕ) (P : ℕ → Type 0) → IsSomeAnd (option_map length_of (slice_get calls n)) P → n < length calls
made_in [] n P made = absurd made
made_in (c ∷ calls) zero P made = omega arith
made_in (c ∷ calls) (suc n) P made = omega (arith, made_in calls n P made)

pub made_within : (past : Past) (call kept : ℕ) → IsSomeAnd (range_length past call) (λ n. kept ≤ n) → (0 < call) × (call ≤ length past.calls)
made_within past zero kept made = absurd made
made_within past (suc n) kept made = let within = made_in past.calls n (λ n. kept ≤ n) made in (omega arith, omega (arith, within))

pub stopped_is : (past : Past) (n kept : ℕ) (call : Call) → n < length past.calls → call ≡ get_or past.calls n call
    → stopped past (n + 1) kept ≡ stopped_within kept call (seen_after (take n past.calls) past.first)
stopped_is past n kept call within at = rw (add-one, slice_get_at past.calls n call within at) refl

pub length_is : (past : Past) (n kept : ℕ) (call : Call) → n < length past.calls → call ≡ get_or past.calls n call
    → IsSomeAnd (range_length past (n + 1)) (λ length. kept ≤ length) → kept ≤ length_of call
length_is past n kept call within at made = rw (add-one, slice_get_at past.calls n call within at) at made

-- a stop within a call leaves one of the images of that call
stopped_after_call : (call : Call) (kept : ℕ) (seen : List ℕ) (left : List ℕ → Type 0) → kept ≤ length_of call → left seen
    → left_after_call call seen left (stopped_within kept call seen)
stopped_after_call (Read at n passed) kept seen left short now = now
stopped_after_call (Write at bytes passed) kept seen left short now =
    (seen, now, torn-put_over at (length bytes) (take kept bytes) seen (omega (arith, length-take kept bytes)))
stopped_after_call (Sync true) kept seen left short now = refl
stopped_after_call (Sync false) kept seen left short now = now

stopped_leaves_at : (past : Past) (n kept : ℕ) (call : Call) → n < length past.calls → call ≡ get_or past.calls n call → kept ≤ length_of call
    → LeavesAt past (n + 1) (stopped past (n + 1) kept)
stopped_leaves_at past n kept call within at short =
    let first : List ℕ → Type 0 = λ image. image ≡ past.first in
    let before = take n past.calls in
    let here =
    stopped_after_call call kept (seen_after before past.first) (left_after before past.first first) short (itself_after before past.first first refl) in
    let calls : take (n + 1) past.calls ≡ before ++ call ∷ [] = take_more past.calls n call within ∙ ap (λ c. before ++ c ∷ []) (sym at) in
    rw (stopped_is past n kept call within at, calls, left_after-push) here

pub stopped_leaves : (past : Past) (call kept : ℕ) → IsSomeAnd (range_length past call) (λ length. kept ≤ length) → LeavesAt past call (stopped past call kept)
stopped_leaves past zero kept made = absurd made
stopped_leaves past (suc n) kept made =
    let within : n < length past.calls = made_in past.calls n (λ length. kept ≤ length) made in
    let call = get_or past.calls n (Sync true) in
    let at : call ≡ get_or past.calls n call = get_or_default past.calls n (Sync true) call within in
    let same : n + 1 ≡ suc n = omega arith in
    let short = length_is past n kept call within at (subst (λ m. IsSomeAnd (range_length past m) (λ length. kept ≤ length)) (sym same) made) in
    subst (λ m. LeavesAt past m (stopped past m kept)) same (stopped_leaves_at past n kept call within at short)

-- what holds of a value holds of a result that is that value
pub if_ok_is : {T E : Type 0} (r : Result T E) (P : T → Type 0) (value : T) → IfOk r (λ x. x ≡ value) → P value → IfOk r P
if_ok_is (Ok x) P value is holds = subst P (sym is) holds
if_ok_is (Err e) P value is holds = tt

pub replayed_length : (past : Past) (bytes : List ℕ) → IsReplayed past bytes → length bytes ≡ length past.first
replayed_length past bytes kept = ap length (sym kept.seen) ∙ length-seen_after past.calls past.first

-- a call lies within what the calls before it made
pub stop_fits : (past : Past) (bytes image : List ℕ) (n : ℕ) (call : Call) → IsReplayed past bytes → n < length past.calls → call ≡ get_or past.calls n call
    → image ≡ seen_after (take n past.calls) past.first → range_end call ≤ length image
stop_fits past bytes image n call kept within at is =
    let ends : range_end call ≤ length bytes = subst (λ c. range_end c ≤ length bytes) (sym at) (kept.within n call within) in
    rw (is, length-seen_after, ← replayed_length past bytes kept) ends
