-- What a device in memory shows after one more call.
use Rattle.std.proofs.Common.{◌∙◌, ◌≡◌, ◌+◌, ◌≤◌, ◌∷◌, ◌++◌, [], ℕ, Bool, List, length, refl, arith, length-append, length-take, length-drop}
use Rattle.std.proofs.lemmas.List.{take_all}
use Rattle.disk_trait.specs.Calls.{overwritten}
use Rattle.disk_trait.specs.History.{Past, IsQuiet, IsReplayed, kept_bytes, put_over, range_end, seen_after, seen_after_call, seen_of, with_call}
use Rattle.std.proofs.lemmas.List.Elements.{All-push}
use Rattle.disk_trait.specs.MemoryDisk.{left_after, left_after_call}
use Rattle.disk_trait.specs.MemoryDiskLaws.{length-kept_bytes}
use Rattle.disk_trait.specs.declared.history.Call.{Call}
use Rattle.disk_trait.specs.declared.history.Call.TheVariants.{Write}

pub seen_after-push : (calls : List Call) (call : Call) (image : List ℕ) → seen_after (calls ++ call ∷ []) image ≡ seen_after_call call (seen_after calls image)
seen_after-push [] call image = refl
seen_after-push (earlier ∷ calls) call image = seen_after-push calls call (seen_after_call earlier image)

pub length-overwritten : (at : ℕ) (bytes image : List ℕ) → at + length bytes ≤ length image → length (overwritten at bytes image) ≡ length image
length-overwritten at bytes image fits = simp (length-append, length-take, length-drop) (omega arith)

-- a write within the image is whole
pub put_over-within : (at : ℕ) (bytes image : List ℕ) → at + length bytes ≤ length image → put_over at bytes image ≡ overwritten at bytes image
put_over-within at bytes image fits = take_all _ _ (omega (arith, length-overwritten at bytes image fits))

-- what a write within the image leaves
pub seen_after-write : (calls : List Call) (at : ℕ) (bytes : List ℕ) (passed : Bool) (first image : List ℕ) → seen_after calls first ≡ image
    → at + length bytes ≤ length image → seen_after (calls ++ Write at bytes passed ∷ []) first ≡ overwritten at (kept_bytes passed bytes) image
seen_after-write calls at bytes passed first image is fits =
    rw (seen_after-push, is) (put_over-within at (kept_bytes passed bytes) image (omega (arith, length-kept_bytes passed bytes)))

-- one more call that leaves the bytes
pub replayed_quiet : (past : Past) (bytes : List ℕ) (call : Call) → IsReplayed past bytes → IsQuiet call → range_end call ≤ length bytes
    → IsReplayed (with_call call past) bytes
replayed_quiet past bytes call kept quiet within = record {
  seen = seen_after-push past.calls call past.first ∙ (quiet (seen_of past) ∙ kept.seen);
  within = All-push (λ c. range_end c ≤ length bytes) past.calls call kept.within within;
}

-- one more write, within the bytes
pub replayed_write : (past : Past) (bytes : List ℕ) (at : ℕ) (handed : List ℕ) (passed : Bool) → IsReplayed past bytes → at + length handed ≤ length bytes
    → IsReplayed (with_call (Write at handed passed) past) (overwritten at (kept_bytes passed handed) bytes)
replayed_write past bytes at handed passed kept fits =
    let same : length (overwritten at (kept_bytes passed handed) bytes) ≡ length bytes =
    length-overwritten at (kept_bytes passed handed) bytes (omega (arith, length-kept_bytes passed handed)) in
    record {
      seen = seen_after-write past.calls at handed passed past.first bytes kept.seen fits;
      within = rw same (All-push (λ c. range_end c ≤ length bytes) past.calls (Write at handed passed) kept.within fits);
    }

pub left_after-push : (calls : List Call) (call : Call) (seen : List ℕ) (left : List ℕ → Type 0)
    → left_after (calls ++ call ∷ []) seen left ≡ left_after_call call (seen_after calls seen) (left_after calls seen left)
left_after-push [] call seen left = refl
left_after-push (earlier ∷ calls) call seen left = left_after-push calls call (seen_after_call earlier seen) (left_after_call earlier seen left)
