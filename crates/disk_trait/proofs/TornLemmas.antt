-- What a write that was cut short leaves before and behind its range, and one range within a wider one.
use Rattle.std.proofs.Common.{◌≡◌, ◌∙◌, ◌<◌, ◌+◌, ◌-◌, ◌≤◌, ℕ, List, length, take, drop, get_or, refl, sym, ap, arith, rules, zero-add}
use Rattle.std.proofs.lemmas.List.{drop-drop, places, same_lists}
use Rattle.disk_trait.specs.Calls.{Torn, bytes_at, overwritten}
use Rattle.disk_trait.proofs.OverwriteLemmas.{bytes_at-bytes_at, get_or-bytes_at}

-- a write that isn't cut short is one of the ways in which it may be cut short
pub torn-overwritten : (at : ℕ) (bytes image : List ℕ) → at + length bytes ≤ length image → Torn at (length bytes) image (overwritten at bytes image)
torn-overwritten at bytes image fits = record {
  before = same_lists _ _ (search (rules, places)) (λ k d h. grind (arith, places));
  after = same_lists _ _ (search (rules, places)) (λ k d h. grind (arith, places));
  same_length = search (rules, places);
}

-- an image that no write touched
pub torn_itself : (at n : ℕ) (image : List ℕ) → Torn at n image image
torn_itself at n image = record { before = refl; after = refl; same_length = refl }

-- images that are the same up to one place
module _ (image other : List ℕ) (to : ℕ) (same : take to other ≡ take to image) where
  pub bytes_kept : (i n : ℕ) → i + n ≤ to → bytes_at other i n ≡ bytes_at image i n
  bytes_kept i n h =
      rw zero-add at (sym (bytes_at-bytes_at other 0 to i n h) ∙ ap (λ text. bytes_at text i n) same ∙ bytes_at-bytes_at image 0 to i n h)

  pub byte_kept : (i : ℕ) → i < to → get_or other i 0 ≡ get_or image i 0
  byte_kept i h =
      rw zero-add at (sym (get_or-bytes_at other 0 to i 0 h) ∙ ap (λ text. get_or text i 0) same ∙ get_or-bytes_at image 0 to i 0 h)

module _ (at n : ℕ) (old new : List ℕ) (torn : Torn at n old new) where
  -- the bytes before the range, and those behind it, are as they were
  pub bytes_before : (i k : ℕ) → i + k ≤ at → bytes_at new i k ≡ bytes_at old i k
  bytes_before i k h = bytes_kept old new at torn.before i k h

  rest_behind : (i : ℕ) → at + n ≤ i → drop i new ≡ drop i old
  rest_behind i h =
      let more = i - (at + n) in
      let past : i ≡ at + n + more = omega arith in
      rw past (sym (drop-drop more (at + n) new) ∙ ap (drop more) torn.after ∙ drop-drop more (at + n) old)

  pub bytes_behind : (i k : ℕ) → at + n ≤ i → bytes_at new i k ≡ bytes_at old i k
  bytes_behind i k h = ap (take k) (rest_behind i h)

  -- what was cut short in a range was so in each wider one
  pub torn_wider : (from k : ℕ) → from ≤ at → at + n ≤ from + k → Torn from k old new
  torn_wider from k below above = record {
    before = bytes_kept old new at torn.before 0 from (omega arith);
    after = rest_behind (from + k) above;
    same_length = torn.same_length;
  }
