-- Parts of an image, and what an image has after a write.
use Rattle.std.proofs.Common.{◌≡◌, ◌<◌, ◌≤◌, ◌+◌, ℕ, List, ◌++◌, length, get_or, sym, ◌∙◌, arith, rules}
use Rattle.std.proofs.lemmas.List.{places, same_lists}
use Rattle.disk_trait.specs.Calls.{bytes_at, overwritten}

pub length-bytes_at : (image : List ℕ) (at n : ℕ) → at + n ≤ length image → length (bytes_at image at n) ≡ n
length-bytes_at image at n fits = search (rules, places)

-- a part in two
pub bytes_at-add : (image : List ℕ) (at m n : ℕ) → bytes_at image at (m + n) ≡ bytes_at image at m ++ bytes_at image (at + m) n
bytes_at-add image at m n = same_lists _ _ (search (rules, places)) (λ k d h. grind (arith, places))

-- a byte of a part
pub get_or-bytes_at : (image : List ℕ) (at n i d : ℕ) → i < n → get_or (bytes_at image at n) i d ≡ get_or image (at + i) d
get_or-bytes_at image at n i d h = grind (arith, places)

-- a part of a part
pub bytes_at-bytes_at : (image : List ℕ) (at m i n : ℕ) → i + n ≤ m → bytes_at (bytes_at image at m) i n ≡ bytes_at image (at + i) n
bytes_at-bytes_at image at m i n h = same_lists _ _ (search (rules, places)) (λ k d h. grind (arith, places))

-- parts of one length within their images, with the same bytes
same_parts : (image other : List ℕ) (at from n : ℕ) → at + n ≤ length image → from + n ≤ length other
    → ((i d : ℕ) → i < n → get_or image (at + i) d ≡ get_or other (from + i) d) → bytes_at image at n ≡ bytes_at other from n
same_parts image other at from n f g same =
    let l : length (bytes_at image at n) ≡ n = length-bytes_at image at n f in
    same_lists _ _ (l ∙ sym (length-bytes_at other from n g))
    (λ i d h. let lt : i < n = omega arith in get_or-bytes_at image at n i d lt ∙ same i d lt ∙ sym (get_or-bytes_at other from n i d lt))

module _ (at : ℕ) (bytes image : List ℕ) (fits : at + length bytes ≤ length image) where
  pub length-overwritten : length (overwritten at bytes image) ≡ length image
  length-overwritten = search (rules, places)

  -- what lies before or behind the write stays, and the bytes written are there
  pub get_or-before : (i d : ℕ) → i < at → get_or (overwritten at bytes image) i d ≡ get_or image i d
  get_or-before i d h = grind (arith, places)

  pub get_or-behind : (i d : ℕ) → at + length bytes ≤ i → get_or (overwritten at bytes image) i d ≡ get_or image i d
  get_or-behind i d h = grind (arith, places)

  pub get_or-written : (i d : ℕ) → i < length bytes → get_or (overwritten at bytes image) (at + i) d ≡ get_or bytes i d
  get_or-written i d h = grind (arith, places)

  -- the same of parts
  pub bytes_at-before : (from n : ℕ) → from + n ≤ at → bytes_at (overwritten at bytes image) from n ≡ bytes_at image from n
  bytes_at-before from n h =
      same_parts _ _ from from n (omega (arith, length-overwritten)) (omega arith) (λ i d lt. get_or-before (from + i) d (omega arith))

  pub bytes_at-behind : (from n : ℕ) → at + length bytes ≤ from → from + n ≤ length image → bytes_at (overwritten at bytes image) from n ≡ bytes_at image from n
  bytes_at-behind from n h within =
      same_parts _ _ from from n (omega (arith, length-overwritten)) within (λ i d lt. get_or-behind (from + i) d (omega arith))

  pub bytes_at-written : (i n : ℕ) → i + n ≤ length bytes → bytes_at (overwritten at bytes image) (at + i) n ≡ bytes_at bytes i n
  bytes_at-written i n h =
      same_parts _ _ (at + i) i n (omega (arith, length-overwritten)) h (λ k d lt. grind (arith, get_or-written (i + k) d))
