-- The lines of durations: what they consist of, and that each gives one duration alone.
use Rattle.std.proofs.Common.{◌≡◌, ◌<◌, ◌≤◌, ◌+◌, ◌-◌, ◌/◌, ◌%◌, ◌^◌, ◌∙◌, ◌++◌, ℕ, List, length, get_or, take, drop, refl, ap, sym, subst, arith, append_assoc, length-append}
use Rattle.std.specs.Prelude.{codes}
use Rattle.std.specs.Fmt.{decimal}
use Rattle.std.proofs.lemmas.Fmt.{decimal_injective}
use Rattle.std.proofs.lemmas.List.{append_cancel_left, append_cancel_right, drop_at, take_at}
use Rattle.hls_manifest.specs.Playlists.{IsLine, duration_text, last_digits, longest}
use Rattle.hls_manifest.specs.Progress.{IsNumberOrZero, timing}
use Rattle.hls_manifest.proofs.LineLemmas.{line_append, plain_line}
use Rattle.hls_manifest.proofs.NumberLemmas.{decimal_line, digits_line, length-last_digits, same_digits}

-- the two parts of a duration, and that there is room for the second one
pub record HasParts (text : List ℕ) (nanos : ℕ) : Type 0 where
  pub long : 9 < length text
  pub seconds : take (length text - 9 - 1) text ≡ decimal (nanos / 10 ^ 9)
  pub fraction : drop (length text - 9 - 1) text ≡ codes "." ++ last_digits 9 (nanos % 10 ^ 9)

-- a duration, by a list of its digits
parts_with : (text front digits : List ℕ) → length digits ≡ 9
    → text ≡ (front ++ codes ".") ++ digits
    → (9 < length text) × (take (length text - 9 - 1) text ≡ front) ×
    (drop (length text - 9 - 1) text ≡ codes "." ++ digits)
parts_with text front digits nine e =
    let grouped : text ≡ front ++ (codes "." ++ digits) = e
    ∙ append_assoc front (codes ".") digits in
    let size : length text ≡ length front + 10 = ap length grouped
    ∙ length-append front (codes "." ++ digits) ∙ omega (arith, nine) in
    let at : length front ≡ length text - 9 - 1 = omega arith in (
      omega arith,
      ap (λ t. take (length text - 9 - 1) t) grouped
          ∙ take_at front (codes "." ++ digits) (length text - 9 - 1) at,
      ap (λ t. drop (length text - 9 - 1) t) grouped
          ∙ drop_at front (codes "." ++ digits) (length text - 9 - 1) at,
    )

pub duration_parts : (text : List ℕ) (nanos : ℕ) → text ≡ duration_text nanos → HasParts text nanos
duration_parts text nanos e =
    let parts = parts_with text (decimal (nanos / 10 ^ 9)) (last_digits 9 (nanos % 10 ^ 9))
    (length-last_digits 9 (nanos % 10 ^ 9)) e in
    record { long = parts.0; seconds = parts.1; fraction = parts.2 }

-- its seconds
pub duration_seconds : (text seconds : List ℕ) (nanos : ℕ)
    → seconds ≡ take (length text - 9 - 1) text → nanos / 10 ^ 9 < 2 ^ 64
    → text ≡ duration_text nanos → IsNumberOrZero seconds (nanos / 10 ^ 9)
duration_seconds text seconds nanos front fits e =
    let parts = duration_parts text nanos e in
    record { text = front ∙ parts.seconds; most = fits }

-- its point, and what stands behind that
pub duration_fraction : (text fraction : List ℕ) (nanos : ℕ)
    → fraction ≡ drop (length text - 9 - 1) text
    → text ≡ duration_text nanos → fraction ≡ codes "." ++ last_digits 9 (nanos % 10 ^ 9)
duration_fraction text fraction nanos back e =
    let parts = duration_parts text nanos e in
    back ∙ parts.fraction

-- its digits
pub duration_digits : (text fraction digits : List ℕ) (nanos : ℕ)
    → fraction ≡ drop (length text - 9 - 1) text → fraction ≡ codes "." ++ digits
    → text ≡ duration_text nanos → digits ≡ last_digits (length digits) (nanos % 10 ^ 9)
duration_digits text fraction digits nanos back point e =
    let same : digits ≡ last_digits 9 (nanos % 10 ^ 9) =
    append_cancel_left (codes ".") digits (last_digits 9 (nanos % 10 ^ 9))
    (sym point ∙ duration_fraction text fraction nanos back e) in
    let nine : length digits ≡ 9 = ap length same ∙ length-last_digits 9 (nanos % 10 ^ 9) in
    same ∙ ap (λ k. last_digits k (nanos % 10 ^ 9)) (sym nine)

-- a duration line from its parts
pub timing_found : (line rest text : List ℕ) (nanos : ℕ) → line ≡ codes "#EXTINF:" ++ rest
    → rest ≡ text ++ codes "," → text ≡ duration_text nanos
    → line ≡ timing nanos
unfolding timing
timing_found line rest text nanos front back is =
    front ∙ ap (λ r. codes "#EXTINF:" ++ r) (back ∙ ap (λ t. t ++ codes ",") is)
    ∙ sym (append_assoc (codes "#EXTINF:") (duration_text nanos) (codes ","))

-- and its parts
pub timing_front : (line : List ℕ) (nanos : ℕ) → line ≡ timing nanos
    → line ≡ codes "#EXTINF:" ++ (duration_text nanos ++ codes ",")
unfolding timing
timing_front line nanos e = e ∙ append_assoc (codes "#EXTINF:") (duration_text nanos) (codes ",")

-- what stands behind its tag
pub timing_rest : (line rest : List ℕ) (nanos : ℕ) → line ≡ codes "#EXTINF:" ++ rest
    → line ≡ timing nanos → rest ≡ duration_text nanos ++ codes ","
timing_rest line rest nanos front e =
    append_cancel_left (codes "#EXTINF:") rest (duration_text nanos ++ codes ",")
    (sym front ∙ timing_front line nanos e)

-- and its duration
pub timing_text : (line rest text : List ℕ) (nanos : ℕ) → line ≡ codes "#EXTINF:" ++ rest
    → rest ≡ text ++ codes "," → line ≡ timing nanos
    → text ≡ duration_text nanos
timing_text line rest text nanos front back e =
    append_cancel_right text (duration_text nanos) (codes ",")
    (sym back ∙ timing_rest line rest nanos front e)

-- one duration has one text
same_duration : (m n : ℕ) → m / 10 ^ 9 < 2 ^ 64 → n / 10 ^ 9 < 2 ^ 64
    → duration_text m ≡ duration_text n → m ≡ n
same_duration m n fits_m fits_n e =
    let a = duration_parts (duration_text m) m refl in
    let b = duration_parts (duration_text m) n e in
    let seconds : m / 10 ^ 9 ≡ n / 10 ^ 9 =
    decimal_injective (m / 10 ^ 9) (n / 10 ^ 9) fits_m fits_n (sym a.seconds ∙ b.seconds) in
    let digits : last_digits 9 (m % 10 ^ 9) ≡ last_digits 9 (n % 10 ^ 9) =
    append_cancel_left (codes ".") (last_digits 9 (m % 10 ^ 9)) (last_digits 9 (n % 10 ^ 9))
    (sym a.fraction ∙ b.fraction) in
    let nanos : m % 10 ^ 9 ≡ n % 10 ^ 9 =
    same_digits 9 (m % 10 ^ 9) (n % 10 ^ 9) (omega arith) (omega arith) digits in
    omega arith

-- one duration has one line
pub same_timing : (m n : ℕ) → m / 10 ^ 9 < 2 ^ 64 → n / 10 ^ 9 < 2 ^ 64 → timing m ≡ timing n
    → m ≡ n
same_timing m n fits_m fits_n e =
    let rest = append_cancel_left (codes "#EXTINF:") (duration_text m ++ codes ",")
    (duration_text n ++ codes ",")
    (sym (timing_front (timing m) m refl) ∙ e ∙ timing_front (timing n) n refl) in
    same_duration m n fits_m fits_n
    (append_cancel_right (duration_text m) (duration_text n) (codes ",") rest)

-- the longest durations have whole seconds of 64 bits
pub seconds_fit : (nanos : ℕ) → nanos ≤ longest → nanos / 10 ^ 9 < 2 ^ 64
seconds_fit nanos within = omega arith

-- a duration's line begins as no other tag
pub timing_at : (nanos : ℕ) → get_or (timing nanos) 4 0 ≡ 73
timing_at nanos = ap (λ t. get_or t 4 0) (timing_front (timing nanos) nanos refl)

-- it has no line feed
pub timing_line : (nanos : ℕ) → nanos ≤ longest → IsLine (timing nanos)
timing_line nanos within =
    let front = plain_line (codes "#EXTINF:") refl in
    let point = plain_line (codes ".") refl in
    let end = plain_line (codes ",") refl in
    let seconds = decimal_line (nanos / 10 ^ 9) (seconds_fit nanos within) in
    let duration =
    line_append (decimal (nanos / 10 ^ 9) ++ codes ".") (last_digits 9 (nanos % 10 ^ 9))
    (line_append (decimal (nanos / 10 ^ 9)) (codes ".") seconds point)
    (digits_line 9 (nanos % 10 ^ 9)) in
    subst IsLine (sym (timing_front (timing nanos) nanos refl))
    (line_append (codes "#EXTINF:") (duration_text nanos ++ codes ",") front
    (line_append (duration_text nanos) (codes ",") duration end))
