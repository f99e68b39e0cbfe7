-- The done requests that are kept.
use Rattle.std.proofs.Common.{◌≡◌, ℕ, suc, ◌≤◌, ◌<◌, nat_le, Bool, true, false, ◌&&◌, cond, if◌then◌else◌, List, [], ◌∷◌, filter, length, refl, ap, arith}
use Rattle.std.proofs.lemmas.Bool.Decides.{nat_tests}
use Rattle.media_rows.specs.declared.request.DeleteRow.{DeleteRow}
use Rattle.media_rows.specs.Requests.{done_count, done_kept, is_done, newest_done}
use Rattle.delete_work.specs.Within.Keeping.{without_first_done}

few : (n : ℕ) → n < 64 → nat_le done_kept n ≡ false
few n lt = by (nat_le 64 n) refl
  where
    by : (t : Bool) → nat_le 64 n ≡ t → nat_le 64 n ≡ false
    by true e = absurd (grind (arith, nat_tests))
    by false e = e

many : (n : ℕ) → 64 ≤ n → nat_le done_kept n ≡ true
many n le = by (nat_le 64 n) refl
  where
    by : (t : Bool) → nat_le 64 n ≡ t → nat_le 64 n ≡ true
    by true e = e
    by false e = absurd (grind (arith, nat_tests))

pub newest_few : (rows : List DeleteRow) → done_count rows ≤ 64 → newest_done rows ≡ rows
newest_few [] le = refl
newest_few (row ∷ later) le = by (is_done row.status) le (newest_few later)
  where
    by : (t : Bool) → length (cond t (row ∷ filter (λ r. is_done r.status) later) (filter (λ r. is_done r.status) later)) ≤ 64
        → (done_count later ≤ 64 → newest_done later ≡ later)
        → (if t && nat_le done_kept (done_count later) then newest_done later else row ∷ newest_done later) ≡ row ∷ later
    by true f ih =
        let more : suc (done_count later) ≤ 64 = f in
        rw (few (done_count later) (omega (arith, more))) (ap (λ l. row ∷ l) (ih (omega (arith, more))))
    by false f ih = ap (λ l. row ∷ l) (ih f)

pub newest_less : (rows : List DeleteRow) → 65 ≤ done_count rows → newest_done (without_first_done rows) ≡ newest_done rows
newest_less [] le = absurd (omega (arith, le))
newest_less (row ∷ later) le = by (is_done row.status) refl le (newest_less later)
  where
    by : (t : Bool) → is_done row.status ≡ t
        → 65 ≤ length (cond t (row ∷ filter (λ r. is_done r.status) later) (filter (λ r. is_done r.status) later))
        → (65 ≤ done_count later → newest_done (without_first_done later) ≡ newest_done later)
        → newest_done (if t then later else row ∷ without_first_done later)
        ≡ (if t && nat_le done_kept (done_count later) then newest_done later else row ∷ newest_done later)
    by true e f ih =
        let more : 65 ≤ suc (done_count later) = f in
        rw (many (done_count later) (omega (arith, more))) refl
    by false e f ih = rw e (ap (λ l. row ∷ l) (ih f))

pub one_fewer : (rows : List DeleteRow) → 1 ≤ done_count rows → length (without_first_done rows) < length rows
one_fewer [] le = absurd (omega (arith, le))
one_fewer (row ∷ later) le = by (is_done row.status) le (one_fewer later)
  where
    by : (t : Bool) → 1 ≤ length (cond t (row ∷ filter (λ r. is_done r.status) later) (filter (λ r. is_done r.status) later))
        → (1 ≤ done_count later → length (without_first_done later) < length later)
        → length (if t then later else row ∷ without_first_done later) < suc (length later)
    by true f ih = omega arith
    by false f ih = let less = ih f in omega (arith, less)
