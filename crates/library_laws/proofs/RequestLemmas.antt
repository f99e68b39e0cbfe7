-- Delete requests stay good where their flows stay and no later segment comes, and too many done ones go.
use Rattle.std.proofs.Common.{◌≡◌, inl, inr, suc, ◌≤◌, Bool, true, false, not, ◌&&◌, ◌||◌, cond, List, [], ◌∷◌, map, filter, length, refl, ap, arith}
use Rattle.std.specs.Prelude.{nat_le}
use Rattle.std.proofs.lemmas.Bool.{and_parts, and_from, leb-false, false≢true}
use Rattle.media_rows.specs.declared.flow.FlowRow.{FlowRow}
use Rattle.media_rows.specs.declared.request.DeleteRow.{DeleteRow}
use Rattle.media_rows.specs.declared.segment.SegmentRow.{SegmentRow}
use Rattle.media_rows.specs.Collections.{is_kept}
use Rattle.media_rows.specs.Good.{is_request_good, is_after_segments}
use Rattle.media_rows.specs.Ranges.{is_eternity}
use Rattle.media_rows.specs.Requests.{is_done, is_unfinished, done_count, done_kept, newest_done}
use Rattle.library_laws.proofs.ListLemmas.{In}
use Rattle.library_laws.proofs.KeptLemmas.{Sub, Sub-more}

request_step : (unfinished deletes kept kept₂ whole after after₂ : Bool) → (unfinished ≡ true → kept ≡ true → kept₂ ≡ true)
    → (unfinished ≡ true → deletes ≡ true → after ≡ true → after₂ ≡ true)
    → (not unfinished || (kept && (not deletes || (whole && after)))) ≡ true → (not unfinished || (kept₂ && (not deletes || (whole && after₂)))) ≡ true
request_step false deletes kept kept₂ whole after after₂ stays later e = refl
request_step true false kept kept₂ whole after after₂ stays later e = let p = and_parts kept true e in and_from kept₂ true (stays refl p.0) refl
request_step true true kept kept₂ whole after after₂ stays later e =
    let p = and_parts kept (whole && after) e in
    let q = and_parts whole after p.1 in
    and_from kept₂ (whole && after₂) (stays refl p.0) (and_from whole after₂ q.0 (later refl refl q.1))

-- an unfinished request's flow stays, and for one that deletes it no later segment comes
pub request_stays_good : (flows flows₂ : List FlowRow) (segments segments₂ : List SegmentRow) (row : DeleteRow)
    → (is_unfinished row ≡ true → is_kept flows row.flow ≡ true → is_kept flows₂ row.flow ≡ true)
    → (is_unfinished row ≡ true → row.delete_flow ≡ true → is_after_segments segments row ≡ true → is_after_segments segments₂ row ≡ true)
    → is_request_good flows segments row ≡ true → is_request_good flows₂ segments₂ row ≡ true
request_stays_good flows flows₂ segments segments₂ row kept after e =
    request_step (is_unfinished row) row.delete_flow (is_kept flows row.flow) (is_kept flows₂ row.flow) (is_eternity row.range) (is_after_segments segments row)
    (is_after_segments segments₂ row) kept after e

-- what a good unfinished request tells
pub record Unfinished (flows : List FlowRow) (segments : List SegmentRow) (row : DeleteRow) : Type 0 where
  pub kept : is_kept flows row.flow ≡ true
  pub whole : row.delete_flow ≡ true → (is_eternity row.range ≡ true) × (is_after_segments segments row ≡ true)

told_step : (unfinished deletes kept whole after : Bool) → unfinished ≡ true → (not unfinished || (kept && (not deletes || (whole && after)))) ≡ true
    → (kept ≡ true) × (deletes ≡ true → (whole ≡ true) × (after ≡ true))
told_step false deletes kept whole after u e = absurd (false≢true u)
told_step true false kept whole after u e = ((and_parts kept true e).0, λ d. absurd (false≢true d))
told_step true true kept whole after u e = let p = and_parts kept (whole && after) e in (p.0, λ d. and_parts whole after p.1)

pub unfinished_told : (flows : List FlowRow) (segments : List SegmentRow) (row : DeleteRow) → is_unfinished row ≡ true → is_request_good flows segments row
    ≡ true → Unfinished flows segments row
unfinished_told flows segments row u e =
    let t = told_step (is_unfinished row) row.delete_flow (is_kept flows row.flow) (is_eternity row.range) (is_after_segments segments row) u e in
    record { kept = t.0; whole = t.1 }

-- ---- too many done requests

newest_step : (b : Bool) (row : DeleteRow) (rest later : List DeleteRow) → Sub (map (λ r. r.serial) rest) (map (λ r. r.serial) later)
    → Sub (map (λ (r : DeleteRow). r.serial) (cond b rest (row ∷ rest))) (row.serial ∷ map (λ r. r.serial) later)
newest_step true row rest later h = Sub-more (map (λ r. r.serial) rest) row.serial (map (λ r. r.serial) later) h
newest_step false row rest later h = inl (refl, h)

pub Sub-newest : (rows : List DeleteRow) → Sub (map (λ r. r.serial) (newest_done rows)) (map (λ r. r.serial) rows)
Sub-newest [] = tt
Sub-newest (row ∷ later) = newest_step (is_done row.status && nat_le done_kept (done_count later)) row (newest_done later) later (Sub-newest later)

In-newest_step : (b : Bool) (row x : DeleteRow) (rest later : List DeleteRow) → In x (cond b rest (row ∷ rest)) → (In x rest → In x later) → In x (row ∷ later)
In-newest_step true row x rest later h k = inr (k h)
In-newest_step false row x rest later (inl same) k = inl same
In-newest_step false row x rest later (inr more) k = inr (k more)

pub In-newest : (rows : List DeleteRow) (x : DeleteRow) → In x (newest_done rows) → In x rows
In-newest [] x h = absurd h
In-newest (row ∷ later) x h = In-newest_step (is_done row.status && nat_le done_kept (done_count later)) row x (newest_done later) later h (In-newest later x)

count_step : (done full : Bool) (row : DeleteRow) (rest later : List DeleteRow) → done_count rest ≤ done_count later → done_count rest ≤ 64
    → (full ≡ false → done_count later ≤ 63) → is_done row.status ≡ done
    → (done_count (cond (done && full) rest (row ∷ rest)) ≤ length
    (cond done (row ∷ filter (λ r. is_done r.status) later) (filter (λ r. is_done r.status) later)))
    × (done_count (cond (done && full) rest (row ∷ rest)) ≤ 64)
count_step true true row rest later less most room e = (omega arith, most)
count_step true false row rest later less most room e =
    let counted : done_count (row ∷ rest) ≡ suc (done_count rest) = ap
    (λ b. length (cond b (row ∷ filter (λ r. is_done r.status) rest) (filter (λ r. is_done r.status) rest))) e in
    let some = room refl in (omega arith, omega arith)
count_step false full row rest later less most room e =
    let counted : done_count (row ∷ rest) ≡ done_count rest = ap
    (λ b. length (cond b (row ∷ filter (λ r. is_done r.status) rest) (filter (λ r. is_done r.status) rest))) e in
    (omega arith, omega arith)

newest_counts : (rows : List DeleteRow) → (done_count (newest_done rows) ≤ done_count rows) × (done_count (newest_done rows) ≤ 64)
newest_counts [] = (omega arith, omega arith)
newest_counts (row ∷ later) =
    let rest = newest_counts later in
    count_step (is_done row.status) (nat_le done_kept (done_count later)) row (newest_done later) later rest.0 rest.1
    (λ f. let l = leb-false 64 (done_count later) f in omega arith) refl

-- so many done requests are left at most
pub newest_few : (rows : List DeleteRow) → done_count (newest_done rows) ≤ 64
newest_few rows = (newest_counts rows).1
