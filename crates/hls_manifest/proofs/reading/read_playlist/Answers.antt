use Rattle.std.proofs.Common.{◌≡◌, length, ap, refl, arith}
use Rattle.std.proofs.lemmas.Bool.Decides.{nat_tests}
use Rattle.hls_manifest.proofs.ReadingLemmas.{overlong, read_more, refused, room_behind, room_within, unfinished}
use Rattle.hls_manifest.proofs.reading.read_playlist.Goals as goal
use Rattle.hls_manifest.proofs.reading.read_playlist.Goals.{in_default-into_listing-via-in-Some-into_listing+else-is_whole, in_default-into_listing-via-in_default-into_listing}

-- There are no more lines than bytes.
pub overflow_add-result : goal.overflow_add-result
overflow_add-result c =
    let room = room_within c.args.text.now c.loop-line.rest.now c.in-Some.line.now
    c.in-Some.behind.now c.loop-line.before _ _ c.loop-line.invariant c.in-Some.ensures.found in
    omega arith

pub overflow_add-before : goal.overflow_add-before
overflow_add-before c =
    let room = room_within c.args.text.now c.loop-line.rest.now c.in-Some.line.now
    c.in-Some.behind.now c.loop-line.before _ _ c.loop-line.invariant c.in-Some.ensures.found in
    omega arith

-- The line may not follow.
pub returns-then-not-branch-clause-line : goal.returns-then-not-branch-clause-line
returns-then-not-branch-clause-line c =
    refused c.args.text.now c.loop-line.rest.now c.in-Some.line.now c.in-Some.behind.now
    c.loop-line.before _ _ c.loop-line.invariant c.in-Some.ensures.found
    (c.in_ok-read_line.ensures.refused c.if-not-branch.true)

-- The line is read.
pub loop-line-preserved : goal.loop-line-preserved
loop-line-preserved c =
    let taken = c.in_ok-read_line.ensures.taken c.if-not-branch.false in
    read_more c.args.text.now c.loop-line.rest.now c.in-Some.line.now c.in-Some.behind.now
    c.loop-line.before _ _ _ _ c.loop-line.invariant c.in-Some.ensures.found
    taken.1 taken.0

-- There are fewer lines than bytes, or none.
pub overflow_add-result-in_default-into_listing : goal.overflow_add-result-in_default-into_listing
overflow_add-result-in_default-into_listing c =
    let room = room_behind c.args.text.now c.loop-line.rest.now c.loop-line.before _ _
    c.loop-line.invariant (omega arith) in
    omega arith

-- Something stands behind the last line feed, or no listing has ended.
pub returns-in_default-into_listing-clause-line : goal.returns-in_default-into_listing-clause-line
returns-in_default-into_listing-clause-line c =
    let last = c.in_default.ensures.none refl in
    elim c.in_default-into_listing.branch [
      | in_default-into_listing-via-in-Some-into_listing+else-is_whole w ↦
          overlong c.args.text.now c.loop-line.rest.now c.loop-line.before _ _ c.loop-line.invariant
          last (λ e.
          let none : 0 ≡ length c.loop-line.rest.now = ap length e in
          grind (arith, nat_tests))
      | in_default-into_listing-via-in_default-into_listing w ↦
          unfinished c.args.text.now c.loop-line.rest.now c.loop-line.before _ _
          c.loop-line.invariant last (w.in_default-into_listing.ensures.none refl)
    ]
