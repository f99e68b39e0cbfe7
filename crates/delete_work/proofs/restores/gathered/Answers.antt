use Rattle.std.proofs.Common.{◌≡◌, ◌∷◌, ◌-◌, ◌+◌, drop, length, map, not, arith}
use Rattle.media_rows.specs.Lists.{are_distinct, inserted}
use Rattle.media_rows.specs.Restoring.{requests_of}
use Rattle.delete_work.specs.Within.Keeping.{has_request, request_before, serial_of_row}
use Rattle.delete_work.proofs.Restored.{gathered_more, not_gathered}
use Rattle.delete_work.proofs.restores.gathered.Goals as goal
use Rattle.media_rows.proofs.RestoringLemmas.{handed_on, one_more}

-- a row whose serial stands again refuses all
pub returns-in-Err : goal.returns-in-Err
returns-in-Err c =
    let all = c.args.requests.now in
    let row = c.index-requests-requests.result in
    let shape : drop (length all - (c.loop-placed.placed + 1)) all ≡ row ∷ drop (length all - c.loop-placed.placed) all =
    one_more all c.loop-placed.placed row (omega (arith, c.loop-placed-test.true)) c.index-requests-requests.is in
    handed_on c.in-Err.fault (not (has_request row.serial c.loop-placed.book)) (are_distinct (map serial_of_row all))
    (inserted request_before row c.loop-placed.book) (requests_of all)
    (λ new. not_gathered (length all - (c.loop-placed.placed + 1)) row (drop (length all - c.loop-placed.placed) all) all c.loop-placed.book
    c.loop-placed.invariant new shape) c.in-Err.ensures

-- a row whose serial is new stands at its place
pub loop-placed-preserved : goal.loop-placed-preserved
loop-placed-preserved c =
    let all = c.args.requests.now in
    let row = c.index-requests-requests.result in
    let shape : drop (length all - (c.loop-placed.placed + 1)) all ≡ row ∷ drop (length all - c.loop-placed.placed) all =
    one_more all c.loop-placed.placed row (omega (arith, c.loop-placed-test.true)) c.index-requests-requests.is in
    gathered_more row (drop (length all - c.loop-placed.placed) all) (drop (length all - (c.loop-placed.placed + 1)) all) c.loop-placed.book c.in-Ok.next
    c.loop-placed.invariant c.in-Ok.ensures.0 c.in-Ok.ensures.1 shape
