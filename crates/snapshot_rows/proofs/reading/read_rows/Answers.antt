use Rattle.std.proofs.Common.{◌≤◌, ◌<◌, ◌+◌, ◌-◌, arith, drop, length, refl}
use Rattle.std.proofs.lemmas.List.{length-drop}
use Rattle.snapshot_rows.proofs.Fronts.{none_more, one_more, rest_is, taken_some, taken_within}
use Rattle.snapshot_rows.proofs.reading.read_rows.Goals as goal

-- each row takes a byte or more
pub rows-smaller : goal.rows-smaller
rows-smaller c =
    let begins = rw (c.in-Some.is, rest_is c.args.bytes.now c.rows.at) at c.in_ok-found.ensures.begins in
    let rest = drop c.rows.at c.args.bytes.now in
    omega (
      arith,
      c.rows.invariant.within,
      c.rows-test.true,
      length-drop c.rows.at c.args.bytes.now,
      taken_some c.args.form rest c.in-Some.found.row c.in-Some.found.taken begins,
      taken_within c.args.form rest c.in-Some.found.row c.in-Some.found.taken begins,
    )

pub rows-preserved : goal.rows-preserved
rows-preserved c =
    let begins = rw (c.in-Some.is, rest_is c.args.bytes.now c.rows.at) at c.in_ok-found.ensures.begins in
    let place = rw c.in-Some.is at c.in_ok-found.ensures.place in
    let behind = rw c.in-Some.is at c.in_ok-found.ensures.behind in
    rw c.in_ok-push-in-Some.ensures.ok
    (one_more c.args.form c.args.bytes.now c.rows.rows c.rows.at c.rows.last c.in-Some.found.row c.in-Some.found.place c.in-Some.found.taken c.rows.invariant begins place
    behind)

pub returns-in-None-clause-damaged : goal.returns-in-None-clause-damaged
returns-in-None-clause-damaged c =
    let none = rw (c.in-None.is, rest_is c.args.bytes.now c.rows.at) at c.in_ok-found.ensures.none in
    none_more c.args.form c.args.bytes.now c.rows.rows c.rows.at c.rows.last c.rows.invariant c.rows-test.true (none refl)
