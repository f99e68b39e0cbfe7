use Rattle.std.proofs.Common.{◌≡◌, ◌∷◌, ◌-◌, ◌+◌, drop, length, arith}
use Rattle.object_refs.specs.Within.Books.{are_names_distinct, bare_objects, with_new_object}
use Rattle.media_rows.proofs.RestoringLemmas.{handed_on, one_more}
use Rattle.object_refs.proofs.Gathered.{gathered_more, is_new, not_gathered}
use Rattle.object_refs.proofs.restores.gathered.Goals as goal

-- a row whose id or serial stands again refuses all
pub returns-in-Err : goal.returns-in-Err
returns-in-Err c =
    let all = c.args.objects.now in
    let row = c.index-objects-objects.result in
    let shape : drop (length all - (c.loop-placed.placed + 1)) all ≡ row ∷ drop (length all - c.loop-placed.placed) all =
    one_more all c.loop-placed.placed row (omega (arith, c.loop-placed-test.true)) c.index-objects-objects.is in
    handed_on c.in-Err.fault (is_new row c.loop-placed.book) (are_names_distinct all) (with_new_object row c.loop-placed.book) (bare_objects all)
    (λ new. not_gathered (length all - (c.loop-placed.placed + 1)) row (drop (length all - c.loop-placed.placed) all) all c.loop-placed.book
    c.loop-placed.invariant new shape) c.in-Err.ensures

-- a row whose id and serial are new stands at its place
pub loop-placed-preserved : goal.loop-placed-preserved
loop-placed-preserved c =
    let all = c.args.objects.now in
    let row = c.index-objects-objects.result in
    let shape : drop (length all - (c.loop-placed.placed + 1)) all ≡ row ∷ drop (length all - c.loop-placed.placed) all =
    one_more all c.loop-placed.placed row (omega (arith, c.loop-placed-test.true)) c.index-objects-objects.is in
    gathered_more row (drop (length all - c.loop-placed.placed) all) (drop (length all - (c.loop-placed.placed + 1)) all) c.loop-placed.book c.in-Ok.next
    c.loop-placed.invariant c.in-Ok.ensures.0 c.in-Ok.ensures.1 shape
