use Rattle.std.proofs.Common.{◌≡◌, ◌∷◌, ◌-◌, ◌+◌, drop, length, arith}
use Rattle.std.specs.List.{list_all}
use Rattle.media_rows.specs.Objects.{is_stored_object}
use Rattle.object_refs.specs.References.{changed_at, objects_in, referred}
use Rattle.object_refs.specs.Within.Books.{referring}
use Rattle.media_rows.proofs.RestoringLemmas.{handed_on, one_more}
use Rattle.object_refs.proofs.Gathered.{not_referred, referred_more}
use Rattle.object_refs.proofs.restores.referred_by.Goals as goal

-- a segment whose object has no bytes refuses all
pub returns-in-Err : goal.returns-in-Err
returns-in-Err c =
    let all = c.args.segments.now in
    let start = c.args.bare.now in
    let s = c.index-segments-segments.result in
    let shape : drop (length all - (c.loop-passed.passed + 1)) all ≡ s ∷ drop (length all - c.loop-passed.passed) all =
    one_more all c.loop-passed.passed s (omega (arith, c.loop-passed-test.true)) c.index-segments-segments.is in
    handed_on c.in-Err.fault (is_stored_object (objects_in c.loop-passed.book) s.segment.object)
    (list_all (λ x. is_stored_object (objects_in start) x.segment.object) all) (changed_at s.segment.object (referred s.flow) c.loop-passed.book)
    (referring all start)
    (λ stored. not_referred (length all - (c.loop-passed.passed + 1)) s (drop (length all - c.loop-passed.passed) all) all start c.loop-passed.book
    c.loop-passed.invariant stored shape) c.in-Err.ensures

-- one reference more
pub loop-passed-preserved : goal.loop-passed-preserved
loop-passed-preserved c =
    let all = c.args.segments.now in
    let s = c.index-segments-segments.result in
    let shape : drop (length all - (c.loop-passed.passed + 1)) all ≡ s ∷ drop (length all - c.loop-passed.passed) all =
    one_more all c.loop-passed.passed s (omega (arith, c.loop-passed-test.true)) c.index-segments-segments.is in
    referred_more s (drop (length all - c.loop-passed.passed) all) (drop (length all - (c.loop-passed.passed + 1)) all) c.args.bare.now c.loop-passed.book
    c.in-Ok.next c.loop-passed.invariant c.in-Ok.ensures.0 c.in-Ok.ensures.1 shape
