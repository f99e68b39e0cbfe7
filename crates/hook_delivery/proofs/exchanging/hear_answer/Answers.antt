use Rattle.std.proofs.Common.{refl, ◌∙◌}
use Rattle.hook_delivery.proofs.Exchanges.{hears_behind, hears_enough, hears_last, hears_no_more, leaves_room}
use Rattle.hook_delivery.proofs.exchanging.hear_answer.Goals as goal

-- the peer's bytes ended
pub returns-in-Ok-eq0 : goal.returns-in-Ok-eq0
returns-in-Ok-eq0 g c =
    hears_last c.loop-heard.count c.in-Ok-eq0.field-0 _ _ _ _ _ c.last_answer.result c.in-Ok-eq0.ensures.front c.in-Ok-eq0.field-0-test
    c.last_answer.ensures c.loop-heard.invariant.so_far c.in-Ok-eq0.ensures.call c.in-Ok-eq0.ensures.heard

-- a hearing failed
pub returns-in-Err : goal.returns-in-Err
returns-in-Err g c = hears_no_more _ _ _ _ _ c.in-Err.field-0 c.loop-heard.invariant.so_far c.in-Err.ensures.call c.in-Err.ensures.heard

-- the bytes so far say enough
pub returns-in-Some : goal.returns-in-Some
returns-in-Some g c =
    hears_enough _ _ _ c.in-Some.answer c.in-Some.ensures.some
    (hears_behind c.loop-heard.count c.in-Ok.more _ _ _ _ _ c.in-Ok.ensures.front c.in-Ok.more-test.1 c.loop-heard.invariant.so_far
    c.in-Ok.ensures.call c.in-Ok.ensures.heard)

-- more are wanted, for which there is room
pub loop-heard-preserved : goal.loop-heard-preserved
loop-heard-preserved g c = record {
  so_far = hears_behind c.loop-heard.count c.in-Ok.more _ _ _ _ _ c.in-Ok.ensures.front c.in-Ok.more-test.1 c.loop-heard.invariant.so_far
      c.in-Ok.ensures.call c.in-Ok.ensures.heard;
  length_is = c.in-Ok.ensures.len ∙ c.loop-heard.invariant.length_is;
  room = leaves_room _ c.hear_behind.new.heard (rw c.in-Ok.ensures.len c.in-Ok.ensures.within) (c.in_default.ensures.none refl);
}
