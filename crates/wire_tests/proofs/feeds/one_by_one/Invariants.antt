use Rattle.std.proofs.Common.{◌≡◌, false}
use Rattle.http_wire.specs.declared.stage.FeedStage.TheVariants.{Open}
use Rattle.wire_tests.proofs.feeds.one_by_one.Given as goal

-- every answer so far was that nothing is whole
abbrev pub invariant-loop-i : goal.invariant-loop-i
invariant-loop-i l = record {
  stage : l.feed.stage ≡ Open;
  goes_on : l.feed.ended ≡ false;
}
