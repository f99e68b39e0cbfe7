use Rattle.std.proofs.Common.{◌≡◌, false}
use Rattle.http_wire.specs.declared.stage.FeedStage.TheVariants.{Open}
use Rattle.wire_measure.proofs.is_whole.Given as goal

-- every answer so far was that nothing is whole
abbrev pub invariant-loop-part : goal.invariant-loop-part
invariant-loop-part l = record {
  stage : l.feed.stage ≡ Open;
  goes_on : l.feed.ended ≡ false;
}
