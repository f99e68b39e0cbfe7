use Rattle.std.proofs.Common.{refl}
use Rattle.std.proofs.lemmas.Result.{on_ok_weaker}
use Rattle.field_codec.proofs.WritingLaws.{never_wrote, range_wrote}
use Rattle.field_codec.proofs.writing.write_range.Goals as goal

pub returns-in-None-clause-ok : goal.returns-in-None-clause-ok
returns-in-None-clause-ok c =
    on_ok_weaker c.push.result (λ e. never_wrote c.args.out.now c.push.new.self c.args.range.now (c.in-None.ensures.never.0 refl) e) c.push.ensures.ok

pub returns-in-Ok-clause-ok : goal.returns-in-Ok-clause-ok
returns-in-Ok-clause-ok c =
    range_wrote c.args.out.now c.push-in-Some.new.self c.write_ends.new.out c.args.range.now c.in-Some.low c.in-Some.high
    c.has_points-known.ensures (λ none. let never = c.in-Some.ensures.never.1 none in cc) c.in-Some.ensures.value c.in_ok-push-in-Some.ensures.ok
    c.in-Ok.ensures.ok
