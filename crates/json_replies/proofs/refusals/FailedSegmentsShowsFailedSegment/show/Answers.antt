use Rattle.std.proofs.lemmas.Result.{on_ok_weaker}
use Rattle.json_replies.proofs.Appending.{also, last, enclosed}
use Rattle.json_replies.specs.Replies.{failed_value}
use Rattle.json_replies.proofs.refusals.FailedSegmentsShowsFailedSegment.show.Goals as goal

pub returns : goal.returns
unfolding failed_value
returns c = on_ok_weaker c.end_object.result
    (enclosed c.in_ok-begin_object.ensures
    (also c.in_ok-show_member.ensures (also c.in_ok-show_member-2.ensures (last c.in_ok-show_member-3.ensures))))
    c.end_object.ensures
