use Rattle.std.proofs.lemmas.Result.{on_ok_weaker}
use Rattle.json_replies.proofs.Appending.{also, last, enclosed}
use Rattle.json_replies.specs.Rows.{source_value}
use Rattle.json_replies.proofs.sources.SourcesShowsSourceRow.show.Goals as goal

pub returns : goal.returns
unfolding source_value
returns c = on_ok_weaker c.end_object.result
    (enclosed c.in_ok-begin_object.ensures
    (also c.in_ok-show_member.ensures (also c.in_ok-show_if_set.ensures (also c.in_ok-show_member-2.ensures
    (also c.in_ok-show_member-3.ensures (also c.in_ok-show_if_set-2.ensures (also c.in_ok-show_if_any.ensures
    (last c.in_ok-show_member-4.ensures))))))))
    c.end_object.ensures
