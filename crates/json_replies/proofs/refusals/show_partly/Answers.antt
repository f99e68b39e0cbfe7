use Rattle.std.proofs.lemmas.Result.{on_ok_weaker}
use Rattle.json_replies.proofs.Appending.{last, enclosed}
use Rattle.json_replies.specs.Replies.{partly_value}
use Rattle.json_replies.proofs.refusals.show_partly.Goals as goal

pub returns : goal.returns
unfolding partly_value
returns c = on_ok_weaker c.end_object.result
    (enclosed c.in_ok-begin_object.ensures (last c.in_ok-show_member.ensures))
    c.end_object.ensures
