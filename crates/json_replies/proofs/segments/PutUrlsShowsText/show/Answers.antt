use Rattle.std.proofs.lemmas.Result.{on_ok_weaker}
use Rattle.json_replies.proofs.Appending.{also, last, enclosed}
use Rattle.json_replies.proofs.segments.PutUrlsShowsText.show.Goals as goal

pub returns : goal.returns
returns c = on_ok_weaker c.end_object.result
    (enclosed c.in_ok-begin_object.ensures
    (also c.in_ok-show_word.ensures (last c.in_ok-show_member.ensures)))
    c.end_object.ensures
