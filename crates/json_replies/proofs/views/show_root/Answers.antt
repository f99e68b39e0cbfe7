use Rattle.std.proofs.lemmas.Result.{on_ok_weaker}
use Rattle.json_replies.proofs.Appending.{also, last, enclosed}
use Rattle.json_replies.proofs.views.show_root.Goals as goal

pub returns : goal.returns
returns c = on_ok_weaker c.end_array.result
    (enclosed c.in_ok-begin_array.ensures
    (also c.in_ok-string.ensures (also c.in_ok-string-2.ensures (also c.in_ok-string-3.ensures
    (also c.in_ok-string-4.ensures (last c.in_ok-string-5.ensures))))))
    c.end_array.ensures
