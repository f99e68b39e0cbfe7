use Rattle.std.proofs.lemmas.Result.{on_ok_weaker}
use Rattle.json_replies.proofs.Appending.{also, last}
use Rattle.json_replies.proofs.flows.show_last.Goals as goal

pub returns : goal.returns
returns c = on_ok_weaker c.show_member-3.result
    (λ e. also c.in_ok-show_member.ensures (also c.in_ok-show_if_set.ensures (also c.in_ok-show_member-2.ensures (
    also c.in_ok-show_if_any.ensures (last e)))))
    c.show_member-3.ensures
