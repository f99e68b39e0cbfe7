use Rattle.request_hearing.proofs.TurnLemmas.{is_waiting, room_more, turned_media, turned_more, turned_refused, turned_unsaid, turned_whole}
use Rattle.request_hearing.proofs.listener.Hearing.take_turn.Goals as goal

pub hear_more-requires-clause-waits : goal.hear_more-requires-clause-waits
hear_more-requires-clause-waits g c =
    is_waiting c.args.self.now c.next_step-step.new.self c.next_step-step.result.1 (rw c.in-More.is at c.next_step-step.ensures.step)
    c.next_step-step.ensures.due

pub hear_more-requires-clause-room : goal.hear_more-requires-clause-room
hear_more-requires-clause-room g c =
    room_more c.args.self.now c.next_step-step.new.self (rw c.in-More.is at c.next_step-step.ensures.step)

-- Saying the interim response failed.
pub returns-in-Err : goal.returns-in-Err
returns-in-Err g c =
    rw c.unsaid.ensures (turned_unsaid c.args.self.now c.next_step-step.new.self c.next_step-step.new.self c.args.said c.next_step-step.result.1
    (g.X.Disk.device c.args.site.now) (g.X.Disk.device c.say_interim.new.site) (g.X.Disk.device c.say_interim.new.site) c.next_step-step.ensures.due
    c.requires.due c.next_step-step.result.0 c.next_step-step.ensures.step (rw c.is_missing.ensures at c.in-Err.ensures.asked)
    (rw c.is_missing.ensures at c.in-Err.ensures.says))

-- Nothing whole stands there.
pub returns-in-More : goal.returns-in-More
returns-in-More g c =
    turned_more c.args.self.now c.next_step-step.new.self c.hear_more.new.self c.args.said c.next_step-step.result.1
    (g.X.Disk.device c.args.site.now) (g.X.Disk.device c.say_interim.new.site) (g.X.Disk.device c.hear_more.new.site) c.next_step-step.ensures.due
    c.requires.due c.hear_more.result (rw c.in-More.is at c.next_step-step.ensures.step) (rw c.is_missing.ensures at c.in-Ok.ensures.says) c.hear_more.ensures

-- A media PUT.
pub returns-in-Head : goal.returns-in-Head
returns-in-Head g c =
    turned_media c.args.self.now c.next_step-step.new.self c.next_step-step.new.self c.args.said c.next_step-step.result.1
    (g.X.Disk.device c.args.site.now) (g.X.Disk.device c.say_interim.new.site) (g.X.Disk.device c.say_interim.new.site) c.next_step-step.ensures.due
    c.requires.due c.in-Head.head (rw c.in-Head.is at c.next_step-step.ensures.step) (rw c.is_missing.ensures at c.in-Ok.ensures.says)

-- Another request.
pub returns-in-Whole : goal.returns-in-Whole
returns-in-Whole g c =
    turned_whole c.args.self.now c.next_step-step.new.self c.next_step-step.new.self c.args.said c.next_step-step.result.1
    (g.X.Disk.device c.args.site.now) (g.X.Disk.device c.say_interim.new.site) (g.X.Disk.device c.say_interim.new.site) c.next_step-step.ensures.due
    c.requires.due c.in-Whole.head (rw c.in-Whole.is at c.next_step-step.ensures.step) (rw c.is_missing.ensures at c.in-Ok.ensures.says)

-- A refusal of the wire.
pub returns-in-Refused : goal.returns-in-Refused
returns-in-Refused g c =
    turned_refused c.args.self.now c.next_step-step.new.self c.next_step-step.new.self c.args.said c.next_step-step.result.1
    (g.X.Disk.device c.args.site.now) (g.X.Disk.device c.say_interim.new.site) (g.X.Disk.device c.say_interim.new.site) c.next_step-step.ensures.due
    c.requires.due c.in-Refused.fault (rw c.in-Refused.is at c.next_step-step.ensures.step) (rw c.is_missing.ensures at c.in-Ok.ensures.says)
