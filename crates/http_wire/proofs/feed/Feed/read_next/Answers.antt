use Rattle.std.proofs.Common.{refl, arith}
use Rattle.http_wire.proofs.Giving.{turn_decoded, turn_opened, turn_plain, turn_refused}
use Rattle.http_wire.proofs.feed.Feed.read_next.Goals as goal

pub returns-in-Refused : goal.returns-in-Refused
returns-in-Refused c =
    let f = c.self.inside in
    rw (← c.self.view_is)
    (turn_refused f.kept c.hold-in-Refused.new.self c.unread.result.now f.body.items c.find_next-next.new.body.items f.stage f.requests f.ended
    c.unread.ensures.value
    c.in-Refused.fault c.hold-in-Refused.ensures c.in-Refused.ensures.found)

pub returns-in-Opened : goal.returns-in-Opened
returns-in-Opened c =
    let f = c.self.inside in
    rw (← c.self.view_is)
    (turn_opened f.kept c.hold-in-Opened.new.self c.unread.result.now f.body.items c.find_next-next.new.body.items f.stage f.requests f.ended
    c.unread.ensures.value
    c.in-Opened.found c.in-Opened.size _ c.show-head.result c.hold-in-Opened.ensures c.in-Opened.ensures.found refl c.show-head.ensures)

pub returns-in-Plain : goal.returns-in-Plain
returns-in-Plain c =
    let f = c.self.inside in
    rw (← c.self.view_is)
    (turn_plain f.kept c.hold-in-Plain.new.self c.unread.result.now f.body.items c.find_next-next.new.body.items f.stage f.requests f.ended
    c.unread.ensures.value
    c.in-Plain.found c.in-Plain.size _ c.show_plain-head.result c.hold-in-Plain.ensures c.in-Plain.ensures.found refl
    c.show_plain-head.ensures)

pub returns-in-Decoded : goal.returns-in-Decoded
returns-in-Decoded c =
    let f = c.self.inside in
    rw (← c.self.view_is)
    (turn_decoded f.kept c.hold-in-Decoded.new.self c.unread.result.now f.body.items c.find_next-next.new.body.items f.stage f.requests f.ended
    c.unread.ensures.value
    c.in-Decoded.found c.in-Decoded.size c.len.result _ c.show_decoded-head.result c.hold-in-Decoded.ensures c.in-Decoded.ensures.found refl
    (omega arith) c.show_decoded-head.ensures)
