use Rattle.std.proofs.Common.{refl, sym, ap, ◌∙◌}
use Rattle.hook_delivery.specs.Posting.{request_of}
use Rattle.store_delivery.proofs.Waiting.{event_text, hook_text, nothing_waits, sends_none}
use Rattle.store_delivery.proofs.due.next_due.Goals as goal
use Rattle.store_delivery.proofs.due.next_due.Goals.{in-None, in-Some-first_event+in_ok-request_of-in-Some-first_event+in-None-2, in-Some-first_event+in_ok-request_of-in-Some-first_event+in-Some-2}

-- the texts of a good library are good
pub request_of-requires-clause-hook : goal.request_of-requires-clause-hook
request_of-requires-clause-hook c =
    hook_text c.args.store.now.kept.library c.args.after c.in-Some.hook.now c.keeps_good.ensures (sym c.in-Some.ensures.next)

pub request_of-requires-clause-event : goal.request_of-requires-clause-event
request_of-requires-clause-event c =
    event_text c.args.store.now.kept.library c.in-Some.hook.now.serial c.in-Some-first_event.event.now c.keeps_good.ensures
    (sym c.in-Some-first_event.ensures.first)

pub returns : goal.returns
returns c = record {
  hook = c.in-Some.hook.now;
  next = record { is = sym c.in-Some.ensures.next; least = c.in-Some.ensures.least };
  serial = cc;
  sending = elim c.match-first_event.branch [
    | in-None w ↦ rw w.sending-is (nothing_waits c.args.store.now.kept.library c.in-Some.hook.now w.in-None.ensures.first)
    | in-Some-first_event+in_ok-request_of-in-Some-first_event+in-None-2 w ↦
        rw w.sending-is (sends_none c.args.store.now.kept.library c.in-Some.hook.now w.in-Some-first_event.event.now w.id.result
        w.in_ok-request_of-in-Some-first_event.field-0 w.in-Some-first_event.ensures.first w.id.ensures
        w.in_ok-request_of-in-Some-first_event.ensures.request w.in-None-2.is)
    | in-Some-first_event+in_ok-request_of-in-Some-first_event+in-Some-2 w ↦
        rw w.sending-is (record {
          next = record { is = sym c.in-Some.ensures.next; least = c.in-Some.ensures.least };
          event = w.in-Some-first_event.event.now;
          first = sym w.in-Some-first_event.ensures.first;
          least = w.in-Some-first_event.ensures.least;
          serial = refl;
          request = ap (λ n. request_of n c.in-Some.hook.now w.in-Some-first_event.event.now) (sym w.id.ensures)
              ∙ sym w.in_ok-request_of-in-Some-first_event.ensures.request ∙ w.in-Some-2.is;
        })
  ];
}
