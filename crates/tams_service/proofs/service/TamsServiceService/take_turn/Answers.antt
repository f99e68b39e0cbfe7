use Rattle.std.proofs.Common.{◌≡◌, ◌<◌, ◌++◌, true, false, ap, refl, subst, sym, ◌∙◌}
use Rattle.std.proofs.lemmas.Bool.{false≢true}
use Rattle.run_history.specs.Serving.{Going}
use Rattle.connection_loop.specs.Turns.{EndsAs, TurnLeads, held_with}
use Rattle.connection_loop.specs.declared.ending.ConnectionEnd.TheVariants as endings
use Rattle.connection_loop.proofs.Turning.{calls_more}
use Rattle.http_wire.specs.Feeds.{Fed}
use Rattle.tams_machine.specs.Machine.{tams_machine}
use Rattle.tams_service.specs.Keeping.{KeepsState}
use Rattle.tams_service.specs.Serving.{ServiceSeen}
use Rattle.tams_service.proofs.Calls.{complete_calls, cut_calls, heard_calls, unheard_calls}
use Rattle.tams_service.proofs.Clocks.{clock_once, clock_turn, clock_unread}
use Rattle.tams_service.proofs.Hearing.{cut_leads, ended_leads, media_unsaid_leads, unheard_leads, unsaid_leads}
use Rattle.tams_service.proofs.Turned.{few_given, few_opened, media_turn, refused_turn, tells_behind, whole_turn}
use Rattle.tams_service.proofs.service.TamsServiceService.take_turn.Goals as goal

-- A spent store keeps no state.
pub returns-then-spent-clause-goes : goal.returns-then-spent-clause-goes
returns-then-spent-clause-goes g c = λ all b finished steps s keeps going.
    let spent = subst (λ (v : ServiceSeen). v.store.spent ≡ false) (sym c.self.view_is) keeps.unspent in
    absurd (false≢true (sym spent ∙ sym c.spent.ensures ∙ c.if-spent.true))

-- ---- a request

pub returns-in-Whole-clause-goes : goal.returns-in-Whole-clause-goes
returns-in-Whole-clause-goes g c = λ all b finished steps s keeps going.
    let h = c.in-Whole.ensures in
    let old = g.X.Disk.device c.args.site.now in
    let mid = g.X.Disk.device c.hear_request.new.site in
    let new = g.X.Disk.device c.answer_whole.new.site in
    let given = g.C.Clock.given c.args.clock.now in
    let now = g.C.Clock.given c.answer_whole.new.clock in
    let service : ServiceSeen = record { store = c.self.inside.store; fed = c.hear_request.new.self; base = c.self.inside.base } in
    subst (λ (v : ServiceSeen). KeepsState v.store old s → v.fed.requests < 1000000
    → Going (tams_machine v.base) b old given (held_with s v.fed.unread v.fed.requests) finished steps c.args.tally.now
    → TurnLeads (tams_machine v.base) b new now c.answer_whole.new.self.fed.unread c.answer_whole.new.self.fed.requests
    (KeepsState c.answer_whole.new.self.store new) finished c.answer_whole.new.tally c.answer_whole.result) c.self.view_is
    (λ kept few goes. whole_turn c.self.inside.base b old mid new given now s c.self.inside.hearing finished steps c.args.tally.now c.answer_whole.new.tally
    c.self.inside.store all.tells kept goes h.bytes h.said h.parts h.waits h.leaves service c.answer_whole.new.self c.in-Whole.head c.answer_whole.result refl refl few h.comes
    c.answer_whole.ensures.fed (c.answer_whole.ensures.leads (tells_behind old mid _ h.leaves.call.same all) all.clock_tells))
    keeps c.requires.few going

pub returns-in-Media-clause-goes : goal.returns-in-Media-clause-goes
returns-in-Media-clause-goes g c = λ all b finished steps s keeps going.
    let h = c.in-Media.ensures in
    let old = g.X.Disk.device c.args.site.now in
    let mid = g.X.Disk.device c.hear_request.new.site in
    let new = g.X.Disk.device c.answer_media.new.site in
    let given = g.C.Clock.given c.args.clock.now in
    let now = g.C.Clock.given c.answer_media.new.clock in
    let service : ServiceSeen = record { store = c.self.inside.store; fed = c.hear_request.new.self; base = c.self.inside.base } in
    subst (λ (v : ServiceSeen). KeepsState v.store old s → v.fed.requests < 1000000
    → Going (tams_machine v.base) b old given (held_with s v.fed.unread v.fed.requests) finished steps c.args.tally.now
    → TurnLeads (tams_machine v.base) b new now c.answer_media.new.self.fed.unread c.answer_media.new.self.fed.requests
    (KeepsState c.answer_media.new.self.store new) finished c.answer_media.new.tally c.answer_media.result) c.self.view_is
    (λ kept few goes. media_turn c.self.inside.base b old mid new given now s c.self.inside.hearing finished steps c.args.tally.now c.answer_media.new.tally
    c.self.inside.store all.tells kept goes h.bytes h.said h.parts h.waits h.leaves service c.answer_media.new.self c.in-Media.head c.answer_media.result refl refl few h.comes
    c.answer_media.ensures.requests (c.answer_media.ensures.leads (tells_behind old mid _ h.leaves.call.same all) all.clock_tells))
    keeps c.requires.few going

-- ---- what the wire refuses

pub returns-in-Refused-clause-goes : goal.returns-in-Refused-clause-goes
returns-in-Refused-clause-goes g c = λ all b finished steps s keeps going.
    let h = c.in-Refused.ensures in
    let old = g.X.Disk.device c.args.site.now in
    let mid = g.X.Disk.device c.hear_request.new.site in
    let new = g.X.Disk.device c.refuse_wire.new.site in
    let given = g.C.Clock.given c.args.clock.now in
    subst (λ (v : ServiceSeen). KeepsState v.store old s
    → Going (tams_machine v.base) b old given (held_with s v.fed.unread v.fed.requests) finished steps c.args.tally.now
    → EndsAs (tams_machine v.base) b new given (KeepsState c.self.inside.store new) finished c.refuse_wire.new.tally c.refuse_wire.result) c.self.view_is
    (λ kept goes. refused_turn c.self.inside.base b old mid new given given s c.self.inside.hearing finished steps c.args.tally.now c.refuse_wire.new.tally
    c.self.inside.store all.tells kept goes h.bytes h.said h.parts h.waits h.leaves c.hear_request.new.self c.in-Refused.fault c.refuse_wire.result
    c.hear_request.new.self.unread c.hear_request.new.self.requests h.comes
    (c.refuse_wire.ensures.leads (tells_behind old mid _ h.leaves.call.same all) c.self.inside.base c.self.inside.store c.self.invariant.refusals_are))
    keeps going

-- ---- the end of what is heard

pub returns-in-Ended-clause-goes : goal.returns-in-Ended-clause-goes
returns-in-Ended-clause-goes g c = λ all b finished steps s keeps going.
    let h = c.in-Ended.ensures in
    let old = g.X.Disk.device c.args.site.now in
    let new = g.X.Disk.device c.hear_request.new.site in
    let given = g.C.Clock.given c.args.clock.now in
    subst (λ (v : ServiceSeen). KeepsState v.store old s
    → Going (tams_machine v.base) b old given (held_with s v.fed.unread v.fed.requests) finished steps c.args.tally.now
    → EndsAs (tams_machine v.base) b new given (KeepsState c.self.inside.store new) finished c.args.tally.now endings.Complete) c.self.view_is
    (λ kept goes. ended_leads c.self.inside.base b old new given s c.self.inside.hearing finished steps c.args.tally.now c.self.inside.store all.tells kept
    goes h.bytes h.said h.parts h.waits h.leaves h.comes.0 c.hear_request.new.self h.comes.1)
    keeps going

pub returns-in-Cut-clause-goes : goal.returns-in-Cut-clause-goes
returns-in-Cut-clause-goes g c = λ all b finished steps s keeps going.
    let h = c.in-Cut.ensures in
    let old = g.X.Disk.device c.args.site.now in
    let new = g.X.Disk.device c.hear_request.new.site in
    let given = g.C.Clock.given c.args.clock.now in
    subst (λ (v : ServiceSeen). KeepsState v.store old s
    → Going (tams_machine v.base) b old given (held_with s v.fed.unread v.fed.requests) finished steps c.args.tally.now
    → EndsAs (tams_machine v.base) b new given (KeepsState c.self.inside.store new) finished c.args.tally.now endings.Cut) c.self.view_is
    (λ kept goes. cut_leads c.self.inside.base b old new given s c.self.inside.hearing finished steps c.args.tally.now c.self.inside.store all.tells kept
    goes h.bytes h.said h.parts h.waits h.leaves h.comes.0 c.hear_request.new.self h.comes.1)
    keeps going

pub returns-in-Unheard-clause-goes : goal.returns-in-Unheard-clause-goes
returns-in-Unheard-clause-goes g c = λ all b finished steps s keeps going.
    let h = c.in-Unheard.ensures in
    let old = g.X.Disk.device c.args.site.now in
    let new = g.X.Disk.device c.hear_request.new.site in
    let given = g.C.Clock.given c.args.clock.now in
    subst (λ (v : ServiceSeen). KeepsState v.store old s
    → Going (tams_machine v.base) b old given (held_with s v.fed.unread v.fed.requests) finished steps c.args.tally.now
    → EndsAs (tams_machine v.base) b new given (KeepsState c.self.inside.store new) finished c.args.tally.now endings.Unlinked) c.self.view_is
    (λ kept goes. unheard_leads c.self.inside.base b old new given s c.self.inside.hearing finished steps c.args.tally.now c.self.inside.store all.tells kept
    goes h.bytes h.said h.parts h.waits h.leaves c.hear_request.new.self h.comes)
    keeps going

pub returns-in-Unsaid-clause-goes : goal.returns-in-Unsaid-clause-goes
returns-in-Unsaid-clause-goes g c = λ all b finished steps s keeps going.
    let h = c.in-Unsaid.ensures in
    let old = g.X.Disk.device c.args.site.now in
    let new = g.X.Disk.device c.hear_request.new.site in
    let given = g.C.Clock.given c.args.clock.now in
    subst (λ (v : ServiceSeen). KeepsState v.store old s
    → Going (tams_machine v.base) b old given (held_with s v.fed.unread v.fed.requests) finished steps c.args.tally.now
    → EndsAs (tams_machine v.base) b new given (KeepsState c.self.inside.store new) finished c.args.tally.now endings.Unlinked) c.self.view_is
    (λ kept goes. unsaid_leads c.self.inside.base b old new given s c.self.inside.hearing finished steps c.args.tally.now c.self.inside.store all.tells kept
    goes h.bytes h.said h.parts h.waits h.leaves h.comes)
    keeps going

pub returns-in-MediaUnsaid-clause-goes : goal.returns-in-MediaUnsaid-clause-goes
returns-in-MediaUnsaid-clause-goes g c = λ all b finished steps s keeps going.
    let h = c.in-MediaUnsaid.ensures in
    let old = g.X.Disk.device c.args.site.now in
    let new = g.X.Disk.device c.hear_request.new.site in
    let given = g.C.Clock.given c.args.clock.now in
    subst (λ (v : ServiceSeen). KeepsState v.store old s
    → Going (tams_machine v.base) b old given (held_with s v.fed.unread v.fed.requests) finished steps c.args.tally.now
    → EndsAs (tams_machine v.base) b new (g.C.Clock.given c.now.new.self) (KeepsState c.self.inside.store new) finished c.args.tally.now
    endings.Unlinked) c.self.view_is
    (λ kept goes. subst (λ l. EndsAs (tams_machine c.self.inside.base) b new l (KeepsState c.self.inside.store new) finished c.args.tally.now
    endings.Unlinked) (sym (c.now.ensures.given all.clock_tells))
    (media_unsaid_leads c.self.inside.base b old new given s c.self.inside.hearing finished steps c.args.tally.now c.self.inside.store all.tells kept
    goes h.bytes h.said h.parts h.waits c.now.result h.leaves h.comes))
    keeps going

-- ---- how many requests came

pub returns-in-Whole-clause-few : goal.returns-in-Whole-clause-few
returns-in-Whole-clause-few g c = λ none.
    let h = c.in-Whole.ensures in
    let few = subst (λ (v : ServiceSeen). v.fed.requests < 1000000) (sym c.self.view_is) c.requires.few in
    few_given c.self.inside.hearing.requests c.answer_whole.new.self.fed.requests (c.self.inside.hearing.unread ++ h.bytes) h.said c.hear_request.new.self
    c.in-Whole.head c.answer_whole.result h.comes few c.answer_whole.ensures.ends none (ap (λ (f : Fed). f.requests) c.answer_whole.ensures.fed)

pub returns-in-Media-clause-few : goal.returns-in-Media-clause-few
returns-in-Media-clause-few g c = λ none.
    let h = c.in-Media.ensures in
    let few = subst (λ (v : ServiceSeen). v.fed.requests < 1000000) (sym c.self.view_is) c.requires.few in
    few_opened c.self.inside.hearing.requests c.answer_media.new.self.fed.requests (c.self.inside.hearing.unread ++ h.bytes) h.said c.hear_request.new.self
    c.in-Media.head c.answer_media.result h.comes few c.answer_media.ensures.ends none c.answer_media.ensures.requests

-- ---- calls and moments

pub returns-in-Whole-clause-calls : goal.returns-in-Whole-clause-calls
returns-in-Whole-clause-calls g c =
    let h = c.in-Whole.ensures in
    let old = g.X.Disk.device c.args.site.now in
    let mid = g.X.Disk.device c.hear_request.new.site in
    calls_more _ old mid (g.X.Disk.device c.answer_whole.new.site) (heard_calls h.bytes h.said true false old mid h.leaves) c.answer_whole.ensures.calls

pub returns-in-Media-clause-calls : goal.returns-in-Media-clause-calls
returns-in-Media-clause-calls g c =
    let h = c.in-Media.ensures in
    let old = g.X.Disk.device c.args.site.now in
    let mid = g.X.Disk.device c.hear_request.new.site in
    calls_more _ old mid (g.X.Disk.device c.answer_media.new.site) (heard_calls h.bytes h.said true false old mid h.leaves) c.answer_media.ensures.calls

pub returns-in-Refused-clause-calls : goal.returns-in-Refused-clause-calls
returns-in-Refused-clause-calls g c =
    let h = c.in-Refused.ensures in
    let old = g.X.Disk.device c.args.site.now in
    let mid = g.X.Disk.device c.hear_request.new.site in
    calls_more _ old mid (g.X.Disk.device c.refuse_wire.new.site) (heard_calls h.bytes h.said true false old mid h.leaves) c.refuse_wire.ensures.calls

pub returns-in-Ended-clause-calls : goal.returns-in-Ended-clause-calls
returns-in-Ended-clause-calls g c =
    let h = c.in-Ended.ensures in
    complete_calls _ _ (heard_calls h.bytes h.said true true _ _ h.leaves)

pub returns-in-Cut-clause-calls : goal.returns-in-Cut-clause-calls
returns-in-Cut-clause-calls g c =
    let h = c.in-Cut.ensures in
    cut_calls _ _ (heard_calls h.bytes h.said true true _ _ h.leaves)

pub returns-in-Unheard-clause-calls : goal.returns-in-Unheard-clause-calls
returns-in-Unheard-clause-calls g c =
    let h = c.in-Unheard.ensures in
    unheard_calls h.bytes h.said true false _ _ h.leaves

pub returns-in-Unsaid-clause-calls : goal.returns-in-Unsaid-clause-calls
returns-in-Unsaid-clause-calls g c =
    let h = c.in-Unsaid.ensures in
    unheard_calls h.bytes h.said false false _ _ h.leaves

pub returns-in-MediaUnsaid-clause-calls : goal.returns-in-MediaUnsaid-clause-calls
returns-in-MediaUnsaid-clause-calls g c =
    let h = c.in-MediaUnsaid.ensures in
    unheard_calls h.bytes h.said false false _ _ h.leaves

pub returns-in-Whole-clause-clock : goal.returns-in-Whole-clause-clock
returns-in-Whole-clause-clock g c =
    let h = c.in-Whole.ensures in
    rw (← c.self.view_is) (clock_turn c.answer_whole.result c.self.inside.hearing.requests c.answer_whole.new.self.fed.requests _ _ _ _
    (ap (λ (f : Fed). f.requests) c.answer_whole.ensures.fed ∙ h.comes.behind.requests_are) c.answer_whole.ensures.clock)

pub returns-in-Media-clause-clock : goal.returns-in-Media-clause-clock
returns-in-Media-clause-clock g c =
    let h = c.in-Media.ensures in
    rw (← c.self.view_is) (clock_turn c.answer_media.result c.self.inside.hearing.requests c.answer_media.new.self.fed.requests _ _ _ _
    (c.answer_media.ensures.requests ∙ h.comes.behind.requests_are) c.answer_media.ensures.clock)

pub returns-then-spent-clause-clock : goal.returns-then-spent-clause-clock
returns-then-spent-clause-clock g c = clock_unread _ _

pub returns-in-Refused-clause-clock : goal.returns-in-Refused-clause-clock
returns-in-Refused-clause-clock g c = clock_unread _ _

pub returns-in-Ended-clause-clock : goal.returns-in-Ended-clause-clock
returns-in-Ended-clause-clock g c = clock_unread _ _

pub returns-in-Cut-clause-clock : goal.returns-in-Cut-clause-clock
returns-in-Cut-clause-clock g c = clock_unread _ _

pub returns-in-Unheard-clause-clock : goal.returns-in-Unheard-clause-clock
returns-in-Unheard-clause-clock g c = clock_unread _ _

pub returns-in-Unsaid-clause-clock : goal.returns-in-Unsaid-clause-clock
returns-in-Unsaid-clause-clock g c = clock_unread _ _

pub returns-in-MediaUnsaid-clause-clock : goal.returns-in-MediaUnsaid-clause-clock
returns-in-MediaUnsaid-clause-clock g c =
    clock_once _ _ _ _ c.now.result c.now.ensures.moment c.now.ensures.told_before c.now.ensures.lasts c.now.ensures.given
