use Rattle.std.proofs.Common.{◌≡◌, ◌∙◌, None, Some, ap, arith, false, refl, subst, sym}
use Rattle.std.specs.Prelude.{IfSome}
use Rattle.std.proofs.lemmas.Bool.{false≢true}
use Rattle.connection_loop.proofs.Turning.{calls_more}
use Rattle.connection_loop.specs.declared.ending.ConnectionEnd.TheVariants.{Stopped}
use Rattle.store_states.specs.Kept.{StoreView}
use Rattle.tams_service.specs.Answering.{EndKeepsId}
use Rattle.tams_service.proofs.Bodies.{cut_calls, take_ended, take_failed, take_unheard, take_whole}
use Rattle.tams_service.proofs.Calls.{calls_held, disk_held, disk_stopped, stopped_more, unlinked_calls}
use Rattle.tams_service.proofs.Giving.{none_follows}
use Rattle.tams_service.proofs.Planned.{may_go_on, put_whole}
use Rattle.tams_service.proofs.Putting.{end_failed, end_made, finishes_with, id_behind, needs_behind, tells_on, written_few, written_same}
use Rattle.tams_service.proofs.service.TamsService.take_put.Goals as goal

pub end_put-requires-clause-filled : goal.end_put-requires-clause-filled
end_put-requires-clause-filled g c = put_whole _ _ c.args.request.head.length _ (c.in-Whole.ensures.filled refl) c.in-Whole.ensures.kept

-- its end writes one change at most
pub finish-requires-clause-few : goal.finish-requires-clause-few
finish-requires-clause-few g c = rw c.reply_with-reply.ensures.rest.1 (written_few _ _ c.changes_of-changes.ensures)

-- It was ended, and the service is as it was but for its store.
pub invariant_of-self-in-Ok : goal.invariant_of-self-in-Ok
invariant_of-self-in-Ok g c =
    let was = c.self.invariant in
    let body = c.in-Whole.ensures in
    let ended = c.in-Ok.ensures in
    let mid = c.take_body.new.store in
    let whole = put_whole _ _ c.args.request.head.length _ (body.filled refl) body.kept in
    let unspent : c.self.inside.store.spent ≡ false = rw (← c.self.view_is) at c.requires.unspent in
    let begun : IfSome c.args.plan.put (EndKeepsId c.self.inside.store.kept) = rw (← c.self.view_is) at c.requires.id in
    let keeps = subst (λ k. IfSome c.args.plan.put (EndKeepsId k)) (sym body.kept) begun in
    let same = id_behind mid.kept c.end_put.new.store.kept mid.put c.args.plan.put whole (body.plan refl) keeps ended.kept in
    record {
      routes_are = λ still. was.routes_are unspent ∙ sym (same ∙ ap (λ (k : StoreView). k.library.id) body.kept);
      base_is = was.base_is;
      refusals_are = was.refusals_are;
      room_is = was.room_is;
      idle = ended.idle;
    }

-- Its reply is said.
pub returns-in-Whole-clause-calls : goal.returns-in-Whole-clause-calls
returns-in-Whole-clause-calls g c =
    let old = g.X.Disk.device c.args.site.now in
    let mid = g.X.Disk.device c.take_body.new.site in
    let end = g.X.Disk.device c.end_put.new.site in
    let new = g.X.Disk.device c.finish.new.site in
    calls_more c.finish.result old mid new (calls_held old mid c.in-Whole.ensures.calls)
    (calls_more c.finish.result mid end new (disk_held mid end c.in-Ok.ensures.calls) c.finish.ensures.calls)

pub returns-in-Whole-clause-leads : goal.returns-in-Whole-clause-leads
returns-in-Whole-clause-leads g c = λ all.
    let old = g.X.Disk.device c.args.site.now in
    let mid = g.X.Disk.device c.take_body.new.site in
    let end = g.X.Disk.device c.end_put.new.site in
    let new = g.X.Disk.device c.finish.new.site in
    let body = c.in-Whole.ensures in
    let ended = c.in-Ok.ensures in
    let request = c.args.request in
    let reply = c.reply_with-reply.ensures in
    let behind = tells_on old mid body.calls.same all in
    let whole = put_whole _ _ request.head.length _ (body.filled refl) body.kept in
    rw (← c.self.view_is, c.finish.ensures.fed)
    (take_whole old mid c.self.inside.store c.take_body.new.store c.self.inside.hearing c.take_body.new.hearing request.head c.take_body.new.store.put
    c.args.plan.put c.args.plan.responses request.moment c.args.tally.now all body.kept body.keeps new c.finish.new.tally c.finish.new.self.store
    c.finish.result body.takes body.spent (body.plan refl) (body.filled refl)
    (end_made mid end new c.args.tally.now c.finish.new.tally c.take_body.new.store c.end_put.new.store c.finish.new.self.store c.args.plan.responses
    request.moment request.head.ends (g.met.X.Disk.sound c.take_body.new.site) behind ended.calls.link c.changes_of-changes.result
    c.take_body.new.store.put c.in-Ok.reply c.finish.result whole
    (c.changes_of-changes.ensures ∙ sym (written_same _ _ (body.plan refl))) (λ none. ap (λ d. g.X.Disk.device d) (ended.none none).0)
    (ended.makes behind.honest behind.shows) ended.kept ended.spent (ended.handed behind.tells) ended.reply
    (finishes_with end new c.end_put.new.store c.finish.new.self.store c.args.tally.now c.finish.new.tally request.moment c.finish.result
    c.reply_with-reply.result _ _ c.changes_of-changes.result request.head.ends
    (c.finish.ensures.leads (tells_on mid end ended.calls.same behind) (none_follows c.reply_with-reply.result.media _ reply.rest.0)) (reply.response ∙ c.response_of.ensures) reply.rest)))

pub returns-in-Whole-clause-needs : goal.returns-in-Whole-clause-needs
returns-in-Whole-clause-needs g c =
    let body = c.in-Whole.ensures in
    let ended = c.in-Ok.ensures in
    let whole = put_whole _ _ c.args.request.head.length _ (body.filled refl) body.kept in
    let first = needs_behind c.self.inside.store c.take_body.new.store None tt (rw (← c.self.view_is) at c.requires.unspent) body.spent
    (λ came hashed. body.kept) in
    let then = needs_behind c.take_body.new.store c.end_put.new.store c.take_body.new.store.put whole body.spent ended.spent ended.kept in
    rw (← c.self.view_is) (omega (arith, first, then, c.finish.ensures.needs))

pub returns-in-Whole-clause-ready : goal.returns-in-Whole-clause-ready
returns-in-Whole-clause-ready g c =
    let head = c.args.request.head in
    rw c.finish.ensures.fed
    (may_go_on c.self.inside.hearing c.take_body.new.hearing head.length head.ends c.take_body.new.store.put (g.X.Disk.device c.args.site.now)
    (g.X.Disk.device c.take_body.new.site) c.self.inside.store.kept c.finish.result (rw (← c.self.view_is) at c.requires.stage)
    (rw (← c.self.view_is) at c.requires.ended) c.in-Whole.ensures.takes
    (λ last. c.finish.ensures.ends (c.reply_with-reply.ensures.rest.3 ∙ last)))

-- The disk failed in its end.
pub returns-in-Err-clause-calls : goal.returns-in-Err-clause-calls
returns-in-Err-clause-calls g c =
    let old = g.X.Disk.device c.args.site.now in
    let mid = g.X.Disk.device c.take_body.new.site in
    let end = g.X.Disk.device c.end_put.new.site in
    let new = g.X.Disk.device c.stop.new.site in
    rw c.stop.ensures.stopped
    (calls_more (Some Stopped) old mid new (calls_held old mid c.in-Whole.ensures.calls)
    (stopped_more mid end new (disk_stopped mid end c.in-Err.ensures.calls) c.stop.ensures.calls))

pub returns-in-Err-clause-leads : goal.returns-in-Err-clause-leads
returns-in-Err-clause-leads g c = λ all.
    let old = g.X.Disk.device c.args.site.now in
    let mid = g.X.Disk.device c.take_body.new.site in
    let end = g.X.Disk.device c.end_put.new.site in
    let new = g.X.Disk.device c.stop.new.site in
    let body = c.in-Whole.ensures in
    let failed = c.in-Err.ensures in
    let request = c.args.request in
    let behind = tells_on old mid body.calls.same all in
    let whole = put_whole _ _ request.head.length _ (body.filled refl) body.kept in
    rw (← c.self.view_is, c.stop.ensures.stopped)
    (take_whole old mid c.self.inside.store c.take_body.new.store c.self.inside.hearing c.take_body.new.hearing request.head c.take_body.new.store.put
    c.args.plan.put c.args.plan.responses request.moment c.args.tally.now all body.kept body.keeps new c.stop.new.tally c.end_put.new.store
    (Some Stopped) body.takes body.spent (body.plan refl) (body.filled refl)
    (end_failed mid end new c.args.tally.now c.stop.new.tally c.take_body.new.store c.end_put.new.store c.end_put.new.store c.args.plan.responses
    request.moment request.head.ends (g.met.X.Disk.sound c.take_body.new.site) behind failed.calls.link c.changes_of-changes.result
    c.take_body.new.store.put whole (c.changes_of-changes.ensures ∙ sym (written_same _ _ (body.plan refl)))
    (λ none. false≢true (failed.none none).1) (failed.makes behind.honest behind.shows)
    (c.stop.ensures.leads (tells_on mid end failed.calls.same behind))))

-- Not all of it came.
pub returns-in-Ended-clause-calls : goal.returns-in-Ended-clause-calls
returns-in-Ended-clause-calls g c = cut_calls _ _ c.in-Ended.ensures.calls

pub returns-in-Ended-clause-leads : goal.returns-in-Ended-clause-leads
returns-in-Ended-clause-leads g c = λ all.
    let body = c.in-Ended.ensures in
    let dropped = c.put_drop.ensures in
    rw (← c.self.view_is)
    (take_ended (g.X.Disk.device c.args.site.now) (g.X.Disk.device c.take_body.new.site) c.self.inside.store c.put_drop.new.self c.self.inside.hearing
    c.take_body.new.hearing c.args.request.head c.take_body.new.store.put c.args.plan.put c.args.plan.responses c.args.request.moment c.args.tally.now
    all (dropped.kept ∙ body.kept) body.keeps body.takes (dropped.spent ∙ body.spent))

pub returns-in-Unheard-clause-calls : goal.returns-in-Unheard-clause-calls
returns-in-Unheard-clause-calls g c = unlinked_calls _ _ c.in-Unheard.ensures.calls

pub returns-in-Unheard-clause-leads : goal.returns-in-Unheard-clause-leads
returns-in-Unheard-clause-leads g c = λ all.
    let body = c.in-Unheard.ensures in
    let dropped = c.put_drop-in-Unheard.ensures in
    rw (← c.self.view_is)
    (take_unheard (g.X.Disk.device c.args.site.now) (g.X.Disk.device c.take_body.new.site) c.self.inside.store c.put_drop-in-Unheard.new.self
    c.self.inside.hearing c.take_body.new.hearing c.args.request.head c.take_body.new.store.put c.args.plan.put c.args.plan.responses
    c.args.request.moment c.args.tally.now all (dropped.kept ∙ body.kept) body.keeps body.takes (dropped.spent ∙ body.spent))

pub returns-clause-leads : goal.returns-clause-leads
returns-clause-leads g c = λ all.
    let old = g.X.Disk.device c.args.site.now in
    let mid = g.X.Disk.device c.take_body.new.site in
    let body = c.in-Failed.ensures in
    rw (← c.self.view_is, c.stop-in-Failed.ensures.stopped)
    (take_failed old mid c.self.inside.store c.put_drop-in-Failed.new.self c.self.inside.hearing c.take_body.new.hearing c.args.request.head
    c.take_body.new.store.put c.args.plan.put c.args.plan.responses c.args.request.moment c.args.tally.now all
    (c.put_drop-in-Failed.ensures.kept ∙ body.kept) body.keeps (g.X.Disk.device c.stop-in-Failed.new.site) c.stop-in-Failed.new.tally body.takes
    (c.stop-in-Failed.ensures.leads (tells_on old mid body.calls.same all)))
