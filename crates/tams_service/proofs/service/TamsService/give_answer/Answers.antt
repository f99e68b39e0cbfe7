use Rattle.std.proofs.Common.{◌≡◌, ◌∙◌, None, ap}
use Rattle.std.proofs.lemmas.Bool.{false≢true}
use Rattle.media_store.specs.Pieces.{IsExtent}
use Rattle.tams_service.specs.Answering.{TellsAllOf}
use Rattle.tams_service.proofs.Giving.{give_failed, give_made, media_or_none, response_there}
use Rattle.tams_service.proofs.Keeping.{bytes_seen}
use Rattle.tams_service.proofs.service.TamsService.give_answer.Goals as goal

-- The disk failed while the record of the change was being written.
pub returns-in-Err-clause-leads : goal.returns-in-Err-clause-leads
returns-in-Err-clause-leads g c = λ all.
    let old = g.X.Disk.device c.args.site.now in
    let mid = g.X.Disk.device c.commit.new.disk in
    let failed = c.in-Err.ensures in
    let same = failed.calls.same in
    let behind : TellsAllOf mid = record { honest = same.honest ∙ all.honest; shows = same.shows ∙ all.shows; tells = same.tells ∙ all.tells } in
    rw (← c.self.view_is, c.stop.ensures.stopped)
    (λ p text rest r asks keeps request answers few.
    give_failed p old mid (g.X.Disk.device c.stop.new.site) c.args.tally.now c.stop.new.tally text rest c.self.inside.store r c.args.request.moment
    c.args.answer asks keeps answers failed.calls.link c.commit.new.self.kept
    (λ change step. failed.makes all.honest all.shows p.state.archive.held keeps.agrees change step)
    (λ none. false≢true (failed.unchanged none).1)
    (rw c.changes_of-changes.ensures at c.stop.ensures.leads behind) c.commit.new.self c.args.request.head.ends request)

-- It was written.
pub returns-clause-leads : goal.returns-clause-leads
returns-clause-leads g c = λ all.
    let old = g.X.Disk.device c.args.site.now in
    let mid = g.X.Disk.device c.commit.new.disk in
    let store = c.self.inside.store in
    let made = c.in-Ok.ensures in
    let same = made.calls.same in
    let behind : TellsAllOf mid = record { honest = same.honest ∙ all.honest; shows = same.shows ∙ all.shows; tells = same.tells ∙ all.tells } in
    rw (← c.self.view_is)
    (λ p text rest r asks keeps request answers few.
    give_made p old mid (g.X.Disk.device c.finish.new.site) c.args.tally.now c.finish.new.tally text rest store r c.args.request.moment
    c.args.answer asks keeps answers made.calls.link c.media_follows.ensures c.commit.new.self
    (λ change step. made.makes all.honest all.shows p.state.archive.held keeps.agrees change step)
    (λ none. ap (λ d. g.X.Disk.device d) (made.unchanged none).0)
    (made.handed all.tells) made.kept made.spent
    (bytes_seen store old p.state (g.met.X.Disk.sound c.args.site.now) all.shows keeps)
    (media_or_none (IsExtent store.kept.library) (c.args.answer.planned.frame ≡ None) c.args.answer.media (rw (← c.self.view_is) at c.requires.media))
    c.finish.new.self.store c.args.request.head.ends request few c.finish.result
    ((rw (c.bytes.ensures, c.changes_of-changes.ensures) at c.finish.ensures.leads behind)
    (response_there p r c.args.request.moment c.args.answer answers c.args.answer.media)))
