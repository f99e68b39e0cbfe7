use Rattle.std.proofs.Common.{false, subst, true}
use Rattle.tams_service.specs.Saying.{Says}
use Rattle.tams_service.proofs.Keeping.{agrees_told}
use Rattle.tams_service.proofs.Sayings.{reads_alone, reads_then, says_once}
use Rattle.tams_service.proofs.saying.say_piece.Goals as goal

-- nothing is said behind a read that failed
pub returns-in-Err-clause-says : goal.returns-in-Err-clause-says
returns-in-Err-clause-says g c = λ shows. reads_alone _ _ _ c.in-Err.ensures.call.link c.in-Err.ensures.call.time c.in-Err.ensures.handed

pub returns-in-Ok-say-clause-says : goal.returns-in-Ok-say-clause-says
returns-in-Ok-say-clause-says g c = λ shows.
    let read = c.in-Ok.ensures in
    let said = c.in-Ok-say.ensures in
    let mid = g.X.Disk.device c.get_piece.new.disk in
    let new = g.X.Disk.device c.say.new.self in
    reads_then true true _ (g.X.Disk.device c.args.site.now) mid new read.call.same read.call.link read.call.time read.handed
    (subst (λ bytes. Says true true bytes mid new) (read.piece shows) (says_once true _ mid new said.call.time said.said said.call.handed))

pub returns-in-Err-say-clause-says : goal.returns-in-Err-say-clause-says
returns-in-Err-say-clause-says g c = λ shows.
    let read = c.in-Ok.ensures in
    let said = c.in-Err-say.ensures in
    let mid = g.X.Disk.device c.get_piece.new.disk in
    let new = g.X.Disk.device c.say.new.self in
    reads_then false false _ (g.X.Disk.device c.args.site.now) mid new read.call.same read.call.link read.call.time read.handed
    (subst (λ bytes. Says false false bytes mid new) (read.piece shows) (says_once false _ mid new said.call.time said.said said.call.handed))

pub returns-in-Ok-say-clause-keeps : goal.returns-in-Ok-say-clause-keeps
returns-in-Ok-say-clause-keeps g c = λ held agrees.
    agrees_told _ held true _ _ _ (c.in-Ok.ensures.keeps held agrees).agrees c.in-Ok-say.ensures.call.time

pub returns-in-Err-say-clause-keeps : goal.returns-in-Err-say-clause-keeps
returns-in-Err-say-clause-keeps g c = λ held agrees.
    agrees_told _ held false _ _ _ (c.in-Ok.ensures.keeps held agrees).agrees c.in-Err-say.ensures.call.time
