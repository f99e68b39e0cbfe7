use Rattle.std.proofs.Common.{◌∙◌}
use Rattle.std.proofs.lemmas.Result.{err_from_is_err_and}
use Rattle.tams_service.proofs.Opened.{opened_keeps}
use Rattle.tams_service.proofs.service.TamsService.open.Goals as goal

-- A store was opened that keeps the state for which the file stood.
pub returns-in-Ok-clause-keeps : goal.returns-in-Ok-clause-keeps
returns-in-Ok-clause-keeps g c = λ shows leaves from stands.
    opened_keeps c.an_image_stands_for_one_state.ensures c.in_ok-store.store (g.D.Disk.device c.open.new.disk)
    (g.D.Disk.device c.args.disk.now).seen from c.in_ok-store.ensures.unspent (c.in_ok-store.ensures.answer shows)
    (c.in_ok-store.ensures.agrees shows leaves) stands

-- It couldn't be opened.
pub returns-in_err-store-clause-reads : goal.returns-in_err-store-clause-reads
returns-in_err-store-clause-reads g c =
    let failed = err_from_is_err_and c.from_residual-in_err-store.result c.from_residual-in_err-store.ensures.1 in
    rw (failed.1, failed.2) c.in_err-store.ensures.reads

pub returns-in_err-store-clause-answer : goal.returns-in_err-store-clause-answer
returns-in_err-store-clause-answer g c =
    let failed = err_from_is_err_and c.from_residual-in_err-store.result c.from_residual-in_err-store.ensures.1 in
    rw (failed.1, failed.2) c.in_err-store.ensures.answer

-- A service was made.
pub invariant_of-result : goal.invariant_of-result
invariant_of-result g c = record {
  routes_are = λ unspent. c.in-Ok.ensures ∙ c.id.ensures;
  base_is = c.requires.base;
  refusals_are = c.in_ok-refusals.ensures;
  room_is = c.in_ok-room.ensures.len;
  idle = c.in_ok-store.ensures.idle;
}
