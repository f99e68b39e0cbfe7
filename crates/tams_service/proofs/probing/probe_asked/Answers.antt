use Rattle.std.proofs.Common.{◌≡◌, ◌∙◌, false, not, Option, Some, None, refl, sym, ap}
use Rattle.std.specs.Prelude.{is_some}
use Rattle.std.proofs.lemmas.Bool.{false≢true}
use Rattle.media_store.specs.Stores.{archive_of}
use Rattle.store_states.specs.States.{media_start}
use Rattle.tams_answers.proofs.Probed.{tells_stored, tells_unstored}
use Rattle.tams_service.proofs.Holding.{held_seen}
use Rattle.tams_service.proofs.probing.probe_asked.Goals as goal

none_by : {X : Type 0} (o : Option X) → is_some o ≡ false → o ≡ None
none_by None none = refl
none_by (Some x) none = absurd (false≢true (sym none))

-- nothing lies there
pub returns-then-is_none-clause-tells : goal.returns-then-is_none-clause-tells
returns-then-is_none-clause-tells g c = λ shows held agrees.
    tells_unstored (archive_of c.args.store.now.kept held) c.args.asked.now.ask c.in-Some.object.now None (sym c.in-Some.ensures)
    (sym c.extent_of.ensures ∙ none_by c.extent_of.result (c.is_none.ensures ∙ ap not c.if-is_none.true))

-- the bytes that lie there were read
pub returns-clause-tells : goal.returns-clause-tells
returns-clause-tells g c = λ shows held agrees.
    let kept = c.args.store.now.kept in
    let old = g.D.Disk.device c.args.disk.now in
    tells_stored (archive_of kept held) c.args.asked.now.ask c.in-Some.object.now c.in_ok-probe.probe (media_start kept.journal.half) old.seen
    (sym c.in-Some.ensures) (held_seen old kept held (g.met.D.Disk.sound c.args.disk.now) shows agrees) (c.in_ok-probe.ensures.tells shows)
