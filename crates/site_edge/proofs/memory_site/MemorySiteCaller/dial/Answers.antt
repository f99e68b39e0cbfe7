use Rattle.std.proofs.Common.{◌∙◌, ap, sym, Some, true}
use Rattle.std.specs.Prelude.{IfSome}
use Rattle.site_edge.specs.MemorySite.{IsKeptBySite}
use Rattle.site_edge.proofs.LinkLemmas.{dial_call, dialled_none, dialled_one, missed_call}
use Rattle.site_edge.proofs.memory_site.MemorySiteCaller.dial.Goals as goal

pub returns-then-eq-clause-call : goal.returns-then-eq-clause-call
returns-then-eq-clause-call c =
    let one = dialled_one c.try_dial-began.result (sym c.eq.ensures ∙ c.if-eq.true) in
    let began = rw one at c.try_dial-began.ensures.dialled in
    rw began (dial_call _ c.args.self.now.waiting c.args.self.now (sym (rw one at c.try_dial-began.ensures.began)) c.try_dial-began.ensures.kept)

pub returns-clause-call : goal.returns-clause-call
returns-clause-call c =
    let same = dialled_none c.try_dial-began.result c.args.self.now c.try_dial-began.new.self _ (sym c.eq.ensures ∙ c.if-eq.false) c.try_dial-began.ensures.dialled
    c.try_dial-began.ensures.none in
    rw (← same, ← c.self.view_is) (missed_call _ c.count_dial.new.tally _ (ap (λ t. t.faults) c.count_dial.ensures))
