use Rattle.std.proofs.Common.{◌∙◌, subst, sym}
use Rattle.store_commands.specs.Probing.{IsDamaged, archive_in}
use Rattle.store_commands.proofs.ProbingLemmas.{may_probe, probed_damaged, probed_whole}
use Rattle.store_commands.proofs.probing.damage_of.Goals as goal

-- a row of the stored objects is that of its id
pub probe-requires-clause-stored : goal.probe-requires-clause-stored
probe-requires-clause-stored g c = may_probe c.args.store.now.kept c.keeps_good.ensures c.args.row.now c.requires.stored

pub returns-then-eq-clause-tells : goal.returns-then-eq-clause-tells
returns-then-eq-clause-tells g c = λ shows.
    probed_whole c.args.store.now.kept c.keeps_good.ensures c.args.row.now c.requires.stored (g.D.Disk.device c.args.disk.now).seen c.in_ok-probe.probe
    (c.in_ok-probe.ensures.tells shows) (sym c.eq.ensures ∙ c.if-eq.true)

pub returns-clause-tells : goal.returns-clause-tells
returns-clause-tells g c = λ shows.
    let kept = c.args.store.now.kept in
    let image = (g.D.Disk.device c.args.disk.now).seen in
    subst (IsDamaged (archive_in image kept) c.args.row.now) (sym c.in_ok-damaged.ensures)
    (probed_damaged kept c.keeps_good.ensures c.args.row.now c.requires.stored image c.in_ok-probe.probe (c.in_ok-probe.ensures.tells shows)
    (sym c.eq.ensures ∙ c.if-eq.false))
