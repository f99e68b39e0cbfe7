use Rattle.std.proofs.Common.{◌≡◌, ◌∙◌, All, Option, Some, None, refl, subst, arith}
use Rattle.std.proofs.lemmas.List.{take_all}
use Rattle.store_commands.specs.Probing.{IsWhole, archive_in}
use Rattle.store_commands.proofs.ProbingLemmas.{probed_all, probed_first, probed_more}
use Rattle.store_commands.proofs.probing.first_damaged.Goals as goal

-- This one is the first.
pub returns-in-Some-clause-tells : goal.returns-in-Some-clause-tells
returns-in-Some-clause-tells g c = λ shows.
    probed_first c.args.store.now.kept c.loop-row.store c.items-row-items.result.now (g.D.Disk.device c.args.disk.now) (g.D.Disk.device c.loop-row.disk)
    c.loop-row.row-index c.loop-row.invariant c.loop-row-test.true c.row-item.result c.row-item.is c.in-Some.damaged
    (c.items-row-items.ensures ∙ c.in_ok-rows.ensures) (rw c.in-Some.is at c.in_ok-damaged.ensures.tells) shows

nothing_told : {X : Type 0} (o : Option X) → ((x : X) → o ≡ Some x → ⊥) → o ≡ None
nothing_told None none = refl
nothing_told (Some x) none = absurd (none x refl)

-- One more is whole.
pub loop-row-preserved : goal.loop-row-preserved
loop-row-preserved g c =
    let told = c.in_ok-damaged.ensures in
    let none = nothing_told c.in_ok-damaged.field-0 c.in_default.not-Some in
    probed_more c.args.store.now.kept c.loop-row.store c.items-row-items.result.now (g.D.Disk.device c.args.disk.now) (g.D.Disk.device c.loop-row.disk)
    c.loop-row.row-index c.loop-row.invariant c.loop-row-test.true c.row-item.result c.row-item.is c.damage_of.new.store
    (g.D.Disk.device c.damage_of.new.disk) told.spent told.kept told.reads (rw none at told.tells)

-- All were.
pub returns-clause-tells : goal.returns-clause-tells
returns-clause-tells g c = λ shows.
    let archive = archive_in (g.D.Disk.device c.args.disk.now).seen c.args.store.now.kept in
    probed_all archive
    (subst (All (IsWhole archive))
    (take_all c.loop-row.row-index c.items-row-items.result.now (omega (arith, c.loop-row-test.false)) ∙ c.items-row-items.ensures ∙ c.in_ok-rows.ensures)
    (c.loop-row.invariant.whole shows))
