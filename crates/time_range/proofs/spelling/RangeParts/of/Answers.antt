use Rattle.std.proofs.Common.{refl}
use Rattle.time_range.proofs.Canonical.{ends_spell, never_spells}
use Rattle.time_range.proofs.spelling.RangeParts.of.Goals as goal

pub returns-in-None-clause-spells : goal.returns-in-None-clause-spells
returns-in-None-clause-spells c = never_spells c.args.range.now (c.in-None.ensures.never.0 refl)

pub returns-in-Some-clause-spells : goal.returns-in-Some-clause-spells
returns-in-Some-clause-spells c =
    let found = c.in-Some.ensures in
    rw (c.bracket_of.ensures, c.between.ensures, c.bracket_of-in-Some.ensures)
    (ends_spell c.in-Some.low c.in-Some.high c.args.range.now found.within.0 found.within.1 found.points)
