use Rattle.std.proofs.Common.{subst}
use Rattle.time_range.specs.Spelling.{range_text, SpellsRange}
use Rattle.time_range.proofs.printing.print_range.Goals as goal

pub returns-then-is_err-clause-spells : goal.returns-then-is_err-clause-spells
returns-then-is_err-clause-spells c = subst (λ p. SpellsRange (range_text p) c.args.r.now) c.of.ensures.value c.of.ensures.spells

pub returns-else-is_err-clause-spells : goal.returns-else-is_err-clause-spells
returns-else-is_err-clause-spells c = subst (λ p. SpellsRange (range_text p) c.args.r.now) c.of.ensures.value c.of.ensures.spells
