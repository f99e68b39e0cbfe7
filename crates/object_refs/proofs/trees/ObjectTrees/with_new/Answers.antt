use Rattle.std.proofs.Common.{ap, sym, ◌∙◌}
use Rattle.object_refs.specs.References.{kept_of}
use Rattle.object_refs.specs.Within.Names.{id_number}
use Rattle.object_refs.proofs.Coming.{new_at_end}
use Rattle.object_refs.proofs.Lists.{if_ok}
use Rattle.object_refs.proofs.Restoring.{below_fresh}
use Rattle.object_refs.proofs.trees.ObjectTrees.with_new.Goals as goal

-- the copied id has the same number
pub with_row-requires-clause-number : goal.with_row-requires-clause-number
with_row-requires-clause-number c = c.requires.number ∙ ap id_number (sym c.in_ok-copy.ensures)

-- the id and the serial are new
pub with_row-requires-clause-id : goal.with_row-requires-clause-id
with_row-requires-clause-id c = ap (λ id. kept_of id c.args.self.now) c.in_ok-copy.ensures ∙ c.requires.id

pub with_row-requires-clause-serial : goal.with_row-requires-clause-serial
with_row-requires-clause-serial c = below_fresh c.args.serial c.args.self.now c.requires.above

-- the object stands at the end
pub returns : goal.returns
returns c = if_ok c.with_row.result
    (λ next is. new_at_end c.in_ok-copy.field-0 c.args.id.now c.args.serial c.args.now c.args.self.now next c.in_ok-copy.ensures c.requires.above is)
    c.with_row.ensures
