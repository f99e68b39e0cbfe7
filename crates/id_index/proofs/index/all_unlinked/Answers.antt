use Rattle.std.proofs.Common.{sym, ◌∙◌}
use Rattle.std.proofs.lemmas.List.{at_drop_all}
use Rattle.id_index.specs.Index.{ids_at}
use Rattle.id_index.specs.Within.Steps.{unlinked}
use Rattle.id_index.proofs.Linked.{unlinked_is}
use Rattle.id_index.proofs.index.all_unlinked.Goals as goal

-- one after the other is the same as all at once
pub returns : goal.returns
returns c a =
    sym (at_drop_all (λ l. unlinked a c.args.id l (ids_at a c.loop-one.next)) c.args.to.now c.loop-one.one-index c.loop-one-test.false)
    ∙ c.loop-one.invariant a
    ∙ unlinked_is a c.args.id c.args.to.now (ids_at a c.args.linked.now)
