use Rattle.std.proofs.Common.{ap, sym, ◌∙◌}
use Rattle.object_refs.specs.References.{without_id}
use Rattle.object_refs.specs.Within.Names.{id_number}
use Rattle.object_refs.proofs.Changing.{none_left}
use Rattle.object_refs.proofs.Lists.{if_ok}
use Rattle.object_refs.proofs.Refusing.{found_again, found_id}
use Rattle.object_refs.proofs.trees.ObjectTrees.sweep.Goals as goal

-- the object is the one of its own id
pub without_kept-requires : goal.without_kept-requires
without_kept-requires c = record {
  number = c.id_number-number.ensures ∙ ap id_number (sym (found_id c.args.id.now c.args.self.now c.in-Some.old.now (sym c.in-Some.ensures)));
  found = found_again c.args.id.now c.args.self.now c.in-Some.old.now (sym c.in-Some.ensures);
}

pub returns-in-Some : goal.returns-in-Some
returns-in-Some c =
    if_ok c.without_kept.result
    (λ next is. is ∙ ap (λ id. without_id id c.args.self.now) (found_id c.args.id.now c.args.self.now c.in-Some.old.now (sym c.in-Some.ensures)))
    c.without_kept.ensures

pub returns-in-None : goal.returns-in-None
returns-in-None c = if_ok c.share.result (λ next is. is ∙ none_left c.args.id.now c.args.self.now (sym c.in-None.ensures)) c.share.ensures
