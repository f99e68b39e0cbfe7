use Rattle.std.proofs.Common.{◌≡◌, true, ap, sym, subst, ◌∙◌, arith}
use Rattle.media_rows.specs.Objects.{idled}
use Rattle.object_refs.specs.References.{changed_at, kept_of, objects_in, references_in, refers, released_at}
use Rattle.object_refs.proofs.Changing.{none_refer, released_flows, released_objects}
use Rattle.object_refs.proofs.Lists.{if_ok}
use Rattle.object_refs.proofs.Refusing.{changed_by, found_again}
use Rattle.object_refs.proofs.trees.ObjectTrees.unrefer.Goals as goal

-- an object to which a flow refers is kept
pub unreachable-requires : goal.unreachable-requires
unreachable-requires c = let none = none_refer c.args.id.now c.args.flow c.args.self.now (sym c.in_default.ensures) in let both =
    sym none ∙ c.requires.there in absurd (grind (arith, both))

-- the object is the one of its own id
pub with_kept-requires-clause-found : goal.with_kept-requires-clause-found
with_kept-requires-clause-found c = found_again c.args.id.now c.args.self.now c.in-Some.old.now (sym c.in-Some.ensures)

-- an object that loses its last reference is idle since now
pub returns-clause-objects : goal.returns-clause-objects
returns-clause-objects c =
    let view = c.self.view_is in
    let id = c.args.id.now in
    let change = released_at c.args.flow c.args.now in
    let found = sym c.in-Some.ensures in
    if_ok c.with_kept.result
    (λ next is. subst (λ kept. objects_in next ≡ idled (references_in kept) (references_in next) c.args.now (objects_in kept)) view
    (released_objects c.self.inside.rows c.self.inside.names c.self.inside.idle c.in-Some.old.now id c.args.flow c.args.now next c.self.invariant
    c.keys_rise.ensures (ap (kept_of id) view ∙ found)
    (subst (λ kept. refers (references_in kept) id c.args.flow ≡ true) (sym view) c.requires.there)
    (changed_by id c.args.self.now next c.in-Some.old.now change found is ∙ ap (changed_at id change) (sym view))))
    (c.with_kept.ensures change c.in_ok-new.ensures)

-- one reference is taken
pub returns-clause-flows : goal.returns-clause-flows
returns-clause-flows c =
    let change = released_at c.args.flow c.args.now in
    if_ok c.with_kept.result
    (λ next is. released_flows c.args.id.now c.args.flow c.args.now c.args.self.now next
    (changed_by c.args.id.now c.args.self.now next c.in-Some.old.now change (sym c.in-Some.ensures) is))
    (c.with_kept.ensures change c.in_ok-new.ensures)

-- just that object is changed
pub returns-clause-book : goal.returns-clause-book
returns-clause-book c =
    let change = released_at c.args.flow c.args.now in
    if_ok c.with_kept.result
    (λ next is. changed_by c.args.id.now c.args.self.now next c.in-Some.old.now change (sym c.in-Some.ensures) is)
    (c.with_kept.ensures change c.in_ok-new.ensures)
