use Rattle.std.proofs.Common.{ap, option_map, subst, sym, ◌∙◌}
use Rattle.object_refs.specs.References.{digested_row, with_digest}
use Rattle.object_refs.specs.Within.Apart.{IsHeld, book_seen}
use Rattle.object_refs.proofs.Shown.{book_digested, held_still}
use Rattle.object_refs.proofs.book.ObjectBook.set_digest.Goals as goal

-- the row that is held still differs in its digest alone
pub invariant_of-self : goal.invariant_of-self
invariant_of-self c =
    let is = c.with_digest.ensures ∙ ap (option_map (digested_row c.args.digest)) c.take.ensures.value in
    subst (λ held. IsHeld held c.self.inside.trees) (sym is) (held_still c.args.digest c.self.inside.apart c.self.inside.trees c.self.invariant)

pub returns : goal.returns
returns c =
    let is = c.with_digest.ensures ∙ ap (option_map (digested_row c.args.digest)) c.take.ensures.value in
    ap (book_seen c.self.inside.trees) is ∙ book_digested c.args.digest c.self.inside.apart c.self.inside.trees
    ∙ ap (with_digest c.args.digest) c.self.view_is
