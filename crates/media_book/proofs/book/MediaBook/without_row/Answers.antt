use Rattle.std.proofs.Common.{◌∷◌, [], Contains, sym, subst, ap, ◌∙◌}
use Rattle.media_book.specs.Media.{without_rows}
use Rattle.media_book.proofs.Kept.{less_is, row_is_referred}
use Rattle.media_book.proofs.book.MediaBook.without_row.Goals as goal

-- the segment's flow refers to its object
pub unrefer-requires : goal.unrefer-requires
unrefer-requires c = record {
  there = row_is_referred c.self.inside.segments c.self.inside.objects.kept c.self.inside.space c.self.inside.bytes c.args.row.now c.self.invariant
      (subst (λ m. Contains m.segments c.args.row.now) (sym (ap (λ m. m.media) c.self.view_is)) c.requires.there);
}

pub invariant_of-result : goal.invariant_of-result
invariant_of-result c =
    let there = subst (λ m. Contains m.segments c.args.row.now) (sym (ap (λ m. m.media) c.self.view_is)) c.requires.there in
    rw (c.in_ok-remove.ensures, c.in_ok-share.ensures)
    ((less_is c.references_go.ensures c.self.inside.segments c.self.inside.objects.kept c.in_ok-unrefer.field-0.kept c.self.inside.space c.self.inside.bytes
    c.args.row.now c.args.now c.self.invariant there c.in_ok-unrefer.ensures.objects c.in_ok-unrefer.ensures.flows).media)

pub returns : goal.returns
returns c =
    let there = subst (λ m. Contains m.segments c.args.row.now) (sym (ap (λ m. m.media) c.self.view_is)) c.requires.there in
    rw (c.in_ok-remove.ensures, c.in_ok-share.ensures)
    ((less_is c.references_go.ensures c.self.inside.segments c.self.inside.objects.kept c.in_ok-unrefer.field-0.kept c.self.inside.space c.self.inside.bytes
    c.args.row.now c.args.now c.self.invariant there c.in_ok-unrefer.ensures.objects c.in_ok-unrefer.ensures.flows).seen
    ∙ ap (without_rows (c.args.row.now ∷ []) c.args.now) (ap (λ m. m.media) c.self.view_is))
