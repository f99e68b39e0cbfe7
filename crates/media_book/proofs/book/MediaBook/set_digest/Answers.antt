use Rattle.std.proofs.Common.{ap, subst, sym, ◌∙◌}
use Rattle.media_book.specs.Media.{media_digested}
use Rattle.media_book.specs.Within.Ties.{IsMedia, held_seen}
use Rattle.media_book.proofs.Digested.{digested_is, digested_seen}
use Rattle.media_book.proofs.book.MediaBook.set_digest.Goals as goal

-- what is kept of the media looks at no digest
pub invariant_of-self : goal.invariant_of-self
invariant_of-self c =
    subst (λ book. IsMedia c.self.inside.segments book.kept c.self.inside.space c.self.inside.bytes) (sym c.set_digest.ensures)
    (digested_is c.args.digest c.self.inside.segments c.self.inside.objects c.self.inside.space c.self.inside.bytes c.self.invariant)

pub returns : goal.returns
returns c =
    ap (λ book. held_seen c.self.inside.segments book c.self.inside.space) c.set_digest.ensures
    ∙ digested_seen c.args.digest c.self.inside.segments c.self.inside.objects c.self.inside.space
    ∙ ap (media_digested c.args.digest) c.self.view_is
