use Rattle.std.proofs.Common.{ap, ◌∙◌}
use Rattle.media_book.specs.Media.{media_of, swept}
use Rattle.core_registry.specs.Registry.{registry_of}
use Rattle.core_parts.proofs.Changed.{made_kept}
use Rattle.core_parts.proofs.parts.Parts.sweep.Goals as goal

-- the objects go, and all else stays
pub returns : goal.returns
returns c =
    let library = c.args.self.now.library in
    c.with_both.ensures
    ∙ made_kept library.id c.in_ok-media.media.media (swept c.args.now (media_of library)) c.in_ok-registry.registry (registry_of library) c.requires.ready.within
    (c.in_ok-media.ensures ∙ ap (swept c.args.now) (ap media_of (ap (λ p. p.library) c.self.view_is)))
    (c.in_ok-registry.ensures ∙ ap registry_of (ap (λ p. p.library) c.self.view_is))
