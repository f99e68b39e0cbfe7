use Rattle.std.proofs.Common.{sym, subst}
use Rattle.media_rows.specs.Good.{Good}
use Rattle.core_parts.specs.Parts.{HeldLibrary}
use Rattle.store_core.proofs.Digested.{still_good}
use Rattle.store_core.proofs.library.Core.set_digest.Goals as goal

-- a good library stays good with another digest
pub invariant_of-self : goal.invariant_of-self
invariant_of-self c =
    subst (λ (h : HeldLibrary). Good h.library) (sym c.set_digest.ensures)
    (still_good c.self.inside.parts.apart c.args.digest c.self.inside.parts.library c.self.invariant)
