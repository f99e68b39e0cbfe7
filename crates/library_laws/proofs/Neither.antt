-- Two refusals of which neither stands.
use Rattle.std.proofs.Common.{◌≡◌, Option, Some, None, refl}
use Rattle.media_rows.specs.Lists.{or_else}

pub neither : {X : Type 0} (a b : Option X) → or_else a b ≡ None → (a ≡ None) × (b ≡ None)
neither None b e = (refl, e)
neither (Some x) b e = absurd (cc)
