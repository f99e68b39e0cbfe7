use Rattle.std.proofs.Common.{refl}
use Rattle.media_rows.specs.Lists.{numbers_below}
use Rattle.library_examples.proofs.good.bad_sources.Goals as goal

pub returns : goal.returns
unfolding numbers_below
returns c = record { fine = refl; no_source = refl; no_flow = refl; format = refl }
