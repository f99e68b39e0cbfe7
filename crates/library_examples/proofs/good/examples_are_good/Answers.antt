use Rattle.std.proofs.Common.{refl}
use Rattle.media_rows.specs.Lists.{numbers_below}
use Rattle.std.specs.Str.{is_utf8}
use Rattle.std.specs.Str.{chars}
use Rattle.std.proofs.Math.Utf8.{encode}
use Rattle.library_examples.proofs.good.examples_are_good.Goals as goal

pub returns : goal.returns
unfolding numbers_below is_utf8 chars encode
returns c = record { empty = refl; shared_is = refl; studio_is = refl }
