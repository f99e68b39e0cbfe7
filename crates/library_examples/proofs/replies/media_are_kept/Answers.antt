use Rattle.std.proofs.Common.{refl}
use Rattle.media_rows.specs.Lists.{numbers_below}
use Rattle.library_examples.proofs.replies.media_are_kept.Goals as goal

pub returns : goal.returns
unfolding numbers_below
returns c = record {
  unknown = refl;
  first = refl;
  equal = refl;
  other = refl;
  longer = refl;
  full = refl;
  nothing_fits = refl;
  given = refl;
  given_other = refl;
  not_given = refl;
  not_kept = refl;
  no_digest_kept = refl;
  same_digest = refl;
  other_front = refl;
  other_back = refl;
}
