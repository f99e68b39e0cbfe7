use Rattle.std.proofs.Common.{refl}
use Rattle.media_rows.specs.Lists.{numbers_below}
use Rattle.library_examples.proofs.refusals.collections_come_last.Goals as goal

pub returns : goal.returns
unfolding numbers_below
returns c = record {
  format_first = refl;
  missing_next = refl;
  itself_last = refl;
  first_of_two = refl;
  changed_first = refl;
  other_source = refl;
  kept_missing = refl;
  kept_circle = refl;
  kept_fine = refl;
  long_circle = refl;
  set_missing = refl;
  set_circle = refl;
  set_fine = refl;
}
