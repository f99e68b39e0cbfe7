use Rattle.std.proofs.Common.{refl}
use Rattle.media_rows.specs.Lists.{numbers_below}
use Rattle.std.specs.Str.{is_utf8}
use Rattle.std.specs.Str.{chars}
use Rattle.std.proofs.Math.Utf8.{encode}
use Rattle.library_examples.proofs.good.changes_are_tested.Goals as goal

pub returns : goal.returns
unfolding numbers_below is_utf8 chars encode
returns c = record {
  put_applies = refl;
  late = refl;
  no_step = refl;
  no_sweep = refl;
  no_hook = refl;
  stored_again = refl;
  block_taken = refl;
  too_many = refl;
  too_few = refl;
  drop_many = refl;
  cut_nothing = refl;
  not_whole = refl;
  serials_end = refl;
  serials_go_on = refl;
  bad_label = refl;
}
