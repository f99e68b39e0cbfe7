use Rattle.std.proofs.Common.{refl}
use Rattle.media_rows.specs.Lists.{numbers_below}
use Rattle.std.specs.Str.{is_utf8}
use Rattle.std.specs.Str.{chars}
use Rattle.std.proofs.Math.Utf8.{encode}
use Rattle.library_examples.proofs.good.commands_are_good.Goals as goal

pub returns : goal.returns
unfolding numbers_below is_utf8 chars encode
returns c = record {
  least_place = refl;
  other_free_place = refl;
  taken_place = refl;
  no_bytes = refl;
  no_bytes_elsewhere = refl;
  no_place = refl;
  stored_object = refl;
  unknown_object = refl;
  bad_body = refl;
  bad_part = refl;
  bad_source_part = refl;
  bad_ids = refl;
  made_ids = refl;
  unbounded = refl;
  any_cut = refl;
  bad_hook = refl;
  good_hook = refl;
}
