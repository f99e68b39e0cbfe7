use Rattle.std.proofs.Common.{refl}
use Rattle.media_rows.specs.Lists.{numbers_below}
use Rattle.std.specs.Str.{is_utf8}
use Rattle.std.specs.Str.{chars}
use Rattle.std.proofs.Math.Utf8.{encode}
use Rattle.library_examples.proofs.good.changes_are_sound.Goals as goal

pub returns : goal.returns
unfolding numbers_below is_utf8 chars encode
returns c = record {
  bad_body = refl;
  bad_part = refl;
  bad_source_part = refl;
  bad_ids = refl;
  any_place = refl;
  no_bytes = refl;
  unbounded = refl;
  whole_line = refl;
  part_with_flow = refl;
  part_alone = refl;
  bad_hook = refl;
  sound = refl;
  no_moment = refl;
  bad_values = refl;
  last_serial_left = refl;
  no_serial_left = refl;
}
