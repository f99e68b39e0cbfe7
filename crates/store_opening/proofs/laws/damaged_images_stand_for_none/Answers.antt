use Rattle.store_opening.proofs.Damage.{damaged_stands_for_none, one_damage, other_stands_for_none}
use Rattle.store_opening.proofs.laws.damaged_images_stand_for_none.Goals as goal

pub returns : goal.returns
returns c = record {
  none = record { damaged = damaged_stands_for_none; other = other_stands_for_none };
  place = one_damage c.one_reading.ensures.answer;
}
