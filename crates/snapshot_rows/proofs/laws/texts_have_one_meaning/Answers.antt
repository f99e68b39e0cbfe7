use Rattle.snapshot_rows.proofs.Damage.{damage_is_no_text, is_one_list, is_one_place}
use Rattle.snapshot_rows.proofs.laws.texts_have_one_meaning.Goals as goal

pub returns-clause-rows : goal.returns-clause-rows
returns-clause-rows c = is_one_list

pub returns-clause-place : goal.returns-clause-place
returns-clause-place c = is_one_place

pub returns-clause-either : goal.returns-clause-either
returns-clause-either c = damage_is_no_text
