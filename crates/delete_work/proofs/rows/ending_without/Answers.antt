use Rattle.std.proofs.Common.{◌∷◌, [], ap, sym, subst, ◌∙◌}
use Rattle.media_rows.specs.Views.{id_key}
use Rattle.shared_tree.specs.Pairs.{value_at}
use Rattle.id_index.specs.Index.{Unlinks}
use Rattle.id_index.proofs.Pairs.{if_ok}
use Rattle.delete_work.proofs.Kept.{ending_gone, ending_none, ending_stays}
use Rattle.delete_work.proofs.rows.ending_without.Goals as goal

-- no request has the serial
pub returns-in_default : goal.returns-in_default
returns-in_default c =
    if_ok c.share.result (λ next is. ending_none c.args.row.now c.args.rows.now c.args.ending.now next c.keys_rise.ensures
    (ap (λ n. value_at (id_key n) c.args.rows.now) (sym c.serial_id-serial.ensures) ∙ sym c.in_default.ensures) c.requires.index is) c.share.ensures

-- one that deletes its flow does so no more
pub returns-then-is_ending : goal.returns-then-is_ending
returns-then-is_ending c =
    if_ok c.unlink.result (λ next gone. ending_gone c.args.row.now c.in-Some.old.now c.args.rows.now c.args.ending.now next c.keys_rise.ensures
    (ap (λ n. value_at (id_key n) c.args.rows.now) (sym c.serial_id-serial.ensures) ∙ sym c.in-Some.ensures) c.requires.index
    (sym c.is_ending.ensures ∙ c.if-is_ending.true)
    (subst (λ n. Unlinks (c.in-Some.old.now.flow ∷ []) n c.args.ending.now next) c.serial_id-serial.ensures gone)) c.unlink.ensures

-- another names no flow
pub returns-else-is_ending : goal.returns-else-is_ending
returns-else-is_ending c =
    if_ok c.share-else-is_ending.result (λ next is. ending_stays c.args.row.now c.in-Some.old.now c.args.rows.now c.args.ending.now next c.keys_rise.ensures
    (ap (λ n. value_at (id_key n) c.args.rows.now) (sym c.serial_id-serial.ensures) ∙ sym c.in-Some.ensures) c.requires.index
    (sym c.is_ending.ensures ∙ c.if-is_ending.false) is) c.share-else-is_ending.ensures
