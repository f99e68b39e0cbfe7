use Rattle.std.proofs.Common.{◌∷◌, [], sym, subst, ◌∙◌}
use Rattle.id_index.specs.Index.{Links}
use Rattle.id_index.proofs.Pairs.{if_ok}
use Rattle.delete_work.proofs.Kept.{ending_linked, ending_same}
use Rattle.delete_work.proofs.rows.ending_with.Goals as goal

-- a request that deletes its flow is found by it
pub returns-then-is_ending : goal.returns-then-is_ending
returns-then-is_ending c =
    if_ok c.link.result (λ next come. ending_linked c.args.row.now c.args.rows.now c.in_ok-left.left next c.in_ok-left.ensures
    (sym c.is_ending.ensures ∙ c.if-is_ending.true)
    (subst (λ n. Links (c.args.row.now.flow ∷ []) n c.in_ok-left.left next) c.serial_id-serial.ensures come)) c.link.ensures

-- another names none
pub returns-else-is_ending : goal.returns-else-is_ending
returns-else-is_ending c = ending_same c.args.row.now c.args.rows.now c.in_ok-left.left c.in_ok-left.ensures (sym c.is_ending.ensures ∙ c.if-is_ending.false)
