use Rattle.std.proofs.Common.{◌∷◌, ◌++◌, [], ap, arith, sym, ◌∙◌}
use Rattle.object_refs.specs.References.{objects_in, references_in}
use Rattle.object_refs.proofs.Theorems.{due_unnamed}
use Rattle.delete_work.proofs.DueObjects.{sweeping_done, sweeping_few, sweeping_full, sweeping_more, sweeping_rows, sweeping_starts}
use Rattle.delete_work.proofs.sweep.sweep_step.Goals as goal

pub loop-taken-init : goal.loop-taken-init
loop-taken-init c = sweeping_starts c.args.now c.args.objects.now.kept c.in_ok-left.left.kept c.new-gone.result (ap (λ book. book.kept) c.in_ok-left.ensures) c.new-gone.ensures

-- no object is due any more
pub returns-in_default-clause-gone : goal.returns-in_default-clause-gone
returns-in_default-clause-gone c = sweeping_done c.args.now c.loop-taken._taken c.args.objects.now.kept c.loop-taken.left.kept c.loop-taken.gone c.loop-taken.invariant
    (sym c.in_default.ensures)

pub returns-in_default-clause-few : goal.returns-in_default-clause-few
returns-in_default-clause-few c = sweeping_few c.args.now c.args.objects.now.kept c.loop-taken.gone
    (sweeping_done c.args.now c.loop-taken._taken c.args.objects.now.kept c.loop-taken.left.kept c.loop-taken.gone c.loop-taken.invariant (sym c.in_default.ensures))

pub returns-in_default-clause-left : goal.returns-in_default-clause-left
returns-in_default-clause-left c = c.loop-taken.invariant.left

pub returns-in_default-clause-rows : goal.returns-in_default-clause-rows
returns-in_default-clause-rows c = sweeping_rows c.args.now c.loop-taken._taken c.args.objects.now.kept c.loop-taken.left.kept c.loop-taken.gone c.loop-taken.invariant

pub returns-in_default-clause-references : goal.returns-in_default-clause-references
returns-in_default-clause-references c = c.loop-taken.invariant.references

-- nothing names an object that is due
pub sweep-requires : goal.sweep-requires
sweep-requires c = record {
  unnamed = due_unnamed (references_in c.loop-taken.left.kept) (objects_in c.loop-taken.left.kept) c.args.now c.in-Some.first.now (sym c.in-Some.ensures);
}

pub loop-taken-preserved : goal.loop-taken-preserved
loop-taken-preserved c =
    sweeping_more c.args.now c.loop-taken._taken c.args.objects.now.kept c.loop-taken.left.kept c.in_ok-left-2.left.kept c.loop-taken.gone c.push.new.self
    c.in-Some.first.now (omega (arith, c.loop-taken-test.true)) c.is_in_order.ensures.ids c.is_in_order.ensures.serials (sym c.in-Some.ensures)
    (ap (λ book. book.kept) c.in_ok-left-2.ensures) (c.in_ok-push.ensures.ok ∙ ap (λ r. c.loop-taken.gone ++ r ∷ []) c.in_ok-duplicate.ensures) c.loop-taken.invariant

-- sixteen went
pub returns-clause-gone : goal.returns-clause-gone
returns-clause-gone c = sweeping_full c.args.now c.loop-taken._taken c.args.objects.now.kept c.loop-taken.left.kept c.loop-taken.gone c.loop-taken.invariant
    (omega (arith, c.loop-taken-test.false))

pub returns-clause-few : goal.returns-clause-few
returns-clause-few c = sweeping_few c.args.now c.args.objects.now.kept c.loop-taken.gone
    (sweeping_full c.args.now c.loop-taken._taken c.args.objects.now.kept c.loop-taken.left.kept c.loop-taken.gone c.loop-taken.invariant
    (omega (arith, c.loop-taken-test.false)))

pub returns-clause-left : goal.returns-clause-left
returns-clause-left c = c.loop-taken.invariant.left

pub returns-clause-rows : goal.returns-clause-rows
returns-clause-rows c = sweeping_rows c.args.now c.loop-taken._taken c.args.objects.now.kept c.loop-taken.left.kept c.loop-taken.gone c.loop-taken.invariant

pub returns-clause-references : goal.returns-clause-references
returns-clause-references c = c.loop-taken.invariant.references
