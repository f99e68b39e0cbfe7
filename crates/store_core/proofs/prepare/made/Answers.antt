use Rattle.std.proofs.Common.{sym, subst}
use Rattle.media_rows.specs.declared.command.Command.{Command}
use Rattle.store_core.specs.Within.{KeepsApart, MakesAnswer}
use Rattle.store_core.proofs.prepare.made.Goals as goal

pub returns-in-Allocate-clause-answer : goal.returns-in-Allocate-clause-answer
returns-in-Allocate-clause-answer c =
    subst (λ (command : Command). MakesAnswer c.args.parts.now.library command c.args.now c.allocate.result) (sym c.in-Allocate.is) c.allocate.ensures

pub returns-in-SetFlow-clause-answer : goal.returns-in-SetFlow-clause-answer
returns-in-SetFlow-clause-answer c =
    subst (λ (command : Command). MakesAnswer c.args.parts.now.library command c.args.now c.set_flow.result) (sym c.in-SetFlow.is) c.set_flow.ensures

pub returns-in-SetSource-clause-answer : goal.returns-in-SetSource-clause-answer
returns-in-SetSource-clause-answer c =
    subst (λ (command : Command). MakesAnswer c.args.parts.now.library command c.args.now c.set_source.result) (sym c.in-SetSource.is) c.set_source.ensures

pub returns-in-Keep-clause-answer : goal.returns-in-Keep-clause-answer
returns-in-Keep-clause-answer c =
    subst (λ (command : Command). MakesAnswer c.args.parts.now.library command c.args.now c.keep.result) (sym c.in-Keep.is) c.keep.ensures.made

-- no other command keeps an object
pub returns-in-PutFlow-clause-apart : goal.returns-in-PutFlow-clause-apart
returns-in-PutFlow-clause-apart c =
    subst (λ (command : Command). KeepsApart c.args.parts.now.library command c.put_flow.result) (sym c.in-PutFlow.is) tt

pub returns-in-SetFlow-clause-apart : goal.returns-in-SetFlow-clause-apart
returns-in-SetFlow-clause-apart c =
    subst (λ (command : Command). KeepsApart c.args.parts.now.library command c.set_flow.result) (sym c.in-SetFlow.is) tt

pub returns-in-SetSource-clause-apart : goal.returns-in-SetSource-clause-apart
returns-in-SetSource-clause-apart c =
    subst (λ (command : Command). KeepsApart c.args.parts.now.library command c.set_source.result) (sym c.in-SetSource.is) tt

pub returns-in-DropFlow-clause-apart : goal.returns-in-DropFlow-clause-apart
returns-in-DropFlow-clause-apart c =
    subst (λ (command : Command). KeepsApart c.args.parts.now.library command c.drop_flow.result) (sym c.in-DropFlow.is) tt

pub returns-in-Allocate-clause-apart : goal.returns-in-Allocate-clause-apart
returns-in-Allocate-clause-apart c =
    subst (λ (command : Command). KeepsApart c.args.parts.now.library command c.allocate.result) (sym c.in-Allocate.is) tt

pub returns-in-AddSegments-clause-apart : goal.returns-in-AddSegments-clause-apart
returns-in-AddSegments-clause-apart c =
    subst (λ (command : Command). KeepsApart c.args.parts.now.library command c.add_segments.result) (sym c.in-AddSegments.is) tt

pub returns-in-CutSegments-clause-apart : goal.returns-in-CutSegments-clause-apart
returns-in-CutSegments-clause-apart c =
    subst (λ (command : Command). KeepsApart c.args.parts.now.library command c.cut_segments.result) (sym c.in-CutSegments.is) tt

pub returns-in-PutHook-clause-apart : goal.returns-in-PutHook-clause-apart
returns-in-PutHook-clause-apart c =
    subst (λ (command : Command). KeepsApart c.args.parts.now.library command c.put_hook.result) (sym c.in-PutHook.is) tt

pub returns-in-DropHook-clause-apart : goal.returns-in-DropHook-clause-apart
returns-in-DropHook-clause-apart c =
    subst (λ (command : Command). KeepsApart c.args.parts.now.library command c.drop_hook.result) (sym c.in-DropHook.is) tt

pub returns-in-Ask-clause-apart : goal.returns-in-Ask-clause-apart
returns-in-Ask-clause-apart c =
    subst (λ (command : Command). KeepsApart c.args.parts.now.library command c.shown.result) (sym c.in-Ask.is) tt
