use Rattle.std.proofs.Common.{sym, subst}
use Rattle.media_rows.specs.declared.change.Change.{Change}
use Rattle.media_rows.specs.declared.change.Change.TheVariants as changes
use Rattle.media_rows.specs.declared.command.Command.TheVariants as commands
use Rattle.media_rows.specs.Answer.{refusal_of}
use Rattle.media_rows.specs.Apply.{is_allowed}
use Rattle.media_rows.specs.Changes.{after}
use Rattle.media_rows.specs.Refusals.{Restores}
use Rattle.core_parts.specs.Parts.{given_library, within_serials}
use Rattle.store_core.proofs.Applied.{restores_change}
use Rattle.store_core.proofs.apply.next_parts.Goals as goal

pub returns-in-SetSource : goal.returns-in-SetSource
returns-in-SetSource c =
    let library = c.args.parts.now.library in
    let set = changes.SetSource c.in-SetSource.moment c.in-SetSource.source c.in-SetSource.part in
    subst (λ (change : Change). Restores (is_allowed library change) (within_serials (after change library)) (given_library c.without_reason-in-SetSource.result))
    (sym c.in-SetSource.is)
    (subst (λ result. Restores (is_allowed library set) (within_serials (after set library)) result) (sym c.without_reason-in-SetSource.ensures)
    (restores_change (refusal_of library (commands.SetSource c.in-SetSource.source c.in-SetSource.part)) (within_serials (after set library))
    (given_library c.set_source.result) c.set_source.ensures))

pub returns-in-DropFlow : goal.returns-in-DropFlow
returns-in-DropFlow c =
    subst (λ (change : Change). Restores (is_allowed c.args.parts.now.library change) (within_serials (after change c.args.parts.now.library)) (given_library c.drop_flow.result))
    (sym c.in-DropFlow.is) c.drop_flow.ensures

pub returns-in-SetFlow : goal.returns-in-SetFlow
returns-in-SetFlow c =
    let library = c.args.parts.now.library in
    let set = changes.SetFlow c.in-SetFlow.moment c.in-SetFlow.flow c.in-SetFlow.part in
    subst (λ (change : Change). Restores (is_allowed library change) (within_serials (after change library)) (given_library c.without_reason-in-SetFlow.result))
    (sym c.in-SetFlow.is)
    (subst (λ result. Restores (is_allowed library set) (within_serials (after set library)) result) (sym c.without_reason-in-SetFlow.ensures)
    (restores_change (refusal_of library (commands.SetFlow c.in-SetFlow.flow c.in-SetFlow.part)) (within_serials (after set library))
    (given_library c.set_flow.result) c.set_flow.ensures))

pub returns-in-CutSegments : goal.returns-in-CutSegments
returns-in-CutSegments c =
    subst (λ (change : Change). Restores (is_allowed c.args.parts.now.library change) (within_serials (after change c.args.parts.now.library)) (given_library c.cut_segments.result))
    (sym c.in-CutSegments.is) c.cut_segments.ensures
