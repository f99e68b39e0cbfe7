use Rattle.std.proofs.Common.{ap, ◌∙◌}
use Rattle.media_rows.specs.Lists.{is_behind}
use Rattle.core_restore.proofs.ties.is_after_segments.Goals as goal

-- the last segment of the flow tells, where there is one
pub returns-in-Some : goal.returns-in-Some
returns-in-Some c = ap (λ o. is_behind o c.args.row.now.serial) c.in-Some.ensures ∙ c.requires.last c.args.row.now.flow c.args.row.now.serial

pub returns-in-None : goal.returns-in-None
returns-in-None c = ap (λ o. is_behind o c.args.row.now.serial) c.in-None.ensures ∙ c.requires.last c.args.row.now.flow c.args.row.now.serial
