use Rattle.std.specs.Prelude.{is_ok}
use Rattle.std.proofs.Common.{◌∙◌, ap}
use Rattle.tams_outcomes.specs.Statuses.{number_of}
use Rattle.tams_top.proofs.EndingLemmas.{run_ends}
use Rattle.tams_top.proofs.top.run.Goals as goal

-- The outcome's end is that of its words, and its line was put.
pub returns : goal.returns
returns g c =
    run_ends _ _ c.outcome_of-outcome.result (g.met.X.Disk.sound c.args.site.now) c.outcome_of-outcome.ensures _
    (c.number.ensures ∙ ap number_of c.status.ensures) (is_ok c.put_line.result, c.put_line.ensures)
