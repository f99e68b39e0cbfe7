use Rattle.std.proofs.Common.{sym, ◌∙◌}
use Rattle.http_routes.proofs.Routing.{table_ascii}
use Rattle.http_routes.proofs.table.RouteTable.find.Goals as goal

pub returns-then-is_ascii-clause-looked_up : goal.returns-then-is_ascii-clause-looked_up
returns-then-is_ascii-clause-looked_up c =
    c.route_at.ensures
    ∙ sym (table_ascii c.args.self.now c.args.path.now (sym c.self.view_is ∙ c.self.invariant) (sym c.is_ascii.ensures ∙ c.if-is_ascii.true))
