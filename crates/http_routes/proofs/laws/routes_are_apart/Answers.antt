use Rattle.http_routes.proofs.Apart.{routes_apart}
use Rattle.http_routes.proofs.laws.routes_are_apart.Goals as goal

pub returns : goal.returns
returns c = routes_apart
