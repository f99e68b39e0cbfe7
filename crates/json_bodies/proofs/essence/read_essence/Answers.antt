-- A member of a plain object is plain.
use Rattle.std.proofs.Common.{sym}
use Rattle.std.specs.Prelude.{codes}
use Rattle.serde_json.specs.View.{view}
use Rattle.json_bodies.proofs.PlainMembers.{get_plain}
use Rattle.json_bodies.proofs.essence.read_essence.Goals as goal

pub essence_text-requires-clause-plain : goal.essence_text-requires-clause-plain
essence_text-requires-clause-plain c =
    get_plain (codes "essence_parameters") (view c.args.object.now) (view c.in-Some.value.now) c.requires (sym c.in-Some.ensures)
