-- Each body is a chain of steps, and each step refuses as a body does.
use Rattle.json_bodies.proofs.OfBodies.{of_flow, of_segments, of_storage, of_hook, of_part}
use Rattle.json_bodies.proofs.laws.refusals_are_of_bodies.Goals as goal

pub returns : goal.returns
returns c = record {
  flow = λ id body. (of_flow id body).is;
  segments = λ body. (of_segments body).is;
  storage = λ body. (of_storage body).is;
  hook = λ body. (of_hook body).is;
  part = λ name body. (of_part name body).is;
}
