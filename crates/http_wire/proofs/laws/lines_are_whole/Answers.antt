use Rattle.http_wire.proofs.HeadEnds.{heads_end, lines_end, sizes_named, trailers_end}
use Rattle.http_wire.proofs.laws.lines_are_whole.Goals as goal

pub returns : goal.returns
returns c = record {
  heads = heads_end;
  trailers = trailers_end;
  lines = lines_end;
  sizes = sizes_named;
}
