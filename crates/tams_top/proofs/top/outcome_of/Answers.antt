use Rattle.tams_words.proofs.WordLemmas.{base_is_utf8}
use Rattle.tams_top.proofs.top.outcome_of.Goals as goal

-- The base is one of the words.
pub replay-requires : goal.replay-requires
replay-requires g c =
    let found = c.in-Ok-Some-Replay.ensures.found in
    let is = rw (c.in-Ok-Some-Replay.field-0-is, c.in-Ok-Some-Replay.field-0-0-is) at found in
    record { base = base_is_utf8 _ is.form.base_is }

pub serve-requires-clause-base : goal.serve-requires-clause-base
serve-requires-clause-base g c =
    let found = c.in-Ok-Some-Serve.ensures.found in
    let is = rw (c.in-Ok-Some-Serve.field-0-is, c.in-Ok-Some-Serve.field-0-0-is) at found in
    base_is_utf8 _ is.form.base_is
