use Rattle.std.proofs.Common.{◌∙◌, refl}
use Rattle.clap.specs.Words.{found_of}
use Rattle.clap.proofs.WalkLemmas.{first_value-rows}
use Rattle.tams_words.proofs.words.value.Goals as goal

-- The first value of an id is that of its row.
pub returns-in-Some : goal.returns-in-Some
returns-in-Some c =
    let row = c.get_str.ensures ∙ first_value-rows (found_of c.args.values.now) c.args.id.now in
    rw (← row, c.in-Some.is) refl

pub returns-in-None : goal.returns-in-None
returns-in-None c =
    let row = c.get_str.ensures ∙ first_value-rows (found_of c.args.values.now) c.args.id.now in
    rw (← row, c.in-None.is) refl
