use Rattle.std.proofs.Common.{◌∙◌, ℕ, List, Bor, map, ap}
use Rattle.clap.specs.Words.{App, is_simple, subcommand_of, takes}
use Rattle.tams_words.proofs.words.read_matches.Goals as goal

-- The command line is the program's, which is one of which `clap` tells the matches.
pub returns-in-Ok-clause-found : goal.returns-in-Ok-clause-found
returns-in-Ok-clause-found c =
    let program = c.in_ok-command_line.ensures in
    (c.in-Ok.ensures.matches (ap is_simple program)).1
    ∙ ap (λ (a : App). subcommand_of a (map (λ (w : Bor (List ℕ)). w.now) c.args.words.now)) program

-- Words that it takes fail for want of memory alone.
pub returns : goal.returns
returns c = record {
  found = tt;
  none = λ _ taken. c.in_default.not-OutOfMemory (c.kind.ensures ∙ c.in-Err.ensures.passes
      (ap (λ (a : App). takes a (map (λ (w : Bor (List ℕ)). w.now) c.args.words.now)) c.in_ok-command_line.ensures ∙ taken));
}
