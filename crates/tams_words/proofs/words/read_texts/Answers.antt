use Rattle.std.proofs.Common.{◌∙◌, ℕ, List, Bor, Option, option_map, is_some, IfOk, sym, ap, subst, refl, arith}
use Rattle.std.proofs.lemmas.List.{length-map}
use Rattle.clap.specs.Words.{Row, Text}
use Rattle.tams_words.specs.Words.{FormIs}
use Rattle.tams_words.proofs.CommandLemmas.{has_values, names_none, not_taken, other_count, values_are}
use Rattle.tams_words.proofs.words.read_texts.Goals as goal

-- The first word names no command.
pub returns-in_default : goal.returns-in_default
returns-in_default c = names_none _ (c.in_default.ensures.none refl)

-- `clap` takes the words of each command.
pub returns-in_default-2 : goal.returns-in_default-2
returns-in_default-2 c = not_taken _ c.requires.plain (c.in_ok-matches.ensures.none (ap (λ (o : Option _). is_some o) c.in_default-2.is))

-- The words are too many or too few.
pub returns-then-words-count : goal.returns-then-words-count
returns-then-words-count c =
    let many = length-map c.args.words.now (λ (w : Bor (List ℕ)). w.now) in
    other_count _ c.in-Some.name c.in-Some.ensures.found (λ e. omega (arith, e, many, c.count.ensures, c.if-words-count.true))

-- `clap` found the command.
pub returns-in_default-subcommand : goal.returns-in_default-subcommand
returns-in_default-subcommand c = λ _ _.
    let many = length-map c.args.words.now (λ (w : Bor (List ℕ)). w.now) ∙ (c.if-words-count.false ∙ c.count.ensures) in
    let found = rw c.in-Some-2.is at c.in_ok-matches.ensures.found in
    has_values _ c.in-Some.name (record { named = c.in-Some.ensures.found; many = many; plain = c.requires.plain })
    (ap (option_map (λ (p : Text × List Row). p.1)) (sym found) ∙ sym c.in_default-subcommand.ensures.rows)

-- The values are the words.
pub returns : goal.returns
returns c =
    let many = length-map c.args.words.now (λ (w : Bor (List ℕ)). w.now) ∙ (c.if-words-count.false ∙ c.count.ensures) in
    let found = rw c.in-Some-2.is at c.in_ok-matches.ensures.found in
    let words = values_are _ c.in-Some.name _ (record { named = c.in-Some.ensures.found; many = many; plain = c.requires.plain })
    (ap (option_map (λ (p : Text × List Row). p.1)) (sym found) ∙ sym c.in-Some-subcommand.ensures.rows) in
    subst (λ (ws : List Text). IfOk c.read_values.result (FormIs ws)) words c.read_values.ensures
