use Rattle.std.proofs.Common.{◌≡◌, ◌∙◌, ◌+◌, ◌<◌, ℕ, List, ◌∷◌, ◌++◌, [], map, take, length, get_or, refl, sym, ap, ap₂, Bor}
use Rattle.std.proofs.lemmas.List.{map-append, take_more}
use Rattle.std.proofs.SliceLists.{take_long}
use Rattle.std.proofs.lemmas.Result.{IfOk-weaker}
use Rattle.clap.specs.Words.{App, Rule, app_of, with_rule, with_subcommand}
use Rattle.clap.specs.Simple.{app_of_fields, new_shape}
use Rattle.tams_words.specs.Commands.{command_with, word_rule}
use Rattle.tams_words.proofs.commands.with_command.Goals as goal

-- a text more
one_more : {X Y Z : Type 0} (f : X → Y) (g : Y → Z) (xs : List X) (i : ℕ) (d : X) → i < length xs
    → map g (map f (take i xs)) ++ g (f (get_or xs i d)) ∷ [] ≡ map g (map f (take (i + 1) xs))
one_more f g xs i d inside =
    sym (ap (λ ys. map g (map f ys)) (take_more xs i d inside)
    ∙ ap (map g) (map-append f (take i xs) (get_or xs i d ∷ []))
    ∙ map-append g (map f (take i xs)) (f (get_or xs i d) ∷ []))

pub loop-name-init : goal.loop-name-init
loop-name-init c = (ap app_of_fields c.about-command.ensures ∙ c.new.ensures.app, rw c.about-command.ensures c.new.ensures.local)

pub loop-name-preserved : goal.loop-name-preserved
loop-name-preserved c = (
  c.in_ok-command.ensures.shape c.required.ensures.local ∙ ap₂ with_rule c.loop-name.invariant.0 c.required.ensures.rule
      ∙ ap (λ (rules : List Rule). record { top = record (new_shape c.args.name.now) { rules = rules }; subs = [] })
      (one_more (λ (word : Bor (List ℕ) × Bor (List ℕ)). word.0.now) word_rule c.args.words.now c.loop-name.name-index _ c.loop-name-test.true),
  rw (c.in_ok-command.ensures.globals, c.loop-name.invariant.1, c.required.ensures.local) refl,
)

pub returns : goal.returns
returns c =
    IfOk-weaker c.subcommand.result _ _ (λ r added. added.shape c.loop-name.invariant.1
    ∙ ap (λ (a : App). with_subcommand (app_of c.args.program) a.top) c.loop-name.invariant.0
    ∙ ap (λ ws. with_subcommand (app_of c.args.program) (command_with c.args.name.now (map (λ (word : Bor (List ℕ) × Bor (List ℕ)). word.0.now) ws)))
    (take_long c.args.words.now c.loop-name.name-index c.loop-name-test.false)) c.subcommand.ensures
