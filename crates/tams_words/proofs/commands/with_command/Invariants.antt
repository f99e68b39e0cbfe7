use Rattle.std.proofs.Common.{◌≡◌, false, map, take, []}
use Rattle.clap.specs.Words.{app_of}
use Rattle.clap.specs.declared.builder.command.Command.TheViews.{out-Command}
use Rattle.tams_words.specs.Commands.{command_with}
use Rattle.tams_words.proofs.commands.with_command.Given as goal

-- The command has the words so far, and none of them is global.
abbrev pub invariant-loop-name : goal.invariant-loop-name
invariant-loop-name l =
    (app_of l.command ≡ record { top = command_with l.fn.name (map (λ word. word.0.now) (take l.name-index l.fn.words)); subs = [] })
    × ((out-Command l.command).has_globals ≡ false)
