use Rattle.std.proofs.Common.{◌∙◌, ◌≡◌, ap, codes, true}
use Rattle.std.proofs.lemmas.Result.{IfOk-weaker}
use Rattle.clap.specs.Words.{App, Shape, app_of, new_app, with_subcommand}
use Rattle.clap.specs.Simple.{app_of_fields, on_top}
use Rattle.tams_words.specs.Commands.{command_with, format_words, check_words, migrate_words, work_words, deliver_words, replay_words, serve_words, manifest_words, workload_words}
use Rattle.tams_words.proofs.commands.command_line.Goals as goal

-- The program has its settings and then the commands, one after another.
pub returns : goal.returns
returns c =
    let named : app_of c.about.result ≡ new_app (codes "tams") = ap app_of_fields c.about.ensures ∙ c.new.ensures.app in
    let versioned = ap app_of_fields c.version.ensures ∙ ap (on_top (λ (s : Shape). record s { has_version = true })) named in
    let bare = ap app_of_fields c.no_binary_name.ensures ∙ ap (on_top (λ (s : Shape). record s { no_binary_name = true })) versioned in
    let helpless = ap app_of_fields c.disable_help_subcommand.ensures ∙ ap (on_top (λ (s : Shape). record s { disable_help_subcommand = true })) bare in
    let start = ap app_of_fields c.subcommand_required-program.ensures ∙ ap (on_top (λ (s : Shape). record s { subcommand_required = true })) helpless in
    let formats = c.in_ok-program.ensures ∙ ap (λ (a : App). with_subcommand a (command_with (codes "format") format_words)) start in
    let checks = c.in_ok-program-2.ensures ∙ ap (λ (a : App). with_subcommand a (command_with (codes "check") check_words)) formats in
    let migrates = c.in_ok-program-3.ensures ∙ ap (λ (a : App). with_subcommand a (command_with (codes "migrate") migrate_words)) checks in
    let works = c.in_ok-program-4.ensures ∙ ap (λ (a : App). with_subcommand a (command_with (codes "work") work_words)) migrates in
    let delivers = c.in_ok-program-5.ensures ∙ ap (λ (a : App). with_subcommand a (command_with (codes "deliver") deliver_words)) works in
    let replays = c.in_ok-program-6.ensures ∙ ap (λ (a : App). with_subcommand a (command_with (codes "replay") replay_words)) delivers in
    let serves = c.in_ok-program-7.ensures ∙ ap (λ (a : App). with_subcommand a (command_with (codes "serve") serve_words)) replays in
    let manifests = c.in_ok-program-8.ensures ∙ ap (λ (a : App). with_subcommand a (command_with (codes "manifest") manifest_words)) serves in
    IfOk-weaker c.with_command-9.result _ _ (λ r added. added
    ∙ ap (λ (a : App). with_subcommand a (command_with (codes "workload") workload_words)) manifests) c.with_command-9.ensures
