use Rattle.std.proofs.Common.{◌≡◌, true, false, ◌&&◌, sym, ap, ◌∙◌, arith}
use Rattle.std.specs.List.{list_all}
use Rattle.std.proofs.lemmas.Grind.{common_steps}
use Rattle.media_rows.specs.declared.source.SourceRow.{SourceRow}
use Rattle.id_index.proofs.Pairs.{if_ok}
use Rattle.flow_book.specs.Within.Gathering.{is_acyclic}
use Rattle.flow_book.specs.Within.Order.{flow_id}
use Rattle.flow_book.proofs.Gathering.{gathered_at}
use Rattle.flow_book.proofs.Restored.{can_is}
use Rattle.flow_book.proofs.restores.are_good.Goals as goal

pub are_placed-requires-clause-sources : goal.are_placed-requires-clause-sources
are_placed-requires-clause-sources c = gathered_at (λ (row : SourceRow). row.id) c.args.sources.now c.args.kept_sources.now c.requires.sources.1

pub are_placed-requires-clause-flows : goal.are_placed-requires-clause-flows
are_placed-requires-clause-flows c = gathered_at flow_id c.args.flows.now c.args.kept.now.flows c.requires.flows.placed

pub returns-then-not-are_placed : goal.returns-then-not-are_placed
returns-then-not-are_placed c =
    let no : c.are_placed.result ≡ false = grind (arith, common_steps) in
    sym (can_is c.args.sources.now c.args.flows.now c.args.kept_sources.now c.args.kept.now.flows c.args.kept.now.by_source c.args.kept.now.collectors
    c.requires.sources c.requires.flows ∙ ap (λ b. b && list_all (is_acyclic c.args.flows.now) c.args.flows.now) (sym c.are_placed.ensures ∙ no))

pub returns : goal.returns
returns c =
    let yes : c.are_placed.result ≡ true = grind (arith, common_steps) in
    if_ok c.are_acyclic.result (λ made is. is ∙ sym
    (can_is c.args.sources.now c.args.flows.now c.args.kept_sources.now c.args.kept.now.flows c.args.kept.now.by_source c.args.kept.now.collectors
    c.requires.sources c.requires.flows ∙ ap (λ b. b && list_all (is_acyclic c.args.flows.now) c.args.flows.now) (sym c.are_placed.ensures ∙ yes)))
    c.are_acyclic.ensures
