use Rattle.std.proofs.Common.{◌≡◌, [], not, length, ap, sym, ◌∙◌, arith}
use Rattle.std.specs.Prelude.{◌==◌, unwrap_or}
use Rattle.std.specs.List.{list_any}
use Rattle.std.proofs.lemmas.Grind.{common_steps}
use Rattle.shared_tree.specs.Pairs.{values_of}
use Rattle.segment_index.specs.Answers.{is_met}
use Rattle.segment_book.specs.Answers.{is_flow_met}
use Rattle.segment_book.proofs.Views.{first_page, flow_met_is}
use Rattle.segment_book.proofs.book.SegmentBook.is_met.Goals as goal

-- a page of one segment has one exactly where one is met
pub returns-in_ok-rows-in-Some : goal.returns-in_ok-rows-in-Some
returns-in_ok-rows-in-Some c =
    let flows = c.self.inside.flows in
    let range = c.args.range.now in
    let rows = c.in_ok-rows-in-Some.rows in
    let page = first_page c.in-Some.index.now range (values_of rows.items) c.in_ok-rows-in-Some.ensures in
    let none : c.is_empty.result ≡ (length (values_of rows.items) == 0) = grind (arith, common_steps, c.is_empty.ensures) in
    ap not none ∙ page
    ∙ ap (λ o. list_any (is_met range) (unwrap_or o [])) c.in-Some.ensures
    ∙ sym (flow_met_is c.args.flow range flows c.self.inside.count c.keys_rise.ensures c.self.invariant)
    ∙ ap (λ all. is_flow_met all c.args.flow range) c.self.view_is

-- without segments none is met
pub returns-in-None : goal.returns-in-None
returns-in-None c =
    let range = c.args.range.now in
    ap (λ o. list_any (is_met range) (unwrap_or o [])) c.in-None.ensures
    ∙ sym (flow_met_is c.args.flow range c.self.inside.flows c.self.inside.count c.keys_rise.ensures c.self.invariant)
    ∙ ap (λ all. is_flow_met all c.args.flow range) c.self.view_is
