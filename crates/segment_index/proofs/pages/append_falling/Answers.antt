use Rattle.std.proofs.Common.{rules, ◌≡◌, FitsSigned, true, filter, length, reverse, sym, take, take_while, ◌∙◌}
use mir.Syntax.{w128}
use Rattle.std.proofs.lemmas.Int.{to_z-of_z}
use Rattle.std.proofs.lemmas.List.{length-map}
use Rattle.shared_tree.specs.Pairs.{is_up_to, values, values_of}
use Rattle.segment_index.specs.Answers.{is_met, met_page, page_of}
use Rattle.segment_index.proofs.PageWalks.{appended, kept_behind, page_falling}
use Rattle.segment_index.proofs.pages.append_falling.Goals as goal

-- the walk's segments up to the first one that isn't met are the page
pub returns-clause-page : goal.returns-clause-page
returns-clause-page g c =
    let range = c.args.range.now in
    let rows = c.args.rows.now in
    let key = c.last_key-key.result in
    let fit : FitsSigned w128 c.last_key-key.result = search rules in
    let size : c.len-start.result ≡ length c.args.out.now.items = search rules in
    let walk = take c.args.limit (values (reverse (filter (is_up_to key) rows))) in
    appended (values_of c.args.out.now.items) (values_of c.keep_met.new.out.items) (take_while (is_met range) walk)
    (met_page (values rows) range (page_of c.args.after.now c.args.limit true))
    (kept_behind (is_met range) c.len-start.result (values_of c.args.out.now.items) walk (values_of c.walk_back_from.new.out.items)
    (values_of c.keep_met.new.out.items)
    (size ∙ sym (length-map c.args.out.now.items (λ r. r.now))) (simp to_z-of_z at c.walk_back_from.ensures.values) c.keep_met.ensures.rows)
    (page_falling range c.args.after.now c.args.limit key rows c.requires.kept c.last_key-key.ensures)
