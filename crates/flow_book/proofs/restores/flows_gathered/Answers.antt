use Rattle.std.proofs.Common.{◌≡◌, ◌+◌, ◌-◌, ◌++◌, ◌∷◌, drop, take, length, false, map, sym, ap, subst, ◌∙◌, arith}
use Rattle.std.proofs.lemmas.List.{take-append-drop}
use Rattle.media_rows.specs.Lists.{are_distinct}
use Rattle.flow_book.specs.Within.Order.{AreGathered, flow_id}
use Rattle.flow_book.specs.Within.Gathering.{GathersFlows}
use Rattle.flow_book.proofs.Gathering.{not_distinct}
use Rattle.media_rows.proofs.RestoringLemmas.{one_more}
use Rattle.flow_book.proofs.restores.flows_gathered.Goals as goal

-- an id that stands twice among the last rows stands twice
pub returns-in-None : goal.returns-in-None
returns-in-None c =
    let rows = c.args.rows.now in
    let place = length rows - (c.loop-placed.placed + 1) in
    let split : rows ≡ take place rows ++ c.index-rows-rows.result ∷ drop (length rows - c.loop-placed.placed) rows = sym (take-append-drop place rows) ∙ ap
    (λ l. take place rows ++ l) (one_more rows c.loop-placed.placed c.index-rows-rows.result c.loop-placed-test.true (grind (arith, c.index-rows-rows.is)))
    in
    let twice : are_distinct (map flow_id (c.index-rows-rows.result ∷ drop (length rows - c.loop-placed.placed) rows)) ≡ false =
    subst (GathersFlows (c.index-rows-rows.result ∷ drop (length rows - c.loop-placed.placed) rows)) c.in-None.is
    (c.in_ok-gathered_with.ensures (drop (length rows - c.loop-placed.placed) rows) c.loop-placed.invariant) in
    ap (λ l. are_distinct (map flow_id l)) split ∙ not_distinct flow_id (take place rows) (c.index-rows-rows.result ∷ drop (length rows - c.loop-placed.placed)
    rows) twice

-- one more of the last rows
pub loop-placed-preserved : goal.loop-placed-preserved
loop-placed-preserved c =
    let rows = c.args.rows.now in
    let rest : drop (length rows - (c.loop-placed.placed + 1)) rows ≡ c.index-rows-rows.result ∷ drop (length rows - c.loop-placed.placed) rows =
    one_more rows c.loop-placed.placed c.index-rows-rows.result c.loop-placed-test.true (grind (arith, c.index-rows-rows.is)) in
    subst (λ l. AreGathered l c.in-Some.more.flows c.in-Some.more.by_source c.in-Some.more.collectors) (sym rest)
    (subst (GathersFlows (c.index-rows-rows.result ∷ drop (length rows - c.loop-placed.placed) rows)) c.in-Some.is
    (c.in_ok-gathered_with.ensures (drop (length rows - c.loop-placed.placed) rows) c.loop-placed.invariant))
