use Rattle.std.proofs.Common.{◌≡◌, ◌+◌, ◌-◌, ◌++◌, ◌∷◌, Some, drop, take, length, is_some, map, sym, ap, subst, ◌∙◌, arith}
use Rattle.std.proofs.lemmas.List.{take-append-drop}
use Rattle.media_rows.specs.declared.source.SourceRow.{SourceRow}
use Rattle.media_rows.specs.Lists.{are_distinct}
use Rattle.media_rows.specs.Views.{id_key}
use Rattle.shared_tree.specs.Pairs.{with_pair}
use Rattle.flow_book.specs.Within.Gathering.{GathersSources}
use Rattle.flow_book.proofs.Gathering.{not_distinct}
use Rattle.media_rows.proofs.RestoringLemmas.{one_more}
use Rattle.flow_book.proofs.Restored.{copied_there, stands_once, stands_twice}
use Rattle.flow_book.proofs.restores.sources_gathered.Goals as goal

-- an id that stands twice among the last rows stands twice
pub returns-then-is_some : goal.returns-then-is_some
returns-then-is_some c =
    let rows = c.args.rows.now in
    let row = c.index-rows-rows.result in
    let place = length rows - (c.loop-placed.placed + 1) in
    let rest = drop (length rows - c.loop-placed.placed) rows in
    let split : rows ≡ take place rows ++ row ∷ rest = sym (take-append-drop place rows) ∙ ap (λ l. take place rows ++ l)
    (one_more rows c.loop-placed.placed row c.loop-placed-test.true (grind (arith, c.index-rows-rows.is))) in
    let there = sym (ap is_some c.row_at.ensures) ∙ copied_there c.row_at.result ∙ sym c.is_some.ensures ∙ c.if-is_some.true in
    ap (λ l. are_distinct (map (λ (r : SourceRow). r.id) l)) split
    ∙ not_distinct (λ (r : SourceRow). r.id) (take place rows) (row ∷ rest) (stands_twice (λ (r : SourceRow). r.id) row rest c.loop-placed.next there
    c.loop-placed.invariant.1)

-- one more of the last rows
pub loop-placed-preserved : goal.loop-placed-preserved
loop-placed-preserved c =
    let rows = c.args.rows.now in
    let row = c.index-rows-rows.result in
    let rest = drop (length rows - c.loop-placed.placed) rows in
    let more : drop (length rows - (c.loop-placed.placed + 1)) rows ≡ row ∷ rest = one_more rows c.loop-placed.placed row c.loop-placed-test.true
    (grind (arith, c.index-rows-rows.is)) in
    let not_there = sym (ap is_some c.row_at.ensures) ∙ copied_there c.row_at.result ∙ sym c.is_some.ensures ∙ c.if-is_some.false in
    subst (λ l. GathersSources l (Some c.in_ok-next.next)) (sym more) (
      stands_once (λ (r : SourceRow). r.id) row rest c.loop-placed.next not_there c.loop-placed.invariant.0 c.loop-placed.invariant.1,
      c.in_ok-next.ensures ∙ ap (λ r. with_pair (id_key row.id, r) c.loop-placed.next) c.in_ok-duplicate.ensures ∙ ap (λ l. with_pair (id_key row.id, row) l)
          c.loop-placed.invariant.1,
    )
