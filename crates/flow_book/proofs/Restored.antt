-- What is gathered from rows that can be restored.
use Rattle.std.proofs.Common.{◌≡◌, ℕ, ℤ, ◌==◌, Bool, true, false, not, ◌&&◌, List, [], ◌∷◌, Option, Some, None, is_some, option_copied, map, refl, sym, ap, subst, ◌∙◌, arith, Bor}
use Rattle.std.specs.List.{AllByRecursion, list_all}
use Rattle.media_rows.specs.declared.flow.FlowRow.{FlowRow}
use Rattle.media_rows.specs.declared.source.SourceRow.{SourceRow}
use Rattle.media_rows.specs.Catalog.{has_flow, source_of}
use Rattle.media_rows.specs.Collections.{is_kept, member_ids}
use Rattle.media_rows.specs.Good.{are_collections_good, fits_kept}
use Rattle.media_rows.specs.Lists.{are_distinct}
use Rattle.media_rows.specs.Restoring.{can_restore_catalog, is_catalog_good}
use Rattle.media_rows.specs.Views.{id_key}
use Rattle.shared_tree.specs.Pairs.{IsRising, value_at, values, with_pair}
use Rattle.id_index.specs.Index.{Links, has_pairs, ids_at}
use Rattle.id_index.proofs.Named.{index_none, index_with}
use Rattle.flow_book.specs.Within.Order.{AreGathered, AreUsed, IsByCollected, IsBySource, IsKeptInOrder, flow_id, flows_named, gathered, source_named}
use Rattle.flow_book.proofs.DropSteps.{has_flow_is}
use Rattle.flow_book.specs.Within.Gathering.{GathersSources, are_placed, is_acyclic}
use Rattle.flow_book.proofs.Gathering.{any_gathered, first_gathered, found_gathered, gathered_all, gathered_at}
use Rattle.flow_book.proofs.Keys.{source_found}
use Rattle.std.proofs.lemmas.Bool.{and_parts}

pub copied_there : {V : Type 0} (found : Option (Bor V)) → is_some (option_copied found) ≡ is_some found
copied_there None = refl
copied_there (Some row) = refl

none_some : {V : Type 0} (o : Option V) → is_some o ≡ false → o ≡ None
none_some None h = refl
none_some (Some x) h = absurd (grind (arith, h))

turned : (t : Bool) → not t ≡ false → t ≡ true
turned true e = refl
turned false e = absurd (grind (arith, e))

module _ {V : Type 0} (id_of : V → ℕ) where
  -- a row whose id is there already isn't gathered
  pub stands_twice : (row : V) (rows : List V) (ps : List (ℤ × V)) → is_some (value_at (id_key (id_of row)) ps) ≡ true → ps ≡ gathered id_of rows
      → are_distinct (map id_of (row ∷ rows)) ≡ false
  stands_twice row rows ps there is = by (list_all (λ b. not (id_of row == b)) (map id_of rows))
      (sym (found_gathered id_of (id_of row) rows) ∙ sym (ap (λ l. is_some (value_at (id_key (id_of row)) l)) is) ∙ there)
    where
      by : (t : Bool) → not t ≡ true → (t && are_distinct (map id_of rows)) ≡ false
      by true e = absurd (grind (arith, e))
      by false e = refl

  pub stands_once : (row : V) (rows : List V) (ps : List (ℤ × V)) → is_some (value_at (id_key (id_of row)) ps) ≡ false → are_distinct (map id_of rows) ≡ true
      → ps ≡ gathered id_of rows → are_distinct (map id_of (row ∷ rows)) ≡ true
  stands_once row rows ps not_there distinct is =
      ap (λ b. b && are_distinct (map id_of rows)) (turned (list_all (λ b. not (id_of row == b)) (map id_of rows))
      (sym (found_gathered id_of (id_of row) rows) ∙ sym (ap (λ l. is_some (value_at (id_key (id_of row)) l)) is) ∙ not_there)) ∙ distinct

pub gathered_once : (row copy : FlowRow) (rows : List FlowRow) (flows next : List (ℤ × FlowRow))
    (by_source collectors next_by next_col : List (ℤ × List (ℤ × ℕ))) → IsRising flows → is_some (value_at (id_key row.body.id) flows) ≡ false → copy ≡ row
    → next ≡ with_pair (id_key row.body.id, copy) flows → Links (row.body.source ∷ []) row.body.id by_source next_by
    → Links (member_ids row.body.members) row.body.id collectors next_col → AreGathered rows flows by_source collectors
    → AreGathered (row ∷ rows) next next_by next_col
gathered_once row copy rows flows next by_source collectors next_by next_col rising not_there same is linked collected h =
    let none = none_some (value_at (id_key row.body.id) flows) not_there in
    let put : next ≡ with_pair (id_key row.body.id, row) flows = is ∙ ap (λ r. with_pair (id_key row.body.id, r) flows) same in
    record {
      distinct = stands_once flow_id row rows flows not_there h.distinct h.placed;
      placed = put ∙ ap (λ l. with_pair (id_key row.body.id, row) l) h.placed;
      sources_indexed = subst (λ l. IsBySource l next_by) (sym put) (index_with flow_id source_named row.body.id row flows by_source next_by refl
          (index_none flow_id source_named row.body.id flows by_source rising none h.sources_indexed) linked);
      collectors_indexed = subst (λ l. IsByCollected l next_col) (sym put) (index_with flow_id flows_named row.body.id row flows collectors next_col refl
          (index_none flow_id flows_named row.body.id flows collectors rising none h.collectors_indexed) collected);
    }

-- each source is used where each has a flow
used_gathered : (sources : List SourceRow) (rows : List FlowRow) (flows : List (ℤ × FlowRow)) (by_source collectors : List (ℤ × List (ℤ × ℕ)))
    → AreGathered rows flows by_source collectors → list_all (has_flow rows) sources ≡ true
    → AllByRecursion (λ source. has_pairs (ids_at source.id by_source) ≡ true) sources
used_gathered [] rows flows by_source collectors h e = tt
used_gathered (source ∷ sources) rows flows by_source collectors h e =
    let parts = and_parts (has_flow rows source) (list_all (has_flow rows) sources) e in
    let there : has_flow (values (gathered flow_id rows)) source ≡ true = any_gathered flow_id (λ row. row.body.source == source.id) rows h.distinct ∙ parts.0
    in
    let named : has_pairs (ids_at source.id by_source) ≡ true = ap has_pairs (h.sources_indexed source.id) ∙ sym (has_flow_is flows source) ∙ ap
    (λ l. has_flow (values l) source) h.placed ∙ there in
    (named, used_gathered sources rows flows by_source collectors h parts.1)

pub restored_kept : (sources : List SourceRow) (rows : List FlowRow) (s : List (ℤ × SourceRow)) (flows : List (ℤ × FlowRow))
    (by_source collectors : List (ℤ × List (ℤ × ℕ))) → can_restore_catalog sources rows ≡ true → s ≡ gathered (λ (row : SourceRow). row.id) sources
    → AreGathered rows flows by_source collectors → IsKeptInOrder s flows by_source collectors
restored_kept sources rows s flows by_source collectors can es h =
    let good = (and_parts (are_distinct (map (λ (row : SourceRow). row.id) sources) && are_distinct (map flow_id rows))
    (is_catalog_good (record { sources = sources; flows = rows })) can).1 in
    let of_sources = (and_parts (list_all (λ row. fits_kept (source_of row.body.source sources) row) rows && list_all (has_flow rows) sources)
    (are_collections_good rows) good).0 in
    let all_have = (and_parts (list_all (λ row. fits_kept (source_of row.body.source sources) row) rows) (list_all (has_flow rows) sources) of_sources).1 in
    record {
      sources_keyed = gathered_at (λ (row : SourceRow). row.id) sources s es;
      flows_keyed = gathered_at flow_id rows flows h.placed;
      sources_indexed = h.sources_indexed;
      collectors_indexed = h.collectors_indexed;
      used = subst (AreUsed by_source) (sym es) (gathered_all (λ (row : SourceRow). row.id) (λ source. has_pairs (ids_at source.id by_source) ≡ true) sources
          (used_gathered sources rows flows by_source collectors h all_have));
    }

-- ---- whether rows can be restored

module _ {X : Type 0} where
  all_agree : (p q : X → Bool) (xs : List X) → ((x : X) → p x ≡ q x) → list_all p xs ≡ list_all q xs
  all_agree p q [] h = refl
  all_agree p q (x ∷ xs) h = rw (h x, all_agree p q xs h) refl

  all_both : (p q : X → Bool) (xs : List X) → list_all (λ x. p x && q x) xs ≡ (list_all p xs && list_all q xs)
  all_both p q [] = refl
  all_both p q (x ∷ xs) = rw (all_both p q xs) (turn (p x) (q x) (list_all p xs) (list_all q xs))
    where
      turn : (a b d e : Bool) → ((a && b) && (d && e)) ≡ ((a && d) && (b && e))
      turn true true d e = refl
      turn true false true e = refl
      turn true false false e = refl
      turn false b d e = refl

-- what the tests of gathered rows say of the rows
pub can_is : (sources : List SourceRow) (rows : List FlowRow) (s : List (ℤ × SourceRow)) (flows : List (ℤ × FlowRow))
    (by_source collectors : List (ℤ × List (ℤ × ℕ))) → GathersSources sources (Some s) → AreGathered rows flows by_source collectors
    → can_restore_catalog sources rows ≡ (are_placed sources s rows flows by_source && list_all (is_acyclic rows) rows)
can_is sources rows s flows by_source collectors g h =
    rw (g.0, h.distinct, under, used, collected) (turn (list_all (λ row. fits_kept (source_of row.body.source (values s)) row) rows)
    (list_all (λ source. has_pairs (ids_at source.id by_source)) sources) _ _)
  where
    source_id : SourceRow → ℕ
    source_id row = row.id

    found : (id : ℕ) → source_of id sources ≡ source_of id (values s)
    found id = sym (first_gathered source_id id sources) ∙ ap (value_at (id_key id)) (sym g.1) ∙ source_found id s (gathered_at source_id sources s g.1)

    under : list_all (λ row. fits_kept (source_of row.body.source sources) row) rows ≡ list_all (λ row. fits_kept (source_of row.body.source (values s)) row)
        rows
    under = all_agree _ _ rows (λ row. ap (λ o. fits_kept o row) (found row.body.source))

    used : list_all (has_flow rows) sources ≡ list_all (λ source. has_pairs (ids_at source.id by_source)) sources
    used = all_agree _ _ sources (λ source. sym (ap has_pairs (h.sources_indexed source.id) ∙ sym (has_flow_is flows source) ∙ ap
        (λ l. has_flow (values l) source) h.placed ∙ any_gathered flow_id (λ row. row.body.source == source.id) rows h.distinct))

    there : (id : ℕ) → is_kept rows id ≡ is_kept (values flows) id
    there id = sym (any_gathered flow_id (λ row. row.body.id == id) rows h.distinct) ∙ ap (λ l. is_kept (values l) id) (sym h.placed)

    collected : are_collections_good rows ≡ (list_all (λ row. list_all (is_kept (values flows)) (member_ids row.body.members)) rows && list_all
        (is_acyclic rows) rows)
    collected =
        all_both (λ row. list_all (is_kept rows) (member_ids row.body.members)) (is_acyclic rows) rows
        ∙ ap (λ b. b && list_all (is_acyclic rows) rows) (all_agree _ _ rows (λ row. all_agree (is_kept rows) (is_kept (values flows))
        (member_ids row.body.members) there))

    turn : (a b d e : Bool) → ((a && b) && (d && e)) ≡ (((a && b) && d) && e)
    turn true true d e = refl
    turn true false d e = refl
    turn false b d e = refl
