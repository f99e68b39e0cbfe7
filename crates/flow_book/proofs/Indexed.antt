-- What each change of a book leaves of its indexes.
use Rattle.std.proofs.Common.{◌≡◌, ℕ, ℤ, int_eq, ◌==◌, Bool, true, false, not, cond, if◌then◌else◌, List, [], ◌∷◌, Option, Some, None, filter, is_none, map, refl, sym, ap, subst, ◌∙◌, arith}
use Rattle.std.specs.List.{AllByRecursion}
use Rattle.std.specs.Cmp.{signed_Decides}
use Rattle.std.proofs.lemmas.Bool.{eqb-true}
use Rattle.std.proofs.lemmas.Bool.Decides.{nat_tests}
use Rattle.media_rows.specs.declared.flow.FlowBody.{FlowBody}
use Rattle.media_rows.specs.declared.flow.FlowRow.{FlowRow}
use Rattle.media_rows.specs.declared.flow.Member.{Member}
use Rattle.media_rows.specs.declared.part.Part.{Part}
use Rattle.media_rows.specs.declared.part.Part.TheVariants as parts
use Rattle.media_rows.specs.declared.source.SourceRow.{SourceRow}
use Rattle.media_rows.specs.Catalog.{after_drop, body_with, flow_of, flows_after_drop, has_flow, new_source, no_flow_refusal, put_refusal, put_row, set_row, set_source_row, source_of, touched}
use Rattle.media_rows.specs.declared.refusal.Refusal.TheVariants as refusals
use Rattle.media_rows.specs.Refusals.{when}
use Rattle.media_rows.specs.Collections.{member_ids, without_entries}
use Rattle.media_rows.specs.Lists.{has_number}
use Rattle.media_rows.specs.Views.{flow_key, id_key, source_key}
use Rattle.shared_tree.specs.Pairs.{IsRising, is_above, is_at, is_below, value_at, values, with_pair, without_key}
use Rattle.shared_tree.specs.Rows.{IsKeyedBy}
use Rattle.shared_tree.proofs.Counted.{all_append, all_kept, each_passes}
use Rattle.shared_tree.proofs.Rising.{all_map, all_right, filter_all}
use Rattle.shared_tree.proofs.Rows.{keyed_without, others_are, values_kept}
use Rattle.id_index.specs.Index.{Forgets, Unlinks, changed_row, has_pairs, ids_at, naming}
use Rattle.id_index.proofs.Ids.{same_key}
use Rattle.id_index.proofs.Named.{index_changed, index_kept, index_none, index_with, index_without, named_there, put_there}
use Rattle.id_index.proofs.Pairs.{standing, value_at_with}
use Rattle.flow_book.specs.Within.Answers.{catalog_with}
use Rattle.flow_book.specs.Within.Order.{AreUsed, IsByCollected, IsBySource, IsKeptInOrder, SourceLinked, all_cleared, collection_of, flow_id, flows_named, source_named, source_put}
use Rattle.flow_book.proofs.CatalogOrder.{set_source_stays}
use Rattle.flow_book.proofs.Changes.{found_id, left_values}
use Rattle.flow_book.proofs.DropSteps.{clear_keyed, clear_values, entries_stay, has_flow_is, sources_stay}
use Rattle.flow_book.proofs.Keys.{flow_found}
use Rattle.library_laws.proofs.SettingsKept.{with_id, with_source_id}

-- ---- a flow that is put

-- a put that isn't refused keeps the source of a kept flow
same_source : (old : FlowRow) (sources : List SourceRow) (flows : List FlowRow) (body : FlowBody) → flow_of body.id flows ≡ Some old
    → put_refusal (catalog_with sources flows) body ≡ None → body.source ≡ old.body.source
same_source old sources flows body found none = eqb-true body.source old.body.source (grind (arith, found, none))

module _ (body : FlowBody) (moment : ℕ) (sources : List (ℤ × SourceRow)) (flows : List (ℤ × FlowRow))
    (by_source collectors next_by_source next_collectors : List (ℤ × List (ℤ × ℕ))) where
  abbrev key : ℤ
  key = id_key body.id

  put_by_source : (found : Option FlowRow) → IsRising flows → value_at key flows ≡ found
      → (id_known : (old : FlowRow) → found ≡ Some old → old.body.id ≡ body.id)
      → (source_known : (old : FlowRow) → found ≡ Some old → body.source ≡ old.body.source) → IsBySource flows by_source
      → SourceLinked found body by_source next_by_source → IsBySource (with_pair (key, put_row found body moment) flows) next_by_source
  put_by_source None rising e id_known source_known indexed linked =
      index_with flow_id source_named body.id (put_row None body moment) flows by_source next_by_source refl
      (index_none flow_id source_named body.id flows by_source rising e indexed) linked
  put_by_source (Some old) rising e id_known source_known indexed linked =
      subst (IsBySource (with_pair (key, put_row (Some old) body moment) flows)) (sym linked)
      (index_kept flow_id source_named body.id old (put_row (Some old) body moment) flows by_source rising e (ap (λ s. s ∷ []) (source_known old refl))
      (sym (id_known old refl)) indexed)

  -- what was used stays so
  used_stays : (found : Option FlowRow) (a : ℕ) → SourceLinked found body by_source next_by_source → has_pairs (ids_at a by_source) ≡ true
      → has_pairs (ids_at a next_by_source) ≡ true
  used_stays None a linked used = ap has_pairs (linked a) ∙ by (has_number a (body.source ∷ []))
    where
      by : (t : Bool) → has_pairs (cond t (with_pair (key, body.id) (ids_at a by_source)) (ids_at a by_source)) ≡ true
      by true = put_there (key, body.id) (ids_at a by_source)
      by false = used
  used_stays (Some old) a linked used = ap (λ l. has_pairs (ids_at a l)) linked ∙ used

  put_body : (found : Option FlowRow) → (put_row found body moment).body ≡ body
  put_body None = refl
  put_body (Some old) = refl

  put_used : (found : Option SourceRow) → AreUsed next_by_source sources → has_pairs (ids_at body.source next_by_source) ≡ true
      → AreUsed next_by_source (source_put found (new_source body moment) sources)
  put_used None used new =
      all_append _ (filter (is_below (id_key body.source)) sources) _ (all_kept _ (is_below (id_key body.source)) sources used)
      (new, all_kept _ (is_above (id_key body.source)) sources used)
  put_used (Some kept) used new = used

  pub put_kept : (next_sources : List (ℤ × SourceRow)) (next_flows : List (ℤ × FlowRow)) → IsRising flows → IsKeptInOrder sources flows by_source collectors
      → put_refusal (catalog_with (values sources) (values flows)) body ≡ None → IsKeyedBy source_key next_sources → IsKeyedBy flow_key next_flows
      → next_sources ≡ source_put (source_of body.source (values sources)) (new_source body moment) sources
      → next_flows ≡ with_pair (key, put_row (flow_of body.id (values flows)) body moment) flows → SourceLinked (flow_of body.id (values flows)) body by_source
      next_by_source → ((row : FlowRow) → row.body.id ≡ body.id → row.body.members ≡ body.members → IsByCollected (with_pair (key, row) flows) next_collectors)
      → IsKeptInOrder next_sources next_flows next_by_source next_collectors
  put_kept next_sources next_flows rising kept allowed sources_keyed flows_keyed es ef linked collected =
      let found = flow_of body.id (values flows) in
      let row = put_row found body moment in
      let e : value_at key flows ≡ found = flow_found body.id flows kept.flows_keyed in
      let known : (old : FlowRow) → found ≡ Some old → old.body.id ≡ body.id = λ old h. found_id flow_id body.id (values flows) old (sym h) in
      let stays : (old : FlowRow) → found ≡ Some old → body.source ≡ old.body.source = λ old h. same_source old (values sources) (values flows) body h allowed
      in
      let next_by = put_by_source found rising e known stays kept.sources_indexed linked in
      let there : value_at key (with_pair (key, row) flows) ≡ Some row = let same : int_eq key key ≡ true = (let d = signed_Decides key key in d.1 refl) in
      value_at_with key key row flows ∙ rw same refl in
      let names_it : has_number body.source (source_named row) ≡ true = ap (λ b. has_number body.source (b.source ∷ [])) (put_body found) ∙ number_there
      body.source in
      let new : has_pairs (ids_at body.source next_by_source) ≡ true = ap has_pairs (next_by body.source) ∙ named_there flow_id source_named body.source key row
      (with_pair (key, row) flows) there names_it in
      let used : AreUsed next_by_source sources = all_map (λ p. has_pairs (ids_at p.1.id by_source) ≡ true)
      (λ p. has_pairs (ids_at p.1.id next_by_source) ≡ true) (λ p h. used_stays found p.1.id linked h) sources kept.used in
      record {
        sources_keyed = sources_keyed;
        flows_keyed = flows_keyed;
        sources_indexed = subst (λ f. IsBySource f next_by_source) (sym ef) next_by;
        collectors_indexed = subst (λ f. IsByCollected f next_collectors) (sym ef)
            (collected row (ap (λ b. b.id) (put_body found)) (ap (λ b. b.members) (put_body found)));
        used = subst (AreUsed next_by_source) (sym es) (put_used (source_of body.source (values sources)) used new);
      }
    where
      number_there : (n : ℕ) → has_number n (n ∷ []) ≡ true
      number_there n = let same : (n == n) ≡ true = grind (arith, nat_tests) in rw same refl

-- ---- a part that is set, and segments that change

pub members_stay : (part : Part) (body : FlowBody) → collection_of part ≡ None → (body_with part body).members ≡ body.members
members_stay (parts.Tag name new) body e = refl
members_stay (parts.Label new) body e = refl
members_stay (parts.Description new) body e = refl
members_stay (parts.ReadOnly new) body e = refl
members_stay (parts.Collection new) body e = absurd (grind (arith, e))
members_stay (parts.MaxBitRate new) body e = refl
members_stay (parts.AvgBitRate new) body e = refl

pub members_set : (part : Part) (body : FlowBody) (members : List Member) → collection_of part ≡ Some members → (body_with part body).members ≡ members
members_set (parts.Tag name new) body members e = absurd (grind (arith, e))
members_set (parts.Label new) body members e = absurd (grind (arith, e))
members_set (parts.Description new) body members e = absurd (grind (arith, e))
members_set (parts.ReadOnly new) body members e = absurd (grind (arith, e))
members_set (parts.Collection new) body members e = some_same e
  where
    some_same : {x y : List Member} → Some x ≡ Some y → x ≡ y
    some_same e' = grind arith
members_set (parts.MaxBitRate new) body members e = absurd (grind (arith, e))
members_set (parts.AvgBitRate new) body members e = absurd (grind (arith, e))

pub set_by_source : (part : Part) (moment id : ℕ) (flows next : List (ℤ × FlowRow)) (by_source : List (ℤ × List (ℤ × ℕ))) → IsRising flows
    → IsBySource flows by_source → next ≡ changed_row (id_key id) (set_row part moment) (value_at (id_key id) flows) flows → IsBySource next by_source
set_by_source part moment id flows next by_source rising indexed is =
    subst (λ l. IsBySource l by_source) (sym is) (index_changed flow_id source_named id (set_row part moment) flows by_source rising
    (λ row. ap (λ s. s ∷ []) (with_source_id part row.body)) (λ row. with_id part row.body) indexed)

pub touch_kept : (moment id : ℕ) (sources next_sources : List (ℤ × SourceRow)) (flows next : List (ℤ × FlowRow))
    (by_source collectors next_by next_col : List (ℤ × List (ℤ × ℕ))) → IsRising flows → IsKeptInOrder sources flows by_source collectors → next_sources
    ≡ sources
    → next_by ≡ by_source → next_col ≡ collectors → IsKeyedBy flow_key next → next ≡ changed_row (id_key id) (touched moment) (value_at (id_key id) flows) flows
    → IsKeptInOrder next_sources next next_by next_col
touch_kept moment id sources next_sources flows next by_source collectors next_by next_col rising kept es eb ec keyed is =
    rw (es, eb, ec) (record {
      sources_keyed = kept.sources_keyed;
      flows_keyed = keyed;
      sources_indexed = subst (λ l. IsBySource l by_source) (sym is) (index_changed flow_id source_named id (touched moment) flows by_source rising
          (λ row. refl) (λ row. refl) kept.sources_indexed);
      collectors_indexed = subst (λ l. IsByCollected l collectors) (sym is) (index_changed flow_id flows_named id (touched moment) flows collectors rising
          (λ row. refl) (λ row. refl) kept.collectors_indexed);
      used = kept.used;
    })

pub set_kept : (part : Part) (moment id : ℕ) (sources next_sources : List (ℤ × SourceRow)) (flows next : List (ℤ × FlowRow))
    (by_source collectors next_by next_col : List (ℤ × List (ℤ × ℕ))) → IsRising flows → IsKeptInOrder sources flows by_source collectors → next_sources
    ≡ sources
    → next_by ≡ by_source → IsKeyedBy flow_key next → next ≡ changed_row (id_key id) (set_row part moment) (value_at (id_key id) flows) flows
    → IsByCollected (changed_row (id_key id) (set_row part moment) (value_at (id_key id) flows) flows) next_col
    → IsKeptInOrder next_sources next next_by next_col
set_kept part moment id sources next_sources flows next by_source collectors next_by next_col rising kept es eb keyed is collected =
    rw (es, eb) (record {
      sources_keyed = kept.sources_keyed;
      flows_keyed = keyed;
      sources_indexed = set_by_source part moment id flows next by_source rising kept.sources_indexed is;
      collectors_indexed = subst (λ l. IsByCollected l next_col) (sym is) collected;
      used = kept.used;
    })

-- a source that changes keeps its id
used_changed : (part : Part) (moment id : ℕ) (by_source : List (ℤ × List (ℤ × ℕ))) (sources : List (ℤ × SourceRow)) (found : Option SourceRow)
    → value_at (id_key id) sources ≡ found → AreUsed by_source sources → AreUsed by_source (changed_row (id_key id) (set_source_row part moment) found sources)
used_changed part moment id by_source sources None e used = used
used_changed part moment id by_source sources (Some old) e used =
    let there = standing (id_key id) old sources e in
    let here : has_pairs (ids_at old.id by_source) ≡ true = (all_right _ there.left ((id_key id, old) ∷ there.right)
    (subst (AreUsed by_source) there.is used)).0 in
    let new : has_pairs (ids_at (set_source_row part moment old).id by_source) ≡ true = ap (λ i. has_pairs (ids_at i by_source)) (set_source_stays part old) ∙
    here in
    all_append _ (filter (is_below (id_key id)) sources) _ (all_kept _ (is_below (id_key id)) sources used)
    (new, all_kept _ (is_above (id_key id)) sources used)

pub set_source_kept : (part : Part) (moment id : ℕ) (sources next_sources : List (ℤ × SourceRow)) (flows next : List (ℤ × FlowRow))
    (by_source collectors next_by next_col : List (ℤ × List (ℤ × ℕ))) → IsKeptInOrder sources flows by_source collectors → next ≡ flows → next_by ≡ by_source
    → next_col ≡ collectors → IsKeyedBy source_key next_sources → next_sources ≡ changed_row (id_key id) (set_source_row part moment)
    (value_at (id_key id) sources) sources → IsKeptInOrder next_sources next next_by next_col
set_source_kept part moment id sources next_sources flows next by_source collectors next_by next_col kept ef eb ec keyed is =
    rw (ef, eb, ec) (record {
      sources_keyed = keyed;
      flows_keyed = kept.flows_keyed;
      sources_indexed = kept.sources_indexed;
      collectors_indexed = kept.collectors_indexed;
      used = subst (AreUsed by_source) (sym is) (used_changed part moment id by_source sources (value_at (id_key id) sources) refl kept.used);
    })

-- ---- a flow that goes

-- tests that agree on a list keep the same of it
agreed : {X : Type 0} (p q : X → Bool) (xs : List X) → AllByRecursion (λ x. p x ≡ q x) xs → filter p xs ≡ filter q xs
agreed p q [] h = refl
agreed p q (x ∷ xs) h = rw h.0 (ap (λ l. cond (q x) (x ∷ l) l) (agreed p q xs h.1))

module _ (id : ℕ) (row : FlowRow) (sources next_sources : List (ℤ × SourceRow)) (flows next_flows : List (ℤ × FlowRow))
    (by_source collectors next_by middle next_col : List (ℤ × List (ℤ × ℕ))) where
  abbrev left : List (ℤ × FlowRow)
  left = without_key (id_key id) flows

  abbrev is_used : ℤ × SourceRow → Bool
  is_used p = has_pairs (ids_at p.1.id next_by)

  pub left_by_source : IsRising flows → IsKeptInOrder sources flows by_source collectors → Some row ≡ flow_of id (values flows)
      → Unlinks (row.body.source ∷ []) id by_source next_by → IsBySource left next_by
  left_by_source rising kept found gone = index_without flow_id source_named id row flows by_source next_by rising
      (flow_found id flows kept.flows_keyed ∙ sym found) kept.sources_indexed gone

  pub left_collectors : IsRising flows → IsKeptInOrder sources flows by_source collectors → Some row ≡ flow_of id (values flows)
      → Unlinks (member_ids row.body.members) id collectors middle → IsByCollected left middle
  left_collectors rising kept found gone = index_without flow_id flows_named id row flows collectors middle rising
      (flow_found id flows kept.flows_keyed ∙ sym found) kept.collectors_indexed gone

  -- the sources that still have a flow
  still_used : IsRising sources → IsKeptInOrder sources flows by_source collectors → Unlinks (row.body.source ∷ []) id by_source next_by
      → next_sources ≡ (if has_pairs (ids_at row.body.source next_by) then sources else without_key (id_key row.body.source) sources)
      → next_sources ≡ filter is_used sources
  still_used rising kept gone is = is ∙ by (has_pairs (ids_at row.body.source next_by)) refl
    where
      source : ℕ
      source = row.body.source

      -- any other source is as it was
      other : (a : ℕ) → (a == source) ≡ false → has_pairs (ids_at a by_source) ≡ true → has_pairs (ids_at a next_by) ≡ true
      other a apart used = ap has_pairs (gone a ∙ rw apart refl) ∙ used

      by : (t : Bool) → has_pairs (ids_at source next_by) ≡ t → cond t sources (without_key (id_key source) sources) ≡ filter is_used sources
      by true e = sym (filter_all is_used sources (all_map (λ p. has_pairs (ids_at p.1.id by_source) ≡ true) (λ p. is_used p ≡ true) (λ p used. each p used)
          sources kept.used))
        where
          each : (p : ℤ × SourceRow) → has_pairs (ids_at p.1.id by_source) ≡ true → is_used p ≡ true
          each p used = on (p.1.id == source) refl
            where
              on : (t : Bool) → (p.1.id == source) ≡ t → is_used p ≡ true
              on true h = ap (λ a. has_pairs (ids_at a next_by)) (eqb-true p.1.id source h) ∙ e
              on false h = other p.1.id h used
      by false e = others_are (id_key source) sources rising ∙ agreed (λ p. not (is_at (id_key source) p)) is_used sources
          (both sources kept.sources_keyed kept.used)
        where
          both : (ps : List (ℤ × SourceRow)) → IsKeyedBy source_key ps → AreUsed by_source ps → AllByRecursion (λ p. not (is_at (id_key source) p) ≡ is_used p)
              ps
          both [] keyed used = tt
          both (p ∷ ps) keyed used = (on (p.1.id == source) refl, both ps keyed.1 used.1)
            where
              at : (t : Bool) → (p.1.id == source) ≡ t → is_at (id_key source) p ≡ t
              at t h = ap (λ k. int_eq k (id_key source)) keyed.0 ∙ sym (same_key p.1.id source) ∙ h

              on : (t : Bool) → (p.1.id == source) ≡ t → not (is_at (id_key source) p) ≡ is_used p
              on true h = ap not (at true h) ∙ sym (ap (λ a. has_pairs (ids_at a next_by)) (eqb-true p.1.id source h) ∙ e)
              on false h = ap not (at false h) ∙ sym (other p.1.id h used.0)

  pub drop_kept : IsRising sources → IsRising flows → IsKeptInOrder sources flows by_source collectors → Some row ≡ flow_of id (values flows)
      → Unlinks (row.body.source ∷ []) id by_source next_by → Unlinks (member_ids row.body.members) id collectors middle → Forgets id middle next_col
      → next_sources ≡ (if has_pairs (ids_at row.body.source next_by) then sources else without_key (id_key row.body.source) sources)
      → next_flows ≡ all_cleared id left → IsKeptInOrder next_sources next_flows next_by next_col
  drop_kept sources_rise rising kept found gone gone_col forgotten es ef =
      let used = still_used sources_rise kept gone es in
      let by_left = left_by_source rising kept found gone in
      let col_left = left_collectors rising kept found gone_col in
      record {
        sources_keyed = subst (IsKeyedBy source_key) (sym used) (all_kept _ is_used sources kept.sources_keyed);
        flows_keyed = subst (IsKeyedBy flow_key) (sym ef) (clear_keyed id left (keyed_without flow_key (id_key id) flows kept.flows_keyed));
        sources_indexed = λ a. by_left a ∙ sym (ap (λ l. naming flow_id source_named a l) ef ∙ sources_stay a id left);
        collectors_indexed = λ a. forgotten a ∙ ap (λ l. if a == id then [] else l) (col_left a) ∙ sym
            (ap (λ l. naming flow_id flows_named a l) ef ∙ entries_stay a id left);
        used = subst (AreUsed next_by) (sym used) (each_passes is_used sources);
      }

  pub drop_flows : IsRising flows → IsKeptInOrder sources flows by_source collectors → next_flows ≡ all_cleared id left
      → values next_flows ≡ flows_after_drop id (values flows)
  drop_flows rising kept ef = ap values ef ∙ clear_values id left ∙ ap (map (without_entries id))
      (left_values flow_id id flows left rising kept.flows_keyed refl)

  pub drop_sources : IsRising sources → IsRising flows → IsKeptInOrder sources flows by_source collectors → Some row ≡ flow_of id (values flows)
      → Unlinks (row.body.source ∷ []) id by_source next_by → next_sources ≡ (if has_pairs (ids_at row.body.source next_by) then sources else without_key
      (id_key row.body.source) sources) → values next_sources ≡ filter (has_flow (flows_after_drop id (values flows))) (values sources)
  drop_sources sources_rise rising kept found gone es =
      ap values (still_used sources_rise kept gone es) ∙ sym (values_kept (has_flow (flows_after_drop id (values flows))) is_used sources (each sources))
    where
      by_left : IsBySource left next_by
      by_left = left_by_source rising kept found gone

      flows_are : values (all_cleared id left) ≡ flows_after_drop id (values flows)
      flows_are = clear_values id left ∙ ap (map (without_entries id)) (left_values flow_id id flows left rising kept.flows_keyed refl)

      same : (source : SourceRow) → has_flow (flows_after_drop id (values flows)) source ≡ has_pairs (ids_at source.id next_by)
      same source = ap (λ l. has_flow l source) (sym flows_are) ∙ has_flow_is (all_cleared id left) source ∙ ap has_pairs
          (sources_stay source.id id left ∙ sym (by_left source.id))

      each : (ps : List (ℤ × SourceRow)) → AllByRecursion (λ p. has_flow (flows_after_drop id (values flows)) p.1 ≡ is_used p) ps
      each [] = tt
      each (p ∷ ps) = (same p.1, each ps)

  same_catalog : (s other_s : List SourceRow) (f other_f : List FlowRow) → s ≡ other_s → f ≡ other_f → catalog_with s f ≡ catalog_with other_s other_f
  same_catalog s other_s f other_f es ef = rw (es, ef) refl

  pub drop_catalog : IsRising sources → IsRising flows → IsKeptInOrder sources flows by_source collectors → Some row ≡ flow_of id (values flows)
      → Unlinks (row.body.source ∷ []) id by_source next_by → next_sources ≡ (if has_pairs (ids_at row.body.source next_by) then sources else without_key
      (id_key row.body.source) sources) → next_flows ≡ all_cleared id left → catalog_with (values next_sources) (values next_flows) ≡ after_drop id
      (catalog_with (values sources) (values flows))
  drop_catalog sources_rise rising kept found gone es ef = same_catalog (values next_sources) _ (values next_flows) _
      (drop_sources sources_rise rising kept found gone es) (drop_flows rising kept ef)

  pub not_refused : Some row ≡ flow_of id (values flows) → no_flow_refusal (catalog_with (values sources) (values flows)) id ≡ None
  not_refused found = ap (λ o. when (is_none o) refusals.NoFlow) (sym found)
