-- A flow that is put, set or touched, and a source of which a part is set, keep a library good.
use Rattle.std.proofs.Common.{◌≡◌, ◌⊎◌, inl, inr, ℕ, Bool, true, false, not, cond, List, ◌∷◌, map, filter, Option, Some, None, Contains, refl, sym, ap, subst, ◌∙◌, arith}
use Rattle.std.specs.Prelude.{◌==◌, nat_le}
use Rattle.std.specs.List.{list_all}
use Rattle.std.proofs.lemmas.Bool.{and_parts, and_from, ltb-true, lt-ltb, eqb-true, eqb-false, eq-eqb, ne_eqb, not-true, not_from_false, cases_order, false≢true, false_from_ne_true}
use Rattle.media_rows.specs.declared.flow.FlowRow.{FlowRow}
use Rattle.media_rows.specs.declared.source.SourceRow.{SourceRow}
use Rattle.media_rows.specs.Catalog.{Catalog, source_of, flow_of, source_before, flow_before, has_flow, with_flow}
use Rattle.media_rows.specs.Collections.{member_ids, is_kept, collects_itself, Collects, Reaches, there, through, AnyReaches}
use Rattle.media_rows.specs.Good.{Good, are_compatible, is_segment_good, is_request_good, is_collection_good, fits_kept, is_flow_text, is_source_text, are_sources_good}
use Rattle.media_rows.specs.Library.{Library}
use Rattle.media_rows.specs.Lists.{rises, placed}
use Rattle.media_rows.specs.Ranges.{has_both_ends}
use Rattle.media_rows.specs.Requests.{done_count, done_kept}
use Rattle.library_laws.proofs.ListLemmas.{In, In-front, In-back, filter-In, map-In, In-map, find-In, find-some, In-from_Contains, Contains-from_In, list_all-In, list_all-from_In, list_any-In, list_any-from_In}
use Rattle.library_laws.proofs.KeptLemmas.{placed-In, same_by_key}
use Rattle.library_laws.proofs.CircleLemmas.{collects_itself_is}
use Rattle.library_laws.proofs.RequestLemmas.{request_stays_good}
use Rattle.library_laws.proofs.OutboxKept.{Names-from, Names-test, Texts-from, Texts-test}

-- ---- one row in place of those of its id

pub record Replaces (flows flows₂ : List FlowRow) (new : FlowRow) : Type 0 where
  pub rows : (r : FlowRow) → In r flows₂ → (r ≡ new) ⊎ (In r flows × (r.body.id ≡ new.body.id → ⊥))
  pub among : In new flows₂
  pub others : (r : FlowRow) → In r flows → (r.body.id ≡ new.body.id) ⊎ In r flows₂

pub placed-Replaces : (flows : List FlowRow) (new : FlowRow) → Replaces flows (placed flow_before new flows) new
placed-Replaces flows new = record {
  rows = λ r here. elim (placed-In flow_before new flows r here) [
    | inl same ↦ inl same
    | inr (old, inl below) ↦ inr (old, λ e. let l = ltb-true r.body.id new.body.id below in absurd (omega arith))
    | inr (old, inr above) ↦ inr (old, λ e. let l = ltb-true new.body.id r.body.id above in absurd (omega arith))
  ];
  among = In-back (filter (λ r. flow_before r new) flows) (new ∷ filter (λ r. flow_before new r) flows) new (inl refl);
  others = λ r here. elim (cases_order r.body.id new.body.id) [
    | inl same ↦ inl same
    | inr (inl below) ↦ inr (In-front (filter (λ q. flow_before q new) flows) (new ∷ filter (λ q. flow_before new q) flows) r
        (filter-In (λ q. flow_before q new) flows r here (lt-ltb r.body.id new.body.id below)))
    | inr (inr above) ↦ inr (In-back (filter (λ q. flow_before q new) flows) (new ∷ filter (λ q. flow_before new q) flows) r
        (inr (filter-In (λ q. flow_before new q) flows r here (lt-ltb new.body.id r.body.id above))))
  ];
}

changed_row : (b : Bool) (change : FlowRow → FlowRow) (r y : FlowRow) → y ≡ cond b (change r) r → ((b ≡ true) × (y ≡ change r)) ⊎ ((b ≡ false) × (y ≡ r))
changed_row true change r y e = inl (refl, e)
changed_row false change r y e = inr (refl, e)

pub changed-Replaces : (flows : List FlowRow) (id : ℕ) (change : FlowRow → FlowRow) (old : FlowRow) → rises flow_before flows ≡ true → flow_of id flows
    ≡ Some old
    → ((r : FlowRow) → (change r).body.id ≡ r.body.id) → Replaces flows (with_flow id change flows) (change old)
changed-Replaces flows id change old rise is same =
    let at = find-In (λ r. r.body.id == id) flows old is in
    let own = eqb-true old.body.id id at.1 in
    let apply : FlowRow → FlowRow = λ r. cond (r.body.id == id) (change r) r in
    record {
      rows = λ y here.
          let r = In-map apply flows y here in
          elim (changed_row (r.0.body.id == id) change r.0 y r.2) [
            | inl (e, is_change) ↦ inl (is_change ∙ ap change (same_by_key (λ q. q.body.id) flows rise r.0 old r.1 at.0 (eqb-true r.0.body.id id e ∙ sym own)))
            | inr (e, unchanged) ↦ inr (
              subst (λ q. In q flows) (sym unchanged) r.1,
              λ k. eqb-false r.0.body.id id e
                  (ap (λ (q : FlowRow). q.body.id) (sym unchanged) ∙ k ∙ same old ∙ own),
            )
          ];
      among = subst (λ b. In (cond b (change old) old) (map apply flows)) at.1 (map-In apply flows old at.0);
      others = λ r here. elim (cases_order r.body.id id) [
        | inl e ↦ inl (e ∙ sym own ∙ sym (same old))
        | inr less ↦ inr (subst (λ b. In (cond b (change r) r) (map apply flows))
            (ne_eqb r.body.id id (λ e. elim less [ inl l ↦ absurd (omega arith) | inr g ↦ absurd (omega arith) ])) (map-In apply flows r here))
      ];
    }

-- a kept flow stays
still_kept : (flows flows₂ : List FlowRow) (new : FlowRow) → Replaces flows flows₂ new → (id : ℕ) → is_kept flows id ≡ true → is_kept flows₂ id ≡ true
still_kept flows flows₂ new is id e =
    let found = list_any-In (λ r. r.body.id == id) flows e in
    elim (is.others found.0 found.1) [
      | inl same ↦ list_any-from_In (λ r. r.body.id == id) flows₂ new is.among (eq-eqb new.body.id id (sym same ∙ eqb-true found.0.body.id id found.2))
      | inr here ↦ list_any-from_In (λ r. r.body.id == id) flows₂ found.0 here found.2
    ]

new_kept : (flows flows₂ : List FlowRow) (new : FlowRow) → Replaces flows flows₂ new → is_kept flows₂ new.body.id ≡ true
new_kept flows flows₂ new is = list_any-from_In (λ r. r.body.id == new.body.id) flows₂ new is.among (eq-eqb new.body.id new.body.id refl)

-- ---- ways through collections

-- a way leads on from an entry of a row
record OnFrom (flows : List FlowRow) (new : FlowRow) (to : ℕ) : Type 0 where
  entry : ℕ
  among : In entry (member_ids new.body.members)
  way : Reaches flows to entry

-- a way over the new rows leads over the old rows alone, or to the new row's flow and on from an entry of it
way_step : (flows flows₂ : List FlowRow) (new : FlowRow) (to from next : ℕ) (c : Collects flows₂ from next)
    → (c.row ≡ new) ⊎ (In c.row flows × (c.row.body.id ≡ new.body.id → ⊥))
    → Reaches flows to next ⊎ (Reaches flows new.body.id next × OnFrom flows new to)
    → Reaches flows to from ⊎ (Reaches flows new.body.id from × OnFrom flows new to)
way_step flows flows₂ new to from next c (inl same) (inl way) =
    let at : from ≡ new.body.id = sym c.row_is ∙ ap (λ (r : FlowRow). r.body.id) same in
    inr (
      there from at,
      record {
        entry = next;
        among = subst (λ (r : FlowRow). In next (member_ids r.body.members)) same
            (In-from_Contains (member_ids c.row.body.members) next c.entry);
        way = way;
      },
    )
way_step flows flows₂ new to from next c (inl same) (inr (back, on)) = inr (there from (sym c.row_is ∙ ap (λ (r : FlowRow). r.body.id) same), on)
way_step flows flows₂ new to from next c (inr (old, apart)) (inl way) =
    inl (through from next (record { row = c.row; kept = Contains-from_In flows c.row old; row_is = c.row_is; entry = c.entry }) way)
way_step flows flows₂ new to from next c (inr (old, apart)) (inr (back, on)) =
    inr (through from next (record { row = c.row; kept = Contains-from_In flows c.row old; row_is = c.row_is; entry = c.entry }) back, on)

way_splits : (flows flows₂ : List FlowRow) (new : FlowRow) → Replaces flows flows₂ new → (to from : ℕ) → Reaches flows₂ to from
    → Reaches flows to from ⊎ (Reaches flows new.body.id from × OnFrom flows new to)
way_splits flows flows₂ new is to from (there _ same) = inl (there from same)
way_splits flows flows₂ new is to from (through _ next c way) =
    way_step flows flows₂ new to from next c (is.rows c.row (In-from_Contains flows₂ c.row c.kept)) (way_splits flows flows₂ new is to next way)

-- one way behind another
on_and_on : (flows : List FlowRow) (b c a : ℕ) → Reaches flows b a → Reaches flows c b → Reaches flows c a
on_and_on flows b c a (there _ same) way = subst (λ x. Reaches flows c x) (sym same) way
on_and_on flows b c a (through _ next step first) way = through a next step (on_and_on flows b c next first way)

-- no flow reaches itself over the new rows
no_circle : (flows flows₂ : List FlowRow) (new : FlowRow) → Replaces flows flows₂ new
    → ((r : FlowRow) → In r flows → AnyReaches flows r.body.members r.body.id → ⊥)
    → (AnyReaches flows new.body.members new.body.id → ⊥) → (r : FlowRow) → In r flows₂ → AnyReaches flows₂ r.body.members r.body.id → ⊥
no_circle flows flows₂ new is old own r here any =
    elim (is.rows r here) [
      | inl same ↦
          let first : Contains (member_ids new.body.members) any.first = subst (λ (q : FlowRow). Contains (member_ids q.body.members) any.first) same any.entry
          in
          elim (way_splits flows flows₂ new is new.body.id any.first (subst (λ (q : FlowRow). Reaches flows₂ q.body.id any.first) same any.way)) [
            | inl way ↦ own (record { first = any.first; entry = first; way = way })
            | inr (back, on) ↦ own (record { first = any.first; entry = first; way = back })
          ]
      | inr (kept, apart) ↦
          elim (way_splits flows flows₂ new is r.body.id any.first any.way) [
            | inl way ↦ old r kept (record { first = any.first; entry = any.entry; way = way })
            | inr (back, on) ↦
                let step : Collects flows r.body.id any.first = record { row = r; kept = Contains-from_In flows r kept; row_is = refl; entry = any.entry } in
                own (record {
                  first = on.entry;
                  entry = Contains-from_In (member_ids new.body.members) on.entry on.among;
                  way = on_and_on flows r.body.id
                      new.body.id on.entry on.way (through r.body.id any.first step back);
                })
          ]
    ]

-- ---- the change of one flow

pub record FlowChange (library : Library) (catalog : Catalog) (new : FlowRow) : Type 0 where
  pub replaces : Replaces library.catalog.flows catalog.flows new
  pub flows_rise : rises flow_before catalog.flows ≡ true
  pub sources_rise : rises source_before catalog.sources ≡ true
  pub old_sources : (s : SourceRow) → In s library.catalog.sources → In s catalog.sources
  pub new_sources : (s : SourceRow) → In s catalog.sources → In s library.catalog.sources ⊎ (s.id ≡ new.body.source)
  pub fits : fits_kept (source_of new.body.source catalog.sources) new ≡ true
  pub same_source : (r : FlowRow) → In r library.catalog.flows → r.body.id ≡ new.body.id → r.body.source ≡ new.body.source
  pub members : (id : ℕ) → In id (member_ids new.body.members) → (id ≡ new.body.id) ⊎ (is_kept library.catalog.flows id ≡ true)
  pub reaches : collects_itself library.catalog.flows new.body.id new.body.members ≡ false
  pub text : is_flow_text new ≡ true
  pub source_texts : list_all is_source_text catalog.sources ≡ true

-- the source of a row, by its id
looked_up : (sources : List SourceRow) (s : SourceRow) → rises source_before sources ≡ true → In s sources → source_of s.id sources ≡ Some s
looked_up sources s rise here =
    let found = find-some (λ r. r.id == s.id) sources s here (eq-eqb s.id s.id refl) in
    found.1 ∙ ap Some (same_by_key (λ r. r.id) sources rise found.0 s found.2 here (eqb-true found.0.id s.id found.3))

pub kept_source : (o : Option SourceRow) (row : FlowRow) → fits_kept o row ≡ true → (s : SourceRow) × (o ≡ Some s)
kept_source None row e = absurd (false≢true e)
kept_source (Some s) row e = (s, refl)

-- a row that stays fits its source still
still_fits : (sources sources₂ : List SourceRow) → rises source_before sources₂ ≡ true → ((s : SourceRow) → In s sources → In s sources₂) → (row : FlowRow)
    → fits_kept (source_of row.body.source sources) row ≡ true → fits_kept (source_of row.body.source sources₂) row ≡ true
still_fits sources sources₂ rise stays row e =
    let s = kept_source (source_of row.body.source sources) row e in
    let at = find-In (λ r. r.id == row.body.source) sources s.0 s.1 in
    let own = eqb-true s.0.id row.body.source at.1 in
    let there_too : source_of row.body.source sources₂ ≡ Some s.0 = ap (λ i. source_of i sources₂) (sym own) ∙ looked_up sources₂ s.0 rise (stays s.0 at.0) in
    ap (λ o. fits_kept o row) (there_too ∙ sym s.1) ∙ e

sources_stay_good : (library : Library) (catalog : Catalog) (new : FlowRow) → FlowChange library catalog new → are_sources_good library.catalog ≡ true
    → are_sources_good catalog ≡ true
sources_stay_good library catalog new is e =
    let parts = and_parts (list_all (λ row. fits_kept (source_of row.body.source library.catalog.sources) row) library.catalog.flows)
    (list_all (has_flow library.catalog.flows) library.catalog.sources) e in
    and_from _ _
    (list_all-from_In (λ row. fits_kept (source_of row.body.source catalog.sources) row) catalog.flows (λ row here. elim (is.replaces.rows row here) [
      | inl same ↦ subst (λ (q : FlowRow). fits_kept (source_of q.body.source catalog.sources) q ≡ true) (sym same) is.fits
      | inr (old, apart) ↦ still_fits library.catalog.sources catalog.sources is.sources_rise is.old_sources row
          (list_all-In (λ r. fits_kept (source_of r.body.source library.catalog.sources) r) library.catalog.flows parts.0 row old)
    ]))
    (list_all-from_In (has_flow catalog.flows) catalog.sources (λ s here. elim (is.new_sources s here) [
      | inl old ↦
          let flow = list_any-In (λ r. r.body.source == s.id) library.catalog.flows
          (list_all-In (has_flow library.catalog.flows) library.catalog.sources parts.1 s old) in
          elim (is.replaces.others flow.0 flow.1) [
            | inl same ↦ list_any-from_In (λ r. r.body.source == s.id) catalog.flows new is.replaces.among
                (eq-eqb new.body.source s.id (sym (is.same_source flow.0 flow.1 same) ∙ eqb-true flow.0.body.source s.id flow.2))
            | inr stays ↦ list_any-from_In (λ r. r.body.source == s.id) catalog.flows flow.0 stays flow.2
          ]
      | inr fresh ↦ list_any-from_In (λ r. r.body.source == s.id) catalog.flows new is.replaces.among (eq-eqb new.body.source s.id (sym fresh))
    ]))

collections_stay_good : (library : Library) (catalog : Catalog) (new : FlowRow) → FlowChange library catalog new
    → list_all (is_collection_good library.catalog.flows) library.catalog.flows ≡ true
    → list_all (is_collection_good catalog.flows) catalog.flows ≡ true
collections_stay_good library catalog new is e =
    let flows : List FlowRow = library.catalog.flows in
    let good : (r : FlowRow) → In r flows → (list_all (is_kept flows) (member_ids r.body.members) ≡ true)
    × (not (collects_itself flows r.body.id r.body.members) ≡ true) = λ r here.
    and_parts (list_all (is_kept flows) (member_ids r.body.members)) (not (collects_itself flows r.body.id r.body.members))
    (list_all-In (is_collection_good flows) flows e r here) in
    let none : (r : FlowRow) → In r flows → AnyReaches flows r.body.members r.body.id → ⊥ = λ r here any.
    false≢true (sym (not-true (collects_itself flows r.body.id r.body.members) (good r here).1) ∙ (collects_itself_is flows r.body.id r.body.members).1 any) in
    let own : AnyReaches flows new.body.members new.body.id
    → ⊥ = λ any. false≢true (sym is.reaches ∙ (collects_itself_is flows new.body.id new.body.members).1 any) in
    list_all-from_In (is_collection_good catalog.flows) catalog.flows
    (λ r here. and_from (list_all (is_kept catalog.flows) (member_ids r.body.members)) (not (collects_itself catalog.flows r.body.id r.body.members))
    (list_all-from_In (is_kept catalog.flows) (member_ids r.body.members) (λ id entry. elim (is.replaces.rows r here) [
      | inl same ↦ elim (is.members id (subst (λ (q : FlowRow). In id (member_ids q.body.members)) same entry)) [
        | inl itself ↦ ap (is_kept catalog.flows) itself ∙ new_kept flows catalog.flows new is.replaces
        | inr kept ↦ still_kept flows catalog.flows new is.replaces id kept
      ]
      | inr (old, apart) ↦ still_kept flows catalog.flows new is.replaces id (list_all-In (is_kept flows) (member_ids r.body.members) (good r old).0 id entry)
    ]))
    (not_from_false (collects_itself catalog.flows r.body.id r.body.members)
    (false_from_ne_true (collects_itself catalog.flows r.body.id r.body.members) (λ bad.
    no_circle flows catalog.flows new is.replaces none own r here ((collects_itself_is catalog.flows r.body.id r.body.members).0 bad)))))

-- the library with another catalog
abbrev pub with_catalog : Catalog → Library → Library
with_catalog catalog library = record library { catalog = catalog }

pub flow_change_keeps_good : (library : Library) (catalog : Catalog) (new : FlowRow) → FlowChange library catalog new → Good library
    → Good (with_catalog catalog library)
flow_change_keeps_good library catalog new is good =
    let names = Names-from library good.names in
    let texts = Texts-from library good.texts in
    let one = and_parts (rises are_compatible library.segments) (list_all (is_segment_good library.catalog.flows) library.segments) good.segments in
    let asked = and_parts (list_all (is_request_good library.catalog.flows library.segments) library.requests) (nat_le (done_count library.requests) done_kept)
    good.requests in
    let kept = still_kept library.catalog.flows catalog.flows new is.replaces in
    record {
      segments = and_from _ _ one.0 (list_all-from_In (is_segment_good catalog.flows) library.segments (λ s here.
          let parts = and_parts (has_both_ends s.segment.range) (is_kept library.catalog.flows s.flow)
          (list_all-In (is_segment_good library.catalog.flows) library.segments one.1 s here) in
          and_from (has_both_ends s.segment.range) (is_kept catalog.flows s.flow) parts.0 (kept s.flow parts.1)));
      references = good.references;
      extents = good.extents;
      names = Names-test (with_catalog catalog library) (record {
        catalog = and_from _ _ is.sources_rise is.flows_rise;
        objects = names.objects;
        urls = names.urls;
        objects_rise = names.objects_rise;
        segments_rise = names.segments_rise;
        requests_rise = names.requests_rise;
        hooks_rise = names.hooks_rise;
        events_rise = names.events_rise;
        serials = names.serials;
        least = names.least;
        most = names.most;
      });
      sources = sources_stay_good library catalog new is good.sources;
      collections = collections_stay_good library catalog new is good.collections;
      requests = and_from _ _ (list_all-from_In (is_request_good catalog.flows library.segments) library.requests (λ row here.
          request_stays_good library.catalog.flows catalog.flows library.segments library.segments row (λ u. kept row.flow) (λ u d k. k)
          (list_all-In (is_request_good library.catalog.flows library.segments) library.requests asked.0 row here))) asked.1;
      outbox = good.outbox;
      texts = Texts-test (with_catalog catalog library) (record {
        sources = is.source_texts;
        flows = list_all-from_In is_flow_text catalog.flows (λ r here. elim (is.replaces.rows r here) [
          | inl same ↦ ap is_flow_text same ∙ is.text
          | inr (old, apart) ↦ list_all-In is_flow_text library.catalog.flows texts.flows r old
        ]);
        objects = texts.objects;
        requests = texts.requests;
        hooks = texts.hooks;
        events = texts.events;
      });
    }
