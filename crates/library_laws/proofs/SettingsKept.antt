-- A part of a flow or a source that is set, and a flow whose segments changed, keep a library good.
use Rattle.std.proofs.Common.{◌≡◌, inl, inr, ℕ, true, not, ◌&&◌, cond, List, ◌∷◌, map, nat_lt, Option, Some, None, refl, sym, ap, ap₂, ◌∙◌}
use Rattle.std.specs.Prelude.{◌==◌, option_map, bytes_eq}
use Rattle.std.specs.Str.{is_utf8}
use Rattle.std.specs.List.{list_all, list_any}
use Rattle.std.proofs.lemmas.Bool.{and_parts, and_from, eqb-true, not-true, cond_both}
use Rattle.media_rows.specs.declared.flow.FlowBody.{FlowBody}
use Rattle.media_rows.specs.declared.flow.FlowRow.{FlowRow}
use Rattle.media_rows.specs.declared.flow.Tag.{Tag}
use Rattle.media_rows.specs.declared.part.Part.{Part}
use Rattle.media_rows.specs.declared.part.Part.TheVariants as parts
use Rattle.media_rows.specs.declared.refusal.Refusal.TheVariants as refusals
use Rattle.media_rows.specs.declared.source.SourceRow.{SourceRow}
use Rattle.media_rows.specs.Catalog.{source_of, flow_of, source_before, flow_before, has_flow, fits_format, tag_before, tags_with, set_refusals, set_refusal, part_refusals, flow_part_unset, sets_mark, body_with, with_flow, set_row, after_set, set_source_row, after_set_source, touched, after_touch}
use Rattle.media_rows.specs.Collections.{member_ids, is_kept, collects_itself}
use Rattle.media_rows.specs.Good.{Good, fits_kept, is_flow_text, is_source_text, is_tag_text, if_there, is_collection_good}
use Rattle.media_rows.specs.Library.{Library}
use Rattle.media_rows.specs.Lists.{rises, placed}
use Rattle.media_rows.specs.Moments.{is_moment}
use Rattle.media_rows.specs.Refusals.{when, first_refusal}
use Rattle.media_rows.specs.Sound.{is_part_good}
use Rattle.library_laws.proofs.ListLemmas.{find-In, find-map, list_all-In, list_all-from_In, list_all-filter}
use Rattle.library_laws.proofs.KeptLemmas.{placed-In, rises-mapped, list_all-mapped, same_by_key}
use Rattle.library_laws.proofs.FlowsKept.{changed-Replaces, FlowChange, with_catalog, flow_change_keeps_good}
use Rattle.library_laws.proofs.CatalogKept.{none_first, Entries, entries, old_fits, BodyTexts, BodyTexts-from, BodyTexts-test, RowTexts-from, RowTexts-test}
use Rattle.library_laws.proofs.OutboxKept.{Names-from, Names-test, Texts-from, Texts-test}

-- ---- a row that changes and keeps its source

-- a flow that is kept, and a change of its row that keeps its id, source and format
record Kept (library : Library) (id : ℕ) (old : FlowRow) (change : FlowRow → FlowRow) : Type 0 where
  flow : flow_of id library.catalog.flows ≡ Some old
  same_id : (r : FlowRow) → (change r).body.id ≡ r.body.id
  same_source : (r : FlowRow) → (change r).body.source ≡ r.body.source
  same_format : (r : FlowRow) → (change r).body.format ≡ r.body.format
  entries_good : Entries library.catalog.flows id (change old).body.members
  text : is_flow_text (change old) ≡ true

-- a row of the same format fits where the old one does
fits_same : (o : Option SourceRow) (old new : FlowRow) → new.body.format ≡ old.body.format → fits_kept o old ≡ true → fits_kept o new ≡ true
fits_same None old new same e = e
fits_same (Some source) old new same e = ap (λ f. fits_format source.format f) same ∙ e

same_under : (id : ℕ) (change : FlowRow → FlowRow) → ((r : FlowRow) → (change r).body.id ≡ r.body.id) → (r : FlowRow)
    → (cond (r.body.id == id) (change r) r).body.id ≡ r.body.id
same_under id change same r = cond_both (r.body.id == id) (change r) r (λ (q : FlowRow). q.body.id ≡ r.body.id) (λ e. same r) (λ e. refl)

changed_flow : (library : Library) (id : ℕ) (old : FlowRow) (change : FlowRow → FlowRow) → Good library → Kept library id old change
    → FlowChange library (record library.catalog { flows = with_flow id change library.catalog.flows }) (change old)
changed_flow library id old change good is =
    let names = Names-from library good.names in
    let texts = Texts-from library good.texts in
    let order = and_parts (rises source_before library.catalog.sources) (rises flow_before library.catalog.flows) names.catalog in
    let at = find-In (λ r. r.body.id == id) library.catalog.flows old is.flow in
    let own : (change old).body.id ≡ id = is.same_id old ∙ eqb-true old.body.id id at.1 in
    record {
      replaces = changed-Replaces library.catalog.flows id change old order.1 is.flow is.same_id;
      flows_rise = rises-mapped _ _ (λ a b. nat_lt a.body.id b.body.id) (λ r. cond (r.body.id == id) (change r) r) library.catalog.flows
          (λ x y here there t u. ap₂ nat_lt (same_under id change is.same_id x) (same_under id change is.same_id y) ∙ t) order.1 order.1;
      sources_rise = order.0;
      old_sources = λ s here. here;
      new_sources = λ s here. inl here;
      fits = ap (λ i. fits_kept (source_of i library.catalog.sources) (change old)) (is.same_source old)
          ∙ fits_same (source_of old.body.source library.catalog.sources) old (change old) (is.same_format old) (old_fits library good old at.0);
      same_source = λ r here e. ap (λ (q : FlowRow). q.body.source)
          (same_by_key (λ q. q.body.id) library.catalog.flows order.1 r old here at.0 (e ∙ is.same_id old)) ∙ sym (is.same_source old);
      members = λ to entry. elim (is.entries_good.kept to entry) [ inl same ↦ inl (same ∙ sym own) | inr kept ↦ inr kept ];
      reaches = ap (λ i. collects_itself library.catalog.flows i (change old).body.members) own ∙ is.entries_good.reaches;
      text = is.text;
      source_texts = texts.sources;
    }

-- the entries that a kept flow has
old_entries : (library : Library) → Good library → (id : ℕ) (old : FlowRow) → flow_of id library.catalog.flows ≡ Some old
    → Entries library.catalog.flows id old.body.members
old_entries library good id old is =
    let at = find-In (λ r. r.body.id == id) library.catalog.flows old is in
    let own = eqb-true old.body.id id at.1 in
    let parts = and_parts (list_all (is_kept library.catalog.flows) (member_ids old.body.members))
    (not (collects_itself library.catalog.flows old.body.id old.body.members))
    (list_all-In (is_collection_good library.catalog.flows) library.catalog.flows good.collections old at.0) in
    record {
      kept = λ to entry. inr (list_all-In (is_kept library.catalog.flows) (member_ids old.body.members) parts.0 to entry);
      reaches = ap (λ i. collects_itself library.catalog.flows i old.body.members) (sym own)
          ∙ not-true (collects_itself library.catalog.flows old.body.id old.body.members) parts.1;
    }

old_text : (library : Library) → Good library → (id : ℕ) (old : FlowRow) → flow_of id library.catalog.flows ≡ Some old → is_flow_text old ≡ true
old_text library good id old is = list_all-In is_flow_text library.catalog.flows (Texts-from library good.texts).flows old
    (find-In (λ r. r.body.id == id) library.catalog.flows old is).0

-- ---- a flow whose segments changed

touch_text : (moment : ℕ) (row : FlowRow) → is_moment moment ≡ true → is_flow_text row ≡ true → is_flow_text (touched moment row) ≡ true
touch_text moment row at e =
    let t = RowTexts-from row e in RowTexts-test (touched moment row) (record { body = t.body; created = t.created; updated = t.updated; segments = at })

pub touch_keeps_good : (library : Library) (id moment : ℕ) (old : FlowRow) → Good library → is_moment moment ≡ true → flow_of id library.catalog.flows
    ≡ Some old
    → Good (with_catalog (after_touch id moment library.catalog) library)
touch_keeps_good library id moment old good at is =
    flow_change_keeps_good library (after_touch id moment library.catalog) (touched moment old)
    (changed_flow library id old (touched moment) good (record {
      flow = is;
      same_id = λ r. refl;
      same_source = λ r. refl;
      same_format = λ r. refl;
      entries_good = old_entries library good id old is;
      text = touch_text moment old at (old_text library good id old is);
    })) good

-- ---- a part that is set

pub with_id : (part : Part) (body : FlowBody) → (body_with part body).id ≡ body.id
with_id (parts.Tag name new) body = refl
with_id (parts.Label new) body = refl
with_id (parts.Description new) body = refl
with_id (parts.ReadOnly new) body = refl
with_id (parts.Collection new) body = refl
with_id (parts.MaxBitRate new) body = refl
with_id (parts.AvgBitRate new) body = refl

pub with_source_id : (part : Part) (body : FlowBody) → (body_with part body).source ≡ body.source
with_source_id (parts.Tag name new) body = refl
with_source_id (parts.Label new) body = refl
with_source_id (parts.Description new) body = refl
with_source_id (parts.ReadOnly new) body = refl
with_source_id (parts.Collection new) body = refl
with_source_id (parts.MaxBitRate new) body = refl
with_source_id (parts.AvgBitRate new) body = refl

with_format : (part : Part) (body : FlowBody) → (body_with part body).format ≡ body.format
with_format (parts.Tag name new) body = refl
with_format (parts.Label new) body = refl
with_format (parts.Description new) body = refl
with_format (parts.ReadOnly new) body = refl
with_format (parts.Collection new) body = refl
with_format (parts.MaxBitRate new) body = refl
with_format (parts.AvgBitRate new) body = refl

-- the entries once a part is set
part_entries : (flows : List FlowRow) (id : ℕ) (part : Part) (body : FlowBody) → first_refusal (part_refusals flows id part) ≡ None
    → Entries flows id body.members → Entries flows id (body_with part body).members
part_entries flows id (parts.Tag name new) body none old = old
part_entries flows id (parts.Label new) body none old = old
part_entries flows id (parts.Description new) body none old = old
part_entries flows id (parts.ReadOnly new) body none old = old
part_entries flows id (parts.Collection new) body none old = entries flows id new none
part_entries flows id (parts.MaxBitRate new) body none old = old
part_entries flows id (parts.AvgBitRate new) body none old = old

-- the texts once a part is set
tags_text : (name : List ℕ) (new : Option Tag) (tags : List Tag) → if_there is_tag_text new ≡ true → list_all is_tag_text tags ≡ true
    → list_all is_tag_text (tags_with name new tags) ≡ true
tags_text name None tags e old = list_all-filter is_tag_text (λ tag. not (bytes_eq tag.name name)) tags old
tags_text name (Some tag) tags e old =
    list_all-from_In is_tag_text (placed tag_before tag tags) (λ t here. elim (placed-In tag_before tag tags t here) [
      | inl same ↦ ap is_tag_text same ∙ e
      | inr kept ↦ list_all-In is_tag_text tags old t kept.0
    ])

part_text : (part : Part) (body : FlowBody) → is_part_good part ≡ true → BodyTexts body → BodyTexts (body_with part body)
part_text (parts.Tag name new) body e t = record {
  codec = t.codec;
  container = t.container;
  label = t.label;
  description = t.description;
  tags = tags_text name
      new body.tags e t.tags;
  members = t.members;
  essence = t.essence;
}
part_text (parts.Label new) body e t = record {
  codec = t.codec;
  container = t.container;
  label = e;
  description = t.description;
  tags = t.tags;
  members =
      t.members;
  essence = t.essence;
}
part_text (parts.Description new) body e t = record {
  codec = t.codec;
  container = t.container;
  label = t.label;
  description = e;
  tags = t.tags;
  members =
      t.members;
  essence = t.essence;
}
part_text (parts.ReadOnly new) body e t = record {
  codec = t.codec;
  container = t.container;
  label = t.label;
  description = t.description;
  tags = t.tags;
  members = t.members;
  essence = t.essence;
}
part_text (parts.Collection new) body e t = record {
  codec = t.codec;
  container = t.container;
  label = t.label;
  description = t.description;
  tags = t.tags;
  members = e;
  essence = t.essence;
}
part_text (parts.MaxBitRate new) body e t = record {
  codec = t.codec;
  container = t.container;
  label = t.label;
  description = t.description;
  tags = t.tags;
  members = t.members;
  essence = t.essence;
}
part_text (parts.AvgBitRate new) body e t = record {
  codec = t.codec;
  container = t.container;
  label = t.label;
  description = t.description;
  tags = t.tags;
  members = t.members;
  essence = t.essence;
}

set_text : (part : Part) (moment : ℕ) (row : FlowRow) → is_part_good part ≡ true → is_moment moment ≡ true → is_flow_text row ≡ true
    → is_flow_text (set_row part moment row) ≡ true
set_text part moment row good at e =
    let t = RowTexts-from row e in
    RowTexts-test (set_row part moment row) (record {
      body = BodyTexts-test (body_with part row.body) (part_text part row.body good (BodyTexts-from row.body t.body));
      created = t.created;
      updated = at;
      segments = t.segments;
    })

set_by : (library : Library) (id : ℕ) (part : Part) (moment : ℕ) (o : Option FlowRow) → Good library → is_moment moment ≡ true → is_part_good part ≡ true
    → flow_of id library.catalog.flows ≡ o
    → first_refusal (set_refusals o library.catalog.flows id part) ≡ None → Good (with_catalog (after_set id part moment library.catalog) library)
set_by library id part moment None good at text is none = absurd (cc)
set_by library id part moment (Some old) good at text is none =
    let first = none_first (when (old.body.read_only && not (sets_mark part)) refusals.ReadOnly)
    (flow_part_unset old.body part ∷ part_refusals library.catalog.flows id part) none in
    let second = none_first (flow_part_unset old.body part) (part_refusals library.catalog.flows id part) first.1 in
    flow_change_keeps_good library (after_set id part moment library.catalog) (set_row part moment old)
    (changed_flow library id old (set_row part moment) good (record {
      flow = is;
      same_id = λ r. with_id part r.body;
      same_source = λ r. with_source_id part r.body;
      same_format = λ r. with_format part r.body;
      entries_good = part_entries library.catalog.flows id part old.body second.1 (old_entries library good id old is);
      text = set_text part moment old text at (old_text library good id old is);
    })) good

pub set_keeps_catalog : (library : Library) (id : ℕ) (part : Part) (moment : ℕ) → Good library → is_moment moment ≡ true → is_part_good part ≡ true
    → set_refusal library.catalog id part ≡ None
    → Good (with_catalog (after_set id part moment library.catalog) library)
set_keeps_catalog library id part moment good at text none = set_by library id part moment (flow_of id library.catalog.flows) good at text refl none

-- ---- a part of a source that is set

kept_id : (part : Part) (moment : ℕ) (row : SourceRow) → (set_source_row part moment row).id ≡ row.id
kept_id (parts.Tag name new) moment row = refl
kept_id (parts.Label new) moment row = refl
kept_id (parts.Description new) moment row = refl
kept_id (parts.ReadOnly new) moment row = refl
kept_id (parts.Collection new) moment row = refl
kept_id (parts.MaxBitRate new) moment row = refl
kept_id (parts.AvgBitRate new) moment row = refl

kept_format : (part : Part) (moment : ℕ) (row : SourceRow) → (set_source_row part moment row).format ≡ row.format
kept_format (parts.Tag name new) moment row = refl
kept_format (parts.Label new) moment row = refl
kept_format (parts.Description new) moment row = refl
kept_format (parts.ReadOnly new) moment row = refl
kept_format (parts.Collection new) moment row = refl
kept_format (parts.MaxBitRate new) moment row = refl
kept_format (parts.AvgBitRate new) moment row = refl

-- the texts and moments of a source, as facts
pub record SourceTexts (row : SourceRow) : Type 0 where
  pub label : if_there is_utf8 row.label ≡ true
  pub description : if_there is_utf8 row.description ≡ true
  pub tags : list_all is_tag_text row.tags ≡ true
  pub created : is_moment row.created ≡ true
  pub updated : is_moment row.updated ≡ true

pub SourceTexts-from : (row : SourceRow) → is_source_text row ≡ true → SourceTexts row
SourceTexts-from row e =
    let a = and_parts _ (is_moment row.updated) e in
    let b = and_parts _ (is_moment row.created) a.0 in
    let c = and_parts _ (list_all is_tag_text row.tags) b.0 in
    let d = and_parts (if_there is_utf8 row.label) (if_there is_utf8 row.description) c.0 in
    record { label = d.0; description = d.1; tags = c.1; created = b.1; updated = a.1 }

SourceTexts-test : (row : SourceRow) → SourceTexts row → is_source_text row ≡ true
SourceTexts-test row t = and_from _ _ (and_from _ _ (and_from _ _ (and_from _ _ t.label t.description) t.tags) t.created) t.updated

source_text : (part : Part) (moment : ℕ) (row : SourceRow) → is_part_good part ≡ true → is_moment moment ≡ true → SourceTexts row
    → SourceTexts (set_source_row part moment row)
source_text (parts.Tag name new) moment row e at t = record
    { label = t.label; description = t.description; tags = tags_text name new row.tags e t.tags; created = t.created; updated = at }
source_text (parts.Label new) moment row e at t = record { label = e; description = t.description; tags = t.tags; created = t.created; updated = at }
source_text (parts.Description new) moment row e at t = record { label = t.label; description = e; tags = t.tags; created = t.created; updated = at }
source_text (parts.ReadOnly new) moment row e at t = record { label = t.label; description = t.description; tags = t.tags; created = t.created; updated = at }
source_text (parts.Collection new) moment row e at t = record { label = t.label; description = t.description; tags = t.tags; created = t.created; updated = at }
source_text (parts.MaxBitRate new) moment row e at t = record { label = t.label; description = t.description; tags = t.tags; created = t.created; updated = at }
source_text (parts.AvgBitRate new) moment row e at t = record { label = t.label; description = t.description; tags = t.tags; created = t.created; updated = at }

-- the source of an id, changed
changed_source : ℕ → Part → ℕ → SourceRow → SourceRow
changed_source id part moment row = cond (row.id == id) (set_source_row part moment row) row

source_id : (id : ℕ) (part : Part) (moment : ℕ) (row : SourceRow) → (changed_source id part moment row).id ≡ row.id
unfolding changed_source
source_id id part moment row = cond_both (row.id == id) (set_source_row part moment row) row (λ (r : SourceRow). r.id ≡ row.id) (λ e. kept_id part moment row)
    (λ e. refl)

source_format : (id : ℕ) (part : Part) (moment : ℕ) (row : SourceRow) → (changed_source id part moment row).format ≡ row.format
unfolding changed_source
source_format id part moment row = cond_both (row.id == id) (set_source_row part moment row) row (λ (r : SourceRow). r.format ≡ row.format)
    (λ e. kept_format part moment row) (λ e. refl)

fits_changed : (id : ℕ) (part : Part) (moment : ℕ) (o : Option SourceRow) (row : FlowRow) → fits_kept o row ≡ true
    → fits_kept (option_map (changed_source id part moment) o) row ≡ true
fits_changed id part moment None row e = e
fits_changed id part moment (Some source) row e = ap (λ f. fits_format f row.body.format) (source_format id part moment source) ∙ e

pub set_source_keeps_catalog : (library : Library) (id : ℕ) (part : Part) (moment : ℕ) → Good library → is_moment moment ≡ true → is_part_good part ≡ true
    → Good (with_catalog (after_set_source id part moment library.catalog) library)
unfolding changed_source
set_source_keeps_catalog library id part moment good at text =
    let names = Names-from library good.names in
    let texts = Texts-from library good.texts in
    let order = and_parts (rises source_before library.catalog.sources) (rises flow_before library.catalog.flows) names.catalog in
    let change : SourceRow → SourceRow = changed_source id part moment in
    let five = and_parts (list_all (λ row. fits_kept (source_of row.body.source library.catalog.sources) row) library.catalog.flows)
    (list_all (has_flow library.catalog.flows) library.catalog.sources) good.sources in
    record {
      segments = good.segments;
      references = good.references;
      extents = good.extents;
      names = Names-test (with_catalog (after_set_source id part moment library.catalog) library) (record {
        catalog = and_from _ _ (rises-mapped _ _ (λ a b. nat_lt a.id b.id) change library.catalog.sources
            (λ x y here there t u. ap₂ nat_lt (source_id id part moment x) (source_id id part moment y) ∙ t) order.0 order.0) order.1;
        objects = names.objects;
        urls = names.urls;
        objects_rise = names.objects_rise;
        segments_rise = names.segments_rise;
        requests_rise = names.requests_rise;
        hooks_rise = names.hooks_rise;
        events_rise = names.events_rise;
        serials = names.serials;
        least = names.least;
        most = names.most;
      });
      sources = and_from _ _
          (list_all-from_In (λ row. fits_kept (source_of row.body.source (map change library.catalog.sources)) row) library.catalog.flows (λ row here.
          ap (λ o. fits_kept o row) (find-map (λ s. s.id == row.body.source) change library.catalog.sources
          (λ s. ap (λ i. i == row.body.source) (source_id id part moment s)))
          ∙ fits_changed id part moment (source_of row.body.source library.catalog.sources) row
          (list_all-In (λ r. fits_kept (source_of r.body.source library.catalog.sources) r) library.catalog.flows five.0 row here)))
          (list_all-mapped (has_flow library.catalog.flows) change library.catalog.sources (λ s here.
          ap (λ i. list_any (λ (row : FlowRow). row.body.source == i) library.catalog.flows) (source_id id part moment s)
          ∙ list_all-In (has_flow library.catalog.flows) library.catalog.sources five.1 s here));
      collections = good.collections;
      requests = good.requests;
      outbox = good.outbox;
      texts = Texts-test (with_catalog (after_set_source id part moment library.catalog) library) (record {
        sources = list_all-mapped is_source_text change library.catalog.sources (λ s here.
            let old = list_all-In is_source_text library.catalog.sources texts.sources s here in
            cond_both (s.id == id) (set_source_row part moment s) s (λ r. is_source_text r ≡ true)
            (λ e. SourceTexts-test (set_source_row part moment s) (source_text part moment s text at (SourceTexts-from s old))) (λ e. old));
        flows = texts.flows;
        objects = texts.objects;
        requests = texts.requests;
        hooks = texts.hooks;
        events = texts.events;
      });
    }
