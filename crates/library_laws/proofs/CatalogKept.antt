-- Each change of the catalog but the going of a flow keeps a library good.
use Rattle.std.proofs.Common.{◌≡◌, ◌⊎◌, inl, inr, ℕ, Bool, true, false, not, ◌||◌, cond, List, [], ◌∷◌, filter, find, Option, Some, None, refl, sym, ap, subst, ◌∙◌}
use Rattle.std.specs.Prelude.{◌==◌}
use Rattle.std.specs.Str.{is_utf8}
use Rattle.std.specs.List.{list_all}
use Rattle.std.proofs.lemmas.Bool.{and_parts, and_from, or_left, lt-ltb, cases_order, eqb-true, eq-eqb, not-false, false≢true}
use Rattle.media_rows.specs.declared.flow.FlowBody.{FlowBody}
use Rattle.media_rows.specs.declared.flow.FlowRow.{FlowRow}
use Rattle.media_rows.specs.declared.flow.Member.{Member}
use Rattle.media_rows.specs.declared.refusal.Refusal.{Refusal}
use Rattle.media_rows.specs.declared.refusal.Refusal.TheVariants as refusals
use Rattle.media_rows.specs.declared.source.SourceRow.{SourceRow}
use Rattle.media_rows.specs.Catalog.{Catalog, source_of, flow_of, source_before, flow_before, has_flow, same_format, fits_format, fits_source, keeps_flow, collection_refusals, missing_refusal, put_refusals, put_refusal, put_row, new_source, sources_after_put, after_put}
use Rattle.media_rows.specs.Collections.{member_ids, is_kept, first_missing, collects_itself}
use Rattle.media_rows.specs.Formats.{format_number}
use Rattle.media_rows.specs.Essence.{is_essence}
use Rattle.media_rows.specs.declared.flow.FormatKind.TheVariants.{Multi}
use Rattle.media_rows.specs.Good.{Good, fits_kept, is_body_text, is_flow_text, is_source_text, is_tag_text, is_member_text, if_there}
use Rattle.media_rows.specs.Library.{Library}
use Rattle.media_rows.specs.Lists.{rises, placed}
use Rattle.media_rows.specs.Moments.{is_moment}
use Rattle.media_rows.specs.Refusals.{when, first_refusal}
use Rattle.library_laws.proofs.ListLemmas.{In, In-front, In-back, filter-In, find-In, find-some, list_all-In, list_all-from_In}
use Rattle.library_laws.proofs.KeptLemmas.{placed-In, rises-placed, same_by_key}
use Rattle.library_laws.proofs.FlowsKept.{placed-Replaces, FlowChange, with_catalog, flow_change_keeps_good}
use Rattle.library_laws.proofs.OutboxKept.{Names-from, Texts-from}

-- ---- what a refusal that doesn't stand tells

pub none_first : (a : Option Refusal) (later : List (Option Refusal)) → first_refusal (a ∷ later) ≡ None → (a ≡ None) × (first_refusal later ≡ None)
none_first None later e = (refl, e)
none_first (Some why) later e = absurd (cc)

pub not_when : (test : Bool) (why : Refusal) → when test why ≡ None → test ≡ false
not_when true why e = absurd (cc)
not_when false why e = refl

none_missing : (o : Option ℕ) → missing_refusal o ≡ None → o ≡ None
none_missing None e = refl
none_missing (Some id) e = absurd (cc)

none_step : {X : Type 0} (p : X → Bool) (y : X) (ys : List X) (x : X) (b : Bool) → p y ≡ b → cond b (Some y) (find p ys) ≡ None → In x (y ∷ ys)
    → (find p ys ≡ None → (z : X) → In z ys → p z ≡ false) → p x ≡ false
none_step p y ys x true e none here later = absurd (cc)
none_step p y ys x false e none (inl same) later = ap p same ∙ e
none_step p y ys x false e none (inr more) later = later none x more

find-none : {X : Type 0} (p : X → Bool) (xs : List X) → find p xs ≡ None → (x : X) → In x xs → p x ≡ false
find-none p [] e x here = absurd here
find-none p (y ∷ ys) e x here = none_step p y ys x (p y) refl e here (find-none p ys)

there_or : (a b : Bool) (to id : ℕ) → (to == id) ≡ a → (a || b) ≡ true → (to ≡ id) ⊎ (b ≡ true)
there_or true b to id e k = inl (eqb-true to id e)
there_or false b to id e k = inr k

-- entries of a collection that is not refused
pub record Entries (flows : List FlowRow) (id : ℕ) (members : List Member) : Type 0 where
  pub kept : (to : ℕ) → In to (member_ids members) → (to ≡ id) ⊎ (is_kept flows to ≡ true)
  pub reaches : collects_itself flows id members ≡ false

pub entries : (flows : List FlowRow) (id : ℕ) (members : List Member) → first_refusal (collection_refusals flows id members) ≡ None → Entries flows id members
entries flows id members e =
    let parts = none_first (missing_refusal (first_missing flows id members)) (when (collects_itself flows id members) refusals.CollectsItself ∷ []) e in
    let own = none_first (when (collects_itself flows id members) refusals.CollectsItself) [] parts.1 in
    record {
      kept = λ to here. there_or (to == id) (is_kept flows to) to id refl
          (not-false ((to == id) || is_kept flows to) (find-none (λ x. not ((x == id) || is_kept flows x)) (member_ids members)
          (none_missing (first_missing flows id members) parts.0) to here));
      reaches = not_when (collects_itself flows id members) refusals.CollectsItself own.0;
    }

-- ---- a flow that is put

found_or_not : {X : Type 0} (o : Option X) → (o ≡ None) ⊎ ((x : X) × (o ≡ Some x))
found_or_not None = inl refl
found_or_not (Some x) = inr (x, refl)

-- the sources after a put
record Sources (sources sources₂ : List SourceRow) (id : ℕ) : Type 0 where
  rise : rises source_before sources₂ ≡ true
  old : (s : SourceRow) → In s sources → In s sources₂
  new : (s : SourceRow) → In s sources₂ → In s sources ⊎ (s.id ≡ id)
  texts : list_all is_source_text sources₂ ≡ true

new_text : (body : FlowBody) (moment : ℕ) → is_moment moment ≡ true → is_source_text (new_source body moment) ≡ true
new_text body moment at = and_from _ _ at at

same_sources : (sources : List SourceRow) (id : ℕ) → rises source_before sources ≡ true → list_all is_source_text sources ≡ true → Sources sources sources id
same_sources sources id rise texts = record { rise = rise; old = λ s here. here; new = λ s here. inl here; texts = texts }

one_more_source : (sources : List SourceRow) (body : FlowBody) (moment : ℕ) → is_moment moment ≡ true → rises source_before sources ≡ true
    → list_all is_source_text sources ≡ true
    → source_of body.source sources ≡ None → Sources sources (placed source_before (new_source body moment) sources) body.source
one_more_source sources body moment at rise texts none =
    let fresh : SourceRow = new_source body moment in
    record {
      rise = rises-placed (λ s. s.id) fresh sources rise;
      old = λ s here. elim (cases_order s.id body.source) [
        | inl same ↦ absurd (false≢true (sym (find-none (λ r. r.id == body.source) sources none s here) ∙ eq-eqb s.id body.source same))
        | inr (inl below) ↦ In-front (filter (λ r. source_before r fresh) sources) (fresh ∷ filter (λ r. source_before fresh r) sources) s
            (filter-In (λ r. source_before r fresh) sources s here (lt-ltb s.id body.source below))
        | inr (inr above) ↦ In-back (filter (λ r. source_before r fresh) sources) (fresh ∷ filter (λ r. source_before fresh r) sources) s
            (inr (filter-In (λ r. source_before fresh r) sources s here (lt-ltb body.source s.id above)))
      ];
      new = λ s here. elim (placed-In source_before fresh sources s here) [ inl same ↦ inr (ap (λ (r : SourceRow). r.id) same) | inr old ↦ inl old.0 ];
      texts = list_all-from_In is_source_text (placed source_before fresh sources) (λ s here. elim (placed-In source_before fresh sources s here) [
        | inl same ↦ ap is_source_text same ∙ new_text body moment at
        | inr old ↦ list_all-In is_source_text sources texts s old.0
      ]);
    }

-- the source of a new row is found, where it is kept or just made
fits_placed : (sources : List SourceRow) (body : FlowBody) (moment : ℕ) (row : FlowRow) → row.body ≡ body → rises source_before sources ≡ true
    → fits_kept (source_of body.source (placed source_before (new_source body moment) sources)) row ≡ true
fits_placed sources body moment row same rise =
    let fresh : SourceRow = new_source body moment in
    let all : List SourceRow = placed source_before fresh sources in
    let among : In fresh all = In-back (filter (λ r. source_before r fresh) sources) (fresh ∷ filter (λ r. source_before fresh r) sources) fresh (inl refl) in
    let found = find-some (λ r. r.id == body.source) all fresh among (eq-eqb body.source body.source refl) in
    let is = same_by_key (λ (r : SourceRow). r.id) all (rises-placed (λ s. s.id) fresh sources rise) found.0 fresh found.2 among
    (eqb-true found.0.id body.source found.3) in
    ap (λ o. fits_kept o row) (found.1 ∙ ap Some is) ∙ or_left (same_format row.body.format body.format) _
    (eq-eqb (format_number row.body.format) (format_number body.format) (ap (λ (b : FlowBody). format_number b.format) same))

-- the texts of a body, as facts
pub record BodyTexts (body : FlowBody) : Type 0 where
  pub codec : if_there is_utf8 body.codec ≡ true
  pub container : if_there is_utf8 body.container ≡ true
  pub label : if_there is_utf8 body.label ≡ true
  pub description : if_there is_utf8 body.description ≡ true
  pub tags : list_all is_tag_text body.tags ≡ true
  pub members : list_all is_member_text body.members ≡ true
  pub essence : if_there is_essence body.essence ≡ true

pub BodyTexts-from : (body : FlowBody) → is_body_text body ≡ true → BodyTexts body
BodyTexts-from body e =
    let a = and_parts _ (if_there is_essence body.essence) e in
    let b = and_parts _ (list_all is_member_text body.members) a.0 in
    let c = and_parts _ (list_all is_tag_text body.tags) b.0 in
    let d = and_parts _ (if_there is_utf8 body.description) c.0 in
    let f = and_parts _ (if_there is_utf8 body.label) d.0 in
    let g = and_parts (if_there is_utf8 body.codec) (if_there is_utf8 body.container) f.0 in
    record { codec = g.0; container = g.1; label = f.1; description = d.1; tags = c.1; members = b.1; essence = a.1 }

pub BodyTexts-test : (body : FlowBody) → BodyTexts body → is_body_text body ≡ true
BodyTexts-test body is =
    and_from _ _ (and_from _ _ (and_from _ _ (and_from _ _ (and_from _ _ (and_from _ _ is.codec is.container) is.label) is.description) is.tags) is.members)
    is.essence

-- the texts and moments of a row, as facts
pub record RowTexts (row : FlowRow) : Type 0 where
  pub body : is_body_text row.body ≡ true
  pub created : is_moment row.created ≡ true
  pub updated : is_moment row.metadata_updated ≡ true
  pub segments : if_there is_moment row.segments_updated ≡ true

pub RowTexts-from : (row : FlowRow) → is_flow_text row ≡ true → RowTexts row
RowTexts-from row e =
    let a = and_parts _ (if_there is_moment row.segments_updated) e in
    let b = and_parts _ (is_moment row.metadata_updated) a.0 in
    let c = and_parts (is_body_text row.body) (is_moment row.created) b.0 in
    record { body = c.0; created = c.1; updated = b.1; segments = a.1 }

pub RowTexts-test : (row : FlowRow) → RowTexts row → is_flow_text row ≡ true
RowTexts-test row is = and_from _ _ (and_from _ _ (and_from _ _ is.body is.created) is.updated) is.segments

-- ---- the change of a put

-- a format that is the same as another fits where that one does
same_fits : (source : SourceRow) (row old : FlowRow) → same_format row.body.format old.body.format ≡ true → fits_kept (Some source) old ≡ true
    → fits_kept (Some source) row ≡ true
same_fits source row old same e =
    ap (λ n. (n == format_number source.format) || (n == format_number Multi)) (eqb-true (format_number row.body.format) (format_number old.body.format) same)
    ∙ e

pub old_fits : (library : Library) → Good library → (old : FlowRow) → In old library.catalog.flows
    → fits_kept (source_of old.body.source library.catalog.sources) old ≡ true
old_fits library good old here =
    list_all-In (λ row. fits_kept (source_of row.body.source library.catalog.sources) row) library.catalog.flows
    (and_parts (list_all (λ row. fits_kept (source_of row.body.source library.catalog.sources) row) library.catalog.flows)
    (list_all (has_flow library.catalog.flows) library.catalog.sources) good.sources).0 old here

put_catalog : Option FlowRow → Option SourceRow → FlowBody → ℕ → Catalog → Catalog
put_catalog o s body moment catalog = record {
  sources = sources_after_put s catalog.sources body moment;
  flows = placed flow_before (put_row o body moment) catalog.flows;
}

put_text : (o : Option FlowRow) (body : FlowBody) (moment : ℕ) → is_moment moment ≡ true → is_body_text body ≡ true
    → ((old : FlowRow) → o ≡ Some old → is_flow_text old ≡ true) → is_flow_text (put_row o body moment) ≡ true
put_text None body moment at text old = RowTexts-test (put_row None body moment) (record { body = text; created = at; updated = at; segments = refl })
put_text (Some row) body moment at text old =
    let t = RowTexts-from row (old row refl) in RowTexts-test (put_row (Some row) body moment)
    (record { body = text; created = t.created; updated = at; segments = t.segments })

pub put_body : (o : Option FlowRow) (body : FlowBody) (moment : ℕ) → (put_row o body moment).body ≡ body
put_body None body moment = refl
put_body (Some old) body moment = refl

-- what a put that is not refused tells
record Put (library : Library) (body : FlowBody) (o : Option FlowRow) (s : Option SourceRow) : Type 0 where
  flow : flow_of body.id library.catalog.flows ≡ o
  source : source_of body.source library.catalog.sources ≡ s
  entries_good : Entries library.catalog.flows body.id body.members
  fits : (src : SourceRow) → s ≡ Some src → fits_format src.format body.format ≡ true
  same_source : (r : FlowRow) → In r library.catalog.flows → r.body.id ≡ body.id → r.body.source ≡ body.source

put_change : (library : Library) (body : FlowBody) (moment : ℕ) (o : Option FlowRow) (s : Option SourceRow) → Good library → is_moment moment ≡ true
    → is_body_text body ≡ true
    → Put library body o s → Sources library.catalog.sources (sources_after_put s library.catalog.sources body moment) body.source
    → fits_kept (source_of body.source (sources_after_put s library.catalog.sources body moment)) (put_row o body moment) ≡ true
    → FlowChange library (put_catalog o s body moment library.catalog) (put_row o body moment)
unfolding put_catalog
put_change library body moment o s good at text put sources fits =
    let names = Names-from library good.names in
    let texts = Texts-from library good.texts in
    let order = and_parts (rises source_before library.catalog.sources) (rises flow_before library.catalog.flows) names.catalog in
    let new : FlowRow = put_row o body moment in
    let own : new.body ≡ body = put_body o body moment in
    record {
      replaces = placed-Replaces library.catalog.flows new;
      flows_rise = rises-placed (λ r. r.body.id) new library.catalog.flows order.1;
      sources_rise = sources.rise;
      old_sources = sources.old;
      new_sources = λ q here. elim (sources.new q here) [ inl old ↦ inl old | inr same ↦ inr (same ∙ sym (ap (λ (b : FlowBody). b.source) own)) ];
      fits = subst (λ (b : FlowBody). fits_kept (source_of b.source (sources_after_put s library.catalog.sources body moment)) new ≡ true) (sym own) fits;
      same_source = λ r here e. put.same_source r here (e ∙ ap (λ (b : FlowBody). b.id) own) ∙ sym (ap (λ (b : FlowBody). b.source) own);
      members = λ id entry. elim (put.entries_good.kept id (subst (λ (b : FlowBody). In id (member_ids b.members)) own entry))
          [ inl same ↦ inl (same ∙ sym (ap (λ (b : FlowBody). b.id) own)) | inr kept ↦ inr kept ];
      reaches = ap (λ (b : FlowBody). collects_itself library.catalog.flows b.id b.members) own ∙ put.entries_good.reaches;
      text = put_text o body moment at text (λ old e. list_all-In is_flow_text library.catalog.flows texts.flows old
          (find-In (λ r. r.body.id == body.id) library.catalog.flows old (put.flow ∙ e)).0);
      source_texts = sources.texts;
    }

-- a put that is not refused
put_told : (library : Library) (body : FlowBody) (o : Option FlowRow) (s : Option SourceRow) → Good library → flow_of body.id library.catalog.flows ≡ o
    → source_of body.source library.catalog.sources ≡ s
    → first_refusal (put_refusals o library.catalog body) ≡ None → Put library body o s
put_told library body None s good flow source none =
    let parts = none_first (when (not (fits_source (source_of body.source library.catalog.sources) body)) refusals.SourceFormat)
    (collection_refusals library.catalog.flows body.id body.members) none in
    record {
      flow = flow;
      source = source;
      entries_good = entries library.catalog.flows body.id body.members parts.1;
      fits = λ src e. ap (λ q. fits_source q body) (sym (source ∙ e))
          ∙ not-false (fits_source (source_of body.source library.catalog.sources) body) (not_when _ refusals.SourceFormat parts.0);
      same_source = λ r here e. absurd (false≢true (sym (find-none (λ q. q.body.id == body.id) library.catalog.flows flow r here)
          ∙ eq-eqb r.body.id body.id e));
    }
put_told library body (Some old) s good flow source none =
    let names = Names-from library good.names in
    let order = and_parts (rises source_before library.catalog.sources) (rises flow_before library.catalog.flows) names.catalog in
    let first = none_first (when old.body.read_only refusals.ReadOnly)
    (when (not (keeps_flow old.body body)) refusals.FlowChanged ∷ collection_refusals library.catalog.flows body.id body.members) none in
    let parts = none_first (when (not (keeps_flow old.body body)) refusals.FlowChanged) (collection_refusals library.catalog.flows body.id body.members) first.1
    in
    let keeps = and_parts (body.source == old.body.source) (same_format body.format old.body.format)
    (not-false (keeps_flow old.body body) (not_when _ refusals.FlowChanged parts.0)) in
    let at = find-In (λ r. r.body.id == body.id) library.catalog.flows old flow in
    let under : old.body.source ≡ body.source = sym (eqb-true body.source old.body.source keeps.0) in
    record {
      flow = flow;
      source = source;
      entries_good = entries library.catalog.flows body.id body.members parts.1;
      fits = λ src e. same_fits src (put_row None body 0) old keeps.1
          (ap (λ q. fits_kept q old) (sym (ap (λ i. source_of i library.catalog.sources) under ∙ source ∙ e)) ∙ old_fits library good old at.0);
      same_source = λ r here e. ap (λ (q : FlowRow). q.body.source)
          (same_by_key (λ q. q.body.id) library.catalog.flows order.1 r old here at.0 (e ∙ sym (eqb-true old.body.id body.id at.1))) ∙ under;
    }

put_by : (library : Library) (body : FlowBody) (moment : ℕ) (o : Option FlowRow) (s : Option SourceRow) → Good library → is_moment moment ≡ true
    → is_body_text body ≡ true
    → Put library body o s → FlowChange library (put_catalog o s body moment library.catalog) (put_row o body moment)
put_by library body moment o None good at text put =
    let names = Names-from library good.names in
    let texts = Texts-from library good.texts in
    let order = and_parts (rises source_before library.catalog.sources) (rises flow_before library.catalog.flows) names.catalog in
    put_change library body moment o None good at text put
    (one_more_source library.catalog.sources body moment at order.0 texts.sources put.source)
    (fits_placed library.catalog.sources body moment (put_row o body moment) (put_body o body moment) order.0)
put_by library body moment o (Some src) good at text put =
    let names = Names-from library good.names in
    let texts = Texts-from library good.texts in
    let order = and_parts (rises source_before library.catalog.sources) (rises flow_before library.catalog.flows) names.catalog in
    put_change library body moment o (Some src) good at text put
    (same_sources library.catalog.sources body.source order.0 texts.sources)
    (ap (λ q. fits_kept q (put_row o body moment)) put.source ∙ ap (λ (b : FlowBody). fits_format src.format b.format) (put_body o body moment)
    ∙ put.fits src refl)

pub put_keeps_catalog : (library : Library) (body : FlowBody) (moment : ℕ) → Good library → is_moment moment ≡ true → is_body_text body ≡ true
    → put_refusal library.catalog body ≡ None
    → Good (with_catalog (after_put body moment library.catalog) library)
unfolding put_catalog
put_keeps_catalog library body moment good at text none =
    flow_change_keeps_good library (after_put body moment library.catalog) (put_row (flow_of body.id library.catalog.flows) body moment)
    (put_by library body moment (flow_of body.id library.catalog.flows) (source_of body.source library.catalog.sources) good at text
    (put_told library body (flow_of body.id library.catalog.flows) (source_of body.source library.catalog.sources) good refl refl none)) good
