-- What is shown of a good library has its texts: rows and their parts, pages, and what a row names.
use Rattle.std.proofs.Common.{◌≡◌, ℕ, Bool, true, List, length, Option, Some, None, Result, refl, subst}
use Rattle.std.specs.Prelude.{codes, find, ◌==◌, ◌&&◌, bytes_eq}
use Rattle.std.specs.List.{list_all}
use Rattle.std.specs.Str.{is_utf8, chars}
use Rattle.std.proofs.Math.Utf8.{encode}
use Rattle.std.proofs.lemmas.Bool.{and_parts, cond_both, false≢true}
use Rattle.time_range.specs.declared.ranges.Span.{Span}
use Rattle.json_replies.specs.Texts.{has_refusal_texts, has_shown_texts, has_reply_texts}
use Rattle.media_rows.specs.declared.command.Page.{Page}
use Rattle.media_rows.specs.declared.flow.FlowBody.{FlowBody}
use Rattle.media_rows.specs.declared.flow.Member.{Member}
use Rattle.media_rows.specs.declared.flow.Tag.{Tag}
use Rattle.media_rows.specs.declared.object.ObjectRow.{ObjectRow}
use Rattle.media_rows.specs.declared.part.Part.{Part}
use Rattle.media_rows.specs.declared.part.Part.TheVariants as parts
use Rattle.media_rows.specs.declared.part.PartName.{PartName}
use Rattle.media_rows.specs.declared.part.PartName.TheVariants as names
use Rattle.media_rows.specs.declared.refusal.Refusal.{Refusal}
use Rattle.media_rows.specs.declared.reply.View.{View}
use Rattle.media_rows.specs.declared.segment.SegmentRow.{SegmentRow}
use Rattle.media_rows.specs.declared.source.SourceRow.{SourceRow}
use Rattle.media_rows.specs.Answer.{shown_reply}
use Rattle.media_rows.specs.Catalog.{tag_of}
use Rattle.media_rows.specs.Good.{if_there, is_tag_text, is_member_text, is_body_text, is_source_text, is_object_text}
use Rattle.media_rows.specs.Ids.{is_object_id}
use Rattle.media_rows.specs.Objects.{object_of, is_stored_object, is_stored_row}
use Rattle.media_rows.specs.Segments.{first_point, overlapping, segments_of, starts_before, names_object}
use Rattle.media_rows.specs.Ranges.{overlaps}
use Rattle.media_rows.specs.Lists.{page_items}
use Rattle.media_rows.specs.Views.{part_or, text_part, rate_part, tag_part, collection_part, flow_part, source_part, kept_or}
use Rattle.library_laws.proofs.KeptLemmas.{same_text}
use Rattle.library_laws.proofs.ListLemmas.{In-filter, In-in_order, find-In, list_all-In, list_all-from_In}
use Rattle.reply_laws.proofs.Lists.{In-page}
use Rattle.library_laws.proofs.SettingsKept.{SourceTexts-from}
use Rattle.library_laws.proofs.CatalogKept.{BodyTexts-from}

-- what is shown, or the refusal to show it, has its texts
pub record Fine (shown : Result View Refusal) : Type 0 where
  pub is : has_reply_texts (shown_reply shown) ≡ true

-- what is found is shown so, and what isn't is refused
pub kept : {X : Type 0} (refusal : Refusal) (show : X → Result View Refusal) (found : Option X) → has_refusal_texts refusal ≡ true
    → ((x : X) → found ≡ Some x → Fine (show x)) → Fine (kept_or refusal show found)
kept refusal show None e h = record { is = e }
kept refusal show (Some x) e h = h x refl

-- what is true of each row is true of the one that is found
pub found : {X : Type 0} (p test : X → Bool) (rows : List X) (x : X) → list_all p rows ≡ true → find test rows ≡ Some x → p x ≡ true
found p test rows x e at = list_all-In p rows e x (find-In test rows x at).0

-- ---- parts

one_part : (part : Option Part) (name : List ℕ) → if_there has_shown_texts part ≡ true → is_utf8 name ≡ true → Fine (part_or part name)
one_part None name e named = record { is = named }
one_part (Some part) name e named = record { is = e }

text : (make : Option (List ℕ) → Part) (value : Option (List ℕ)) → ((t : List ℕ) → is_utf8 t ≡ true → has_shown_texts (make (Some t)) ≡ true)
    → if_there is_utf8 value ≡ true → if_there has_shown_texts (text_part make value) ≡ true
text make None h e = refl
text make (Some t) h e = h t e

rate : (make : Option ℕ → Part) (value : Option ℕ) → ((n : ℕ) → has_shown_texts (make (Some n)) ≡ true) → if_there has_shown_texts (rate_part make value) ≡ true
rate make None h = refl
rate make (Some n) h = h n

tag_by : (name : List ℕ) (tag : Option Tag) → ((t : Tag) → tag ≡ Some t → is_tag_text t ≡ true) → if_there has_shown_texts (tag_part name tag) ≡ true
tag_by name None h = refl
tag_by name (Some t) h = h t refl

tag : (name : List ℕ) (tags : List Tag) → list_all is_tag_text tags ≡ true → if_there has_shown_texts (tag_part name (tag_of name tags)) ≡ true
tag name tags e = tag_by name (tag_of name tags) (λ t at. found is_tag_text (λ tag. bytes_eq tag.name name) tags t e at)

members : (rows : List Member) → list_all is_member_text rows ≡ true → if_there has_shown_texts (collection_part rows) ≡ true
members rows e = cond_both (length rows == 0) None (Some (parts.Collection rows)) (λ o. if_there has_shown_texts o ≡ true) (λ _. refl) (λ _. e)

-- the texts of a body, one by one
pub record BodyTexts (body : FlowBody) : Type 0 where
  pub label : if_there is_utf8 body.label ≡ true
  pub description : if_there is_utf8 body.description ≡ true
  pub tags : list_all is_tag_text body.tags ≡ true
  pub members : list_all is_member_text body.members ≡ true

pub of_flow : (body : FlowBody) (name : PartName) → is_body_text body ≡ true → Fine (flow_part body name)
unfolding is_utf8 chars encode
of_flow body (names.Tag name) e = one_part _ (codes "tags") (tag name body.tags (BodyTexts-from body e).tags) refl
of_flow body names.Tags e = record { is = (BodyTexts-from body e).tags }
of_flow body names.Label e = one_part _ (codes "label") (text parts.Label body.label (λ t h. h) (BodyTexts-from body e).label) refl
of_flow body names.Description e =
    one_part _ (codes "description") (text parts.Description body.description (λ t h. h) (BodyTexts-from body e).description) refl
of_flow body names.ReadOnly e = record { is = refl }
of_flow body names.Collection e = one_part _ (codes "flow_collection") (members body.members (BodyTexts-from body e).members) refl
of_flow body names.MaxBitRate e = one_part _ (codes "max_bit_rate") (rate parts.MaxBitRate body.max_bit_rate (λ n. refl)) refl
of_flow body names.AvgBitRate e = one_part _ (codes "avg_bit_rate") (rate parts.AvgBitRate body.avg_bit_rate (λ n. refl)) refl

-- the texts of a source, one by one
pub record SourceTexts (row : SourceRow) : Type 0 where
  pub label : if_there is_utf8 row.label ≡ true
  pub description : if_there is_utf8 row.description ≡ true
  pub tags : list_all is_tag_text row.tags ≡ true

pub of_source : (row : SourceRow) (name : PartName) → is_source_text row ≡ true → Fine (source_part row name)
unfolding is_utf8 chars encode
of_source row (names.Tag name) e = one_part _ (codes "tags") (tag name row.tags (SourceTexts-from row e).tags) refl
of_source row names.Tags e = record { is = (SourceTexts-from row e).tags }
of_source row names.Label e = one_part _ (codes "label") (text parts.Label row.label (λ t h. h) (SourceTexts-from row e).label) refl
of_source row names.Description e =
    one_part _ (codes "description") (text parts.Description row.description (λ t h. h) (SourceTexts-from row e).description) refl
of_source row other e = record { is = refl }

-- ---- objects that segments name

id_by : (id : List ℕ) (row : Option ObjectRow) → ((found : ObjectRow) → row ≡ Some found → is_object_id id ≡ true) → is_stored_row row ≡ true
    → is_object_id id ≡ true
id_by id None h e = absurd (false≢true e)
id_by id (Some row) h e = h row refl

-- the id by which an object is found is the object's own
named : (objects : List ObjectRow) (id : List ℕ) → list_all is_object_text objects ≡ true → is_stored_object objects id ≡ true → is_object_id id ≡ true
named objects id texts stored = id_by id (object_of id objects)
    (λ row at. let same = find-In (λ r. bytes_eq r.id id) objects row at in
    subst (λ t. is_object_id t ≡ true) (same_text row.id id same.1)
    (and_parts (is_object_id row.id) _ (list_all-In is_object_text objects texts row same.0)).0) stored

pub of_segments : (objects : List ObjectRow) (segments : List SegmentRow) (flow : ℕ) (range : Option Span) (object : Option (List ℕ)) (page : Page)
    → list_all is_object_text objects ≡ true → list_all (λ row. is_stored_object objects row.segment.object) segments ≡ true
    → list_all (λ row. is_object_id row.segment.object) (page_items first_point page (overlapping segments flow range object)) ≡ true
of_segments objects segments flow range object page texts stored = list_all-from_In (λ row. is_object_id row.segment.object) _ (λ row here.
    let met = In-filter (λ r. overlaps r.segment.range range && names_object object r) (segments_of flow segments) row
    (In-in_order starts_before _ row (In-page first_point page _ row here)) in
    let among = In-filter (λ r. r.flow == flow) segments row met.0 in
    named objects row.segment.object texts (list_all-In (λ r. is_stored_object objects r.segment.object) segments stored row among.0))
