-- The spellings of the values that stand in changes and rows are lawful.
use Rattle.std.proofs.Common.{◌≡◌, Bool, false, Some, refl, sym, ap, arith, inl, inr}
use Rattle.std.specs.Prelude.{bytes_eq}
use Rattle.media_rows.specs.Formats.{format_number, event_number, all_formats, all_events}
use Rattle.media_rows.specs.declared.event.EventKind.{EventKind}
use Rattle.media_rows.specs.declared.event.EventKind.TheVariants as events
use Rattle.media_rows.specs.declared.flow.FormatKind.{FormatKind}
use Rattle.media_rows.specs.declared.flow.FormatKind.TheVariants as formats
use Rattle.media_rows.specs.declared.segment.PostList.{PostList}
use Rattle.media_rows.specs.declared.part.Part.{Part}
use Rattle.media_rows.specs.declared.part.Part.TheVariants as parts
use Rattle.field_codec.specs.Spelling.{Spelling, no_kind, optional}
use Rattle.field_codec.specs.Leaves.{u64_spelling, u128_spelling, bool_spelling, ts_spelling, text_spelling, range_spelling, listed, with_number}
use Rattle.field_codec.specs.Laws.{Lawful}
use Rattle.field_codec.proofs.Combined.{NarrowLaws, pair_lawful, followed_lawful, via_lawful, narrowed_lawful, where_is_lawful}
use Rattle.field_codec.proofs.KindLaws.{Kinds, no_kinds, one_kind, optional_lawful}
use Rattle.field_codec.proofs.LeafLaws.{bool_lawful, text_lawful, listed_lawful, one_of_lawful}
use Rattle.field_codec.proofs.Numbers.{u64_lawful, u128_lawful}
use Rattle.field_codec.proofs.RangeLaws.{ts_lawful, range_lawful}
use Rattle.change_codec.specs.Values.{kind_spelling, event_spelling, has_its_values, tag_spelling, is_rising, tags_spelling, member_spelling, flow_head_spelling, flow_texts_spelling, flow_rest_spelling, flow_spelling, segment_spelling, posts_spelling, digest_spelling, named_tag, tag_part_spelling, PartValues, part_of, part_values, shared_parts, flow_part_spelling, source_part_spelling, hook_spelling}

-- ---- formats and events

each_format : (x : FormatKind) → with_number format_number all_formats (format_number x) ≡ Some x
each_format formats.Video = refl
each_format formats.Audio = refl
each_format formats.DataEssence = refl
each_format formats.Multi = refl
each_format formats.Image = refl

pub kind_lawful : Lawful kind_spelling
unfolding kind_spelling
kind_lawful = one_of_lawful format_number all_formats each_format

each_event : (x : EventKind) → with_number event_number all_events (event_number x) ≡ Some x
each_event events.FlowCreated = refl
each_event events.FlowUpdated = refl
each_event events.FlowDeleted = refl
each_event events.SegmentsAdded = refl
each_event events.SegmentsDeleted = refl
each_event events.SourceCreated = refl
each_event events.SourceUpdated = refl
each_event events.SourceDeleted = refl

pub event_lawful : Lawful event_spelling
unfolding event_spelling
event_lawful = one_of_lawful event_number all_events each_event

-- ---- options and lists of fields

pub opt_text : Lawful (optional text_spelling)
opt_text = optional_lawful text_spelling text_lawful

pub opt_u64 : Lawful (optional u64_spelling)
opt_u64 = optional_lawful u64_spelling u64_lawful

ids : Lawful (listed u128_spelling)
ids = listed_lawful u128_spelling u128_lawful

-- ---- tags

pub tag_lawful : Lawful tag_spelling
unfolding tag_spelling
tag_lawful =
    where_is_lawful has_its_values _
    (via_lawful _ _ _ (λ x. refl) (λ x. refl)
    (pair_lawful text_spelling _ text_lawful (pair_lawful bool_spelling _ bool_lawful (listed_lawful text_spelling text_lawful))))

pub tags_lawful : Lawful tags_spelling
unfolding tags_spelling
tags_lawful = where_is_lawful is_rising (listed tag_spelling) (listed_lawful tag_spelling tag_lawful)

-- ---- members, flows and segments

pub member_lawful : Lawful member_spelling
unfolding member_spelling
member_lawful = via_lawful _ _ _ (λ x. refl) (λ x. refl) (pair_lawful u128_spelling _ u128_lawful opt_text)

flow_head_lawful : Lawful flow_head_spelling
unfolding flow_head_spelling
flow_head_lawful = pair_lawful u128_spelling _ u128_lawful
    (pair_lawful u128_spelling _ u128_lawful (pair_lawful kind_spelling bool_spelling kind_lawful bool_lawful))

flow_texts_lawful : Lawful flow_texts_spelling
unfolding flow_texts_spelling
flow_texts_lawful = pair_lawful (optional text_spelling) _ opt_text
    (pair_lawful (optional text_spelling) _ opt_text (pair_lawful (optional text_spelling) _ opt_text opt_text))

flow_rest_lawful : Lawful flow_rest_spelling
unfolding flow_rest_spelling
flow_rest_lawful =
    pair_lawful (optional u64_spelling) _ opt_u64 (pair_lawful (optional u64_spelling) _ opt_u64
    (pair_lawful tags_spelling _ tags_lawful (pair_lawful (listed member_spelling) _ (listed_lawful member_spelling member_lawful) opt_text)))

pub flow_lawful : Lawful flow_spelling
unfolding flow_spelling
flow_lawful =
    via_lawful _ _ _ (λ x. refl) (λ x. refl)
    (pair_lawful flow_head_spelling _ flow_head_lawful (pair_lawful flow_texts_spelling flow_rest_spelling flow_texts_lawful flow_rest_lawful))

pub segment_lawful : Lawful segment_spelling
unfolding segment_spelling
segment_lawful =
    via_lawful _ _ _ (λ x. refl) (λ x. refl)
    (pair_lawful text_spelling _ text_lawful (pair_lawful range_spelling _ range_lawful (pair_lawful ts_spelling _ ts_lawful
    (pair_lawful (optional ts_spelling) _ (optional_lawful ts_spelling ts_lawful)
    (pair_lawful u64_spelling _ u64_lawful (pair_lawful (optional u64_spelling) _ opt_u64 opt_u64))))))

-- a list of segments is one post, which isn't single
posts_laws : NarrowLaws (λ segments. Some (record { single = false; segments = segments })) (λ (posts : PostList). posts.segments)
    (λ posts. posts.single ≡ false) (λ posts. posts.single ≡ false) (listed segment_spelling).meaning.fits
posts_laws = record {
  is = λ segments posts fits e.
      let same : record { single = false; segments = segments } ≡ posts = cc in
      (sym (ap (λ (p : PostList). p.segments) same), sym (ap (λ (p : PostList). p.single) same));
  again = λ posts fits listed. ap (λ (s : Bool). Some (record posts { single = s })) (sym listed);
  writable = λ posts fits listed. listed;
}

pub posts_lawful : Lawful posts_spelling
unfolding posts_spelling
posts_lawful = narrowed_lawful _ _ _ _ _ posts_laws (listed_lawful segment_spelling segment_lawful)

-- ---- digests

pub digest_lawful : Lawful digest_spelling
unfolding digest_spelling
digest_lawful = via_lawful _ _ _ (λ x. refl) (λ x. refl) (pair_lawful u128_spelling u128_spelling u128_lawful u128_lawful)

-- ---- parts

tag_part_lawful : Lawful tag_part_spelling
unfolding tag_part_spelling
tag_part_lawful =
    followed_lawful text_spelling (λ name. optional (named_tag name)) text_lawful
    (λ name. optional_lawful (named_tag name) (where_is_lawful (λ tag. bytes_eq tag.name name) tag_spelling tag_lawful))

values-part : (p : PartValues) → part_values (part_of p) ≡ p
values-part (inl p) = refl
values-part (inr (inl text)) = refl
values-part (inr (inr (inl text))) = refl
values-part (inr (inr (inr (inl mark)))) = refl
values-part (inr (inr (inr (inr (inl members))))) = refl
values-part (inr (inr (inr (inr (inr (inl rate)))))) = refl
values-part (inr (inr (inr (inr (inr (inr (inl rate))))))) = refl
values-part (inr (inr (inr (inr (inr (inr (inr x))))))) = absurd x

part-values : (p : Part) → part_of (part_values p) ≡ p
part-values (parts.Tag name tag) = refl
part-values (parts.Label text) = refl
part-values (parts.Description text) = refl
part-values (parts.ReadOnly mark) = refl
part-values (parts.Collection members) = refl
part-values (parts.MaxBitRate rate) = refl
part-values (parts.AvgBitRate rate) = refl

shared_kinds : {B : Type 0} (others : Spelling B) → Kinds 4 others → Kinds 1 (shared_parts others)
shared_kinds others kinds =
    one_kind 1 2 tag_part_spelling _ (omega arith) tag_part_lawful
    (one_kind 2 3 (optional text_spelling) _ (omega arith) opt_text (one_kind 3 4 (optional text_spelling) others (omega arith) opt_text kinds))

pub flow_part_lawful : Lawful flow_part_spelling
unfolding flow_part_spelling
flow_part_lawful =
    via_lawful part_of part_values _ values-part part-values (shared_kinds _
    (one_kind 4 5 bool_spelling _ (omega arith) bool_lawful
    (one_kind 5 6 (listed member_spelling) _ (omega arith) (listed_lawful member_spelling member_lawful)
    (one_kind 6 7 (optional u64_spelling) _ (omega arith) opt_u64
    (one_kind 7 8 (optional u64_spelling) no_kind (omega arith) opt_u64 (no_kinds 8)))))).lawful

pub source_part_lawful : Lawful source_part_spelling
unfolding source_part_spelling
source_part_lawful = via_lawful part_of part_values _ values-part part-values (shared_kinds no_kind (no_kinds 4)).lawful

-- ---- hooks

pub hook_lawful : Lawful hook_spelling
unfolding hook_spelling
hook_lawful =
    via_lawful _ _ _ (λ x. refl) (λ x. refl)
    (pair_lawful text_spelling _ text_lawful (pair_lawful (listed event_spelling) _ (listed_lawful event_spelling event_lawful)
    (pair_lawful (optional text_spelling) _ opt_text (pair_lawful (optional text_spelling) _ opt_text
    (pair_lawful (optional (listed u128_spelling)) _ (optional_lawful (listed u128_spelling) ids) (optional_lawful (listed u128_spelling) ids))))))
