-- Restored parts that are handed on as parts of a library.
use Rattle.std.proofs.Common.{◌≡◌, ℕ, Bool, true, false, ◌&&◌, List, [], ◌∷◌, Some, None, is_some, refl, sym, ap, subst, ◌∙◌, Result, Err}
use Rattle.std.specs.Prelude.{IsTrue}
use Rattle.std.specs.List.{list_all}
use Rattle.std.proofs.lemmas.Bool.{and_from, and_parts}
use Rattle.media_rows.specs.declared.event.EventRow.{EventRow}
use Rattle.media_rows.specs.declared.flow.FlowRow.{FlowRow}
use Rattle.media_rows.specs.declared.hook.HookRow.{HookRow}
use Rattle.media_rows.specs.declared.refusal.ApplyFault.{ApplyFault}
use Rattle.media_rows.specs.declared.refusal.ApplyFault.TheVariants as faults
use Rattle.media_rows.specs.declared.request.DeleteRow.{DeleteRow}
use Rattle.media_rows.specs.declared.row.Row.{Row}
use Rattle.media_rows.specs.declared.row.Row.TheVariants as rows
use Rattle.media_rows.specs.declared.segment.SegmentRow.{SegmentRow}
use Rattle.media_rows.specs.declared.source.SourceRow.{SourceRow}
use Rattle.media_rows.specs.Catalog.{Catalog}
use Rattle.media_rows.specs.Good.{are_compatible, are_references_good, is_good, rises_by}
use Rattle.media_rows.specs.Library.{Library}
use Rattle.media_rows.specs.Lists.{each_pair, rises}
use Rattle.media_rows.specs.Ranges.{has_both_ends}
use Rattle.media_rows.specs.Refusals.{Restores}
use Rattle.media_rows.specs.Snapshot.{have_numbers, library_of, row_before}
use Rattle.core_parts.specs.Parts.{library_of_parts}
use Rattle.core_registry.specs.Registry.{Registry, registry_of}
use Rattle.core_registry.specs.Restoring.{can_restore, registry_of_rows}
use Rattle.core_rows.specs.Kinds.{Kinds, kinds_of, library_of_kinds}
use Rattle.media_book.specs.Media.{Media, are_media_good, are_objects_good, are_rows_good, media_of}
use Rattle.library_laws.proofs.RestoreLemmas.{stays}
use Rattle.core_restore.specs.Restored.{are_rows_of_good}
use Rattle.core_restore.specs.Within.{AreInOrder, are_parts_good, are_tied, are_values_good, is_rest_good, library_from_kinds, registry_rows}
use Rattle.media_rows.proofs.RestoringLemmas.{handed_on}

-- ---- answers

pub none_first : (a b : Bool) → a ≡ false → (a && b) ≡ false
none_first true b e = absurd (cc)
none_first false b e = refl

pub none_second : (a b : Bool) → b ≡ false → (a && b) ≡ false
none_second true b e = e
none_second false b e = refl

pub both_first : (a b : Bool) → a ≡ true → (a && b) ≡ b
both_first true b e = refl
both_first false b e = absurd (cc)

-- ---- media

-- the segments of good media rise
pub media_rise : (media : Media) → are_media_good media ≡ true → rises_by (λ (row : SegmentRow). row.serial) media.segments ≡ true
media_rise media e =
    let all = and_parts (are_objects_good media.blocks media.objects) (are_rows_good media.objects media.segments) e in
    let pairs = and_parts (each_pair are_compatible media.segments) _ all.1 in
    let ends = and_parts (list_all (λ (row : SegmentRow). has_both_ends row.segment.range) media.segments) _ pairs.1 in
    (and_parts (are_references_good media.objects media.segments) (rises_by (λ (row : SegmentRow). row.serial) media.segments) ends.1).1

-- ---- the registry

-- rows in their order are put in order as they stand
pub registry_same : (id blocks next : ℕ) (kinds : Kinds) → AreInOrder kinds
    → registry_of_rows (registry_rows (library_from_kinds id blocks next kinds)) next ≡ registry_of (library_from_kinds id blocks next kinds)
registry_same id blocks next kinds order =
    rw (
      stays (λ (row : SourceRow). row.id) kinds.sources order.sources,
      stays (λ (row : FlowRow). row.body.id) kinds.flows order.flows,
      stays (λ (row : DeleteRow). row.serial) kinds.requests order.requests,
      stays (λ (row : HookRow). row.serial) kinds.hooks order.hooks,
      stays (λ (row : EventRow). row.serial) kinds.events order.events,
    ) refl

-- ---- the row of numbers

-- one of the rows is that of numbers where they have a next serial
pub numbers_are : (all : List Row) → have_numbers all ≡ is_some (kinds_of all).next_serial
numbers_are [] = refl
numbers_are (rows.Source row ∷ later) = numbers_are later
numbers_are (rows.Flow row ∷ later) = numbers_are later
numbers_are (rows.Object row ∷ later) = numbers_are later
numbers_are (rows.Segment row ∷ later) = numbers_are later
numbers_are (rows.Request row ∷ later) = numbers_are later
numbers_are (rows.Hook row ∷ later) = numbers_are later
numbers_are (rows.Event row ∷ later) = numbers_are later
numbers_are (rows.Numbers next ∷ later) = refl

-- what is restored by kinds is restored from rows that rise and have a next serial
pub from_kinds : (id blocks next : ℕ) (all : List Row) (kinds : Kinds) (result : Result Library ApplyFault) → kinds ≡ kinds_of all
    → library_of id blocks all ≡ library_of_kinds id blocks (kinds_of all) → rises row_before all ≡ true → kinds.next_serial ≡ Some next
    → Restores (is_good (library_of_kinds id blocks kinds)) (library_of_kinds id blocks kinds) result
    → Restores (are_rows_of_good id blocks all) (library_of id blocks all) result
from_kinds id blocks next all kinds result is made rise some h =
    let numbers : have_numbers all ≡ true = numbers_are all ∙ ap (λ k. is_some k.next_serial) (sym is) ∙ ap is_some some in
    let whole : library_of_kinds id blocks kinds ≡ library_of id blocks all = ap (library_of_kinds id blocks) is ∙ sym made in
    let tested : is_good (library_of_kinds id blocks kinds) ≡ are_rows_of_good id blocks all =
    ap is_good whole ∙ sym (both_first (have_numbers all) (is_good (library_of id blocks all)) numbers)
    ∙ sym (both_first (rises row_before all) (have_numbers all && is_good (library_of id blocks all)) rise) in
    subst (λ b. Restores b (library_of id blocks all) result) tested
    (subst (λ l. Restores (is_good (library_of_kinds id blocks kinds)) l result) whole h)

-- rows without a next serial aren't those of a library
pub no_numbers : (id blocks : ℕ) (all : List Row) (kinds : Kinds) → kinds ≡ kinds_of all → kinds.next_serial ≡ None → are_rows_of_good id blocks all ≡ false
no_numbers id blocks all kinds is none =
    none_second (rises row_before all) (have_numbers all && is_good (library_of id blocks all))
    (none_first (have_numbers all) (is_good (library_of id blocks all)) (numbers_are all ∙ ap (λ k. is_some k.next_serial) (sym is) ∙ ap is_some none))

-- ---- the whole

-- what is restored of the rest is restored of all, where values and media are good
pub from_rest : (id blocks next : ℕ) (kinds : Kinds) (media : Media) (result : Result Library ApplyFault)
    → is_good (library_from_kinds id blocks next kinds) ≡ are_parts_good (library_from_kinds id blocks next kinds)
    → are_values_good (library_from_kinds id blocks next kinds) ≡ true → are_media_good (media_of (library_from_kinds id blocks next kinds)) ≡ true
    → media ≡ media_of (library_from_kinds id blocks next kinds)
    → Restores (is_rest_good (library_from_kinds id media.blocks next kinds)) (library_from_kinds id media.blocks next kinds) result
    → Restores (is_good (library_from_kinds id blocks next kinds)) (library_from_kinds id blocks next kinds) result
from_rest id blocks next kinds media result law values good is h =
    let library = library_from_kinds id blocks next kinds in
    let tested : is_rest_good library ≡ is_good library =
    sym (law ∙ both_first (are_values_good library) (are_media_good (media_of library) && is_rest_good library) values
    ∙ both_first (are_media_good (media_of library)) (is_rest_good library) good) in
    subst (λ b. Restores b library result) tested
    (subst (λ n. Restores (is_rest_good (library_from_kinds id n next kinds)) (library_from_kinds id n next kinds) result) (ap (λ (m : Media). m.blocks) is) h)

-- rows as they are taken apart, and what was made of them: a registry, and what is looked at to tie it to media
pub record Made (id next : ℕ) (seen kinds : Kinds) (media : Media) (registry : Registry) : Type 0 where
  pub same : seen ≡ kinds
  pub order : AreInOrder kinds
  pub stored : media ≡ media_of (library_from_kinds 0 media.blocks 0 kinds)
  pub listed : registry ≡ registry_of_rows (registry_rows (library_from_kinds id media.blocks next seen)) next

registry_is : (id next : ℕ) (seen kinds : Kinds) (media : Media) (registry : Registry) → Made id next seen kinds media registry
    → registry ≡ registry_of (library_from_kinds id media.blocks next kinds)
registry_is id next seen kinds media registry made =
    made.listed ∙ ap (λ k. registry_of_rows (registry_rows (library_from_kinds id media.blocks next k)) next) made.same
    ∙ registry_same id media.blocks next kinds made.order

-- flows, segments and requests that are looked at
pub record Looked (seen : Kinds) (registry : Registry) (catalog : Catalog) (segments : List SegmentRow) (requests : List DeleteRow) (tied : Bool)
    : Type 0 where
  pub flows : catalog ≡ registry.catalog
  pub segments_are : segments ≡ seen.segments
  pub requests_are : requests ≡ seen.requests
  pub tied_is : tied ≡ are_tied catalog.flows segments requests

tied_same : (id next : ℕ) (seen kinds : Kinds) (media : Media) (registry : Registry) (catalog : Catalog) (segments : List SegmentRow)
    (requests : List DeleteRow) (tied : Bool) → Made id next seen kinds media registry → Looked seen registry catalog segments requests tied
    → tied ≡ are_tied kinds.flows kinds.segments kinds.requests
tied_same id next seen kinds media registry catalog segments requests tied made look =
    look.tied_is
    ∙ ap (λ (c : Catalog). are_tied c.flows segments requests)
    (look.flows ∙ ap (λ (r : Registry). r.catalog) (registry_is id next seen kinds media registry made))
    ∙ ap (λ s. are_tied kinds.flows s requests) (look.segments_are ∙ ap (λ (k : Kinds). k.segments) made.same)
    ∙ ap (are_tied kinds.flows kinds.segments) (look.requests_are ∙ ap (λ (k : Kinds). k.requests) made.same)

-- what isn't tied is no part of a good library
pub rest_fails : (id next : ℕ) (seen kinds : Kinds) (media : Media) (registry : Registry) (catalog : Catalog) (segments : List SegmentRow)
    (requests : List DeleteRow) (tied : Bool) → Made id next seen kinds media registry → Looked seen registry catalog segments requests tied → tied ≡ false
    → is_rest_good (library_from_kinds id media.blocks next kinds) ≡ false
rest_fails id next seen kinds media registry catalog segments requests tied made look e =
    none_second (can_restore (registry_rows (library_from_kinds id media.blocks next kinds))) (are_tied kinds.flows kinds.segments kinds.requests)
    (sym (tied_same id next seen kinds media registry catalog segments requests tied made look) ∙ e)

-- what is tied is, and media and the registry are the library
pub rest_stands : (id next : ℕ) (seen kinds : Kinds) (media : Media) (registry : Registry) (catalog : Catalog) (segments : List SegmentRow)
    (requests : List DeleteRow) (tied : Bool) (whole : Library) → Made id next seen kinds media registry
    → Looked seen registry catalog segments requests tied → tied ≡ true
    → can_restore (registry_rows (library_from_kinds id media.blocks next seen)) ≡ true → whole ≡ library_of_parts id media registry
    → IsTrue (is_rest_good (library_from_kinds id media.blocks next kinds)) × (whole ≡ library_from_kinds id media.blocks next kinds)
rest_stands id next seen kinds media registry catalog segments requests tied whole made look e can is =
    let library = library_from_kinds id media.blocks next kinds in (
      and_from (can_restore (registry_rows library)) (are_tied kinds.flows kinds.segments kinds.requests)
          (subst (λ k. can_restore (registry_rows (library_from_kinds id media.blocks next k)) ≡ true) made.same can)
          (sym (tied_same id next seen kinds media registry catalog segments requests tied made look) ∙ e),
      is ∙ ap (library_of_parts id media) (registry_is id next seen kinds media registry made)
          ∙ ap (λ s. record library { segments = s; objects = media.objects }) (ap (λ (m : Media). m.segments) made.stored)
          ∙ ap (λ o. record library { objects = o }) (ap (λ (m : Media). m.objects) made.stored),
    )

-- books that can't be restored are those of no good library
pub rest_refused : (id next : ℕ) (seen kinds : Kinds) (media : Media) (fault : ApplyFault) → seen ≡ kinds
    → Restores (can_restore (registry_rows (library_from_kinds id media.blocks next seen)))
    (registry_of_rows (registry_rows (library_from_kinds id media.blocks next seen)) next) (Err fault)
    → Restores (is_rest_good (library_from_kinds id media.blocks next kinds)) (library_from_kinds id media.blocks next kinds) (Err fault)
rest_refused id next seen kinds media fault same h =
    let library = library_from_kinds id media.blocks next kinds in
    handed_on fault (can_restore (registry_rows library)) (is_rest_good library) (registry_of_rows (registry_rows library) next) library
    (λ never. none_first (can_restore (registry_rows library)) (are_tied kinds.flows kinds.segments kinds.requests) never)
    (subst (λ k. Restores (can_restore (registry_rows (library_from_kinds id media.blocks next k)))
    (registry_of_rows (registry_rows (library_from_kinds id media.blocks next k)) next) (Err fault)) same h)
