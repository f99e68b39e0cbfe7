-- The spelling of changes is lawful.
use Rattle.std.proofs.Common.{◌≡◌, ◌∷◌, ℕ, List, Option, Some, None, refl, ap, arith, inl, inr}
use Rattle.std.specs.Prelude.{slice_get}
use Rattle.media_rows.specs.declared.change.Change.{Change}
use Rattle.media_rows.specs.declared.change.Change.TheVariants as changes
use Rattle.field_codec.specs.Spelling.{Spelling, pair, no_kind}
use Rattle.field_codec.specs.Leaves.{u64_spelling, u128_spelling, bool_spelling, text_spelling, range_spelling, listed}
use Rattle.field_codec.specs.Laws.{Lawful}
use Rattle.field_codec.proofs.Combined.{pair_lawful, via_lawful}
use Rattle.field_codec.proofs.KindLaws.{Kinds, no_kinds, one_kind}
use Rattle.field_codec.proofs.FormLaws.{BeginsWithKind, of_kinds_lawful}
use Rattle.field_codec.proofs.LeafLaws.{bool_lawful, text_lawful, listed_lawful}
use Rattle.field_codec.proofs.Numbers.{u64_lawful, u128_lawful}
use Rattle.field_codec.proofs.RangeLaws.{range_lawful}
use Rattle.change_codec.specs.Values.{flow_spelling, posts_spelling, digest_spelling, flow_part_spelling, source_part_spelling, hook_spelling}
use Rattle.change_codec.specs.Changes.{LastFields, LaterFields, ChangeFields, last_change, later_change, change_with, change_fields, at_moment, last_spelling, later_spelling, change_kind, has_kind, all_changes, change_spelling}
use Rattle.change_codec.proofs.ValueLaws.{flow_lawful, posts_lawful, digest_lawful, flow_part_lawful, source_part_lawful, hook_lawful}

-- a moment before a lawful spelling
at_moment_lawful : {A : Type 0} (f : Spelling A) → Lawful f → Lawful (at_moment f)
at_moment_lawful f law = pair_lawful u64_spelling f u64_lawful law

-- the last kinds begin with 14 or more
last_kinds : Kinds 14 last_spelling
unfolding last_spelling
last_kinds =
    one_kind 14 15 (at_moment u64_spelling) _ (omega arith) (at_moment_lawful _ u64_lawful)
    (one_kind 15 16 (at_moment (pair text_spelling (pair u64_spelling (pair u64_spelling digest_spelling)))) no_kind (omega arith)
    (at_moment_lawful _ (pair_lawful text_spelling _ text_lawful (pair_lawful u64_spelling _ u64_lawful (pair_lawful u64_spelling _ u64_lawful digest_lawful))))
    (no_kinds 16))

-- the later kinds begin with 7 or more
later_kinds : Kinds 7 later_spelling
unfolding later_spelling
later_kinds =
    one_kind 7 8 (at_moment (pair u128_spelling posts_spelling)) _ (omega arith)
    (at_moment_lawful _ (pair_lawful u128_spelling _ u128_lawful posts_lawful))
    (one_kind 8 9 (at_moment (pair u128_spelling range_spelling)) _ (omega arith) (at_moment_lawful _ (pair_lawful u128_spelling _ u128_lawful range_lawful))
    (one_kind 9 10 (at_moment (pair u128_spelling (pair range_spelling bool_spelling))) _ (omega arith)
    (at_moment_lawful _ (pair_lawful u128_spelling _ u128_lawful (pair_lawful range_spelling _ range_lawful bool_lawful)))
    (one_kind 10 11 u64_spelling _ (omega arith) u64_lawful
    (one_kind 11 12 u64_spelling _ (omega arith) u64_lawful
    (one_kind 12 13 (at_moment hook_spelling) _ (omega arith) (at_moment_lawful _ hook_lawful)
    (one_kind 13 14 (at_moment text_spelling) last_spelling (omega arith) (at_moment_lawful _ text_lawful) last_kinds))))))

-- a change of the last kinds has the fields that it was made of
fields-last : (p : LastFields) → change_fields (last_change p) ≡ inr (inr (inr (inr (inr (inr (inr (inr (inr (inr (inr (inr (inr p))))))))))))
fields-last (inl p) = refl
fields-last (inr (inl p)) = refl
fields-last (inr (inr x)) = absurd x

-- a later change has the fields that it was made of
fields-later : (p : LaterFields) → change_fields (later_change p) ≡ inr (inr (inr (inr (inr (inr p)))))
fields-later (inl p) = refl
fields-later (inr (inl p)) = refl
fields-later (inr (inr (inl p))) = refl
fields-later (inr (inr (inr (inl p)))) = refl
fields-later (inr (inr (inr (inr (inl p))))) = refl
fields-later (inr (inr (inr (inr (inr (inl p)))))) = refl
fields-later (inr (inr (inr (inr (inr (inr (inl p))))))) = refl
fields-later (inr (inr (inr (inr (inr (inr (inr p))))))) = fields-last p

-- a change has the fields that it was made of
fields-change : (p : ChangeFields) → change_fields (change_with p) ≡ p
fields-change (inl p) = refl
fields-change (inr (inl p)) = refl
fields-change (inr (inr (inl p))) = refl
fields-change (inr (inr (inr (inl p)))) = refl
fields-change (inr (inr (inr (inr (inl p))))) = refl
fields-change (inr (inr (inr (inr (inr (inl p)))))) = refl
fields-change (inr (inr (inr (inr (inr (inr p)))))) = fields-later p

-- a change is the one with its fields
change-fields : (c : Change) → change_with (change_fields c) ≡ c
change-fields (changes.PutFlow moment flow) = refl
change-fields (changes.SetFlow moment flow part) = refl
change-fields (changes.SetSource moment source part) = refl
change-fields (changes.DropFlow moment flow) = refl
change-fields (changes.Allocate moment flow objects) = refl
change-fields (changes.Store moment object start size None) = refl
change-fields (changes.Store moment object start size (Some digest)) = refl
change-fields (changes.AddSegments moment flow posts) = refl
change-fields (changes.CutSegments moment flow range) = refl
change-fields (changes.AskDelete moment flow range delete_flow) = refl
change-fields (changes.DeleteStep moment) = refl
change-fields (changes.SweepStep moment) = refl
change-fields (changes.PutHook moment hook) = refl
change-fields (changes.DropHook moment url) = refl
change-fields (changes.Delivered moment event) = refl

-- the spelling of all kinds is lawful
pub all_lawful : Lawful all_changes
unfolding all_changes
all_lawful =
    via_lawful change_with change_fields _ fields-change change-fields
    (one_kind 1 2 (at_moment flow_spelling) _ (omega arith) (at_moment_lawful _ flow_lawful)
    (one_kind 2 3 (at_moment (pair u128_spelling flow_part_spelling)) _ (omega arith)
    (at_moment_lawful _ (pair_lawful u128_spelling _ u128_lawful flow_part_lawful))
    (one_kind 3 4 (at_moment (pair u128_spelling source_part_spelling)) _ (omega arith)
    (at_moment_lawful _ (pair_lawful u128_spelling _ u128_lawful source_part_lawful))
    (one_kind 4 5 (at_moment u128_spelling) _ (omega arith) (at_moment_lawful _ u128_lawful)
    (one_kind 5 6 (at_moment (pair u128_spelling (listed text_spelling))) _ (omega arith)
    (at_moment_lawful _ (pair_lawful u128_spelling _ u128_lawful (listed_lawful text_spelling text_lawful)))
    (one_kind 6 7 (at_moment (pair text_spelling (pair u64_spelling u64_spelling))) later_spelling (omega arith)
    (at_moment_lawful _ (pair_lawful text_spelling _ text_lawful (pair_lawful u64_spelling u64_spelling u64_lawful u64_lawful))) later_kinds)))))).lawful

-- a change's first byte is its kind's number
pub begins_with_kind : BeginsWithKind change_kind all_changes
unfolding all_changes later_spelling last_spelling
begins_with_kind (changes.PutFlow moment flow) = (_, refl)
begins_with_kind (changes.SetFlow moment flow part) = (_, refl)
begins_with_kind (changes.SetSource moment source part) = (_, refl)
begins_with_kind (changes.DropFlow moment flow) = (_, refl)
begins_with_kind (changes.Allocate moment flow objects) = (_, refl)
begins_with_kind (changes.Store moment object start size None) = (_, refl)
begins_with_kind (changes.Store moment object start size (Some digest)) = (_, refl)
begins_with_kind (changes.AddSegments moment flow posts) = (_, refl)
begins_with_kind (changes.CutSegments moment flow range) = (_, refl)
begins_with_kind (changes.AskDelete moment flow range delete_flow) = (_, refl)
begins_with_kind (changes.DeleteStep moment) = (_, refl)
begins_with_kind (changes.SweepStep moment) = (_, refl)
begins_with_kind (changes.PutHook moment hook) = (_, refl)
begins_with_kind (changes.DropHook moment url) = (_, refl)
begins_with_kind (changes.Delivered moment event) = (_, refl)

pub first_is_kind : (change : Change) → slice_get (all_changes.meaning.spell change) 0 ≡ Some (change_kind change)
first_is_kind change = ap (λ (t : List ℕ). slice_get t 0) (begins_with_kind change).1

-- A change is read exactly as a form spells it and exactly up to its fault, and written as it is spelled.
pub change_lawful : (form : ℕ) → Lawful (change_spelling form)
change_lawful form = of_kinds_lawful (has_kind form) change_kind all_changes all_lawful begins_with_kind
