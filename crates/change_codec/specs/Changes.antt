-- The spelling of changes: a kind, a moment, and the fields of that kind. Of the kinds each form of
-- the file has its own. Our own rules.
use Rattle.std.proofs.Common.{inl, inr}
use Rattle.std.specs.Prelude.{◌⊎◌, ◌==◌, nat_le, ℕ, Bool, not, if◌then◌else◌, List, Option, Some, None}
use Rattle.time_range.specs.declared.ranges.Span.{Span}
use Rattle.media_rows.specs.declared.change.Change.{Change}
use Rattle.media_rows.specs.declared.change.Change.TheVariants as changes
use Rattle.media_rows.specs.declared.flow.FlowBody.{FlowBody}
use Rattle.media_rows.specs.declared.object.Digest.{Digest}
use Rattle.media_rows.specs.declared.segment.PostList.{PostList}
use Rattle.media_rows.specs.declared.part.Part.{Part}
use Rattle.media_rows.specs.declared.hook.Hook.{Hook}
use Rattle.field_codec.specs.Spelling.{Spelling, pair, via, either, no_kind, of_kinds}
use Rattle.field_codec.specs.Leaves.{u64_spelling, u128_spelling, bool_spelling, text_spelling, range_spelling, listed}
use Rattle.change_codec.specs.Values.{flow_spelling, posts_spelling, digest_spelling, flow_part_spelling, source_part_spelling, hook_spelling}

-- the moment and the fields of each kind of change from the fourteenth on, in the order of the
-- kinds
abbrev pub LastFields : Type 0
LastFields = (ℕ × ℕ) ⊎ ((ℕ × (List ℕ × (ℕ × (ℕ × Digest)))) ⊎ ⊥)

-- the moment and the fields of each kind of change from the seventh on, in the order of the kinds
abbrev pub LaterFields : Type 0
LaterFields =
    (ℕ × (ℕ × PostList))
    ⊎ ((ℕ × (ℕ × Option Span))
    ⊎ ((ℕ × (ℕ × (Option Span × Bool)))
    ⊎ (ℕ ⊎ (ℕ ⊎ ((ℕ × Hook) ⊎ ((ℕ × List ℕ) ⊎ LastFields))))))

-- the moment and the fields of each kind of change, in the order of the kinds
abbrev pub ChangeFields : Type 0
ChangeFields =
    (ℕ × FlowBody)
    ⊎ ((ℕ × (ℕ × Part))
    ⊎ ((ℕ × (ℕ × Part))
    ⊎ ((ℕ × ℕ)
    ⊎ ((ℕ × (ℕ × List (List ℕ)))
    ⊎ ((ℕ × (List ℕ × (ℕ × ℕ)))
    ⊎ LaterFields)))))

-- the change with these fields, of a kind from the fourteenth on
abbrev pub last_change : LastFields → Change
last_change (inl (moment, event)) = changes.Delivered moment event
last_change (inr (inl (moment, (object, (start, (size, digest)))))) =
    changes.Store moment object start size (Some digest)
last_change (inr (inr x)) = absurd x

-- the change with these fields, of a kind from the seventh on
abbrev pub later_change : LaterFields → Change
later_change (inl (moment, (flow, posts))) = changes.AddSegments moment flow posts
later_change (inr (inl (moment, (flow, range)))) = changes.CutSegments moment flow range
later_change (inr (inr (inl (moment, (flow, (range, delete_flow)))))) =
    changes.AskDelete moment flow range delete_flow
later_change (inr (inr (inr (inl moment)))) = changes.DeleteStep moment
later_change (inr (inr (inr (inr (inl moment))))) = changes.SweepStep moment
later_change (inr (inr (inr (inr (inr (inl (moment, hook))))))) = changes.PutHook moment hook
later_change (inr (inr (inr (inr (inr (inr (inl (moment, url)))))))) = changes.DropHook moment url
later_change (inr (inr (inr (inr (inr (inr (inr p))))))) = last_change p

-- the change with these fields
abbrev pub change_with : ChangeFields → Change
change_with (inl (moment, flow)) = changes.PutFlow moment flow
change_with (inr (inl (moment, (flow, part)))) = changes.SetFlow moment flow part
change_with (inr (inr (inl (moment, (source, part))))) = changes.SetSource moment source part
change_with (inr (inr (inr (inl (moment, flow))))) = changes.DropFlow moment flow
change_with (inr (inr (inr (inr (inl (moment, (flow, objects))))))) =
    changes.Allocate moment flow objects
change_with (inr (inr (inr (inr (inr (inl (moment, (object, (start, size))))))))) =
    changes.Store moment object start size None
change_with (inr (inr (inr (inr (inr (inr p)))))) = later_change p

-- the fields of a change of a kind from the seventh on
abbrev pub later : LaterFields → ChangeFields
later fields = inr (inr (inr (inr (inr (inr fields)))))

-- the fields of a change of a kind from the fourteenth on
abbrev pub last : LastFields → ChangeFields
last fields = later (inr (inr (inr (inr (inr (inr (inr fields)))))))

-- the fields of a change
abbrev pub change_fields : Change → ChangeFields
change_fields (changes.PutFlow moment flow) = inl (moment, flow)
change_fields (changes.SetFlow moment flow part) = inr (inl (moment, (flow, part)))
change_fields (changes.SetSource moment source part) = inr (inr (inl (moment, (source, part))))
change_fields (changes.DropFlow moment flow) = inr (inr (inr (inl (moment, flow))))
change_fields (changes.Allocate moment flow objects) =
    inr (inr (inr (inr (inl (moment, (flow, objects))))))
change_fields (changes.Store moment object start size None) =
    inr (inr (inr (inr (inr (inl (moment, (object, (start, size))))))))
change_fields (changes.Store moment object start size (Some digest)) =
    last (inr (inl (moment, (object, (start, (size, digest))))))
change_fields (changes.AddSegments moment flow posts) = later (inl (moment, (flow, posts)))
change_fields (changes.CutSegments moment flow range) = later (inr (inl (moment, (flow, range))))
change_fields (changes.AskDelete moment flow range delete_flow) =
    later (inr (inr (inl (moment, (flow, (range, delete_flow))))))
change_fields (changes.DeleteStep moment) = later (inr (inr (inr (inl moment))))
change_fields (changes.SweepStep moment) = later (inr (inr (inr (inr (inl moment)))))
change_fields (changes.PutHook moment hook) =
    later (inr (inr (inr (inr (inr (inl (moment, hook)))))))
change_fields (changes.DropHook moment url) =
    later (inr (inr (inr (inr (inr (inr (inl (moment, url))))))))
change_fields (changes.Delivered moment event) = last (inl (moment, event))

-- a moment, and what stands behind it
abbrev pub at_moment : {A : Type 0} → Spelling A → Spelling (ℕ × A)
at_moment f = pair u64_spelling f

-- the kinds from the fourteenth on: an event delivered, an object stored with its digest
unfoldable pub last_spelling : Spelling LastFields
last_spelling =
    either 14 (at_moment u64_spelling)
    (either 15
    (at_moment (pair text_spelling (pair u64_spelling (pair u64_spelling digest_spelling))))
    no_kind)

-- the kinds from the seventh on: segments added, segments cut, a delete request, a step of
-- deleting, a step of sweeping, a hook put, a hook dropped, and the last kinds
unfoldable pub later_spelling : Spelling LaterFields
later_spelling =
    either 7 (at_moment (pair u128_spelling posts_spelling))
    (either 8 (at_moment (pair u128_spelling range_spelling))
    (either 9 (at_moment (pair u128_spelling (pair range_spelling bool_spelling)))
    (either 10 u64_spelling
    (either 11 u64_spelling
    (either 12 (at_moment hook_spelling)
    (either 13 (at_moment text_spelling) last_spelling))))))

-- the number of a change's kind
abbrev pub change_kind : Change → ℕ
change_kind (changes.PutFlow moment flow) = 1
change_kind (changes.SetFlow moment flow part) = 2
change_kind (changes.SetSource moment source part) = 3
change_kind (changes.DropFlow moment flow) = 4
change_kind (changes.Allocate moment flow objects) = 5
change_kind (changes.Store moment object start size None) = 6
change_kind (changes.AddSegments moment flow posts) = 7
change_kind (changes.CutSegments moment flow range) = 8
change_kind (changes.AskDelete moment flow range delete_flow) = 9
change_kind (changes.DeleteStep moment) = 10
change_kind (changes.SweepStep moment) = 11
change_kind (changes.PutHook moment hook) = 12
change_kind (changes.DropHook moment url) = 13
change_kind (changes.Delivered moment event) = 14
change_kind (changes.Store moment object start size (Some digest)) = 15

-- A form has a kind of change: form 1 those up to 13, and form 2 all but 6, for which it has 15.
abbrev pub has_kind : ℕ → ℕ → Bool
has_kind form kind = if form == 1 then nat_le kind 13 else not (kind == 6)

-- The kinds of all forms: one byte of kind, the moment, and the fields. A flow put, a part of a
-- flow set, a part of a source set, a flow dropped, objects allocated, an object stored without a
-- digest, and the later kinds.
unfoldable pub all_changes : Spelling Change
all_changes = via change_with change_fields
    (either 1 (at_moment flow_spelling)
    (either 2 (at_moment (pair u128_spelling flow_part_spelling))
    (either 3 (at_moment (pair u128_spelling source_part_spelling))
    (either 4 (at_moment u128_spelling)
    (either 5 (at_moment (pair u128_spelling (listed text_spelling)))
    (either 6 (at_moment (pair text_spelling (pair u64_spelling u64_spelling)))
    later_spelling))))))

-- a change as a form has it: of the kinds of all forms, those of this one
abbrev pub change_spelling : ℕ → Spelling Change
change_spelling form = of_kinds (has_kind form) change_kind all_changes
