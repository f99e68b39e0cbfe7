-- An edit by hand: its list is cut as it should be.
use Rattle.std.proofs.Common.{◌≡◌, ◌⊎◌, inl, inr, ℕ, ◌+ℤ◌, false, List, [], ◌∷◌, ◌++◌, refl, sym, ap, subst, ◌∙◌, arith}
use Rattle.std.proofs.lemmas.Bool.{false≢true}
use Rattle.std.proofs.lemmas.Int.{ints}
use Rattle.std.proofs.lemmas.List.Elements.{All-cons, All-nil}
use Rattle.time_range.specs.Points.{IsNanos, IsRange}
use Rattle.media_rows.specs.declared.segment.SegmentRow.{SegmentRow}
use Rattle.segment_pieces.specs.Pieces.{GoesTooFar, NeedsRate, is_cut}
use Rattle.library_laws.proofs.ListLemmas.{In, In-from_Contains}
use Rattle.range_edit.specs.Assembling.{EachIsTaken, HaveTwoFormats, IsUnkept, PassesLimit, RowFault, SomeTaken, StandsOverEarlier, StandsOverSegment, clip_of, shift_of, taken_by}
use Rattle.range_edit.specs.declared.fault.EditFault.{EditFault}
use Rattle.range_edit.specs.declared.list.EditRow.{EditRow}
use Rattle.edit_laws.specs.Worked.{ArePointsAsWorked, to_flow, worked_library, worked_row}

-- ---- nothing refuses the row

-- what it takes isn't cut
not_cut : (s : SegmentRow) → In s (taken_by worked_library worked_row)
    → is_cut (clip_of worked_library worked_row) s.segment ≡ false
not_cut s (inl same) =
    ap (λ (r : SegmentRow). is_cut (clip_of worked_library worked_row) r.segment) same
not_cut s (inr bad) = absurd bad

-- and its offset is a timestamp
offset_fits : (s : SegmentRow) → In s (taken_by worked_library worked_row)
    → IsNanos (s.segment.ts_offset +ℤ shift_of worked_row)
offset_fits s (inl same) =
    subst (λ (r : SegmentRow). IsNanos (r.segment.ts_offset +ℤ shift_of worked_row)) (sym same)
    (record { least = omega (arith, ints); most = omega (arith, ints) })
offset_fits s (inr bad) = absurd bad

-- a fault doesn't stand, and no later one does
no_where : {Stands Is Later : Type 0} → (Stands → ⊥) → (Later → ⊥)
    → (Stands × Is) ⊎ ((Stands → ⊥) × Later) → ⊥
no_where none later (inl (stands, is)) = none stands
no_where none later (inr (stands, more)) = later more

-- the row needs no rate
no_rate : SomeTaken NeedsRate worked_library worked_row → ⊥
no_rate some =
    let here = In-from_Contains (taken_by worked_library worked_row) some.0 some.1 in
    false≢true (sym (not_cut some.0 here) ∙ some.2.cut)

-- and nothing goes too far
no_far : SomeTaken GoesTooFar worked_library worked_row → ⊥
no_far some =
    let here = In-from_Contains (taken_by worked_library worked_row) some.0 some.1 in
    elim some.2 [
      | inl past ↦ past (offset_fits some.0 here)
      | inr cut ↦ false≢true (sym (not_cut some.0 here) ∙ cut.0)
    ]

-- its place is within the limit
no_limit : PassesLimit worked_row → ⊥
no_limit (inl past) = past (record { least = omega (arith, ints); most = omega (arith, ints) })
no_limit (inr past) = past (
  record { least = omega (arith, ints); most = omega (arith, ints) },
  record { least = omega (arith, ints); most = omega (arith, ints) },
)

-- its flow is kept
no_unkept : IsUnkept worked_library worked_row.flow → ⊥
no_unkept unkept = absurd (cc)

-- both flows are of one format
no_formats : HaveTwoFormats worked_library worked_row.flow to_flow → ⊥
no_formats differ = differ refl

-- no row stands before it
no_earlier : StandsOverEarlier [] worked_row → ⊥
no_earlier over = absurd (omega (arith, over.1.1))

-- no segment of the target stands in its place
no_segment : StandsOverSegment worked_library to_flow worked_row → ⊥
no_segment over = over refl

-- none of the faults stands
row_is_taken : (n : ℕ) (fault : EditFault)
    → RowFault worked_library to_flow [] worked_row n fault → ⊥
row_is_taken n fault =
    no_where no_unkept
    (no_where no_formats
    (no_where no_limit
    (no_where no_earlier
    (no_where no_segment
    (no_where no_rate
    (no_where no_far (λ none. none)))))))

-- nothing is empty and has an item behind others
no_more : (before behind : List EditRow) (row : EditRow) → [] ≡ before ++ row ∷ behind → ⊥
no_more [] behind row is = absurd (cc)
no_more (first ∷ before) behind row is = absurd (cc)

-- a list of one row is cut in one way
one_is_taken : EachIsTaken worked_library to_flow (worked_row ∷ [])
one_is_taken [] row behind is fault refused =
    let same : row ≡ worked_row = cc in
    row_is_taken 2 fault
    (subst (λ (r : EditRow). RowFault worked_library to_flow [] r 2 fault) same refused)
one_is_taken (first ∷ before) row behind is fault refused =
    absurd (no_more before behind row (cc))

-- each value by hand
pub points_are_as_worked : ArePointsAsWorked
points_are_as_worked = record {
  cut = record {
    good = record {
      segments = refl;
      references = refl;
      extents = refl;
      names = refl;
      sources = refl;
      collections = refl;
      requests = refl;
      outbox = refl;
      texts = refl;
    };
    cut = record {
      kept = λ e. cc;
      taken = one_is_taken;
      few = omega arith;
      list = refl;
      pieces = (
        record {
          object = refl;
          range = refl;
          ts_offset = refl;
          whole = λ e. record { offset = refl; count = refl; key_frames = refl; last = refl };
          cut = λ e. absurd (false≢true e);
        },
        tt,
      );
    };
  };
  sound = record {
    of_segments = All-cons (λ (r : SegmentRow). IsRange r.segment.range) _ [] (record {
      ordered = omega (arith, ints);
      low = record { least = omega (arith, ints); most = omega (arith, ints) };
      high = record { least = omega (arith, ints); most = omega (arith, ints) };
    }) (All-nil (λ (r : SegmentRow). IsRange r.segment.range));
    of_rows = All-cons (λ (r : EditRow). IsRange r.range) worked_row [] (record {
      ordered = omega (arith, ints);
      low = record { least = omega (arith, ints); most = omega (arith, ints) };
      high = record { least = omega (arith, ints); most = omega (arith, ints) };
    }) (All-nil (λ (r : EditRow). IsRange r.range));
  };
  source = refl;
  inside_place = (omega (arith, ints), omega (arith, ints));
  inside = refl;
  gap_place = (omega (arith, ints), omega (arith, ints));
  gap = refl;
  outside_place = λ has. let past = has.1 in absurd (omega (arith, ints));
  outside = refl;
}
