-- The rows of a list that are cut, and the first that is refused.
use Rattle.std.proofs.Common.{◌≡◌, ◌∙◌, ◌<◌, ◌+◌, ◌⊎◌, inl, inr, ℕ, true, false, List, [], ◌∷◌, ◌++◌, length, map, take, drop, get_or, refl, sym, ap, subst, arith, Option, Some}
use Rattle.std.proofs.lemmas.Grind.{flat_map-append}
use Rattle.std.proofs.lemmas.List.{append-nil, drop_more, length-append, length-map, map-append, take-append-drop}
use Rattle.library_laws.proofs.ListLemmas.{Contains-from_In, In-from_Contains, In-map, map-In}
use Rattle.time_range.specs.declared.ranges.Span.{Span}
use Rattle.media_rows.specs.Library.{Library}
use Rattle.media_rows.specs.Catalog.{flow_of}
use Rattle.media_rows.specs.declared.flow.FlowRow.{FlowRow}
use Rattle.media_rows.specs.declared.segment.Segment.{Segment}
use Rattle.media_rows.specs.declared.segment.SegmentRow.{SegmentRow}
use Rattle.segment_pieces.specs.Pieces.{GoesTooFar, NeedsRate}
use Rattle.segment_pieces.specs.declared.clip.Clip.{Clip}
use Rattle.range_edit.specs.Assembling.{EachIsTaken, FirstRefused, IsCutFor, IsCuttingFault, IsUnkept, NoFault, RowFault, SomeTaken, StandsOverEarlier, Taking, Where, clip_of, number_behind, place_of, taken_by, takings_in, takings_of}
use Rattle.range_edit.specs.Within.Cutting.{Adds, ArePlacesOf, CutsRow, HasCut, HasPieces, IsPlaced, MayRefuse, MayRefuseTaking, RefusesRow, SomeOf, TakesRow, TakingFault, taking_by, takings_from}
use Rattle.range_edit.specs.declared.assembling.Cutting.{Cutting}
use Rattle.range_edit.specs.declared.fault.EditFault.{EditFault}
use Rattle.range_edit.specs.declared.fault.EditFault.TheVariants.{Memory, NoRate, TooFar, TooMany}
use Rattle.range_edit.specs.declared.list.EditRow.{EditRow}
use Rattle.range_edit.specs.declared.pieces.Pieces.{Pieces}
use Rattle.range_edit.specs.declared.placing.Placed.{Placed}
use Rattle.range_edit.proofs.PieceLemmas.{SomeOf-append, SomeOf-right}
use Rattle.range_edit.proofs.PlaceLemmas.{stands_over_place}

-- ---- what a row takes

-- one of the takings is that of one of the segments
pub some_taken : (IsSo : Clip → Segment → Type 0) (library : Library) (row : EditRow)
    → SomeOf IsSo (takings_of library row) → SomeTaken IsSo library row
some_taken IsSo library row some =
    let found = In-map (λ (s : SegmentRow). taking_by (clip_of library row) s.segment)
    (taken_by library row) some.0 (In-from_Contains (takings_of library row) some.0 some.1) in (
      found.0,
      Contains-from_In (taken_by library row) found.0 found.1,
      subst (λ (t : Taking). IsSo t.clip t.segment) found.2 some.2,
    )

-- and the other way round
pub some_taking : (IsSo : Clip → Segment → Type 0) (library : Library) (row : EditRow)
    → SomeTaken IsSo library row → SomeOf IsSo (takings_of library row)
some_taking IsSo library row some = (
  taking_by (clip_of library row) some.0.segment,
  Contains-from_In (takings_of library row) (taking_by (clip_of library row) some.0.segment)
      (map-In (λ (s : SegmentRow). taking_by (clip_of library row) s.segment) (taken_by library row)
      some.0 (In-from_Contains (taken_by library row) some.0 some.1)),
  some.2,
)

-- a piece of a row would go too far, and none of those before it
pub far_refuses : (takings before : List Taking) (old new : Pieces) (n : ℕ) (fault : EditFault)
    → HasPieces before old → old.far ≡ false → Adds takings old new → new.far ≡ true
    → fault ≡ TooFar n → TakingFault takings n fault ⊎ (fault ≡ Memory)
far_refuses takings before old new n fault has near adds far is =
    let all = adds before has in
    inl (inr (
      λ some. all.rated (SomeOf-right NeedsRate before takings some),
      inl (
        elim (SomeOf-append GoesTooFar before takings (all.far far)) [
          | inl first ↦ absurd (has.near near first)
          | inr some ↦ some
        ],
        is,
      ),
    ))

-- a piece of a row wants a rate, or else goes too far
abbrev PiecesFault : Library → EditRow → ℕ → EditFault → Type 0
PiecesFault library row n fault =
    Where (SomeTaken NeedsRate library row) (NoRate n)
    (Where (SomeTaken GoesTooFar library row) (TooFar n)
    NoFault) fault

-- the same of its takings
pieces_refused : (library : Library) (row : EditRow) (n : ℕ) (fault : EditFault)
    → TakingFault (takings_of library row) n fault → PiecesFault library row n fault
pieces_refused library row n fault (inl (some, is)) =
    inl (some_taken NeedsRate library row some, is)
pieces_refused library row n fault (inr (rated, inl (some, is))) =
    inr (
      λ needs. rated (some_taking NeedsRate library row needs),
      inl (some_taken GoesTooFar library row some, is),
    )
pieces_refused library row n fault (inr (rated, inr (near, none))) = absurd none

-- ---- lists of rows

-- two ways to cut a list at an item are one, or one of them cuts it earlier
pub two_ways : {X : Type 0} (first : List X) (x : X) (later : List X) (front : List X) (y : X)
    (back : List X) → first ++ x ∷ later ≡ front ++ y ∷ back
    → ((first ≡ front) × (x ≡ y))
    ⊎ (((rest : List X) × (front ≡ first ++ x ∷ rest))
    ⊎ ((rest : List X) × (first ≡ front ++ y ∷ rest)))
two_ways [] x later [] y back e = inl (refl, cc)
two_ways [] x later (b ∷ front) y back e =
    inr (inl (front, (let same : b ≡ x = cc in ap (λ w. w ∷ front) same)))
two_ways (a ∷ first) x later [] y back e =
    inr (inr (first, (let same : a ≡ y = cc in ap (λ w. w ∷ first) same)))
two_ways (a ∷ first) x later (b ∷ front) y back e =
    let head : a ≡ b = cc in
    elim (two_ways first x later front y back cc) [
      | inl same ↦ inl ((let tail = same.0 in cc), same.1)
      | inr (inl more) ↦ inr (inl (more.0, (let tail = more.1 in cc)))
      | inr (inr more) ↦ inr (inr (more.0, (let tail = more.1 in cc)))
    ]

-- nothing stands behind the last item
none_behind : {X : Type 0} (xs : List X) (x : X) (first : List X) (y : X) (later rest : List X)
    → xs ++ x ∷ [] ≡ first ++ y ∷ later → first ≡ xs ++ x ∷ rest → ⊥
none_behind xs x first y later rest e f =
    let whole = ap length e in
    let one = length-append xs (x ∷ []) in
    let both = length-append first (y ∷ later) in
    let longer = ap length f ∙ length-append xs (x ∷ rest) in
    omega (arith, whole, one, both, longer)

-- one more row is taken
each_more : (library : Library) (target : ℕ) (before : List EditRow) (row : EditRow)
    → EachIsTaken library target before
    → ((fault : EditFault) → ¬ (RowFault library target before row (number_behind before) fault))
    → EachIsTaken library target (before ++ row ∷ [])
each_more library target before row taken last first r later split fault refused =
    elim (two_ways before row [] first r later split) [
      | inl same ↦ last fault
          (subst (λ (x : EditRow). RowFault library target before x (number_behind before) fault)
          (sym same.1)
          (subst (λ (b : List EditRow). RowFault library target b r (number_behind b) fault)
          (sym same.0) refused))
      | inr (inl more) ↦ none_behind before row first r later more.0 split more.1
      | inr (inr more) ↦ taken first r more.0 more.1 fault refused
    ]

-- what one more row takes
takings_on : (library : Library) (before : List EditRow) (row : EditRow)
    → takings_in library (before ++ row ∷ []) ≡ takings_in library before ++ takings_of library row
takings_on library before row =
    flat_map-append (takings_of library) before (row ∷ [])
    ∙ ap (λ l. takings_in library before ++ l) (append-nil (takings_of library row))

-- the first row that is refused
pub first_refused : (library : Library) (target : ℕ) (rows : List EditRow) (i : ℕ) (row : EditRow)
    (cutting : Cutting) (fault : EditFault) → i < length rows → row ≡ get_or rows i row
    → HasCut library target (take i rows) cutting → RefusesRow library target row cutting fault
    → FirstRefused library target rows fault ⊎ (fault ≡ Memory)
first_refused library target rows i row cutting fault within is has refused =
    elim (refused (take i rows) has) [
      | inl why ↦ inl (record {
        before = take i rows;
        row = row;
        behind = drop (i + 1) rows;
        split = sym (take-append-drop i rows) ∙ ap (λ l. take i rows ++ l)
            (drop_more rows i row within
            ∙ ap (λ (r : EditRow). r ∷ drop (i + 1) rows) (sym is));
        taken = has.taken;
        refused = why;
      })
      | inr memory ↦ inr memory
    ]

-- ---- one more row

-- a row has no place
pub refused_place : (library : Library) (target : ℕ) (row : EditRow) (old : Cutting) (n : ℕ)
    (fault : EditFault) → n ≡ length old.places + 2
    → MayRefuse library target old.places row n fault → RefusesRow library target row old fault
refused_place library target row old n fault number refused before has =
    subst (λ n. RowFault library target before row n fault ⊎ (fault ≡ Memory))
    (number ∙ ap (λ k. k + 2) (ap length has.places ∙ length-map before place_of))
    (refused before has.places)

module _ (library : Library) (target : ℕ) (row : EditRow) (old : Cutting) (placed : Placed)
    (is : IsPlaced library target old.places row placed) where
  -- what the clip takes is what the row takes
  takings_are : takings_from library row.flow placed.clip ≡ takings_of library row
  takings_are = ap (takings_from library row.flow) is.clip_is

  -- no earlier row stands there
  apart_from : (before : List EditRow) → ArePlacesOf before old.places
      → ¬ (StandsOverEarlier before row)
  apart_from before places over =
      is.apart (stands_over_place before row old.places places (place_of row) refl over)

  -- a piece of the row is refused
  pub refused_taking : (n : ℕ) (fault : EditFault) → n ≡ length old.places + 2
      → MayRefuseTaking library row.flow placed.clip old.pieces n fault
      → RefusesRow library target row old fault
  refused_taking n fault number refused before has =
      refused_place library target row old n fault number (λ rows places. elim
      (refused (takings_in library before) has.pieces has.near) [
        | inl why ↦ inl (inr (
          is.kept,
          inr (
            is.format,
            inr (
              is.within,
              inr (
                apart_from rows places,
                inr (
                  is.free,
                  pieces_refused library row n fault
                      (subst (λ ts. TakingFault ts n fault) takings_are why),
                ),
              ),
            ),
          ),
        ))
        | inr memory ↦ inr memory
      ]) before has

  -- the pieces of the row are added
  pub adds_row : (new : Pieces) → TakesRow library row.flow placed.clip old.pieces new
      → Adds (takings_of library row) old.pieces new
  adds_row new takes = subst (λ ts. Adds ts old.pieces new) takings_are takes.0

  -- and so it isn't refused
  not_refused : (before : List EditRow) → HasCut library target before old → (new : Pieces)
      → TakesRow library row.flow placed.clip old.pieces new → (n : ℕ) (fault : EditFault)
      → ¬ (RowFault library target before row n fault)
  not_refused before has new takes n fault (inl (unkept, e)) = is.kept unkept
  not_refused before has new takes n fault (inr (kept, inl (two, e))) = is.format two
  not_refused before has new takes n fault (inr (kept, inr (one, inl (passes, e)))) =
      is.within passes
  not_refused before has new takes n fault (inr (kept, inr (one, inr (stays, inl (over, e))))) =
      apart_from before has.places over
  not_refused before has new takes n fault
      (inr (kept, inr (one, inr (stays, inr (apart, inl (over, e)))))) = is.free over
  not_refused before has new takes n fault
      (inr (kept, inr (one, inr (stays, inr (apart, inr (free, inl (some, e))))))) =
      let all = adds_row new takes (takings_in library before) has.pieces in
      all.rated (SomeOf-right NeedsRate (takings_in library before) (takings_of library row)
      (some_taking NeedsRate library row some))
  not_refused before has new takes n fault
      (inr (kept, inr (one, inr (stays, inr (apart, inr (free, inr (rated, inl (some, e)))))))) =
      let all = adds_row new takes (takings_in library before) has.pieces in
      all.near takes.1 (SomeOf-right GoesTooFar (takings_in library before)
      (takings_of library row) (some_taking GoesTooFar library row some))
  not_refused before has new takes n fault
      (inr (kept, inr (one, inr (stays, inr (apart, inr (free, inr (rated, inr (near, none)))))))) =
      none

  -- one more row is cut
  pub cuts_row : (new : Cutting) → TakesRow library row.flow placed.clip old.pieces new.pieces
      → new.places ≡ old.places ++ placed.place ∷ [] → CutsRow library target row old new
  cuts_row new takes places before has = record {
    taken = each_more library target before row has.taken
        (λ fault. not_refused before has new.pieces takes (number_behind before) fault);
    places = places ∙ (ap (λ l. l ++ placed.place ∷ []) has.places
        ∙ (ap (λ (p : Option Span). map place_of before ++ p ∷ []) is.place_is
        ∙ sym (map-append place_of before (row ∷ []))));
    pieces = subst (λ ts. HasPieces ts new.pieces) (sym (takings_on library before row))
        (adds_row new.pieces takes (takings_in library before) has.pieces);
    near = takes.1;
  }

-- ---- all rows

module _ (library : Library) (target : ℕ) (rows : List EditRow) (cutting : Cutting)
    (kept : ¬ (IsUnkept library target)) (has : HasCut library target rows cutting) where
  -- there are too many pieces
  pub too_many : cutting.pieces.many ≡ true → IsCuttingFault library target rows TooMany
  too_many many = inl (inr (
    kept,
    inr (record {
      taken = has.taken;
      many = has.pieces.many has.near many;
      is = refl;
    }),
  ))

  -- all are cut
  pub is_cut : cutting.pieces.many ≡ false → IsCutFor library target rows cutting.pieces.posts
  is_cut few = record {
    kept = kept;
    taken = has.taken;
    few = has.pieces.most has.near few;
    list = has.pieces.list;
    pieces = has.pieces.few has.near few;
  }

-- a flow that is found is kept
pub is_kept : (library : Library) (flow : ℕ) (kept : FlowRow)
    → flow_of flow library.catalog.flows ≡ Some kept → ¬ (IsUnkept library flow)
is_kept library flow kept there none = cc
