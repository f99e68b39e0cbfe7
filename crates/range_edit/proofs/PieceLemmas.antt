-- What clips take of segments, and the pieces of it so far.
use Rattle.std.proofs.Common.{◌≡◌, ◌∙◌, ◌<◌, ◌≤◌, ◌+◌, ◌⊎◌, inl, inr, ℕ, Bool, true, false, List, [], ◌∷◌, ◌++◌, length, take, get_or, refl, sym, ap, subst, arith, true≢false, Ok, Err, Result}
use Rattle.std.specs.List.{AllZip, Contains}
use Rattle.std.proofs.lemmas.List.{append-nil, append_assoc, length-append, map-append, take_more}
use Rattle.std.proofs.lemmas.List.Elements.{Contains-append_cases, Contains-append_left, Contains-append_right}
use Rattle.std.proofs.lemmas.Slice.Zip.{AllZip-long}
use Rattle.library_laws.proofs.ListLemmas.{Contains-from_In, In-from_Contains, map-In}
use Rattle.media_rows.specs.declared.segment.PostList.{PostList}
use Rattle.media_rows.specs.declared.segment.Segment.{Segment}
use Rattle.media_rows.specs.declared.segment.SegmentRow.{SegmentRow}
use Rattle.segment_pieces.specs.Pieces.{GoesTooFar, IsPiece, IsTooFar, NeedsRate}
use Rattle.segment_pieces.specs.declared.clip.Clip.{Clip}
use Rattle.segment_pieces.specs.declared.piece.PieceFault.{PieceFault}
use Rattle.segment_pieces.specs.declared.piece.PieceFault.TheVariants as faults
use Rattle.range_edit.specs.Assembling.{IsPieceOf, Taking, most_pieces}
use Rattle.range_edit.specs.Within.Cutting.{Adds, AddsPiece, HasPieces, IsRateFault, SomeOf, taking_by, takings_by}
use Rattle.range_edit.specs.declared.pieces.Pieces.{Pieces}
use Rattle.range_edit.proofs.ListLemmas.{AllZip-push}

-- ---- takings

-- one of two lists of takings is so
pub SomeOf-append : (IsSo : Clip → Segment → Type 0) (xs ys : List Taking) → SomeOf IsSo (xs ++ ys)
    → SomeOf IsSo xs ⊎ SomeOf IsSo ys
SomeOf-append IsSo xs ys some = elim (Contains-append_cases xs ys some.0 some.1) [
  | inl first ↦ inl (some.0, first, some.2)
  | inr later ↦ inr (some.0, later, some.2)
]

-- one of the first list is one of both
pub SomeOf-left : (IsSo : Clip → Segment → Type 0) (xs ys : List Taking) → SomeOf IsSo xs
    → SomeOf IsSo (xs ++ ys)
SomeOf-left IsSo xs ys some = (some.0, Contains-append_left xs ys some.0 some.1, some.2)

-- and so is one of the second list
pub SomeOf-right : (IsSo : Clip → Segment → Type 0) (xs ys : List Taking) → SomeOf IsSo ys
    → SomeOf IsSo (xs ++ ys)
SomeOf-right IsSo xs ys some = (some.0, Contains-append_right xs ys some.0 some.1, some.2)

-- a taking that is so
pub SomeOf-one : (IsSo : Clip → Segment → Type 0) (t : Taking) → IsSo t.clip t.segment
    → SomeOf IsSo (t ∷ [])
SomeOf-one IsSo t so = (t, Contains-from_In (t ∷ []) t (inl refl), so)

-- a lone one is the one that is so
lone_is : (IsSo : Clip → Segment → Type 0) (t : Taking) → SomeOf IsSo (t ∷ [])
    → IsSo t.clip t.segment
lone_is IsSo t some = elim (In-from_Contains (t ∷ []) some.0 some.1) [
  | inl same ↦ subst (λ (x : Taking). IsSo x.clip x.segment) same some.2
  | inr none ↦ absurd none
]

-- no taking is so, and one more isn't either
none_more : (IsSo : Clip → Segment → Type 0) (before : List Taking) (t : Taking)
    → ¬ (SomeOf IsSo before) → ¬ (IsSo t.clip t.segment) → ¬ (SomeOf IsSo (before ++ t ∷ []))
none_more IsSo before t none not some = elim (SomeOf-append IsSo before (t ∷ []) some) [
  | inl first ↦ none first
  | inr last ↦ not (lone_is IsSo t last)
]

-- ---- one more piece

module _ (before : List Taking) (t : Taking) (old : Pieces) (has : HasPieces before old) where
  -- one more taking
  longer : length (before ++ t ∷ []) ≡ length before + 1
  longer = length-append before (t ∷ [])

  -- as many pieces as takings
  as_many : old.far ≡ false → old.many ≡ false → length old.posts.segments ≡ length before
  as_many near few = AllZip-long IsPieceOf before old.posts.segments (has.few near few)

  -- a piece that is kept
  pub adds_kept : (piece : Segment) (posts : PostList) → IsPieceOf t piece
      → ¬ (NeedsRate t.clip t.segment) → ¬ (GoesTooFar t.clip t.segment)
      → length old.posts.segments < most_pieces → posts.single ≡ old.posts.single
      → posts.segments ≡ old.posts.segments ++ piece ∷ []
      → HasPieces (before ++ t ∷ []) (record { posts = posts; many = old.many; far = old.far })
  adds_kept piece posts is rated near room single segments = record {
    list = single ∙ has.list;
    rated = none_more NeedsRate before t has.rated rated;
    far = λ e. SomeOf-left GoesTooFar before (t ∷ []) (has.far e);
    near = λ e. none_more GoesTooFar before t (has.near e) near;
    many = λ e m. let many = has.many e m in omega (arith, longer);
    few = λ e m. subst (AllZip IsPieceOf (before ++ t ∷ [])) (sym segments)
        (AllZip-push IsPieceOf before old.posts.segments t piece (has.few e m) is);
    most = λ e m. let same = as_many e m in omega (arith, longer);
  }

  -- too many, once the most are kept
  past_most : (many : Bool) → old.many ≡ many → old.far ≡ false
      → most_pieces ≤ length old.posts.segments → most_pieces < length (before ++ t ∷ [])
  past_most true e near full = let many = has.many near e in omega (arith, longer)
  past_most false e near full = let same = as_many near e in omega (arith, longer)

  -- a piece for which there is no room
  pub adds_dropped : ¬ (NeedsRate t.clip t.segment) → ¬ (GoesTooFar t.clip t.segment)
      → most_pieces ≤ length old.posts.segments
      → HasPieces (before ++ t ∷ []) (record { posts = old.posts; many = true; far = old.far })
  adds_dropped rated near full = record {
    list = has.list;
    rated = none_more NeedsRate before t has.rated rated;
    far = λ e. SomeOf-left GoesTooFar before (t ∷ []) (has.far e);
    near = λ e. none_more GoesTooFar before t (has.near e) near;
    many = λ e m. past_most old.many refl e full;
    few = λ e m. absurd (true≢false m);
    most = λ e m. absurd (true≢false m);
  }

  -- a piece that would go too far
  pub adds_far : ¬ (NeedsRate t.clip t.segment) → GoesTooFar t.clip t.segment
      → HasPieces (before ++ t ∷ []) (record { posts = old.posts; many = old.many; far = true })
  adds_far rated far = record {
    list = has.list;
    rated = none_more NeedsRate before t has.rated rated;
    far = λ e. SomeOf-right GoesTooFar before (t ∷ []) (SomeOf-one GoesTooFar t far);
    near = λ e. absurd (true≢false e);
    many = λ e m. absurd (true≢false e);
    few = λ e m. absurd (true≢false e);
    most = λ e m. absurd (true≢false e);
  }

-- ---- one taking behind another

-- none is added
pub adds_none : (pieces : Pieces) → Adds [] pieces pieces
adds_none pieces before has = subst (λ ts. HasPieces ts pieces) (sym (append-nil before)) has

-- some are added, and then others
pub adds_both : (xs ys : List Taking) (old mid new : Pieces) → Adds xs old mid → Adds ys mid new
    → Adds (xs ++ ys) old new
adds_both xs ys old mid new first later before has =
    subst (λ ts. HasPieces ts new) (append_assoc before xs ys)
    (later (before ++ xs) (first before has))

-- the takings of one more row
pub takings_more : (clip : Clip) (rows : List SegmentRow) (i : ℕ) (row : SegmentRow)
    → i < length rows → row ≡ get_or rows i row
    → takings_by clip (take (i + 1) rows)
    ≡ takings_by clip (take i rows) ++ taking_by clip row.segment ∷ []
takings_more clip rows i row within is =
    ap (takings_by clip) (take_more rows i row within)
    ∙ (map-append (λ r. taking_by clip r.segment) (take i rows) (get_or rows i row ∷ [])
    ∙ ap (λ (r : SegmentRow). takings_by clip (take i rows) ++ taking_by clip r.segment ∷ [])
    (sym is))

-- the fault of one taking is that of all
pub fault_of_one : (takings : List Taking) (t : Taking) (fault : PieceFault) → Contains takings t
    → IsRateFault (t ∷ []) fault → IsRateFault takings fault
fault_of_one takings t faults.NoRate here some = (t, here, lone_is NeedsRate t some)
fault_of_one takings t faults.TooFar here none = none
fault_of_one takings t faults.Memory here any = tt

-- a row's taking is one of the takings of the rows
pub taking_there : (clip : Clip) (rows : List SegmentRow) (i : ℕ) (row : SegmentRow)
    → i < length rows → row ≡ get_or rows i row
    → Contains (takings_by clip rows) (taking_by clip row.segment)
taking_there clip rows i row within is =
    Contains-from_In (takings_by clip rows) (taking_by clip row.segment)
    (map-In (λ r. taking_by clip r.segment) rows row (In-from_Contains rows row
    (i, within, sym is)))

-- a piece is added, for which no fault was told
pub takes_by : (clip : Clip) (segment piece : Segment) (told : Result Segment PieceFault)
    (old new : Pieces) → told ≡ Ok piece → IsPiece clip segment piece
    → (NeedsRate clip segment → told ≡ Err faults.NoRate)
    → (IsTooFar clip segment → told ≡ Err faults.TooFar)
    → AddsPiece piece old new → Adds (taking_by clip segment ∷ []) old new
takes_by clip segment piece told old new is_ok is no_rate too_far adds =
    let rated : ¬ (NeedsRate clip segment) = λ needs. let e = no_rate needs in cc in
    adds (taking_by clip segment) is rated (λ far. let e = too_far (far, rated) in cc)
