-- What a clip takes of a segment: there is one such piece, and it shows what the segment showed.
use Rattle.std.proofs.Common.{◌≡◌, ◌<◌, ◌+◌, ◌^◌, ℕ, suc, ℤ, ◌-ℤ◌, Bool, true, false, not, List, [], ◌∷◌, Option, Some, None, refl, sym, ap, ◌∙◌, arith, ⊎_elim}
use Rattle.std.specs.Prelude.{All}
use Rattle.std.specs.List.{list_all}
use Rattle.std.proofs.lemmas.Bool.{and_from, cases_order, false≢true}
use Rattle.std.proofs.lemmas.Int.{ints}
use Rattle.time_range.specs.Points.{instant}
use Rattle.time_range.specs.declared.ranges.Span.{Span}
use Rattle.media_rows.specs.declared.segment.Segment.{Segment}
use Rattle.media_rows.specs.Objects.{is_stored_object}
use Rattle.media_rows.specs.Ranges.{covers, has_both_ends}
use Rattle.media_rows.proofs.RangeLemmas.{covers_decides}
use Rattle.segment_pieces.specs.declared.clip.Clip.{Clip}
use Rattle.segment_pieces.specs.declared.rate.Rate.{Rate}
use Rattle.segment_pieces.specs.Laws.{IsOnePiece, IsPieceOfGood, PiecesAreBounded, PiecesAreStored, PiecesShowWhatWasShown, PostsAreGood, WholePartsAreWhole}
use Rattle.segment_pieces.specs.Pieces.{HasSamples, IsPiece, IsWholeOf, NumberPast, is_cut, part_of}
use Rattle.segment_pieces.specs.Samples.{StandBefore}
use Rattle.segment_pieces.proofs.RangeLemmas.{Has-meet, Has-moved, is_meet, moved_bounded, part_bounded}

-- ---- the samples before a part

-- numbers below which the same numbers lie are equal
same_bound : (a b : ℕ) → ((k : ℕ) → k < a → k < b) → ((k : ℕ) → k < b → k < a) → a ≡ b
same_bound a b up down = ⊎_elim
    (λ same. same)
    (λ apart. ⊎_elim (λ less. let more = down a less in absurd (omega arith))
    (λ less. let more = up b less in absurd (omega arith)) apart)
    (cases_order a b)

-- just one number of samples stands before a part
pub same_before : (rate : Rate) (range part : Option Span) (a b : ℕ)
    → StandBefore rate range part a → StandBefore rate range part b → a ≡ b
same_before rate range part a b one other =
    same_bound a b (λ k below. (other k).1 ((one k).0 below))
    (λ k below. (one k).1 ((other k).0 below))

-- a number that fits is not past
pub not_past : (rate : Rate) (part : Option Span) (segment : Segment) (before : ℕ)
    → StandBefore rate segment.range part before
    → segment.sample_offset + before < 2 ^ 64 → NumberPast rate part segment → ⊥
not_past rate part segment before stand fits past =
    let same = same_before rate segment.range part before past.before stand past.stand_before in
    let far = past.past in
    omega arith

-- what isn't false is true
not_false : (test : Bool) → not test ≡ false → test ≡ true
not_false true e = refl
not_false false e = absurd (false≢true (sym e))

-- ---- one piece

-- what is said of the samples is the same
pub record SameSamples (piece other : Segment) : Type 0 where
  pub offset : piece.sample_offset ≡ other.sample_offset
  pub count : piece.sample_count ≡ other.sample_count
  pub key_frames : piece.key_frames ≡ other.key_frames
  pub last : piece.last_duration ≡ other.last_duration

-- where it is the same, one is a whole piece where the other is
pub whole_passes : (segment piece other : Segment) → SameSamples other piece
    → IsWholeOf segment piece → IsWholeOf segment other
whole_passes segment piece other same whole = record {
  offset = same.offset ∙ whole.offset;
  count = same.count ∙ whole.count;
  key_frames = same.key_frames ∙ whole.key_frames;
  last = same.last ∙ whole.last;
}

-- and a cut one where the other is
pub cut_passes : (rate : Option Rate) (part : Option Span) (segment piece other : Segment)
    → SameSamples other piece → HasSamples rate part segment piece
    → HasSamples rate part segment other
cut_passes None part segment piece other same cut = cut
cut_passes (Some rate) part segment piece other same cut = record {
  before = cut.before;
  stand_before = cut.stand_before;
  offset = same.offset ∙ cut.offset;
  count = same.count ∙ cut.count;
  key_frames = same.key_frames ∙ cut.key_frames;
  last = same.last ∙ cut.last;
}

-- so two whole pieces have the same
same_whole : (segment piece other : Segment) → IsWholeOf segment piece → IsWholeOf segment other
    → SameSamples piece other
same_whole segment piece other one two = record {
  offset = one.offset ∙ sym two.offset;
  count = one.count ∙ sym two.count;
  key_frames = one.key_frames ∙ sym two.key_frames;
  last = one.last ∙ sym two.last;
}

-- and two cut ones
same_cut : (rate : Option Rate) (part : Option Span) (segment piece other : Segment)
    → HasSamples rate part segment piece → HasSamples rate part segment other
    → SameSamples piece other
same_cut None part segment piece other one two = absurd one
same_cut (Some rate) part segment piece other one two = record {
  offset = one.offset ∙ ap (λ n. segment.sample_offset + n)
      (same_before rate segment.range part one.before two.before one.stand_before two.stand_before)
      ∙ sym two.offset;
  count = one.count ∙ sym two.count;
  key_frames = one.key_frames ∙ sym two.key_frames;
  last = one.last ∙ sym two.last;
}

-- cut or not, two pieces by one clip have the same
same_samples : (clip : Clip) (segment piece other : Segment) (cut : Bool)
    → is_cut clip segment ≡ cut → IsPiece clip segment piece → IsPiece clip segment other
    → SameSamples piece other
same_samples clip segment piece other true e one two =
    same_cut clip.rate (part_of clip segment) segment piece other (one.cut e) (two.cut e)
same_samples clip segment piece other false e one two =
    same_whole segment piece other (one.whole e) (two.whole e)

-- a segment of these parts
made : List ℕ → Option Span → ℤ → Option ℤ → ℕ → Option ℕ → Option ℕ → Segment
made object range ts_offset last offset count key_frames = record {
  object = object;
  range = range;
  ts_offset = ts_offset;
  last_duration = last;
  sample_offset = offset;
  sample_count = count;
  key_frames = key_frames;
}

-- a segment is made of its parts
is_made : (a : Segment) → a ≡ made a.object a.range a.ts_offset a.last_duration a.sample_offset
    a.sample_count a.key_frames
unfolding made
is_made a = refl

-- segments of the same parts are one
same_segment : (a b : Segment) → a.object ≡ b.object → a.range ≡ b.range → a.ts_offset ≡ b.ts_offset
    → SameSamples a b → a ≡ b
same_segment a b object range ts_offset samples =
    is_made a
    ∙ (let same : made a.object a.range a.ts_offset a.last_duration a.sample_offset a.sample_count
    a.key_frames
    ≡ made b.object b.range b.ts_offset b.last_duration b.sample_offset b.sample_count
    b.key_frames = cc in same)
    ∙ sym (is_made b)

-- the parts of two pieces are the same
pub one_piece : IsOnePiece
one_piece clip segment piece other one two =
    same_segment piece other (one.object ∙ sym two.object) (one.range ∙ sym two.range)
    (one.ts_offset ∙ sym two.ts_offset)
    (same_samples clip segment piece other _ refl one two)

-- ---- cut pieces

-- ranges of the same points are one, and a test says whether one range covers another
pub whole_parts_are_whole : WholePartsAreWhole
whole_parts_are_whole clip segment fine_clip fine_segment =
    let tells = covers_decides clip.range segment.range fine_clip fine_segment in (
      λ e. sym (is_meet segment.range clip.range segment.range fine_segment fine_clip fine_segment
          (λ p. (λ h. (h, tells.0 (not_false (covers clip.range segment.range) e) p h), λ h. h.0))),
      λ same. ap not (tells.1 (λ p h. ((Has-meet segment.range clip.range p).0 (rw same h)).1)),
    )

-- ---- what a piece shows

-- moving back a point leads to the part, whose points are in both ranges
pub pieces_show_what_was_shown : PiecesShowWhatWasShown
pieces_show_what_was_shown clip segment piece is = record {
  points = λ p. rw is.range (
    λ h. (Has-meet segment.range clip.range (p -ℤ instant clip.shift)).0
        ((Has-moved (part_of clip segment) clip.shift p).0 h),
    λ h. (Has-moved (part_of clip segment) clip.shift p).1
        ((Has-meet segment.range clip.range (p -ℤ instant clip.shift)).1 h),
  );
  media = λ p h. rw is.ts_offset (omega (arith, ints));
}

-- ---- posts of pieces

-- a part has both ends, and keeps them where it is moved
pub pieces_are_bounded : PiecesAreBounded
pieces_are_bounded piece of_good =
    rw of_good.is_piece.range (moved_bounded _ of_good.clip.shift
    (part_bounded of_good.segment.range of_good.clip.range of_good.bounded of_good.overlap))

-- a piece has the segment's object
pub pieces_are_stored : PiecesAreStored
pieces_are_stored library clip segment piece is = ap (is_stored_object library.objects) is.object

-- each of a list of pieces is bounded
all_bounded : (pieces : List Segment) → All IsPieceOfGood pieces
    → list_all (λ (piece : Segment). has_both_ends piece.range) pieces ≡ true
all_bounded [] all = refl
all_bounded (piece ∷ pieces) all =
    and_from (has_both_ends piece.range)
    (list_all (λ (other : Segment). has_both_ends other.range) pieces)
    (pieces_are_bounded piece (all 0 piece (omega arith)))
    (all_bounded pieces (λ k d below. all (suc k) d (omega arith)))

-- which is what is asked of a post
pub posts_are_good : PostsAreGood
posts_are_good library flow posts all = all_bounded posts.segments all
