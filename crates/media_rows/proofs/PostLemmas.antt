-- A list of which nothing is kept and nothing failed.
use Rattle.std.proofs.Common.{◌≡◌, List, [], ◌∷◌, length, None, refl}
use Rattle.std.specs.Prelude.{slice_get}
use Rattle.media_rows.specs.declared.reply.FailedSegment.{FailedSegment}
use Rattle.media_rows.specs.declared.reply.SortedPosts.{SortedPosts}
use Rattle.media_rows.specs.declared.segment.Segment.{Segment}
use Rattle.media_rows.specs.Answer.{list_refusal, refusal_by}

none_by : (kept new_kept : List Segment) (failed new_failed : List FailedSegment) → kept ≡ [] → slice_get failed 0 ≡ None → new_kept ≡ [] → new_failed ≡ []
    → ((let new : SortedPosts = record { kept = new_kept; failed = new_failed } in new) ≡ record { kept = kept; failed = failed })
    × (refusal_by kept failed ≡ None)
none_by kept new_kept [] new_failed none first kept_none failed_none = rw (none, kept_none, failed_none) (refl, refl)
none_by kept new_kept (one ∷ later) new_failed none first kept_none failed_none = absurd (cc)

pub nothing_told : (told new : SortedPosts) → told.kept ≡ [] → slice_get told.failed 0 ≡ None → new.kept ≡ [] → new.failed ≡ []
    → (new ≡ told) × (list_refusal told ≡ None)
nothing_told told new none first kept_none failed_none = none_by told.kept new.kept told.failed new.failed none first kept_none failed_none

pub none_of_length : {X : Type 0} (xs : List X) → length xs ≡ 0 → xs ≡ []
none_of_length [] e = refl
none_of_length (x ∷ xs) e = absurd (cc)
