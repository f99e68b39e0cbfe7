-- What is kept of a list that is answered segment by segment, and what fails.
use Rattle.std.proofs.Common.{◌≡◌, ℕ, Bool, true, List, [], ◌∷◌, ◌++◌, Option, Some, None, refl, sym, ap, ◌∙◌, append_assoc, append-nil}
use Rattle.std.specs.List.{list_all}
use Rattle.std.proofs.lemmas.Bool.{and_from, and_parts}
use Rattle.media_rows.specs.declared.refusal.Refusal.{Refusal}
use Rattle.media_rows.specs.declared.reply.SortedPosts.{SortedPosts}
use Rattle.media_rows.specs.declared.segment.Segment.{Segment}
use Rattle.media_rows.specs.Answer.{change_refusal, list_refusal, posting_refusal}
use Rattle.media_rows.specs.Library.{Library}
use Rattle.media_rows.specs.Lists.{or_else}
use Rattle.media_rows.specs.Posts.{post_refusal, posts_refusal, refusals_behind, sorted, sorted_by}
use Rattle.media_rows.specs.Refusals.{first_refusal}
use Rattle.library_laws.specs.ListLaws.{ListsAreTold, joined, kept_of, told_alone, told_behind}
use Rattle.library_laws.proofs.Neither.{neither}

-- the first refusal of segments behind a front
abbrev refusal_behind : Library → ℕ → List Segment → List Segment → Option Refusal
refusal_behind library flow front posts = first_refusal (refusals_behind library flow front posts)

-- ---- those that are kept

kept_step : (o : Option Refusal) (library : Library) (flow : ℕ) (front later : List Segment) (post : Segment) → post_refusal library flow front post ≡ o
    → refusal_behind library flow (front ++ post ∷ []) (sorted library flow (front ++ post ∷ []) later).kept ≡ None
    → refusal_behind library flow front (sorted library flow front later).kept ≡ None
    → refusal_behind library flow front (sorted_by o post (sorted library flow (front ++ post ∷ []) later) (sorted library flow front later)).kept ≡ None
kept_step None library flow front later post is behind without =
    ap (λ r. or_else r (refusal_behind library flow (front ++ post ∷ []) (sorted library flow (front ++ post ∷ []) later).kept)) is ∙ behind
kept_step (Some why) library flow front later post is behind without = without

-- those that are kept are kept as a whole list
pub kept_come : (library : Library) (flow : ℕ) (front posts : List Segment) → refusal_behind library flow front (sorted library flow front posts).kept ≡ None
kept_come library flow front [] = refl
kept_come library flow front (post ∷ later) =
    kept_step (post_refusal library flow front post) library flow front later post refl (kept_come library flow (front ++ post ∷ []) later)
    (kept_come library flow front later)

test_step : (test : Segment → Bool) (o : Option Refusal) (post : Segment) (later : List Segment) (behind without : SortedPosts)
    → list_all test (post ∷ later) ≡ true → (list_all test later ≡ true → list_all test behind.kept ≡ true)
    → (list_all test later ≡ true → list_all test without.kept ≡ true) → list_all test (sorted_by o post behind without).kept ≡ true
test_step test None post later behind without all rest other =
    let parts = and_parts (test post) (list_all test later) all in and_from (test post) (list_all test behind.kept) parts.0 (rest parts.1)
test_step test (Some why) post later behind without all rest other = other (and_parts (test post) (list_all test later) all).1

-- a test that all segments of a list pass is passed by those that are kept
pub kept_pass : (test : Segment → Bool) (library : Library) (flow : ℕ) (front posts : List Segment) → list_all test posts ≡ true
    → list_all test (sorted library flow front posts).kept ≡ true
kept_pass test library flow front [] all = refl
kept_pass test library flow front (post ∷ later) all =
    test_step test (post_refusal library flow front post) post later (sorted library flow (front ++ post ∷ []) later) (sorted library flow front later) all
    (kept_pass test library flow (front ++ post ∷ []) later) (kept_pass test library flow front later)

-- ---- the refusal of a list

pub list_is_allowed : (library : Library) (flow : ℕ) (posts : List Segment) → or_else (change_refusal library flow) (list_refusal (sorted library flow [] posts)) ≡ None
    → posting_refusal library flow (sorted library flow [] posts).kept ≡ None
list_is_allowed library flow posts none =
    let parts = neither (change_refusal library flow) (list_refusal (sorted library flow [] posts)) none in
    ap (λ o. or_else o (posts_refusal library flow (sorted library flow [] posts).kept)) parts.0 ∙ kept_come library flow [] posts

-- ---- where none fails

whole_step : (o : Option Refusal) (post : Segment) (later : List Segment) (behind without : SortedPosts) → o ≡ None
    → behind ≡ record { kept = later; failed = [] } → sorted_by o post behind without ≡ record { kept = post ∷ later; failed = [] }
whole_step None post later behind without none is = ap (λ (s : SortedPosts). sorted_by None post s without) is
whole_step (Some why) post later behind without none is = absurd (cc)

-- a list that is kept whole is kept
pub whole_is_kept : (library : Library) (flow : ℕ) (front posts : List Segment) → refusal_behind library flow front posts ≡ None
    → sorted library flow front posts ≡ record { kept = posts; failed = [] }
whole_is_kept library flow front [] none = refl
whole_is_kept library flow front (post ∷ later) none =
    let parts = neither (post_refusal library flow front post) (refusal_behind library flow (front ++ post ∷ []) later) none in
    whole_step (post_refusal library flow front post) post later (sorted library flow (front ++ post ∷ []) later) (sorted library flow front later) parts.0
    (whole_is_kept library flow (front ++ post ∷ []) later parts.1)

same_step : (o : Option Refusal) (post : Segment) (later : List Segment) (behind without : SortedPosts)
    → (behind.failed ≡ [] → behind.kept ≡ later) → (sorted_by o post behind without).failed ≡ []
    → (sorted_by o post behind without).kept ≡ post ∷ later
same_step None post later behind without rest none = ap (λ l. post ∷ l) (rest none)
same_step (Some why) post later behind without rest none = absurd (cc)

-- where none fails all are kept
pub none_fails : (library : Library) (flow : ℕ) (front posts : List Segment) → (sorted library flow front posts).failed ≡ []
    → (sorted library flow front posts).kept ≡ posts
none_fails library flow front [] none = refl
none_fails library flow front (post ∷ later) none =
    same_step (post_refusal library flow front post) post later (sorted library flow (front ++ post ∷ []) later) (sorted library flow front later)
    (none_fails library flow (front ++ post ∷ []) later) none

-- ---- parts of a list

-- what is told of a list behind a front that is kept already
abbrev told_after : Library → ℕ → List Segment → SortedPosts → List Segment → SortedPosts
told_after library flow front first later = joined first (sorted library flow (front ++ first.kept) later)

joined_step : (o : Option Refusal) (library : Library) (flow : ℕ) (front later : List Segment) (post : Segment) (behind without first other : SortedPosts)
    → behind ≡ told_after library flow (front ++ post ∷ []) first later → without ≡ told_after library flow front other later
    → sorted_by o post behind without ≡ told_after library flow front (sorted_by o post first other) later
joined_step None library flow front later post behind without first other is other_is =
    ap (λ (s : SortedPosts). sorted_by None post s without) is
    ∙ ap (λ l. joined (sorted_by None post first other) (sorted library flow l later)) (append_assoc front (post ∷ []) first.kept)
joined_step (Some why) library flow front later post behind without first other is other_is =
    ap (λ (s : SortedPosts). sorted_by (Some why) post behind s) other_is

-- a list in two parts: the second one stands behind what is kept of the first
pub parts_are_joined : (library : Library) (flow : ℕ) (front posts later : List Segment)
    → sorted library flow front (posts ++ later) ≡ told_after library flow front (sorted library flow front posts) later
parts_are_joined library flow front [] later = ap (λ l. sorted library flow l later) (sym (append-nil front))
parts_are_joined library flow front (post ∷ more) later =
    joined_step (post_refusal library flow front post) library flow front later post (sorted library flow (front ++ post ∷ []) (more ++ later))
    (sorted library flow front (more ++ later)) (sorted library flow (front ++ post ∷ []) more) (sorted library flow front more)
    (parts_are_joined library flow (front ++ post ∷ []) more later) (parts_are_joined library flow front more later)

-- one segment
alone : (o : Option Refusal) (post : Segment) → sorted_by o post (record { kept = []; failed = [] }) (record { kept = []; failed = [] }) ≡ told_alone o post
alone None post = refl
alone (Some why) post = refl

-- a segment behind others
one_is_told : (library : Library) (flow : ℕ) (front later : List Segment) (post : Segment)
    → sorted library flow [] (front ++ post ∷ later)
    ≡ joined (sorted library flow [] front)
    (joined (told_behind library flow front post) (sorted library flow (kept_of library flow (front ++ post ∷ [])) later))
one_is_told library flow front later post =
    let kept : List Segment = kept_of library flow front in
    let told : SortedPosts = told_behind library flow front post in
    let one : sorted library flow kept (post ∷ []) ≡ told = alone (post_refusal library flow kept post) post in
    let behind : kept_of library flow (front ++ post ∷ []) ≡ kept ++ told.kept =
    ap (λ (s : SortedPosts). s.kept) (parts_are_joined library flow [] front (post ∷ []) ∙ ap (λ s. joined (sorted library flow [] front) s) one) in
    parts_are_joined library flow [] front (post ∷ later)
    ∙ ap (λ s. joined (sorted library flow [] front) s)
    (parts_are_joined library flow kept (post ∷ []) later ∙ ap (λ (s : SortedPosts). joined s (sorted library flow (kept ++ s.kept) later)) one
    ∙ ap (λ l. joined told (sorted library flow l later)) (sym behind))

pub lists_are_told : ListsAreTold
lists_are_told library flow posts = record {
  kept = kept_come library flow [] posts;
  none = (
    λ none. ap (refusal_behind library flow []) (sym (none_fails library flow [] posts none)) ∙ kept_come library flow [] posts,
    λ none. ap (λ (s : SortedPosts). s.failed) (whole_is_kept library flow [] posts none),
  );
  whole = λ none. ap (λ (s : SortedPosts). s.kept) (whole_is_kept library flow [] posts none);
  each = λ front later post is. ap (sorted library flow []) is ∙ one_is_told library flow front later post;
}
