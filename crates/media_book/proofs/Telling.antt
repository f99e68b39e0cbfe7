-- Segments of a list that are told one after the other.
use Rattle.std.proofs.Common.{◌≡◌, ℕ, ◌+◌, true, not, List, [], ◌∷◌, ◌++◌, Option, Some, None, Err, length, length-append, refl, sym, ap, ap₂, subst, ◌∙◌, arith, append_assoc, append-nil}
use Rattle.std.specs.Prelude.{slice_get}
use Rattle.std.proofs.lemmas.Bool.{and_parts}
use Rattle.media_rows.specs.declared.refusal.BookFault.{BookFault}
use Rattle.media_rows.specs.declared.refusal.BookFault.TheVariants as books
use Rattle.media_rows.specs.declared.refusal.Refusal.{Refusal}
use Rattle.media_rows.specs.declared.refusal.Refusal.TheVariants.{NoObject}
use Rattle.media_rows.specs.declared.reply.SortedPosts.{SortedPosts}
use Rattle.media_rows.specs.declared.segment.Segment.{Segment}
use Rattle.media_rows.specs.Library.{Library}
use Rattle.media_rows.specs.Lists.{or_else}
use Rattle.media_rows.specs.Objects.{is_stored_object}
use Rattle.media_rows.specs.Posts.{failed_of, overlap_refusal, post_refusal, sorted, sorted_by}
use Rattle.media_rows.specs.Ranges.{has_both_ends}
use Rattle.media_rows.specs.Refusals.{IsChange, when}
use Rattle.media_rows.specs.Segments.{overlapping, posted}
use Rattle.media_rows.specs.Sound.{are_posts_good}
use Rattle.library_laws.specs.ListLaws.{joined}
use Rattle.library_laws.proofs.PostsKept.{posted_more}
use Rattle.media_book.specs.Media.{ListsAreToldAlike, Media, are_segments_below, library_with, list_told, media_of, with_posts}
use Rattle.media_book.specs.Within.Ties.{Telling, row_refusal}
use Rattle.media_book.proofs.Posts.{after_one, below_step, first_is, kept_same, row_of}

-- ---- a library tells a list as its media do

told_alike : (library : Library) (flow : ℕ) (front posts : List Segment)
    → sorted library flow front posts ≡ sorted (library_with (media_of library) library.next_serial) flow front posts
told_alike library flow front [] = refl
told_alike library flow front (post ∷ later) =
    ap₂ (λ a b. sorted_by (post_refusal library flow front post) post a b) (told_alike library flow (front ++ post ∷ []) later) (told_alike library flow front later)

pub lists_are_told_alike : ListsAreToldAlike
lists_are_told_alike library flow posts = told_alike library flow [] posts

-- ---- one after the other

sorted_step : (r s : Option Refusal) (post : Segment) (a b c d : SortedPosts) → r ≡ s → a ≡ c → b ≡ d → sorted_by r post a b ≡ sorted_by s post c d
sorted_step r s post a b c d one two three = rw (one, two, three) refl

-- what is told behind one that came is told by the media with it
told_first : (media : Media) (flow serial : ℕ) (post : Segment) (front later : List Segment)
    → sorted (library_with media serial) flow (post ∷ front) later
    ≡ sorted (library_with (after_one media flow serial post) (serial + 1)) flow front later
told_first media flow serial post front [] = refl
told_first media flow serial post front (next ∷ later) =
    sorted_step (post_refusal (library_with media serial) flow (post ∷ front) next)
    (post_refusal (library_with (after_one media flow serial post) (serial + 1)) flow front next) next
    (sorted (library_with media serial) flow (post ∷ front ++ next ∷ []) later) (sorted (library_with media serial) flow (post ∷ front) later)
    (sorted (library_with (after_one media flow serial post) (serial + 1)) flow (front ++ next ∷ []) later)
    (sorted (library_with (after_one media flow serial post) (serial + 1)) flow front later)
    (ap (λ l. or_else (when (not (is_stored_object media.objects next.object)) (NoObject next.object))
    (overlap_refusal (slice_get (overlapping l flow next.range None) 0))) (kept_same media flow serial post front))
    (told_first media flow serial post (front ++ next ∷ []) later) (told_first media flow serial post front later)

-- what is told of a list by the refusal of its first one
told_step : (media : Media) (flow serial : ℕ) (post : Segment) (later : List Segment) (refusal : Option Refusal)
    → row_refusal media (row_of flow serial post) ≡ refusal
    → list_told media serial flow (post ∷ later)
    ≡ sorted_by refusal post (list_told (after_one media flow serial post) (serial + 1) flow later) (list_told media serial flow later)
told_step media flow serial post later refusal is =
    sorted_step (post_refusal (library_with media serial) flow [] post) refusal post (sorted (library_with media serial) flow (post ∷ []) later)
    (list_told media serial flow later) (list_told (after_one media flow serial post) (serial + 1) flow later) (list_told media serial flow later)
    (first_is media flow serial post ∙ is) (told_first media flow serial post [] later) refl

-- ---- the loop

pub telling_starts : (flow serial : ℕ) (start media : Media) (told : SortedPosts) (posts : List Segment) → media ≡ start → told.kept ≡ [] → told.failed ≡ []
    → are_segments_below serial start.segments ≡ true → are_posts_good posts ≡ true → Telling flow serial serial start media told posts posts
telling_starts flow serial start media told posts same kept failed below good =
    let none : told ≡ record { kept = []; failed = [] } = ap₂ (λ k f. (let t : SortedPosts = record { kept = k; failed = f } in t)) kept failed in
    rw (same, none) (record {
      rest = refl;
      came = ap (λ l. record { blocks = start.blocks; segments = l; objects = start.objects }) (sym (append-nil start.segments));
      at = omega arith;
      below = below;
      bounded = good;
      fits = omega arith;
    })

-- one more is kept
abbrev one_kept : SortedPosts → Segment → SortedPosts
one_kept told post = record { kept = told.kept ++ post ∷ []; failed = told.failed }

-- one more failed
abbrev pub one_failed : SortedPosts → Refusal → Segment → SortedPosts
one_failed told why post = record { kept = told.kept; failed = told.failed ++ failed_of why post ∷ [] }

came_more : (flow serial next : ℕ) (start : Media) (kept : List Segment) (post : Segment) → next ≡ serial + length kept
    → with_posts flow next (post ∷ []) (with_posts flow serial kept start) ≡ with_posts flow serial (kept ++ post ∷ []) start
came_more flow serial next start kept post at =
    ap (λ l. record { blocks = start.blocks; segments = l; objects = start.objects })
    (append_assoc start.segments (posted flow serial kept) (posted flow next (post ∷ []))
    ∙ ap (λ l. start.segments ++ l) (sym (posted_more flow serial kept post next at)))

pub telling_keeps : (flow serial next : ℕ) (start media after : Media) (told : SortedPosts) (all left later : List Segment) (post : Segment)
    → Telling flow serial next start media told all left → left ≡ post ∷ later → row_refusal media (row_of flow next post) ≡ None
    → after ≡ with_posts flow next (post ∷ []) media → Telling flow serial (next + 1) start after (one_kept told post) all later
telling_keeps flow serial next start media after told all left later post was shape free is =
    let good = and_parts (has_both_ends post.range) (are_posts_good later) (subst (λ l. are_posts_good l ≡ true) shape was.bounded) in
    let rest : SortedPosts = list_told (after_one media flow next post) (next + 1) flow later in
    let long : length (told.kept ++ post ∷ []) ≡ length told.kept + 1 = length-append told.kept (post ∷ []) in
    let left_is : length left ≡ length later + 1 = ap length shape ∙ (omega arith) in
    rw is (record {
      rest = was.rest ∙ ap (λ l. joined told (list_told media next flow l)) shape ∙ ap (joined told) (told_step media flow next post later None free)
          ∙ ap₂ (λ k f. (let t : SortedPosts = record { kept = k; failed = f } in t)) (sym (append_assoc told.kept (post ∷ []) rest.kept)) refl;
      came = ap (with_posts flow next (post ∷ [])) was.came ∙ came_more flow serial next start told.kept post was.at;
      at = omega (arith, was.at, long);
      below = below_step flow next post media.segments was.below;
      bounded = good.1;
      fits = omega (arith, was.fits, left_is);
    })

pub telling_fails : (flow serial next : ℕ) (start media : Media) (told : SortedPosts) (all left later : List Segment) (post : Segment) (why : Refusal)
    → Telling flow serial next start media told all left → left ≡ post ∷ later → row_refusal media (row_of flow next post) ≡ Some why
    → Telling flow serial next start media (one_failed told why post) all later
telling_fails flow serial next start media told all left later post why was shape refused =
    let good = and_parts (has_both_ends post.range) (are_posts_good later) (subst (λ l. are_posts_good l ≡ true) shape was.bounded) in
    let rest : SortedPosts = list_told media next flow later in
    let left_is : length left ≡ length later + 1 = ap length shape ∙ (omega arith) in
    record {
      rest = was.rest ∙ ap (λ l. joined told (list_told media next flow l)) shape ∙ ap (joined told) (told_step media flow next post later (Some why) refused)
          ∙ ap₂ (λ k f. (let t : SortedPosts = record { kept = k; failed = f } in t)) refl (sym (append_assoc told.failed (failed_of why post ∷ []) rest.failed));
      came = was.came;
      at = was.at;
      below = was.below;
      bounded = good.1;
      fits = omega (arith, was.fits, left_is);
    }

-- the ends of the next one
pub telling_bounded : (flow serial next : ℕ) (start media : Media) (told : SortedPosts) (all left later : List Segment) (post : Segment)
    → Telling flow serial next start media told all left → left ≡ post ∷ later → has_both_ends post.range ≡ true
telling_bounded flow serial next start media told all left later post was shape =
    (and_parts (has_both_ends post.range) (are_posts_good later) (subst (λ l. are_posts_good l ≡ true) shape was.bounded)).0

-- all were told
pub telling_done : (flow serial next : ℕ) (start media : Media) (told : SortedPosts) (all left : List Segment)
    → Telling flow serial next start media told all left → left ≡ [] → told ≡ list_told start serial flow all
telling_done flow serial next start media told all left was none =
    ap₂ (λ k f. (let t : SortedPosts = record { kept = k; failed = f } in t)) (sym (append-nil told.kept)) (sym (append-nil told.failed))
    ∙ ap (λ l. joined told (list_told media next flow l)) (sym none) ∙ sym was.rest

-- the refusal of one that isn't added
pub refused_by : (refusal : Option Refusal) (next : Media) (fault : BookFault) (why : Refusal) → IsChange refusal next (Err fault) → fault ≡ books.Refused why
    → refusal ≡ Some why
refused_by refusal next fault why was is = subst (λ f. IsChange refusal next (Err f)) is was
