-- Segments of a post that come one after the other, and their refusals.
use Rattle.std.proofs.Common.{◌≡◌, ℕ, ◌+◌, nat_lt, true, not, List, [], ◌∷◌, ◌++◌, Some, None, Err, refl, sym, ap, ap₂, subst, ◌∙◌, arith, append_assoc, append-nil}
use Rattle.std.specs.Prelude.{slice_get}
use Rattle.std.specs.List.{list_all}
use Rattle.std.proofs.lemmas.Bool.{and_from, and_parts}
use Rattle.std.proofs.lemmas.Bool.Decides.{nat_tests}
use Rattle.media_rows.specs.declared.refusal.BookFault.{BookFault}
use Rattle.media_rows.specs.declared.refusal.BookFault.TheVariants as books
use Rattle.media_rows.specs.declared.refusal.Refusal.{Refusal}
use Rattle.media_rows.specs.declared.refusal.Refusal.TheVariants.{NoObject}
use Rattle.media_rows.specs.declared.segment.Segment.{Segment}
use Rattle.media_rows.specs.declared.segment.SegmentRow.{SegmentRow}
use Rattle.media_rows.specs.Posts.{overlap_refusal, post_refusal, posts_refusal, refusals_behind}
use Rattle.media_rows.specs.Good.{rises_by}
use Rattle.media_rows.specs.Library.{Library}
use Rattle.media_rows.specs.Lists.{or_else}
use Rattle.media_rows.specs.Objects.{is_stored_object}
use Rattle.media_rows.specs.Ranges.{has_both_ends}
use Rattle.media_rows.specs.Refusals.{IsChange, first_refusal, when}
use Rattle.media_rows.specs.Segments.{overlapping, posted}
use Rattle.media_rows.specs.Sound.{are_posts_good}
use Rattle.media_book.specs.Media.{Media, PostsAreRefusedAlike, are_segments_below, library_with, media_of, with_posts}
use Rattle.media_book.specs.Within.Ties.{Adding, row_refusal}

-- the row of a post's segment
abbrev pub row_of : ℕ → ℕ → Segment → SegmentRow
row_of flow serial post = record { flow = flow; serial = serial; segment = post }

-- ---- the refusals of a library are those of its media

refused_alike : (library : Library) (flow : ℕ) (front posts : List Segment)
    → refusals_behind library flow front posts ≡ refusals_behind (library_with (media_of library) library.next_serial) flow front posts
refused_alike library flow front [] = refl
refused_alike library flow front (post ∷ later) =
    ap (λ l. post_refusal library flow front post ∷ l) (refused_alike library flow (front ++ post ∷ []) later)

pub posts_are_refused_alike : PostsAreRefusedAlike
posts_are_refused_alike library flow posts = ap first_refusal (refused_alike library flow [] posts)

-- ---- one after the other

-- the media once the first one came
abbrev pub after_one : Media → ℕ → ℕ → Segment → Media
after_one media flow serial post = with_posts flow serial (post ∷ []) media

-- what counts as kept behind the first one
pub kept_same : (media : Media) (flow serial : ℕ) (post : Segment) (front : List Segment)
    → media.segments ++ posted flow serial (post ∷ front)
    ≡ (media.segments ++ posted flow serial (post ∷ [])) ++ posted flow (serial + 1) front
kept_same media flow serial post front = sym (append_assoc media.segments (posted flow serial (post ∷ [])) (posted flow (serial + 1) front))

behind_first : (media : Media) (flow serial : ℕ) (post : Segment) (front later : List Segment)
    → refusals_behind (library_with media serial) flow (post ∷ front) later
    ≡ refusals_behind (library_with (after_one media flow serial post) (serial + 1)) flow front later
behind_first media flow serial post front [] = refl
behind_first media flow serial post front (next ∷ later) =
    ap₂ (λ refusal l. refusal ∷ l)
    (ap (λ l. or_else (when (not (is_stored_object media.objects next.object)) (NoObject next.object))
    (overlap_refusal (slice_get (overlapping l flow next.range None) 0))) (kept_same media flow serial post front))
    (behind_first media flow serial post (front ++ next ∷ []) later)

-- the first one is refused as a row
pub first_is : (media : Media) (flow serial : ℕ) (post : Segment)
    → post_refusal (library_with media serial) flow [] post ≡ row_refusal media (row_of flow serial post)
first_is media flow serial post =
    ap (λ l. or_else (when (not (is_stored_object media.objects post.object)) (NoObject post.object))
    (overlap_refusal (slice_get (overlapping l flow post.range None) 0))) (append-nil media.segments)

-- the refusal of a post is that of its first one, or that of the others once it came
pub refusal_step : (media : Media) (flow serial : ℕ) (post : Segment) (later : List Segment)
    → posts_refusal (library_with media serial) flow (post ∷ later)
    ≡ or_else (row_refusal media (row_of flow serial post)) (posts_refusal (library_with (after_one media flow serial post) (serial + 1)) flow later)
refusal_step media flow serial post later =
    ap₂ (λ a b. or_else a b) (first_is media flow serial post) (ap first_refusal (behind_first media flow serial post [] later))

pub posts_step : (media : Media) (flow serial : ℕ) (post : Segment) (later : List Segment)
    → with_posts flow (serial + 1) later (after_one media flow serial post) ≡ with_posts flow serial (post ∷ later) media
posts_step media flow serial post later =
    ap (λ l. record { blocks = media.blocks; segments = l; objects = media.objects })
    (append_assoc media.segments (posted flow serial (post ∷ [])) (posted flow (serial + 1) later))

pub posts_done : (media : Media) (flow serial : ℕ) → with_posts flow serial [] media ≡ media
posts_done media flow serial = ap (λ l. record { blocks = media.blocks; segments = l; objects = media.objects }) (append-nil media.segments)

pub below_step : (flow serial : ℕ) (post : Segment) (segments : List SegmentRow) → are_segments_below serial segments ≡ true
    → are_segments_below (serial + 1) (segments ++ posted flow serial (post ∷ [])) ≡ true
below_step flow serial post [] e = let lt : nat_lt serial (serial + 1) ≡ true = grind (arith, nat_tests) in rw lt refl
below_step flow serial post (row ∷ rows) e =
    let parts = and_parts (nat_lt row.serial serial) (are_segments_below serial rows) e in
    and_from (nat_lt row.serial (serial + 1)) (are_segments_below (serial + 1) (rows ++ posted flow serial (post ∷ [])))
    (up row.serial parts.0) (below_step flow serial post rows parts.1)
  where
    up : (a : ℕ) → nat_lt a serial ≡ true → nat_lt a (serial + 1) ≡ true
    up a h = grind (arith, nat_tests)

-- ---- the loop

pub adding_starts : (flow serial next : ℕ) (start media : Media) (posts : List Segment) → next ≡ serial → media ≡ start
    → are_segments_below serial start.segments ≡ true → are_posts_good posts ≡ true → Adding flow serial next start media posts posts
adding_starts flow serial next start media posts first same below good =
    rw (same, first) (record { rest = refl; refusal = refl; below = below; bounded = good })

pub adding_more : (flow serial next : ℕ) (start media after : Media) (all left later : List Segment) (post : Segment)
    → Adding flow serial next start media all left → left ≡ post ∷ later → row_refusal media (row_of flow next post) ≡ None
    → after ≡ with_posts flow next (post ∷ []) media → Adding flow serial (next + 1) start after all later
adding_more flow serial next start media after all left later post was shape free is =
    let good = and_parts (has_both_ends post.range) (are_posts_good later) (subst (λ l. are_posts_good l ≡ true) shape was.bounded) in
    rw is (record {
      rest = posts_step media flow next post later ∙ ap (λ l. with_posts flow next l media) (sym shape) ∙ was.rest;
      refusal = was.refusal ∙ ap (λ l. posts_refusal (library_with media next) flow l) shape ∙ refusal_step media flow next post later
          ∙ ap (λ o. or_else o (posts_refusal (library_with (after_one media flow next post) (next + 1)) flow later)) free;
      below = below_step flow next post media.segments was.below;
      bounded = good.1;
    })

-- one of them is refused
pub adding_refused : (flow serial next : ℕ) (start media : Media) (all left later : List Segment) (post : Segment) (why : Refusal)
    → Adding flow serial next start media all left → left ≡ post ∷ later → row_refusal media (row_of flow next post) ≡ Some why
    → posts_refusal (library_with start serial) flow all ≡ Some why
adding_refused flow serial next start media all left later post why was shape refused =
    was.refusal ∙ ap (λ l. posts_refusal (library_with media next) flow l) shape ∙ refusal_step media flow next post later
    ∙ ap (λ o. or_else o (posts_refusal (library_with (after_one media flow next post) (next + 1)) flow later)) refused

-- the next one isn't added
pub adding_fails : (flow serial next : ℕ) (start media after : Media) (all left later : List Segment) (post : Segment) (fault : BookFault)
    → Adding flow serial next start media all left → left ≡ post ∷ later → IsChange (row_refusal media (row_of flow next post)) after (Err fault)
    → IsChange (posts_refusal (library_with start serial) flow all) (with_posts flow serial all start) (Err fault)
adding_fails flow serial next start media after all left later post (books.Refused why) was shape is =
    adding_refused flow serial next start media all left later post why was shape is
adding_fails flow serial next start media after all left later post books.Memory was shape is = tt

-- the ends of the next one
pub adding_bounded : (flow serial next : ℕ) (start media : Media) (all left later : List Segment) (post : Segment)
    → Adding flow serial next start media all left → left ≡ post ∷ later → has_both_ends post.range ≡ true
adding_bounded flow serial next start media all left later post was shape =
    (and_parts (has_both_ends post.range) (are_posts_good later) (subst (λ l. are_posts_good l ≡ true) shape was.bounded)).0

-- all came
pub adding_done : (flow serial next : ℕ) (start media : Media) (all left : List Segment) → Adding flow serial next start media all left → left ≡ []
    → (posts_refusal (library_with start serial) flow all ≡ None) × (media ≡ with_posts flow serial all start)
adding_done flow serial next start media all left was none = (
  was.refusal ∙ ap (λ l. posts_refusal (library_with media next) flow l) none,
  sym (posts_done media flow next) ∙ ap (λ l. with_posts flow next l media) (sym none) ∙ was.rest,
)

-- a row that is above the others stands last
pub rises_last : (rows : List SegmentRow) (row : SegmentRow) → rises_by (λ (r : SegmentRow). r.serial) rows ≡ true
    → are_segments_below row.serial rows ≡ true → rises_by (λ (r : SegmentRow). r.serial) (rows ++ row ∷ []) ≡ true
rises_last [] row rise below = refl
rises_last (r ∷ rows) row rise below =
    let parts = and_parts (list_all (λ o. nat_lt r.serial o.serial) rows) (rises_by (λ (o : SegmentRow). o.serial) rows) rise in
    let low = and_parts (nat_lt r.serial row.serial) (are_segments_below row.serial rows) below in
    and_from (list_all (λ o. nat_lt r.serial o.serial) (rows ++ row ∷ [])) (rises_by (λ (o : SegmentRow). o.serial) (rows ++ row ∷ []))
    (more rows parts.0 low.0) (rises_last rows row parts.1 low.1)
  where
    more : (os : List SegmentRow) → list_all (λ o. nat_lt r.serial o.serial) os ≡ true → nat_lt r.serial row.serial ≡ true
        → list_all (λ o. nat_lt r.serial o.serial) (os ++ row ∷ []) ≡ true
    more [] e lt = and_from (nat_lt r.serial row.serial) true lt refl
    more (o ∷ os) e lt =
        let both = and_parts (nat_lt r.serial o.serial) (list_all (λ x. nat_lt r.serial x.serial) os) e in
        and_from (nat_lt r.serial o.serial) (list_all (λ x. nat_lt r.serial x.serial) (os ++ row ∷ [])) both.0 (more os both.1 lt)
