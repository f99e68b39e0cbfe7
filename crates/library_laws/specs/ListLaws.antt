-- Laws of a post that is answered segment by segment.
use Rattle.std.specs.Prelude.{◌≡◌, ◌↔◌, ℕ, List, [], ◌∷◌, ◌++◌, Option, Some, None}
use Rattle.media_rows.specs.declared.refusal.Refusal.{Refusal}
use Rattle.media_rows.specs.declared.reply.SortedPosts.{SortedPosts}
use Rattle.media_rows.specs.declared.segment.Segment.{Segment}
use Rattle.media_rows.specs.Library.{Library}
use Rattle.media_rows.specs.Posts.{failed_of, post_refusal, posts_refusal, sorted}

-- what is told of two parts of a list, one behind the other
abbrev pub joined : SortedPosts → SortedPosts → SortedPosts
joined first second = record {
  kept = first.kept ++ second.kept;
  failed = first.failed ++ second.failed;
}

-- what is told of one segment by its refusal
abbrev pub told_alone : Option Refusal → Segment → SortedPosts
told_alone None post = record { kept = post ∷ []; failed = [] }
told_alone (Some refusal) post = record { kept = []; failed = failed_of refusal post ∷ [] }

-- the segments that are kept of a list
abbrev pub kept_of : Library → ℕ → List Segment → List Segment
kept_of library flow posts = (sorted library flow [] posts).kept

-- what is told of a segment that stands behind others in a list: it is refused or not against the
-- library and those that are kept of the others
abbrev pub told_behind : Library → ℕ → List Segment → Segment → SortedPosts
told_behind library flow front post =
    told_alone (post_refusal library flow (kept_of library flow front) post) post

-- Of a list that is answered segment by segment, those that are kept would be kept as a whole list;
-- none fails exactly where the whole list is kept; and each segment, wherever it stands, is kept or
-- fails by its own refusal.
pub record TellsList (library : Library) (flow : ℕ) (posts : List Segment) : Type 0 where
  pub kept : posts_refusal library flow (kept_of library flow posts) ≡ None
  pub none : (sorted library flow [] posts).failed ≡ [] ↔ posts_refusal library flow posts ≡ None
  pub whole : posts_refusal library flow posts ≡ None → kept_of library flow posts ≡ posts
  pub each : (front later : List Segment) (post : Segment) → posts ≡ front ++ post ∷ later
      → sorted library flow [] posts
      ≡ joined (sorted library flow [] front)
      (joined (told_behind library flow front post)
      (sorted library flow (kept_of library flow (front ++ post ∷ [])) later))

-- this holds of every list
abbrev pub ListsAreTold : Type 0
ListsAreTold = (library : Library) (flow : ℕ) (posts : List Segment) → TellsList library flow posts
