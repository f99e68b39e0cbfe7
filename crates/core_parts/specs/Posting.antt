-- What a list of segments that is answered segment by segment comes to. Our own rules.
use Rattle.std.specs.Prelude.{ℕ, Option, Result, Ok, Err}
use Rattle.media_rows.specs.declared.change.Change.TheVariants as changes
use Rattle.media_rows.specs.declared.reply.SortedPosts.{SortedPosts}
use Rattle.media_rows.specs.Changes.{after}
use Rattle.media_rows.specs.Library.{Library}
use Rattle.media_rows.specs.Segments.{list_post}
use Rattle.core_parts.specs.declared.lists.ListPosted.{ListPosted}
use Rattle.core_parts.specs.Parts.{only_library, within_serials}

-- what is told of a list, and the library with those of its segments that are kept, unless its
-- serials would end
pub record ListEnd : Type 0 where
  pub told : SortedPosts
  pub next : Option Library

-- a list that was posted, with the library alone
abbrev pub list_end : ListPosted → ListEnd
list_end posted = record { told = posted.told; next = only_library posted.next }

-- the same, or what went wrong
abbrev pub given_list : {E : Type 0} → Result ListPosted E → Result ListEnd E
given_list (Ok posted) = Ok (list_end posted)
given_list (Err fault) = Err fault

-- a list of which this is told
abbrev pub list_by : Library → ℕ → ℕ → SortedPosts → ListEnd
list_by library flow moment told = record {
  told = told;
  next = within_serials
      (after (changes.AddSegments moment flow (list_post told.kept)) library);
}
