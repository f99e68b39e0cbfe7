-- Words that the calls within this crate cite, and no other crate.
use Rattle.std.specs.Prelude.{ℕ, List, Option}
use Rattle.store_states.specs.Kept.{StoreView}
use Rattle.store_commits.specs.Carrying.{journal_for}

-- what is kept once the rows of a checkpoint were written, if there are some
abbrev pub kept_with_rows : StoreView → Option (List ℕ) → StoreView
kept_with_rows kept rows = record kept { journal = journal_for kept.journal rows }
