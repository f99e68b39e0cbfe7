pub mod ListLemmas
mod Neither
mod AnswerLemmas
mod CircleLemmas
pub mod KeptLemmas
pub mod OutboxKept
mod RequestLemmas
pub mod ObjectsKept
mod NewObjectsKept
mod HooksKept
mod FlowsKept
pub mod CatalogKept
pub mod SettingsKept
pub mod PostsKept
mod DeletionKept
pub mod ChangesKept
mod BoundLemmas
mod FirstBytes
pub mod PageLemmas
pub mod AppliesLemmas
mod PlaceLemmas
pub mod RestoreLemmas
pub mod FollowLemmas
mod ListsFollow
pub mod RowOrder
mod RowLibrary
pub mod ChangeFacts
pub mod ObjectsCome
pub mod SoundLemmas
mod ReplyLemmas
pub mod SortedLemmas
pub mod MediaKept
pub mod MediaGiven
