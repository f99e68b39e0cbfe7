pub mod IdLemmas
mod CalendarLemmas
pub mod RangeLemmas
mod TextLemmas
pub mod RestoringLemmas
mod PostLemmas
pub mod RowLemmas
