pub mod Ordered
mod Serials
pub mod Gaining
mod FlowRows
mod Views
mod Paging
mod Listing
