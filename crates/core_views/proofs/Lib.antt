pub mod Paging
pub mod Listed
