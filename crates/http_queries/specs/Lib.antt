pub mod Pairs
pub mod Numbers
pub mod Rules
pub mod Filters
pub mod Next
