pub mod Statuses
pub mod OfRequests
