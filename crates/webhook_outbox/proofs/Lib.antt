mod Adding
mod Addresses
mod Dropping
mod Found
mod Listing
mod Next
mod Order
mod Placing
pub mod Posting
mod Restoring
mod StandardFacts
mod Waiting
mod Firsts
