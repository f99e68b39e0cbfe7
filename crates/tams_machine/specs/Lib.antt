pub mod Requests
pub mod Answers
pub mod Machine
pub mod Laws
pub mod Worked
