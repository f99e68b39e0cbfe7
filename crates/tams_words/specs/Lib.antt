pub mod Commands
pub mod Words
pub mod Worked
pub mod Laws
