pub mod Turning
mod Between
