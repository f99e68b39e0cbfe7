mod Appending
mod Escapes
mod Order
mod Kept
