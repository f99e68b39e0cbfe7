mod Digesting
mod Moving
mod Migrating
