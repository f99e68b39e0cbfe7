mod References
mod Naming
