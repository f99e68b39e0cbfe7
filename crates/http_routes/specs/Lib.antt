pub mod Table
pub mod Paths
pub mod Named
pub mod Apart
pub mod Routing
