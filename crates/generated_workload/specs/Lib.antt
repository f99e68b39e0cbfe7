pub mod Workload
pub mod StoredBytes
