pub mod Index
pub mod Within
pub use Rattle.shared_tree.specs.Pairs
pub use Rattle.shared_tree.specs.Rows
