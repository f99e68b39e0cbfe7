pub mod Laws
pub mod RowLaws
pub mod ChangeLaws
pub mod MediaLaws
pub mod ListLaws
