pub mod ValueLaws
pub mod ChangeLaws
pub mod RowLaws
pub mod Loops
pub mod TagLemmas
pub mod PartLemmas
pub mod RowWriting
mod SizedLemmas
pub mod CodecLemmas
pub mod Fitting
pub mod Asking
pub mod DigestLemmas
