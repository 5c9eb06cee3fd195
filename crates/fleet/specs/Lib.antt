-- The definitions that the contracts of this crate cite, in reading order.
pub mod Parts
pub mod PartLaws
pub mod Numbers
