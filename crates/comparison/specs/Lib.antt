-- The definitions that the contracts of this crate cite, in reading order.
pub mod Columns
pub mod Rows
pub mod Changes
pub mod Kinds
pub mod ComparisonText
pub mod Comparing
pub mod Mistakes
