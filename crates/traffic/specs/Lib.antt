-- The definitions that the contracts of this crate cite, in reading order.
pub mod Kinds
pub mod Counting
pub mod Moving
pub mod SummaryText
pub mod RecordLines
pub mod NotSent
pub mod Tallies
pub mod Holders
pub mod WrittenMaps
pub mod MapLaws
pub mod Shares
pub mod TableText
pub mod Leaving
pub mod LastShares
pub mod Applied
