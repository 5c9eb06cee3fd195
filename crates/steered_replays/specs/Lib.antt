-- The definitions that the contracts of this crate cite, in reading order.
pub mod Counting
pub mod SteeredRuns
pub mod Totals
pub mod TablesAtEnd
pub mod LastWords
pub mod Fleets
pub mod StickyFlows
pub mod StickyReplays
pub mod StrangerRuns
pub mod StickyRow
pub mod StrangerRow
