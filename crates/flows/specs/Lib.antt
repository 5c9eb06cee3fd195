-- The definitions that the contracts of this crate cite, in reading order.
pub mod Reports
pub mod Settings
pub mod Walking
pub mod Stories
pub mod Telling
pub mod FlowRecords
pub mod TableText
pub mod SummaryText
pub mod Ranking
pub mod FlowTexts
pub mod Mistakes
