-- The definitions that the contracts of this crate cite, in reading order.
pub mod Reading
pub mod Tallies
pub mod Commands
pub mod Labels
pub mod Named
pub mod Svg
pub mod Charts
pub mod Stamps
pub mod Tables
pub mod Cases
pub mod Halves
pub mod Reasons
pub mod Shares
pub mod Html
pub mod Page
