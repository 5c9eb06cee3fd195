-- The definitions that the contracts of this crate cite, in reading order.
pub mod Edges
pub mod Structure
pub mod Layouts
pub mod Laws
pub mod Runs
