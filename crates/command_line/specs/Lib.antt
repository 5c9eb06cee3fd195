-- The definitions that the contracts of this crate cite, in reading order.
pub mod CommandLine
pub mod Commanded
pub mod Reading
