-- The definitions that the contracts of this crate cite, in reading order.
pub mod Remade
pub mod Told
pub mod Fronts
pub mod ContentsText
