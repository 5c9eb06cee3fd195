pub mod Writes
pub mod Allotment
pub mod Freeing
pub mod Chains
pub mod PlaceLists
