pub mod Blocks
pub mod CellTable
pub mod IdPlaces
pub mod Places
