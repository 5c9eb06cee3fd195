-- The definitions that the contracts of this crate cite.
pub mod Fronts
pub mod Pieces
pub mod FaultNumber
pub mod Filling
pub mod AlteredReading
pub mod PieceReading
