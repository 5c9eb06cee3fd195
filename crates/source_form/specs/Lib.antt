pub mod SourceText
pub mod Told
pub mod SourceImage
pub mod FaultNumber
pub mod SourceBeginning
pub mod SlotLines
