pub mod SlotForm
pub mod Versions
pub mod InstructionEncoding
pub mod Jumps
pub mod InstructionReading
pub mod MapForm
pub mod ImageContents
pub mod ImageFormat
