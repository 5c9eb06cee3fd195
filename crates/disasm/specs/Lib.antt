pub mod Names
pub mod AssemblyText
pub mod LineReading
pub mod TextReading
pub mod FaultNumber
