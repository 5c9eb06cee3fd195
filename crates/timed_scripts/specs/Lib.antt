pub mod Cutting
pub mod Actions
pub mod Moments
pub mod TimedLines
pub mod MeantScript
pub mod LineReading
