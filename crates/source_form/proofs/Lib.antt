pub mod NumberReading
pub mod Places
pub mod Parts
pub mod OperandSteps
pub mod LineSteps
pub mod Trimming
pub mod ExactLines
pub mod ExactText
