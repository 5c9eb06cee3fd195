pub mod Words
pub mod Alu
pub mod Swap
pub mod Test
pub mod Atomic
pub mod InstructionCodes
